use Rattle.std.proofs.Common.{[]}
use Rattle.snap_tree.proofs.Spotting.{spot_row, spot_parent, grown_beside}
use Rattle.snap_tree.proofs.Climbing.{none_any, climbs_above, walks_above}
use Rattle.snap_tree.proofs.laws.laws_of_spots.Goals as goal

pub returns-clause-absent : goal.returns-clause-absent
returns-clause-absent c = λ t n absent. none_any n [] t absent

pub returns-clause-row : goal.returns-clause-row
returns-clause-row c = λ t n. spot_row n [] t

pub returns-clause-named : goal.returns-clause-named
returns-clause-named c = λ t n well. spot_parent n [] t well.placed

pub returns-clause-climbs : goal.returns-clause-climbs
returns-clause-climbs c = λ t n well. climbs_above t n well.apart

pub returns-clause-walks : goal.returns-clause-walks
returns-clause-walks c = λ t n well. walks_above t n well.apart

pub returns-clause-beside : goal.returns-clause-beside
returns-clause-beside c = grown_beside
