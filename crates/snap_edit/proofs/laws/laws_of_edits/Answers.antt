use Rattle.snap_edit.proofs.Undoing.{drop_undoes_set}
use Rattle.snap_edit.proofs.Shaping.{dropped_in_shape}
use Rattle.snap_edit.proofs.laws.laws_of_edits.Goals as goal

pub returns-clause-undone : goal.returns-clause-undone
returns-clause-undone c = drop_undoes_set

pub returns-clause-dropped : goal.returns-clause-dropped
returns-clause-dropped c = dropped_in_shape
