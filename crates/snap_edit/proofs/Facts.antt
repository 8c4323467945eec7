-- Other facts for a node of a page break nothing.
use Rattle.std.proofs.Common.{◌≡◌, ◌≤◌, Option, Some, None, Ok, Err, refl, sym, ◌∙◌, subst}
use Rattle.snap_tree.specs.declared.row.NodeId.{NodeId}
use Rattle.snap_tree.specs.declared.row.Facts.{Facts}
use Rattle.snap_tree.specs.Trees.{Trees}
use Rattle.snap_tree.specs.Grown.{grown}
use Rattle.snap_tree.specs.Spots.{Spot, spot}
use Rattle.snap_tree.specs.Well.{IsWell}
use Rattle.snap_tree.proofs.Wellness.{light_well, well_from_sound}
use Rattle.snap_tree.proofs.Soundness.{shaped_well, sound_from_well}
use Rattle.snap_edit.specs.declared.edit.Edit.TheVariants.{SetFacts}
use Rattle.snap_edit.specs.declared.fault.EditKind.{EditKind}
use Rattle.snap_edit.specs.declared.fault.EditKind.TheVariants.{NoNode}
use Rattle.snap_edit.specs.Attrs.{with_facts}
use Rattle.snap_edit.specs.Trees.{changed}
use Rattle.snap_edit.specs.Edits.{settled, edited}
use Rattle.snap_edit.specs.Laws.{FactsBreakNothing}
use Rattle.snap_edit.proofs.Settling.{settled_by}
use Rattle.snap_edit.proofs.Shaping.{KeepsRow, shaped_changed}
use Rattle.snap_edit.proofs.Bare.{same_weight}
use Rattle.snap_tree.specs.declared.weight.TheConstants.{MOST_WEIGHT}

facts_set : (facts : Facts) → KeepsRow (with_facts facts)
facts_set facts = record { id = λ r. refl; parent = λ r. refl; text = λ r. refl; well = λ r w. record { numbered = w.numbered; body_well = w.body_well } }

well_set : (n : NodeId) (facts : Facts) (t : Trees) (s : Spot) → IsWell t → spot t n ≡ Some s → IsWell (changed n (with_facts facts) t)
well_set n facts t s w e =
    let new = shaped_changed n (with_facts facts) t s (facts_set facts) (shaped_well t w) e in
    light_well (changed n (with_facts facts) t) new (subst (λ weight. weight ≤ MOST_WEIGHT) (sym (same_weight n facts t)) w.light)

facts_by : (n : NodeId) (facts : Facts) (t : Trees) (k : EditKind) (o : Option Spot) → spot t n ≡ o → IsWell t → edited t (SetFacts n facts) ≡ Err k → k ≡ NoNode
facts_by n facts t k None e w h = let is : Err NoNode ≡ Err k = rw e at h in cc
facts_by n facts t k (Some s) e w h =
    let new = changed n (with_facts facts) t in
    let refused : settled new ≡ Err k = rw e at h in
    let no : Ok new ≡ Err k = sym (settled_by new (sound_from_well new (well_set n facts t s w e))) ∙ refused in
    cc

pub facts_break_nothing : FactsBreakNothing
facts_break_nothing = λ rows n facts k sound h. facts_by n facts (grown rows) k (spot (grown rows) n) refl (well_from_sound rows sound) h
