use Rattle.std.proofs.Common.{◌≡◌, [], IfSome, option_and_then, sym, ◌∙◌, ap, subst}
use Rattle.std.specs.List.{find}
use Rattle.snap_tree.specs.declared.row.Row.{Row}
use Rattle.snap_tree.specs.Rows.{has_number}
use Rattle.snap_tree.specs.Trees.{rows_of}
use Rattle.snap_tree.specs.Spots.{spot, number_of}
use Rattle.snap_tree.specs.Well.{IsWell}
use Rattle.snap_tree.proofs.Growth.{rows_of_grown}
use Rattle.snap_tree.proofs.Wellness.{well_from_sound}
use Rattle.snap_tree.proofs.Spotting.{parent_is, spot_row}
use Rattle.snap_tree.proofs.Climbing.{none_any, named_row, climbs_above, walks_above}
use Rattle.snap_tree.proofs.tree.Tree.parent.Goals as goal

pub returns : goal.returns
returns c =
    let t = c.args.self.now.trees in
    let well = subst (λ d. IsWell d.trees) c.page-page.ensures (well_from_sound c.page-page.result.now.rows.items c.page-page.result.now.kept.sound) in
    let found = c.row_of.ensures ∙ ap (find (has_number c.args.n)) (c.as_slice.ensures.value ∙ sym (rows_of_grown c.page-page.result.now.rows.items)) in
    let row = found ∙ ap (λ d. find (has_number c.args.n) (rows_of d.trees)) c.page-page.ensures in
    let named = c.named_by.ensures ∙ ap (option_and_then (λ (r : Row). r.parent)) row in
    let is = named ∙ parent_is t c.args.n well.placed in
    record {
      parent = is;
      named = subst (λ o. IfSome (spot t c.args.n) (λ s. s.row.parent ≡ o)) (sym named) (named_row (spot t c.args.n) _ (sym (spot_row c.args.n [] t)));
      climbs = climbs_above t c.args.n well.apart;
      walks = walks_above t c.args.n well.apart;
      absent = λ absent. is ∙ ap (option_and_then (λ s. number_of s.above)) (none_any c.args.n [] t absent);
    }
