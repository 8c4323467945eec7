use Rattle.std.proofs.Common.{[], Some, refl, sym, ◌∙◌, ap}
use Rattle.std.specs.Option.{option_map}
use Rattle.snap_tree.specs.Places.{run_below}
use Rattle.snap_tree.specs.Grown.{grown}
use Rattle.snap_tree.specs.Spots.{spot}
use Rattle.snap_tree.proofs.Spotting.{runs_at, runs_none}
use Rattle.snap_tree.proofs.Climbing.{none_any}
use Rattle.snap_tree.proofs.tree.Tree.below.Goals as goal

pub run_below-requires : goal.run_below-requires
run_below-requires c =
    let at = runs_at c.page-page.result.now.rows.items c.args.n c.in-Some.place (sym (c.page-page.result.now.kept.indexed.placed c.args.n.0) ∙ sym c.in-Some.ensures) in
    rw (c.as_slice.ensures.value, c.as_slice-in-Some.ensures.value, c.page-page.result.now.kept.indexed.sized) at.run

pub returns-in-Some : goal.returns-in-Some
returns-in-Some c =
    let at = runs_at c.page-page.result.now.rows.items c.args.n c.in-Some.place (sym (c.page-page.result.now.kept.indexed.placed c.args.n.0) ∙ sym c.in-Some.ensures) in
    let is =
    ap Some (c.run_below.ensures ∙ ap (λ rows. grown (run_below c.in-Some.place rows c.as_slice-in-Some.result.now)) c.as_slice.ensures.value
    ∙ ap (λ sizes. grown (run_below c.in-Some.place c.page-page.result.now.rows.items sizes)) (c.as_slice-in-Some.ensures.value ∙ c.page-page.result.now.kept.indexed.sized))
    ∙ sym (ap (λ d. option_map (λ s. s.below) (spot d.trees c.args.n)) (sym c.page-page.ensures) ∙ at.below)
    in
    record { below = is; absent = λ absent. is ∙ ap (option_map (λ s. s.below)) (none_any c.args.n [] c.args.self.now.trees absent) }

pub returns-in-None : goal.returns-in-None
returns-in-None c =
    let none = runs_none c.page-page.result.now.rows.items c.args.n (sym (c.page-page.result.now.kept.indexed.placed c.args.n.0) ∙ sym c.in-None.ensures) in
    record { below = sym (ap (λ d. option_map (λ s. s.below) (spot d.trees c.args.n)) (sym c.page-page.ensures) ∙ none); absent = λ _. refl }
