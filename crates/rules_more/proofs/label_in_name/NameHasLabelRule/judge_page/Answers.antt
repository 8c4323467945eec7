use Rattle.std.proofs.Common.{◌++◌, ◌∙◌, ap, arith}
use Rattle.std.specs.Option.{option_to_list}
use Rattle.snap_tree.specs.declared.row.Row.{Row}
use Rattle.rule_core.specs.Pages.{on_node}
use Rattle.rule_core.proofs.Gathering.{gathered_more}
use Rattle.rules_more.specs.LabelInName.{name_has_label}
use Rattle.rules_more.proofs.label_in_name.NameHasLabelRule.judge_page.Goals as goal

pub loop-row-preserved : goal.loop-row-preserved
loop-row-preserved c =
    let found = λ (row : Row). on_node row.id (name_has_label c.args.tree.now row.id) in
    gathered_more found _ c.loop-row.row-index _ c.loop-row.verdicts.items _ (omega arith) c.loop-row.invariant
    (c.in_ok-push_verdict.ensures ∙ ap (λ o. c.loop-row.verdicts.items ++ option_to_list (on_node c.row-item.result.id o)) c.in_ok-verdict.ensures ∙ ap (λ (row : Row). c.loop-row.verdicts.items ++ option_to_list (found row)) c.row-item.is)
