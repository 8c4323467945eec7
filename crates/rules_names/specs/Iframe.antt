-- Names of frames.
use Rattle.std.specs.Prelude.{◌&&◌, Bool, codes, Option}
use Rattle.snap_tree.specs.declared.row.NodeId.{NodeId}
use Rattle.snap_tree.specs.Trees.{Document}
use Rattle.snap_tree.specs.Rows.{is_html}
use Rattle.acc_tree.specs.Inclusion.{included}
use Rattle.rule_core.specs.declared.info.RuleInfo.{RuleInfo}
use Rattle.rule_core.specs.declared.info.Class.TheVariants.{SelfOnly, Sub}
use Rattle.rule_core.specs.declared.verdict.Verdict.{Verdict}
use Rattle.rule_core.specs.Infos.{atomic}
use Rattle.rules_names.specs.Named.{wants_name, said_of_rows}
use Rattle.acc_tree.specs.declared.above.Above.{Above}
use Rattle.snap_tree.specs.declared.row.Row.{Row}

-- iframe element has non-empty accessible name: the targets are included HTML elements `iframe`
abbrev pub iframe_has_name : Document → NodeId → Option Verdict
iframe_has_name = said_of_rows (is_html (codes "iframe")) included wants_name

-- the targets of the rule
abbrev pub iframe_has_name_target : Above → Row → Bool
iframe_has_name_target above row = is_html (codes "iframe") row && included above row

abbrev pub iframe_has_name_info : RuleInfo
iframe_has_name_info = atomic 13 (codes "cae760") SelfOnly Sub
