-- Whether a page refreshes itself after any delay.
use Rattle.std.specs.Prelude.{◌==◌, ℕ, codes, if◌then◌else◌, Option}
use Rattle.snap_tree.specs.declared.row.NodeId.{NodeId}
use Rattle.snap_tree.specs.Trees.{Document}
use Rattle.rule_core.specs.declared.info.RuleInfo.{RuleInfo}
use Rattle.rule_core.specs.declared.info.Class.TheVariants.{SelfOnly, Metas}
use Rattle.rule_core.specs.declared.reason.Reason.TheVariants.{Delay}
use Rattle.rule_core.specs.declared.finding.Finding.{Finding}
use Rattle.rule_core.specs.declared.verdict.Verdict.{Verdict}
use Rattle.rule_core.specs.Findings.{met, failed}
use Rattle.rule_core.specs.Infos.{atomic}
use Rattle.rules_page.specs.Refresh.{says_of_refresh}

-- at once, or not at all
abbrev pub delay_finding : ℕ → Finding
delay_finding time = if time == 0 then met else failed Delay

-- meta element has no refresh delay (no exception): the target is the first that refreshes the page, as of the rule
-- that lets delays of more than twenty hours pass
abbrev pub page_never_delays : Document → NodeId → Option Verdict
page_never_delays = says_of_refresh delay_finding

abbrev pub page_never_delays_info : RuleInfo
page_never_delays_info = atomic 32 (codes "bisz58") Metas SelfOnly
