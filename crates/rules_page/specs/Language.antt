-- The language of a page.
use Rattle.std.specs.Prelude.{◌&&◌, Bool, ℕ, List, codes, Option, Some}
use Rattle.snap_tree.specs.declared.row.NodeId.{NodeId}
use Rattle.snap_tree.specs.Trees.{Document}
use Rattle.acc_tree.specs.declared.attributes.Attribute.TheVariants as attribute
use Rattle.acc_tree.specs.Seen.{attr}
use Rattle.rule_core.specs.declared.info.RuleInfo.{RuleInfo}
use Rattle.rule_core.specs.declared.info.Class.TheVariants.{SelfOnly}
use Rattle.rule_core.specs.declared.reason.Reason.TheVariants.{NoLang, EmptyLang}
use Rattle.rule_core.specs.declared.finding.Finding.{Finding}
use Rattle.rule_core.specs.declared.verdict.Verdict.{Verdict}
use Rattle.rule_core.specs.Infos.{atomic}
use Rattle.rule_core.specs.Findings.{verdict_on}
use Rattle.rule_sights.specs.Pages.{is_page_root, said_of_root}
use Rattle.rules_page.specs.Filled.{filled}
use Rattle.acc_tree.specs.declared.above.Above.{Above}
use Rattle.snap_tree.specs.declared.row.Row.{Row}

-- there is an attribute lang, and it isn't blank
abbrev pub lang_finding : Option (List ℕ) → Finding
lang_finding lang = filled NoLang EmptyLang lang

abbrev pub lang_verdict : Option (List ℕ) → Verdict
lang_verdict lang = verdict_on (lang_finding lang) lang

-- HTML page has lang attribute: the target is the root of a page, the evidence is its lang
abbrev pub page_has_lang : Document → NodeId → Option Verdict
page_has_lang = said_of_root (λ root. Some (lang_verdict (attr attribute.Lang root)))

-- the targets of the rule
abbrev pub page_has_lang_target : Above → Row → Bool
page_has_lang_target above row = is_page_root row

abbrev pub page_has_lang_info : RuleInfo
page_has_lang_info = atomic 3 (codes "b5c3f8") SelfOnly SelfOnly
