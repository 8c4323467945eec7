-- Whether the two languages that a page names are one.
use Rattle.std.specs.Prelude.{◌&&◌, Bool, not, ℕ, List, ◌∷◌, ◌++◌, codes, if◌then◌else◌, Option, Some, None}
use Rattle.snap_tree.specs.declared.row.NodeId.{NodeId}
use Rattle.snap_tree.specs.declared.row.Row.{Row}
use Rattle.snap_tree.specs.Trees.{Document}
use Rattle.texts.specs.Words.{same_folded}
use Rattle.acc_tree.specs.declared.above.Above.{Above}
use Rattle.acc_tree.specs.declared.attributes.Attribute.TheVariants as attribute
use Rattle.acc_tree.specs.Seen.{text_at, is_blank_at}
use Rattle.rule_core.specs.declared.info.RuleInfo.{RuleInfo}
use Rattle.rule_core.specs.declared.info.Class.TheVariants.{SelfOnly}
use Rattle.rule_core.specs.declared.reason.Reason.TheVariants.{LangMismatch}
use Rattle.rule_core.specs.declared.finding.Finding.{Finding}
use Rattle.rule_core.specs.declared.verdict.Verdict.{Verdict}
use Rattle.rule_core.specs.Findings.{met, failed, verdict_of}
use Rattle.rule_core.specs.Infos.{atomic}
use Rattle.rule_sights.specs.Pages.{is_page_root, said_of_root}
use Rattle.rules_page.specs.Languages.{primary_subtag}

-- their primary subtags are equal but for the case of letters
abbrev pub languages_finding : List ℕ → List ℕ → Finding
languages_finding lang xml = if same_folded (primary_subtag lang) (primary_subtag xml) then met else failed LangMismatch

-- lang, and xml:lang on a line of its own
abbrev pub both_lines : List ℕ → List ℕ → List ℕ
both_lines lang xml = lang ++ 10 ∷ xml

abbrev pub match_verdict : List ℕ → List ℕ → Verdict
match_verdict lang xml = verdict_of (languages_finding lang xml) (both_lines lang xml)

-- neither lang nor xml:lang is blank
abbrev pub has_both : Row → Bool
has_both row = not (is_blank_at attribute.Lang row) && not (is_blank_at attribute.XmlLang row)

abbrev pub root_verdict : Row → Option Verdict
root_verdict root = if has_both root then Some (match_verdict (text_at attribute.Lang root) (text_at attribute.XmlLang root)) else None

-- HTML page lang and xml:lang attributes have matching values: the target is the root of a page that has both
abbrev pub languages_match : Document → NodeId → Option Verdict
languages_match = said_of_root root_verdict

-- the targets of the rule
abbrev pub languages_match_target : Above → Row → Bool
languages_match_target above row = is_page_root row && has_both row

abbrev pub languages_match_info : RuleInfo
languages_match_info = atomic 31 (codes "5b7ae0") SelfOnly SelfOnly
