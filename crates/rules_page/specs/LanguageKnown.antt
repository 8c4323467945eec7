-- Whether the language of a page is known.
use Rattle.std.specs.Prelude.{◌&&◌, Bool, not, false, ℕ, List, codes, if◌then◌else◌, Option, Some, None, option_and_then}
use Rattle.snap_tree.specs.declared.row.NodeId.{NodeId}
use Rattle.snap_tree.specs.declared.row.Row.{Row}
use Rattle.snap_tree.specs.Trees.{Document}
use Rattle.texts.specs.Words.{blank}
use Rattle.acc_tree.specs.declared.attributes.Attribute.TheVariants as attribute
use Rattle.acc_tree.specs.Seen.{attr}
use Rattle.rule_core.specs.declared.info.RuleInfo.{RuleInfo}
use Rattle.rule_core.specs.declared.info.Class.TheVariants.{SelfOnly, Lang}
use Rattle.rule_core.specs.declared.verdict.Verdict.{Verdict}
use Rattle.rule_core.specs.Infos.{atomic}
use Rattle.rule_sights.specs.Pages.{is_page_root, said_of_root}
use Rattle.rules_page.specs.Languages.{tag_verdict}
use Rattle.acc_tree.specs.declared.above.Above.{Above}
use Rattle.std.specs.Option.{option_map_or}

-- by the language subtags that the site accepts
abbrev pub unless_blank : List (List ℕ) → List ℕ → Option Verdict
unless_blank accepted lang = if blank lang then None else Some (tag_verdict accepted lang)

-- a root without a lang, or with a blank one, is no target
abbrev pub language_verdict : List (List ℕ) → Row → Option Verdict
language_verdict accepted root = option_and_then (unless_blank accepted) (attr attribute.Lang root)

-- HTML page lang attribute has valid language tag: the targets are roots of pages
abbrev pub language_is_known : Document → NodeId → Option Verdict
language_is_known page = said_of_root (language_verdict page.langs) page

-- the targets of the rule
abbrev pub language_is_known_target : Above → Row → Bool
language_is_known_target above row = is_page_root row && option_map_or (λ lang. not (blank lang)) (attr attribute.Lang row) false

abbrev pub language_is_known_info : RuleInfo
language_is_known_info = atomic 4 (codes "bf051a") SelfOnly Lang
