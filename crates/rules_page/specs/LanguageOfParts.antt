-- Whether the languages of parts of a page are known.
use Rattle.std.specs.Prelude.{◌&&◌, not, ℕ, List, codes, Bool, false, if◌then◌else◌, Option, Some, None, option_and_then}
use Rattle.std.specs.List.{list_any}
use Rattle.std.specs.Option.{option_map_or, is_some}
use Rattle.snap_tree.specs.declared.row.Body.{Body}
use Rattle.snap_tree.specs.declared.row.Body.TheVariants.{Element, Words}
use Rattle.snap_tree.specs.declared.row.NodeId.{NodeId}
use Rattle.snap_tree.specs.declared.row.Row.{Row}
use Rattle.snap_tree.specs.Rows.{is_html_space}
use Rattle.snap_tree.specs.Trees.{Trees, Document, rows_of}
use Rattle.texts.specs.Words.{blank}
use Rattle.acc_tree.specs.declared.attributes.Attribute.TheVariants as attribute
use Rattle.acc_tree.specs.Seen.{attr, has}
use Rattle.acc_tree.specs.Sights.{Sight}
use Rattle.rule_core.specs.declared.info.RuleInfo.{RuleInfo}
use Rattle.rule_core.specs.declared.info.Class.TheVariants.{Sub, SubLang}
use Rattle.rule_core.specs.declared.verdict.Verdict.{Verdict}
use Rattle.rule_core.specs.Infos.{atomic}
use Rattle.rule_sights.specs.Nodes.{said_below}
use Rattle.rules_page.specs.Languages.{tag_verdict}

abbrev pub is_html_body : Body → Bool
is_html_body (Element space tag attrs) = is_html_space space
is_html_body (Words text) = false

-- an HTML element below another node
abbrev pub is_html_part : Row → Bool
is_html_part row = is_some row.parent && is_html_body row.body

abbrev pub is_filled : Body → Bool
is_filled (Element space tag attrs) = false
is_filled (Words text) = not (blank text)

-- a rendered text that isn't blank
abbrev pub is_shown_text : Row → Bool
is_shown_text row = row.facts.rendered && is_filled row.body

abbrev pub shows_text : Trees → Bool
shows_text trees = list_any is_shown_text (rows_of trees)

-- the element is a part of a page, its lang isn't blank, and a text is shown in it
abbrev pub is_part_target : Sight → List ℕ → Bool
is_part_target s lang = is_html_part s.row && (not (blank lang) && shows_text s.below)

-- by the language subtags that the site accepts
abbrev pub part_verdict : List (List ℕ) → Sight → Option Verdict
part_verdict accepted s =
    option_and_then (λ lang. if is_part_target s lang then Some (tag_verdict accepted lang) else None) (attr attribute.Lang s.row)

-- element with lang attribute has valid language tag
abbrev pub language_of_part_is_known : Document → NodeId → Option Verdict
language_of_part_is_known page = said_below (has attribute.Lang) (part_verdict page.langs) page

-- the targets of the rule
abbrev pub language_of_part_is_known_target : Sight → Bool
language_of_part_is_known_target s = option_map_or (is_part_target s) (attr attribute.Lang s.row) false

abbrev pub language_of_part_is_known_info : RuleInfo
language_of_part_is_known_info = atomic 5 (codes "de46e4") Sub SubLang
