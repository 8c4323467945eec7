-- Outcomes as assertions of EARL 1.0 in JSON-LD.
use Rattle.std.specs.Prelude.{ℕ, List, [], ◌∷◌, ◌==◌, ◌&&◌, not, length, map, Bool, if◌then◌else◌}
use Rattle.std.specs.List.{flat_map, list_any}
use Rattle.serde_json.specs.Data.{Data, string, array, object, Members, no_members, member}
use Rattle.serde_json.specs.View.{items_of}
use Rattle.serde_json.specs.Written.{compact_text}
use Rattle.rule_core.specs.declared.info.RuleInfo.{RuleInfo}
use Rattle.rule_core.specs.declared.verdict.Auto.{Auto}
use Rattle.rule_core.specs.declared.verdict.Auto.TheVariants.{Passed, Failed, CantTell}
use Rattle.rule_core.specs.Infos.{is_atomic}
use Rattle.rule_core.specs.Words.{word_of}
use Rattle.judge_core.specs.declared.outcomes.OutRow.{OutRow}
use Rattle.keep_core.specs.declared.page.SitePage.{SitePage}
use Rattle.reports.specs.declared.term.Term.{Term}
use Rattle.reports.specs.declared.term.Term.TheVariants as term
use Rattle.reports.specs.TextReport.{of_rule, is_inapplicable}
use Rattle.reports.specs.Terms.{text_of, rule_name, user_name, node_name}

-- ---- what is named

-- a thing by its name, and a thing by its name with its class
abbrev pub named : List ℕ → Data
named id = object (member (text_of term.AtId) (string id) no_members)

abbrev pub typed : List ℕ → List ℕ → Data
typed id class = object (member (text_of term.AtId) (string id) (member (text_of term.AtType) (string class) no_members))

abbrev pub software : Data
software = typed (text_of term.Desk) (text_of term.Software)

abbrev pub user : List ℕ → Data
user hand = named (user_name hand)

abbrev pub subject : SitePage → Data
subject page = typed page.address (text_of term.TestSubject)

abbrev pub test : RuleInfo → Data
test info = typed (rule_name info.id) (text_of term.TestCase)

-- ---- who asserts, and how

-- a person judged the row
abbrev pub is_judged : OutRow → Bool
is_judged row = not (length row.hand == 0)

-- the row is of an input of the rule
abbrev pub is_input_of : RuleInfo → OutRow → Bool
is_input_of info row = list_any (λ number. not (number == 0) && number == row.rule.0) info.inputs

-- the row is of an input of the rule, and a person judged it
abbrev pub is_judged_input : RuleInfo → OutRow → Bool
is_judged_input info row = is_judged row && is_input_of info row

-- the rule is composite, and a person judged the row of some input of it on the row's node
abbrev pub has_judged_input : List OutRow → RuleInfo → OutRow → Bool
has_judged_input rows info row = not (is_atomic info) && list_any (λ r. is_judged_input info r && r.node.0 == row.node.0) rows

abbrev pub mode : List OutRow → RuleInfo → OutRow → Term
mode rows info row =
    if is_judged row then term.Manual
    else (if has_judged_input rows info row then term.SemiAuto
    else term.Automatic)

abbrev pub asserter : OutRow → Data
asserter row = if is_judged row then user row.hand else software

-- ---- results

abbrev pub outcome_term : Auto → Term
outcome_term Passed = term.Passed
outcome_term Failed = term.Failed
outcome_term CantTell = term.CantTell

abbrev pub result_of : List ℕ → Term → Members → Data
result_of info outcome pointer =
    object (member (text_of term.AtType) (string (text_of term.TestResult))
    (member (text_of term.Info) (string info)
    (member (text_of term.Outcome) (named (text_of outcome))
    pointer)))

-- where on the page
abbrev pub pointer : OutRow → Members
pointer row = member (text_of term.Pointer) (string (node_name row.node.0)) no_members

abbrev pub row_result : OutRow → Data
row_result row = result_of (word_of row.reason) (outcome_term row.last) (pointer row)

abbrev pub no_result : Data
no_result = result_of (text_of term.NoTarget) term.Inapplicable no_members

-- ---- assertions

unfoldable pub assertion : Data → Term → Data → SitePage → RuleInfo → Data
assertion by how result page info =
    object (member (text_of term.AtType) (string (text_of term.Assertion))
    (member (text_of term.AssertedBy) by
    (member (text_of term.Mode) (named (text_of how))
    (member (text_of term.Result) result
    (member (text_of term.Subject) (subject page)
    (member (text_of term.Test) (test info)
    no_members))))))

-- the assertion of a rule's row on a page
abbrev pub row_assertion : SitePage → RuleInfo → OutRow → Data
row_assertion page info row = assertion (asserter row) (mode page.outcomes.rows info row) (row_result row) page info

-- the assertion that a rule is inapplicable on a page
abbrev pub no_assertion : SitePage → RuleInfo → Data
no_assertion page info = assertion software term.Automatic no_result page info

-- a rule on a page: one assertion for each row in list order, or one that it is inapplicable
abbrev pub rule_assertions : SitePage → RuleInfo → List Data
rule_assertions page info =
    if is_inapplicable page.outcomes.rows info then no_assertion page info ∷ []
    else map (row_assertion page info) (of_rule page.outcomes.rows info)

-- a page, rule by rule
abbrev pub page_assertions : List RuleInfo → SitePage → List Data
page_assertions infos page = flat_map (rule_assertions page) infos

-- the pages one after another
abbrev pub assertions : List RuleInfo → List SitePage → List Data
assertions infos pages = flat_map (page_assertions infos) pages

-- ---- the report

abbrev pub context : Data
context = object (member (text_of term.Earl) (string (text_of term.Namespace)) no_members)

unfoldable pub earl_data : List RuleInfo → List SitePage → Data
earl_data infos pages =
    object (member (text_of term.AtContext) context
    (member (text_of term.AtGraph) (array (items_of (assertions infos pages)))
    no_members))

-- the bytes: JSON without space between its parts
abbrev pub earl : List RuleInfo → List SitePage → List ℕ
earl infos pages = compact_text (earl_data infos pages)
