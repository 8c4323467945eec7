-- The success criteria of WCAG 2.2 that rules count under, and what the outcomes of pages come to under each.
use Rattle.std.specs.Prelude.{◌≡◌, ℕ, List, [], ◌∷◌, ◌==◌, map, filter, codes, Bool, true, false, if◌then◌else◌}
use Rattle.std.specs.List.{flat_map, list_any, count_by}
use Rattle.std.specs.Str.{bytes_eq}
use Rattle.rule_core.specs.declared.verdict.Auto.{Auto}
use Rattle.rule_core.specs.declared.verdict.Auto.TheVariants as auto
use Rattle.judge_core.specs.declared.outcomes.OutRow.{OutRow}
use Rattle.keep_core.specs.declared.page.SitePage.{SitePage}
use Rattle.reports.specs.declared.criterion.Criterion.{Criterion}
use Rattle.reports.specs.declared.criterion.Criterion.TheVariants.{NonTextContent, InfoAndRelationships, InputPurpose, ResizeText, TimingAdjustable, BypassBlocks, PageTitled, LinkPurpose, HeadingsAndLabels, LanguageOfPage, LanguageOfParts, NameRoleValue}
use Rattle.reports.specs.declared.criterion.Level.{Level}
use Rattle.reports.specs.declared.criterion.Level.TheVariants as level
use Rattle.reports.specs.declared.criterion.Result4.{Result4}
use Rattle.reports.specs.declared.criterion.Result4.TheVariants as result
use Rattle.reports.specs.TextReport.{is_outcome}

abbrev pub number_of : Criterion → List ℕ
number_of NonTextContent = codes "1.1.1"
number_of InfoAndRelationships = codes "1.3.1"
number_of InputPurpose = codes "1.3.5"
number_of ResizeText = codes "1.4.4"
number_of TimingAdjustable = codes "2.2.1"
number_of BypassBlocks = codes "2.4.1"
number_of PageTitled = codes "2.4.2"
number_of LinkPurpose = codes "2.4.4"
number_of HeadingsAndLabels = codes "2.4.6"
number_of LanguageOfPage = codes "3.1.1"
number_of LanguageOfParts = codes "3.1.2"
number_of NameRoleValue = codes "4.1.2"

abbrev pub level_of : Criterion → Level
level_of NonTextContent = level.A
level_of InfoAndRelationships = level.A
level_of InputPurpose = level.AA
level_of ResizeText = level.AA
level_of TimingAdjustable = level.A
level_of BypassBlocks = level.A
level_of PageTitled = level.A
level_of LinkPurpose = level.A
level_of HeadingsAndLabels = level.AA
level_of LanguageOfPage = level.A
level_of LanguageOfParts = level.AA
level_of NameRoleValue = level.A

-- the numbers of the rules that count under a criterion, with their ids
abbrev pub rules_of : Criterion → List ℕ
rules_of NonTextContent = 10 ∷ 11 ∷ 15 ∷ 34 ∷ []  -- 23a2a8 59796f 7d6734 qt1vmo
rules_of InfoAndRelationships = 14 ∷ 22 ∷ 24 ∷ 25 ∷ 37 ∷ []  -- ffd0e9 bc4a75 a25f45 d0f69e ff89c9
rules_of InputPurpose = 17 ∷ []  -- 73f2c2
rules_of ResizeText = 6 ∷ []  -- b4f0c3
rules_of TimingAdjustable = 7 ∷ []  -- bc659a
rules_of BypassBlocks = 30 ∷ []  -- cf77f2
rules_of PageTitled = 1 ∷ 2 ∷ []  -- 2779a5 c4a8a4
rules_of LinkPurpose = 9 ∷ []  -- c487ae
rules_of HeadingsAndLabels = 16 ∷ 33 ∷ []  -- b49b2e cc0f0a
rules_of LanguageOfPage = 3 ∷ 4 ∷ 31 ∷ []  -- b5c3f8 bf051a 5b7ae0
rules_of LanguageOfParts = 5 ∷ []  -- de46e4
-- 97a4e1 c487ae 59796f e086e5 cae760 674b10 5f99a7 6a7281 4e8ab6 6cfa84 m6b1q3 5c01ea 307n5z
rules_of NameRoleValue = 8 ∷ 9 ∷ 11 ∷ 12 ∷ 13 ∷ 18 ∷ 19 ∷ 20 ∷ 21 ∷ 23 ∷ 35 ∷ 36 ∷ 39 ∷ []

-- the criteria in the order of their numbers
abbrev pub all_criteria : List Criterion
all_criteria =
    NonTextContent
    ∷ InfoAndRelationships
    ∷ InputPurpose
    ∷ ResizeText
    ∷ TimingAdjustable
    ∷ BypassBlocks
    ∷ PageTitled
    ∷ LinkPurpose
    ∷ HeadingsAndLabels
    ∷ LanguageOfPage
    ∷ LanguageOfParts
    ∷ NameRoleValue
    ∷ []

-- each criterion stands once in a list: its number does
abbrev pub HasEachOnce : List Criterion → Type 0
HasEachOnce listed = (criterion : Criterion) → count_by (λ other. bytes_eq (number_of criterion) (number_of other)) listed ≡ 1

-- the row is of a rule that counts under the criterion
abbrev pub counts_under : Criterion → OutRow → Bool
counts_under criterion row = list_any (λ number. number == row.rule.0) (rules_of criterion)

-- the final outcomes of all rows of these pages that count under the criterion
abbrev pub outcomes_under : Criterion → List SitePage → List Auto
outcomes_under criterion pages = map (λ row. row.last) (filter (counts_under criterion) (flat_map (λ page. page.outcomes.rows) pages))

abbrev pub is_empty : List Auto → Bool
is_empty [] = true
is_empty (outcome ∷ outcomes) = false

-- failed where some outcome is, else cantTell where some is, else no failure was found where there is one
abbrev pub result_of : List Auto → Result4
result_of outcomes =
    if list_any (is_outcome auto.Failed) outcomes then result.Failed
    else (if list_any (is_outcome auto.CantTell) outcomes then result.CantTell
    else (if is_empty outcomes then result.Inapplicable
    else result.NoFailureFound))

-- what the outcomes of these pages come to under a criterion
abbrev pub criteria : List SitePage → Criterion → Result4
criteria pages criterion = result_of (outcomes_under criterion pages)

-- ---- how a report prints them

abbrev pub level_word : Level → List ℕ
level_word level.A = codes "A"
level_word level.AA = codes "AA"

abbrev pub result_word : Result4 → List ℕ
result_word result.Failed = codes "failed"
result_word result.CantTell = codes "cantTell"
result_word result.NoFailureFound = codes "noFailureFound"
result_word result.Inapplicable = codes "inapplicable"
