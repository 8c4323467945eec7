-- What is written of a site, a page, a judgement and outcomes that fit reads as these.
use Rattle.std.proofs.Common.{◌≡◌, ℕ, suc, pos, ◌≤◌, List, [], ◌∷◌, map, true, nat_le, Some, option_map, Ok, refl, ap, ◌∙◌, arith, All}
use Rattle.std.specs.Prelude.{◌==◌, IsTrue}
use Rattle.std.proofs.lemmas.Bool.Decides.{nat_tests}
use Rattle.std.proofs.lemmas.List.Elements.{All-head, All-tail}
use Rattle.sqlite_value.specs.declared.value.Value.TheVariants.{Int, Text, Blob}
use Rattle.sqlite_value.specs.Order.{Row}
use Rattle.snap_json.specs.Pages.{kept_tree}
use Rattle.rule_core.specs.declared.verdict.Auto.{Auto}
use Rattle.rule_core.specs.declared.verdict.Auto.TheVariants.{Passed, Failed, CantTell}
use Rattle.rule_core.proofs.WordLaws.{read_back as word_back}
use Rattle.judge_core.specs.declared.judgement.Judgement.{Judgement}
use Rattle.judge_core.specs.declared.outcomes.OutRow.{OutRow}
use Rattle.judge_core.specs.declared.outcomes.Outcomes.{Outcomes}
use Rattle.keep_core.specs.declared.limits.TheConstants.{MOST_REVISION}
use Rattle.keep_core.specs.declared.member.Member.{Member}
use Rattle.keep_core.specs.declared.page.PageHead.{PageHead}
use Rattle.keep_core.specs.declared.page.Page.{Page}
use Rattle.keep_core.specs.Fits.{FitsHead}
use Rattle.keep_core.specs.Names.{is_name}
use Rattle.sql_rows.specs.Tables.{name_at}
use Rattle.store_tables.specs.Reading.{read_each, read_counted}
use Rattle.store_tables.specs.Cells.{auto_of, auto_number}
use Rattle.store_tables.specs.Members.{member_from}
use Rattle.store_tables.specs.Languages.{languages_shown}
use Rattle.store_tables.specs.Sites.{site_from}
use Rattle.store_tables.specs.Pages.{head_from, page_from}
use Rattle.store_tables.specs.Judgements.{judgement_from, judgement_cells}
use Rattle.store_tables.specs.Outcomes.{outcome_from, outcomes_shown, outcome_cells, outcomes_cells, outcome_rows}
use Rattle.store_tables.specs.Batches.{judgements_cells}
use Rattle.store_tables.specs.Numbers.{AreNumbers, HasNumbers}
use Rattle.store_tables.proofs.Written.{shown_judgement, shown_outcome, cells_in_order}
use Rattle.store_tables.proofs.Appending.{in_order_same}

pub at_most : (n most : ℕ) → n ≤ most → nat_le n most ≡ true
at_most n most within = grind (arith, nat_tests)

itself : (n : ℕ) → (n == n) ≡ true
itself n = grind (arith, nat_tests)

auto_shows : (a : Auto) → auto_of (auto_number a) ≡ Some a
auto_shows Passed = refl
auto_shows Failed = refl
auto_shows CantTell = refl

-- ---- a site

pub site_shows : (name : List ℕ) (counter : ℕ) (rows tongues : List Row) (members : List Member) (languages : List (List ℕ)) → IsTrue (is_name name) → counter ≤ MOST_REVISION → read_each member_from rows ≡ Some members
    → languages_shown tongues ≡ Some languages → site_from name (Int (pos counter)) rows tongues ≡ Some (record { name = name; counter = counter; members = members; languages = languages })
unfolding site_from
site_shows name counter rows tongues members languages named within reads tells = rw (named, at_most counter MOST_REVISION within, reads, tells) refl

-- ---- a page

head_shows : (h : PageHead) → FitsHead h → head_from h.page (Int (pos h.rev)) (Text h.hand) ≡ Some h
unfolding head_from
head_shows h fits = rw (fits.page, at_most h.rev MOST_REVISION fits.rev) refl

pub page_shows : (p : Page) (bytes : List ℕ) → FitsHead p.head → kept_tree bytes ≡ Ok p.tree → page_from p.head.page (Int (pos p.head.rev)) (Text p.head.hand) (Blob bytes) ≡ Some p
unfolding page_from
page_shows p bytes fits written = rw (head_shows p.head fits, written) refl

-- ---- a judgement

pub judgement_shows : (site page : List ℕ) (place : ℕ) (j : Judgement) → AreNumbers j.rule.0 j.node.0 → judgement_from place (shown_judgement (judgement_cells site page place j)) ≡ Some j
unfolding judgement_from
judgement_shows site page place j within = rw (itself place, at_most j.rule.0 65535 within.rule, at_most j.node.0 4294967295 within.node, auto_shows j.verdict) refl

-- the rule and the node of a judgement have their numbers
abbrev pub HasPlace : Judgement → Type 0
HasPlace j = AreNumbers j.rule.0 j.node.0

pub judgements_show : (site page : List ℕ) (place : ℕ) (js : List Judgement) → All HasPlace js → read_counted judgement_from place (map shown_judgement (judgements_cells site page place js)) ≡ Some js
judgements_show site page place [] within = refl
judgements_show site page place (j ∷ js) within =
    rw (judgement_shows site page place j (All-head HasPlace j js within), judgements_show site page (suc place) js (All-tail HasPlace j js within)) refl

-- ---- outcomes

outcome_shows : (site page : List ℕ) (place : ℕ) (o : OutRow) → HasNumbers o → outcome_from place (shown_outcome (outcome_cells site page place o)) ≡ Some o
unfolding outcome_from
outcome_shows site page place o within =
    rw (itself place, at_most o.rule.0 65535 within.rule, at_most o.node.0 4294967295 within.node, auto_shows o.auto, word_back o.reason, auto_shows o.last) refl

each_shows : (site page : List ℕ) (place : ℕ) (os : List OutRow) → All HasNumbers os → read_counted outcome_from place (map shown_outcome (outcomes_cells site page place os)) ≡ Some os
each_shows site page place [] within = refl
each_shows site page place (o ∷ os) within =
    rw (outcome_shows site page place o (All-head HasNumbers o os within), each_shows site page (suc place) os (All-tail HasNumbers o os within)) refl

pub outcomes_show : (site page : List ℕ) (outcomes : Outcomes) → All HasNumbers outcomes.rows → outcomes_shown (map shown_outcome (outcome_rows site page outcomes)) ≡ Some outcomes
outcomes_show site page outcomes within =
    ap (λ (rs : List Row). outcomes_shown (map shown_outcome rs)) (in_order_same (name_at 2) (outcomes_cells site page 1 outcomes.rows) (cells_in_order site page 1 outcomes.rows))
    ∙ ap (option_map (λ (rows : List OutRow). record { rows = rows })) (each_shows site page 1 outcomes.rows within)
