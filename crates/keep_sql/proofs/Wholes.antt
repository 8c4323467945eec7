-- Texts that make changes one after another.
use Rattle.std.proofs.Common.{◌≡◌, ℕ, suc, pos, ◌<◌, take, drop, Result, Ok, Err, OnOk, ◌+◌, List, [], ◌∷◌, ◌++◌, length, Some, None, sym, ap, ap₂, subst, ◌∙◌, arith, slice_get}
use Rattle.std.proofs.lemmas.List.{take-append-drop}
use Rattle.sqlite_value.specs.Order.{Row}
use Rattle.sqlite_value.specs.declared.value.Value.TheVariants.{Int, Text}
use Rattle.sqlite.specs.State.{State}
use Rattle.named_rows.specs.ByName.{put_row, put_rows}
use Rattle.sql_rows.specs.Tables.{name_at, rows_of}
use Rattle.sql_rows.proofs.Canon.{put_rows_append}
use Rattle.judge_core.specs.declared.outcomes.OutRow.{OutRow}
use Rattle.judge_core.specs.declared.outcomes.Outcomes.{Outcomes}
use Rattle.store_statements.specs.Stored.{Stored}
use Rattle.judge_core.specs.declared.judgement.Judgement.{Judgement}
use Rattle.store_statements.specs.declared.judgements.JudgementRow.{JudgementRow}
use Rattle.store_statements.specs.declared.outcomes.OutcomeRow.{OutcomeRow}
use Rattle.sql_rows.specs.Changes.{Changes}
use Rattle.store_statements.specs.Changes.{Makes, ChangesJudgements, ChangesOutcomes, ChangesLanguages, ChangesEditions, AddsJudgement, AddsEdition, DropsOutcomes, DropsLanguages, DropsEditions, PutsOutcome}
use Rattle.store_statements.specs.Changes as texts
use Rattle.store_tables.specs.Judgements.{judgement_cells, IsJudgementRow}
use Rattle.store_tables.specs.Languages.{language_cells, languages_cells, language_rows}
use Rattle.store_tables.specs.Batches.{judgements_cells}
use Rattle.store_tables.specs.Outcomes.{outcome_cells, outcomes_cells, outcome_rows, IsOutcomeRow}
use Rattle.store_tables.proofs.Steps.{some_same}
use Rattle.store_tables.proofs.Stepping.{changes_through, outcomes_through, languages_through, editions_through}
use Rattle.keep_sql.specs.Reading.{rows_in}

-- one call after another
pub makes_then : (A B C : Stored → Stored → Type 0) (a b c : State) → ((x y z : Stored) → A x y → B y z → C x z) → Makes A a b → Makes B b c → Makes C a c
makes_then A B C a b c both first second = record { ready = second.ready; change = both (rows_in a) (rows_in b) (rows_in c) first.change second.change }

pub outcomes_then : (site page : List ℕ) (f g : List Row → List Row) (a b c : State) → Makes (ChangesOutcomes site page f) a b → Makes (ChangesOutcomes site page g) b c
    → Makes (ChangesOutcomes site page (λ rows. g (f rows))) a c
outcomes_then site page f g a b c = makes_then (ChangesOutcomes site page f) (ChangesOutcomes site page g) (ChangesOutcomes site page (λ rows. g (f rows))) a b c (λ x y z. outcomes_through site page x y z f g)

pub cells_append : (site page : List ℕ) (place next : ℕ) (xs ys : List OutRow) → next ≡ place + length xs → outcomes_cells site page place (xs ++ ys) ≡ outcomes_cells site page place xs ++ outcomes_cells site page next ys
cells_append site page place next [] ys is = let same : place ≡ next = omega (arith, is) in ap (λ n. outcomes_cells site page n ys) same
cells_append site page place next (x ∷ xs) ys is = ap (λ l. outcomes_cells site page place (x ∷ []) ++ l) (cells_append site page (suc place) next xs ys (omega (arith, is)))

-- rows that are put in two parts
pub joined : (site page : List ℕ) (xs ys all : List Row) (a b c : State) → all ≡ xs ++ ys → Makes (ChangesOutcomes site page (put_rows (name_at 2) xs)) a b → Makes (ChangesOutcomes site page (put_rows (name_at 2) ys)) b c
    → Makes (ChangesOutcomes site page (put_rows (name_at 2) all)) a c
joined site page xs ys all a b c is first second =
    let puts : (λ (rows : List Row). put_rows (name_at 2) ys (put_rows (name_at 2) xs rows)) ≡ put_rows (name_at 2) all =
    λ i rows. (sym (put_rows_append (name_at 2) xs ys rows) ∙ ap (λ l. put_rows (name_at 2) l rows) (sym is)) i in
    subst (λ f. Makes (ChangesOutcomes site page f) a c) puts (outcomes_then site page (put_rows (name_at 2) xs) (put_rows (name_at 2) ys) a b c first second)

-- outcomes that are put in two halves
pub halves : (site page : List ℕ) (place next : ℕ) (all xs ys : List OutRow) (a b c : State) → all ≡ xs ++ ys → next ≡ place + length xs
    → Makes (ChangesOutcomes site page (put_rows (name_at 2) (outcomes_cells site page place xs))) a b → Makes (ChangesOutcomes site page (put_rows (name_at 2) (outcomes_cells site page next ys))) b c
    → Makes (ChangesOutcomes site page (put_rows (name_at 2) (outcomes_cells site page place all))) a c
halves site page place next all xs ys a b c is at =
    joined site page (outcomes_cells site page place xs) (outcomes_cells site page next ys) (outcomes_cells site page place all) a b c (ap (outcomes_cells site page place) is ∙ cells_append site page place next xs ys at)

-- ---- judgements and languages, likewise

-- rows that are put in two parts, as one change
put_parts : (at : ℕ) (group : List (List ℕ)) (xs ys all : List Row) (a b c : List Row) → all ≡ xs ++ ys → Changes group (put_rows (name_at at) xs) a b → Changes group (put_rows (name_at at) ys) b c
    → Changes group (put_rows (name_at at) all) a c
put_parts at group xs ys all a b c is first second =
    let both = changes_through group (put_rows (name_at at) xs) (put_rows (name_at at) ys) a b c first second in
    record { there = both.there ∙ sym (put_rows_append (name_at at) xs ys (rows_of group a)) ∙ ap (λ l. put_rows (name_at at) l (rows_of group a)) (sym is); elsewhere = both.elsewhere }

judgements_append : (site page : List ℕ) (place next : ℕ) (xs ys : List Judgement) → next ≡ place + length xs
    → judgements_cells site page place (xs ++ ys) ≡ judgements_cells site page place xs ++ judgements_cells site page next ys
judgements_append site page place next [] ys is = let same : place ≡ next = omega (arith, is) in ap (λ n. judgements_cells site page n ys) same
judgements_append site page place next (x ∷ xs) ys is = ap (λ l. judgement_cells site page place x ∷ l) (judgements_append site page (suc place) next xs ys (omega (arith, is)))

-- judgements that are put in two halves
pub judgement_halves : (site page : List ℕ) (place next : ℕ) (all xs ys : List Judgement) (a b c : State) → all ≡ xs ++ ys → next ≡ place + length xs
    → Makes (ChangesJudgements site page (put_rows (name_at 2) (judgements_cells site page place xs))) a b → Makes (ChangesJudgements site page (put_rows (name_at 2) (judgements_cells site page next ys))) b c
    → Makes (ChangesJudgements site page (put_rows (name_at 2) (judgements_cells site page place all))) a c
judgement_halves site page place next all xs ys a b c is at =
    makes_then (ChangesJudgements site page (put_rows (name_at 2) (judgements_cells site page place xs))) (ChangesJudgements site page (put_rows (name_at 2) (judgements_cells site page next ys)))
    (ChangesJudgements site page (put_rows (name_at 2) (judgements_cells site page place all))) a b c
    (λ x y z first second. (
      second.0 ∙ ap (λ (s : Stored). record s { judgements = z.judgements }) first.0,
      put_parts 2 (site ∷ page ∷ []) (judgements_cells site page place xs) (judgements_cells site page next ys) (judgements_cells site page place all) x.judgements y.judgements z.judgements
          (ap (judgements_cells site page place) is ∙ judgements_append site page place next xs ys at) first.1 second.1,
    ))

languages_append : (site : List ℕ) (place next : ℕ) (xs ys : List (List ℕ)) → next ≡ place + length xs
    → languages_cells site place (xs ++ ys) ≡ languages_cells site place xs ++ languages_cells site next ys
languages_append site place next [] ys is = let same : place ≡ next = omega (arith, is) in ap (λ n. languages_cells site n ys) same
languages_append site place next (x ∷ xs) ys is = ap (λ l. language_cells site place x ∷ l) (languages_append site (suc place) next xs ys (omega (arith, is)))

-- languages that are put in two halves
pub language_halves : (site : List ℕ) (place next : ℕ) (all xs ys : List (List ℕ)) (a b c : State) → all ≡ xs ++ ys → next ≡ place + length xs
    → Makes (ChangesLanguages site (put_rows (name_at 1) (languages_cells site place xs))) a b → Makes (ChangesLanguages site (put_rows (name_at 1) (languages_cells site next ys))) b c
    → Makes (ChangesLanguages site (put_rows (name_at 1) (languages_cells site place all))) a c
language_halves site place next all xs ys a b c is at =
    makes_then (ChangesLanguages site (put_rows (name_at 1) (languages_cells site place xs))) (ChangesLanguages site (put_rows (name_at 1) (languages_cells site next ys)))
    (ChangesLanguages site (put_rows (name_at 1) (languages_cells site place all))) a b c
    (λ x y z first second. (
      second.0 ∙ ap (λ (s : Stored). record s { languages = z.languages }) first.0,
      put_parts 1 (site ∷ []) (languages_cells site place xs) (languages_cells site next ys) (languages_cells site place all) x.languages y.languages z.languages
          (ap (languages_cells site place) is ∙ languages_append site place next xs ys at) first.1 second.1,
    ))

-- a whole list, behind the one that was dropped
pub whole_languages : (site : List ℕ) (langs : List (List ℕ)) (a b c : State) → Makes (DropsLanguages site) a b → Makes (ChangesLanguages site (put_rows (name_at 1) (languages_cells site 1 langs))) b c
    → Makes (ChangesLanguages site (λ _. language_rows site langs)) a c
whole_languages site langs a b c =
    makes_then (DropsLanguages site) (ChangesLanguages site (put_rows (name_at 1) (languages_cells site 1 langs))) (ChangesLanguages site (λ _. language_rows site langs)) a b c
    (λ x y z. languages_through x y z (λ _. []) (put_rows (name_at 1) (languages_cells site 1 langs)) site)

-- one edition, behind those that were dropped
pub whole_edition : (number : ℕ) (a b c : State) → Makes DropsEditions a b → Makes (AddsEdition (pos number)) b c → Makes (ChangesEditions (λ _. put_row (name_at 0) (Int (pos number) ∷ []) [])) a c
whole_edition number a b c =
    makes_then DropsEditions (AddsEdition (pos number)) (ChangesEditions (λ _. put_row (name_at 0) (Int (pos number) ∷ []) [])) a b c
    (λ x y z. editions_through x y z (λ _. []) (put_row (name_at 0) (Int (pos number) ∷ [])))

-- ---- calls

pub onward : {A E P Q : Type 0} (r : Result A E) → (P → Q) → OnOk r P → OnOk r Q
onward (Ok a) f p = f p
onward (Err e) f p = tt

pub outcome_added : (site page : List ℕ) (place : ℕ) (o : OutRow) (row : OutcomeRow) (a b : State) → IsOutcomeRow place o row → Makes (PutsOutcome site page row) a b
    → Makes (ChangesOutcomes site page (put_row (name_at 2) (outcome_cells site page place o))) a b
outcome_added site page place o row a b is made =
    let cells : texts.outcome_cells site page row ≡ outcome_cells site page place o =
    λ i. Text site ∷ Text page ∷ Int (is.seq i) ∷ Int (is.rule i) ∷ Int (is.node i) ∷ Int (is.auto i) ∷ Text (is.reason i) ∷ Text (is.evidence i) ∷ Int (is.last i) ∷ Text (is.hand i) ∷ [] in
    subst (λ (r : Row). Makes (ChangesOutcomes site page (put_row (name_at 2) r)) a b) cells made

pub judgement_added : (site page : List ℕ) (place : ℕ) (j : Judgement) (row : JudgementRow) (a b : State) → IsJudgementRow place j row → Makes (AddsJudgement site page row) a b
    → Makes (ChangesJudgements site page (put_row (name_at 2) (judgement_cells site page place j))) a b
judgement_added site page place j row a b is made =
    let cells : texts.judgement_cells site page row ≡ judgement_cells site page place j =
    λ i. Text site ∷ Text page ∷ Int (is.seq i) ∷ Int (is.rule i) ∷ Int (is.node i) ∷ Int (is.verdict i) ∷ Text (is.hand i) ∷ Text (is.note i) ∷ Text (is.evidence i) ∷ [] in
    subst (λ (r : Row). Makes (ChangesJudgements site page (put_row (name_at 2) r)) a b) cells made

pub one_judgement : (site page : List ℕ) (place : ℕ) (all : List Judgement) (j : Judgement) (a b : State) → all ≡ j ∷ []
    → Makes (ChangesJudgements site page (put_row (name_at 2) (judgement_cells site page place j))) a b → Makes (ChangesJudgements site page (put_rows (name_at 2) (judgements_cells site page place all))) a b
one_judgement site page place all j a b is made = subst (λ (l : List Judgement). Makes (ChangesJudgements site page (put_rows (name_at 2) (judgements_cells site page place l))) a b) (sym is) made

pub one_language : (site : List ℕ) (place : ℕ) (all : List (List ℕ)) (tag : List ℕ) (a b : State) → all ≡ tag ∷ []
    → Makes (ChangesLanguages site (put_row (name_at 1) (language_cells site place tag))) a b → Makes (ChangesLanguages site (put_rows (name_at 1) (languages_cells site place all))) a b
one_language site place all tag a b is made = subst (λ (l : List (List ℕ)). Makes (ChangesLanguages site (put_rows (name_at 1) (languages_cells site place l))) a b) (sym is) made

pub one_outcome : (site page : List ℕ) (place : ℕ) (all : List OutRow) (o : OutRow) (a b : State) → all ≡ o ∷ [] → Makes (ChangesOutcomes site page (put_row (name_at 2) (outcome_cells site page place o))) a b
    → Makes (ChangesOutcomes site page (put_rows (name_at 2) (outcomes_cells site page place all))) a b
one_outcome site page place all o a b is made = subst (λ (l : List OutRow). Makes (ChangesOutcomes site page (put_rows (name_at 2) (outcomes_cells site page place l))) a b) (sym is) made

pub whole_outcomes : (site page : List ℕ) (outcomes : Outcomes) (rows : List OutRow) (a b c : State) → rows ≡ outcomes.rows → Makes (DropsOutcomes site page) a b
    → Makes (ChangesOutcomes site page (put_rows (name_at 2) (outcomes_cells site page 1 rows))) b c → Makes (ChangesOutcomes site page (λ _. outcome_rows site page outcomes)) a c
whole_outcomes site page outcomes rows a b c is first second =
    subst (λ (l : List OutRow). Makes (ChangesOutcomes site page (λ _. put_rows (name_at 2) (outcomes_cells site page 1 l) [])) a c) is
    (outcomes_then site page (λ _. []) (put_rows (name_at 2) (outcomes_cells site page 1 rows)) a b c first second)

-- what holds of an answer that is Ok
pub of_ok : {A E P : Type 0} (r : Result A E) (x : A) → r ≡ Ok x → OnOk r P → P
of_ok (Ok a) x is p = p
of_ok (Err e) x is p = let never : Err e ≡ Ok x = is in absurd cc

pub single : {X : Type 0} (l : List X) (x : X) → Some x ≡ slice_get l 0 → length l < 2 → l ≡ x ∷ []
single [] x is short = let never : Some x ≡ None = is in absurd cc
single (y ∷ []) x is short = let same : x ≡ y = some_same x y is in ap (λ z. z ∷ []) (sym same)
single (y ∷ z ∷ l) x is short = absurd (omega (arith, short))

pub parts : {X : Type 0} (l front back : List X) (mid : ℕ) → front ≡ take mid l → back ≡ drop mid l → l ≡ front ++ back
parts l front back mid is_front is_back = sym (take-append-drop mid l) ∙ ap₂ (λ a b. a ++ b) (sym is_front) (sym is_back)
