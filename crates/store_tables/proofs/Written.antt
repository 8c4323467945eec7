-- What is written of a page, a judgement and outcomes is read back.
use Rattle.std.proofs.Common.{◌≡◌, inl, inr, ℕ, suc, pos, ◌<◌, ◌≤◌, ◌+◌, List, [], ◌∷◌, map, length, Bool, true, false, cond, nat_le, Option, Some, None, IfSome, Ok, refl, sym, ap, ap₂, ◌∙◌, arith, Less, Greater, All}
use Rattle.std.specs.Prelude.{negsuc, ◌==◌}
use Rattle.std.proofs.lemmas.Bool.Decides.{nat_tests}
use Rattle.std.proofs.lemmas.List.Elements.{All-cons, All-nil}
use Rattle.sqlite_value.specs.declared.value.Value.{Value}
use Rattle.sqlite_value.specs.declared.value.Value.TheVariants.{Null, Int, Real, Text, Blob}
use Rattle.sqlite_value.specs.Order.{Row, column}
use Rattle.sqlite_rules.specs.Lists.{Has}
use Rattle.named_rows.specs.ByName.{names_cmp, IsInOrder}
use Rattle.named_rows.proofs.Names.{turned}
use Rattle.named_rows.proofs.Order.{IsBelow, in_order_cons, in_order_none}
use Rattle.snap_tree.specs.Trees.{Document}
use Rattle.snap_json.specs.Pages.{kept_tree}
use Rattle.rule_core.specs.declared.reason.Reason.{Reason}
use Rattle.rule_core.specs.declared.verdict.Auto.{Auto}
use Rattle.rule_core.specs.declared.verdict.Auto.TheVariants.{Passed, Failed, CantTell}
use Rattle.rule_core.specs.Words.{word_of}
use Rattle.rule_core.proofs.WordLaws.{read_back as word_back}
use Rattle.judge_core.specs.declared.judgement.Judgement.{Judgement}
use Rattle.judge_core.specs.declared.outcomes.OutRow.{OutRow}
use Rattle.judge_core.specs.declared.outcomes.Outcomes.{Outcomes}
use Rattle.keep_core.specs.declared.limits.TheConstants.{MOST_REVISION}
use Rattle.keep_core.specs.declared.page.PageHead.{PageHead}
use Rattle.keep_core.specs.declared.page.Page.{Page}
use Rattle.sql_rows.specs.Tables.{name_at, number_letters, letters}
pub use Rattle.store_statements.proofs.OutcomeRows.{shown_outcome}
use Rattle.store_tables.specs.Reading.{◌>>=◌, read_counted}
use Rattle.store_tables.specs.Cells.{number_in, place_in, named, auto_in, auto_number, reason_in, read_back}
use Rattle.store_tables.specs.Pages.{head_from, page_from}
use Rattle.store_tables.specs.Judgements.{judgement_from, judgement_cells}
use Rattle.store_tables.specs.Batches.{judgements_cells}
use Rattle.store_tables.specs.Outcomes.{outcome_from, outcome_cells, outcomes_cells, outcome_rows}
use Rattle.store_tables.proofs.Steps.{some_same, none_some, both_read}
use Rattle.store_tables.proofs.Counted.{first_counted}
use Rattle.store_tables.proofs.Named.{named_same, page_parts}
use Rattle.store_tables.proofs.Siting.{number_back}
use Rattle.store_tables.proofs.Appending.{in_order_same}
use Rattle.store_tables.proofs.Places.{letters_below}

-- ---- values

number_if : (most n : ℕ) → IfSome (number_in most (Int (pos n))) (λ m. m ≡ n)
number_if most n = by (nat_le n most)
  where
    by : (b : Bool) → IfSome (cond b (Some n) None) (λ m. m ≡ n)
    by true = refl
    by false = tt

auto_if : (a : Auto) → IfSome (auto_in (Int (pos (auto_number a)))) (λ b. b ≡ a)
auto_if Passed = refl
auto_if Failed = refl
auto_if CantTell = refl

reason_if : (r : Reason) → IfSome (reason_in (Text (word_of r))) (λ s. s ≡ r)
reason_if r = rw (word_back r) refl

-- the place that reads is this one
pub place_is : (place : ℕ) (v : Value) (n : ℕ) → place_in place v ≡ Some n → v ≡ Int (pos place)
place_is place Null n is = absurd (none_some n is)
place_is place (Int (pos m)) n is = by (m == place) refl is
  where
    by : (b : Bool) → (m == place) ≡ b → cond b (Some m) None ≡ Some n → Int (pos m) ≡ Int (pos place)
    by true same is = let e : m ≡ place = grind (arith, nat_tests, same) in ap (λ k. Int (pos k)) e
    by false other is = absurd (none_some n is)
place_is place (Int (negsuc m)) n is = absurd (none_some n is)
place_is place (Real x) n is = absurd (none_some n is)
place_is place (Text t) n is = absurd (none_some n is)
place_is place (Blob b) n is = absurd (none_some n is)

-- ---- a page

head_back : (h g : PageHead) → head_from h.page (Int (pos h.rev)) (Text h.hand) ≡ Some g → g ≡ h
unfolding head_from
head_back h g is =
    let a = both_read {B = PageHead} (named h.page) (λ page. number_in MOST_REVISION (Int (pos h.rev)) >>= (λ rev. Some (record { page = page; rev = rev; hand = h.hand }))) g is in
    let b = both_read {B = PageHead} (number_in MOST_REVISION (Int (pos h.rev))) (λ rev. Some (record { page = a.0; rev = rev; hand = h.hand })) g a.2 in
    sym (some_same {A = PageHead} (record { page = a.0; rev = b.0; hand = h.hand }) g b.2)
    ∙ ap₂ (λ (n : List ℕ) (k : ℕ). record { page = n; rev = k; hand = h.hand }) (named_same h.page a.0 a.1) (number_back MOST_REVISION h.rev b.0 b.1)

pub page_back : (p q : Page) (bytes : List ℕ) → kept_tree bytes ≡ Ok p.tree → page_from p.head.page (Int (pos p.head.rev)) (Text p.head.hand) (Blob bytes) ≡ Some q → q ≡ p
page_back p q bytes written is =
    let parts = page_parts p.head.page (Int (pos p.head.rev)) (Text p.head.hand) (Blob bytes) q is in
    let head : q.head ≡ p.head = head_back p.head q.head parts.0 in
    let tree : p.tree ≡ q.tree = some_same p.tree q.tree (sym (ap read_back written) ∙ parts.1) in
    ap₂ (λ (h : PageHead) (t : Document). record { head = h; tree = t }) head (sym tree)

-- ---- judgements

abbrev pub shown_judgement : Row → Row
shown_judgement r = column r 2 ∷ column r 3 ∷ column r 4 ∷ column r 5 ∷ column r 6 ∷ column r 7 ∷ column r 8 ∷ []

judged_by : (j k : Judgement) (s r n : Option ℕ) (v : Option Auto) → IfSome r (λ x. x ≡ j.rule.0) → IfSome n (λ x. x ≡ j.node.0) → IfSome v (λ x. x ≡ j.verdict)
    → (s >>= (λ _. r >>= (λ rule. n >>= (λ node. v >>= (λ verdict. Some (record { rule = record { 0 = rule }; node = record { 0 = node }; verdict = verdict; hand = j.hand; note = j.note; evidence = j.evidence })))))) ≡ Some k
    → k ≡ j
judged_by j k None r n v pr pn pv is = absurd (none_some k is)
judged_by j k (Some s) None n v pr pn pv is = absurd (none_some k is)
judged_by j k (Some s) (Some r) None v pr pn pv is = absurd (none_some k is)
judged_by j k (Some s) (Some r) (Some n) None pr pn pv is = absurd (none_some k is)
judged_by j k (Some s) (Some r) (Some n) (Some v) pr pn pv is =
    sym (some_same {A = Judgement} (record { rule = record { 0 = r }; node = record { 0 = n }; verdict = v; hand = j.hand; note = j.note; evidence = j.evidence }) k is)
    ∙ (λ i. record { rule = record { 0 = pr i }; node = record { 0 = pn i }; verdict = pv i; hand = j.hand; note = j.note; evidence = j.evidence })

pub judgement_back : (site page : List ℕ) (place : ℕ) (j k : Judgement) → judgement_from place (shown_judgement (judgement_cells site page place j)) ≡ Some k → k ≡ j
unfolding judgement_from
judgement_back site page place j k is =
    judged_by j k (place_in place (Int (pos place))) (number_in 65535 (Int (pos j.rule.0))) (number_in 4294967295 (Int (pos j.node.0))) (auto_in (Int (pos (auto_number j.verdict))))
    (number_if 65535 j.rule.0) (number_if 4294967295 j.node.0) (auto_if j.verdict) is

judgement_place : (place : ℕ) (c : Row) (j : Judgement) → judgement_from place c ≡ Some j → column c 0 ≡ Int (pos place)
unfolding judgement_from
judgement_place place c j is = let a = both_read (place_in place (column c 0)) _ j is in place_is place (column c 0) a.0 a.1

-- judgements that read stand below a place behind theirs
pub behind_all : (place : ℕ) (rs : List Row) (ts : List Judgement) → read_counted judgement_from place (map shown_judgement rs) ≡ Some ts → (n : ℕ) → place + length rs ≤ n → (r : Row) → Has rs r
    → names_cmp (number_letters (pos n)) (name_at 2 r) ≡ Greater
behind_all place [] ts is n far r there = absurd there
behind_all place (q ∷ rs) ts is n far r (inl same) =
    let f = first_counted judgement_from place (shown_judgement q) (map shown_judgement rs) ts is in
    let at : column q 2 ≡ Int (pos place) = judgement_place place (shown_judgement q) f.0 f.2 in
    let named : name_at 2 r ≡ number_letters (pos place) = ap (name_at 2) same ∙ ap letters at in
    ap (names_cmp (number_letters (pos n))) named ∙ turned (number_letters (pos place)) (number_letters (pos n)) Less (letters_below place n (omega (arith, far)))
behind_all place (q ∷ rs) ts is n far r (inr there) =
    let f = first_counted judgement_from place (shown_judgement q) (map shown_judgement rs) ts is in
    behind_all (suc place) rs f.1 f.3 n (omega (arith, far)) r there

-- judgements that are written one after another, the first at this place
pub cell_place : (site page : List ℕ) (place : ℕ) (js : List Judgement) (x : Row) → Has (judgements_cells site page place js) x → (n : ℕ) × (place ≤ n) × (name_at 2 x ≡ number_letters (pos n))
cell_place site page place [] x there = absurd there
cell_place site page place (j ∷ js) x (inl same) = (place, omega arith, ap (name_at 2) same)
cell_place site page place (j ∷ js) x (inr there) = let c = cell_place site page (suc place) js x there in (c.0, omega (arith, c.1), c.2)

judgements_above : (site page : List ℕ) (r : Row) (k : ℕ) → name_at 2 r ≡ number_letters (pos k) → (place : ℕ) → k < place → (js : List Judgement) → All (IsBelow (name_at 2) r) (judgements_cells site page place js)
judgements_above site page r k named place less [] = All-nil (IsBelow (name_at 2) r)
judgements_above site page r k named place less (j ∷ js) =
    All-cons (IsBelow (name_at 2) r) (judgement_cells site page place j) (judgements_cells site page (suc place) js) (ap (λ n. names_cmp n (number_letters (pos place))) named ∙ letters_below k place less)
    (judgements_above site page r k named (suc place) (omega (arith, less)) js)

pub judgements_in_order : (site page : List ℕ) (place : ℕ) (js : List Judgement) → IsInOrder (name_at 2) (judgements_cells site page place js)
judgements_in_order site page place [] = in_order_none (name_at 2)
judgements_in_order site page place (j ∷ js) =
    in_order_cons (name_at 2) (judgement_cells site page place j) (judgements_cells site page (suc place) js) (judgements_above site page (judgement_cells site page place j) place refl (suc place) (omega arith) js)
    (judgements_in_order site page (suc place) js)

pub judgements_back : (site page : List ℕ) (place : ℕ) (js ks : List Judgement) → read_counted judgement_from place (map shown_judgement (judgements_cells site page place js)) ≡ Some ks → ks ≡ js
judgements_back site page place [] ks is = sym (some_same [] ks is)
judgements_back site page place (j ∷ js) ks is =
    let f = first_counted judgement_from place (shown_judgement (judgement_cells site page place j)) (map shown_judgement (judgements_cells site page (suc place) js)) ks is in
    f.4 ∙ ap₂ (λ x xs. x ∷ xs) (judgement_back site page place j f.0 f.2) (judgements_back site page (suc place) js f.1 f.3)

-- ---- outcomes

told_by : (o p : OutRow) (s r n : Option ℕ) (a : Option Auto) (w : Option Reason) (l : Option Auto) → IfSome r (λ x. x ≡ o.rule.0) → IfSome n (λ x. x ≡ o.node.0) → IfSome a (λ x. x ≡ o.auto)
    → IfSome w (λ x. x ≡ o.reason) → IfSome l (λ x. x ≡ o.last)
    → (s >>= (λ _. r >>= (λ rule. n >>= (λ node. a >>= (λ auto. w >>= (λ reason. l >>= (λ last. Some (record { rule = record { 0 = rule }; node = record { 0 = node }; auto = auto; reason = reason; evidence = o.evidence; last = last; hand = o.hand })))))))) ≡ Some p
    → p ≡ o
told_by o p None r n a w l pr pn pa pw pl is = absurd (none_some p is)
told_by o p (Some s) None n a w l pr pn pa pw pl is = absurd (none_some p is)
told_by o p (Some s) (Some r) None a w l pr pn pa pw pl is = absurd (none_some p is)
told_by o p (Some s) (Some r) (Some n) None w l pr pn pa pw pl is = absurd (none_some p is)
told_by o p (Some s) (Some r) (Some n) (Some a) None l pr pn pa pw pl is = absurd (none_some p is)
told_by o p (Some s) (Some r) (Some n) (Some a) (Some w) None pr pn pa pw pl is = absurd (none_some p is)
told_by o p (Some s) (Some r) (Some n) (Some a) (Some w) (Some l) pr pn pa pw pl is =
    sym (some_same {A = OutRow} (record { rule = record { 0 = r }; node = record { 0 = n }; auto = a; reason = w; evidence = o.evidence; last = l; hand = o.hand }) p is)
    ∙ (λ i. record { rule = record { 0 = pr i }; node = record { 0 = pn i }; auto = pa i; reason = pw i; evidence = o.evidence; last = pl i; hand = o.hand })

outcome_back : (site page : List ℕ) (place : ℕ) (o p : OutRow) → outcome_from place (shown_outcome (outcome_cells site page place o)) ≡ Some p → p ≡ o
unfolding outcome_from
outcome_back site page place o p is =
    told_by o p (place_in place (Int (pos place))) (number_in 65535 (Int (pos o.rule.0))) (number_in 4294967295 (Int (pos o.node.0))) (auto_in (Int (pos (auto_number o.auto))))
    (reason_in (Text (word_of o.reason))) (auto_in (Int (pos (auto_number o.last))))
    (number_if 65535 o.rule.0) (number_if 4294967295 o.node.0) (auto_if o.auto) (reason_if o.reason) (auto_if o.last) is

each_back : (site page : List ℕ) (place : ℕ) (os ps : List OutRow) → read_counted outcome_from place (map shown_outcome (outcomes_cells site page place os)) ≡ Some ps → ps ≡ os
each_back site page place [] ps is = sym (some_same [] ps is)
each_back site page place (o ∷ os) ps is =
    let f = first_counted outcome_from place (shown_outcome (outcome_cells site page place o)) (map shown_outcome (outcomes_cells site page (suc place) os)) ps is in
    f.4 ∙ ap₂ (λ x xs. x ∷ xs) (outcome_back site page place o f.0 f.2) (each_back site page (suc place) os f.1 f.3)

above : (site page : List ℕ) (r : Row) (k : ℕ) → name_at 2 r ≡ number_letters (pos k) → (place : ℕ) → k < place → (os : List OutRow) → All (IsBelow (name_at 2) r) (outcomes_cells site page place os)
above site page r k named place less [] = All-nil (IsBelow (name_at 2) r)
above site page r k named place less (o ∷ os) =
    All-cons (IsBelow (name_at 2) r) (outcome_cells site page place o) (outcomes_cells site page (suc place) os) (ap (λ n. names_cmp n (number_letters (pos place))) named ∙ letters_below k place less)
    (above site page r k named (suc place) (omega (arith, less)) os)

pub cells_in_order : (site page : List ℕ) (place : ℕ) (os : List OutRow) → IsInOrder (name_at 2) (outcomes_cells site page place os)
cells_in_order site page place [] = in_order_none (name_at 2)
cells_in_order site page place (o ∷ os) =
    in_order_cons (name_at 2) (outcome_cells site page place o) (outcomes_cells site page (suc place) os) (above site page (outcome_cells site page place o) place refl (suc place) (omega arith) os)
    (cells_in_order site page (suc place) os)

-- outcomes that are written read as these
pub outcomes_back : (site page : List ℕ) (outcomes : Outcomes) (ps : List OutRow) → read_counted outcome_from 1 (map shown_outcome (outcome_rows site page outcomes)) ≡ Some ps → ps ≡ outcomes.rows
outcomes_back site page outcomes ps is =
    each_back site page 1 outcomes.rows ps (sym (ap (λ (rs : List Row). read_counted outcome_from 1 (map shown_outcome rs)) (in_order_same (name_at 2) (outcomes_cells site page 1 outcomes.rows) (cells_in_order site page 1 outcomes.rows))) ∙ is)
