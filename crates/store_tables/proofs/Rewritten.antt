-- Outcomes that are stored and read are the rows that are written of them.
use Rattle.std.proofs.Common.{◌≡◌, ℕ, zero, suc, pos, List, [], ◌∷◌, map, Bool, true, false, cond, nat_le, Some, None, sym, ap, ◌∙◌}
use Rattle.std.specs.Prelude.{negsuc}
use Rattle.sqlite_value.specs.declared.value.Value.{Value}
use Rattle.sqlite_value.specs.declared.value.Value.TheVariants.{Null, Int, Real, Text, Blob}
use Rattle.sqlite_value.specs.Order.{Row, column}
use Rattle.sqlite.specs.State.{State}
use Rattle.rule_core.specs.declared.reason.Reason.{Reason}
use Rattle.rule_core.specs.declared.verdict.Auto.{Auto}
use Rattle.rule_core.specs.declared.verdict.Auto.TheVariants.{Passed, Failed, CantTell}
use Rattle.rule_core.specs.Words.{word_of}
use Rattle.rule_core.proofs.WordLaws.{known}
use Rattle.judge_core.specs.declared.outcomes.OutRow.{OutRow}
use Rattle.store_statements.specs.Stored.{stored, outcomes_of, outcomes_at}
use Rattle.store_statements.specs.Changes.{IsStore}
use Rattle.store_statements.proofs.OutcomeRows.{shown_outcome, named_outcome, outcomes_whole}
use Rattle.store_tables.specs.Reading.{◌>>=◌, read_counted}
use Rattle.store_tables.specs.Cells.{number_in, place_in, text_in, auto_of, auto_in, auto_number, reason_in}
use Rattle.store_tables.specs.Outcomes.{outcome_from, outcome_cells, outcomes_cells}
use Rattle.store_tables.proofs.Steps.{some_same, none_some, both_read}
use Rattle.store_tables.proofs.Counted.{first_counted}
use Rattle.store_tables.proofs.Written.{place_is}

-- ---- values

number_is : (most : ℕ) (v : Value) (n : ℕ) → number_in most v ≡ Some n → v ≡ Int (pos n)
number_is most Null n is = absurd (none_some n is)
number_is most (Int (pos m)) n is = by (nat_le m most) is
  where
    by : (b : Bool) → cond b (Some m) None ≡ Some n → Int (pos m) ≡ Int (pos n)
    by true is = ap (λ k. Int (pos k)) (some_same m n is)
    by false is = absurd (none_some n is)
number_is most (Int (negsuc m)) n is = absurd (none_some n is)
number_is most (Real x) n is = absurd (none_some n is)
number_is most (Text t) n is = absurd (none_some n is)
number_is most (Blob b) n is = absurd (none_some n is)

text_is : (v : Value) (t : List ℕ) → text_in v ≡ Some t → v ≡ Text t
text_is Null t is = absurd (none_some t is)
text_is (Int n) t is = absurd (none_some t is)
text_is (Real x) t is = absurd (none_some t is)
text_is (Text u) t is = ap Text (some_same u t is)
text_is (Blob b) t is = absurd (none_some t is)

auto_is : (v : Value) (a : Auto) → auto_in v ≡ Some a → v ≡ Int (pos (auto_number a))
auto_is Null a is = absurd (none_some a is)
auto_is (Int (pos n)) a is = by n is
  where
    by : (n : ℕ) → auto_of n ≡ Some a → Int (pos n) ≡ Int (pos (auto_number a))
    by zero is = ap (λ b. Int (pos (auto_number b))) (some_same Passed a is)
    by (suc zero) is = ap (λ b. Int (pos (auto_number b))) (some_same Failed a is)
    by (suc (suc zero)) is = ap (λ b. Int (pos (auto_number b))) (some_same CantTell a is)
    by (suc (suc (suc n))) is = absurd (none_some a is)
auto_is (Int (negsuc n)) a is = absurd (none_some a is)
auto_is (Real x) a is = absurd (none_some a is)
auto_is (Text t) a is = absurd (none_some a is)
auto_is (Blob b) a is = absurd (none_some a is)

reason_is : (v : Value) (r : Reason) → reason_in v ≡ Some r → v ≡ Text (word_of r)
reason_is Null r is = absurd (none_some r is)
reason_is (Int n) r is = absurd (none_some r is)
reason_is (Real x) r is = absurd (none_some r is)
reason_is (Text w) r is = ap Text (known w r is)
reason_is (Blob b) r is = absurd (none_some r is)

-- ---- rows

outcome_is : (site page : List ℕ) (place : ℕ) (r : Row) (o : OutRow) → outcome_from place (shown_outcome r) ≡ Some o → named_outcome site page (shown_outcome r) ≡ outcome_cells site page place o
unfolding outcome_from
outcome_is site page place r o is =
    let seq = both_read (place_in place (column r 2)) _ o is in
    let rule = both_read (number_in 65535 (column r 3)) _ o seq.2 in
    let node = both_read (number_in 4294967295 (column r 4)) _ o rule.2 in
    let auto = both_read (auto_in (column r 5)) _ o node.2 in
    let reason = both_read (reason_in (column r 6)) _ o auto.2 in
    let evidence = both_read (text_in (column r 7)) _ o reason.2 in
    let last = both_read (auto_in (column r 8)) _ o evidence.2 in
    let hand = both_read (text_in (column r 9)) _ o last.2 in
    (λ i. Text site ∷ Text page ∷ place_is place (column r 2) seq.0 seq.1 i ∷ number_is 65535 (column r 3) rule.0 rule.1 i ∷ number_is 4294967295 (column r 4) node.0 node.1 i
    ∷ auto_is (column r 5) auto.0 auto.1 i ∷ reason_is (column r 6) reason.0 reason.1 i ∷ text_is (column r 7) evidence.0 evidence.1 i ∷ auto_is (column r 8) last.0 last.1 i
    ∷ text_is (column r 9) hand.0 hand.1 i ∷ [])
    ∙ ap (outcome_cells site page place)
    (some_same {A = OutRow} (record { rule = record { 0 = rule.0 }; node = record { 0 = node.0 }; auto = auto.0; reason = reason.0; evidence = evidence.0; last = last.0; hand = hand.0 }) o hand.2)

each_is : (site page : List ℕ) (place : ℕ) (rs : List Row) (os : List OutRow) → read_counted outcome_from place (map shown_outcome rs) ≡ Some os → map (named_outcome site page) (map shown_outcome rs) ≡ outcomes_cells site page place os
each_is site page place [] os is = ap (outcomes_cells site page place) (some_same [] os is)
each_is site page place (r ∷ rs) os is =
    let f = first_counted outcome_from place (shown_outcome r) (map shown_outcome rs) os is in
    (λ i. outcome_is site page place r f.0 f.2 i ∷ each_is site page (suc place) rs f.1 f.3 i) ∙ sym (ap (outcomes_cells site page place) f.4)

pub outcomes_written : (s : State) → IsStore s → (site page : List ℕ) (os : List OutRow) → read_counted outcome_from 1 (outcomes_at site page (stored s.now.trees)) ≡ Some os
    → outcomes_of site page (stored s.now.trees) ≡ outcomes_cells site page 1 os
outcomes_written s store site page os is = sym (outcomes_whole site page s store) ∙ each_is site page 1 (outcomes_of site page (stored s.now.trees)) os is
