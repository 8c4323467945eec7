-- What taking comes to, and that the same taken again adds nothing.
use Rattle.std.proofs.Common.{◌≡◌, ℕ, suc, ◌+◌, true, false, ◌&&◌, cond, List, [], ◌∷◌, ◌++◌, length, map, Option, Some, None, IfSome, refl, sym, ap, subst, ◌∙◌, arith}
use Rattle.std.specs.List.{AllByRecursion, fold}
use Rattle.std.specs.Option.{option_and_then, option_map, IsSomeAnd}
use Rattle.std.specs.Str.{bytes_eq}
use Rattle.std.specs.Cmp.Lexicographic.{bytes_decides}
use Rattle.std.proofs.lemmas.Bool.{and_parts}
use Rattle.rule_core.specs.Brief.{digest}
use Rattle.judge_core.specs.declared.judgement.Judgement.{Judgement}
use Rattle.judge_core.specs.declared.outcomes.OutRow.{OutRow}
use Rattle.judge_core.specs.Composites.{is_open}
use Rattle.judge_core.specs.RowLookups.{row_at}
use Rattle.earl_in.specs.declared.claim.Claim.{Claim}
use Rattle.earl_in.specs.Taking.{judged, judgement_of, stands, with_entry, nothing, taken_of}
use Rattle.earl_in.specs.Effects.{IsJudged, Says, IsSent, Automatic, automatic}
use Rattle.earl_in.proofs.Effects.{all_added, fresh, somes, nones, all_count, taken_count, skipped_count, still, each_stands, counted, all_known}
use Rattle.earl_in.proofs.Chosen.{when, after_some, each_at, each_more}
use Rattle.earl_in.proofs.SameRows.{same_at}

-- ---- what is added

judged_by : (address : List ℕ) (rows : List OutRow) (hand : List ℕ) (claim : Option Claim) → IfSome (judgement_of address rows hand claim) (IsJudged rows hand)
judged_by address rows hand None = tt
judged_by address rows hand (Some c) =
    let P = IsJudged rows hand in
    when (bytes_eq c.subject address) (option_and_then (judged hand c) (row_at c.rule c.node rows)) P (λ page.
    after_some (row_at c.rule c.node rows) (judged hand c) P (λ row at.
    when (is_open row.auto && bytes_eq c.digest (digest row.evidence))
    (Some (record { rule = c.rule; node = c.node; verdict = c.verdict; hand = hand; note = c.note; evidence = row.evidence })) P (λ both. record {
      by_hand = refl;
      row = subst (λ o. IsSomeAnd o (λ (r : OutRow). (is_open r.auto ≡ true) × (row.evidence ≡ r.evidence))) (sym at)
          ((and_parts (is_open row.auto) (bytes_eq c.digest (digest row.evidence)) both).0, refl);
    })))

pub added_are_judged : (address : List ℕ) (rows : List OutRow) (js : List Judgement) (hand : List ℕ) (claims : List (Option Claim))
    → AllByRecursion (IsJudged rows hand) (taken_of address rows js hand claims).added
added_are_judged address rows js hand claims =
    all_added (IsJudged rows hand) js nothing (map (judgement_of address rows hand) claims) tt
    (each_at (IsJudged rows hand) (judgement_of address rows hand) claims (λ k claim within is. judged_by address rows hand claim))

said_by : (address : List ℕ) (rows : List OutRow) (hand : List ℕ) (claim : Option Claim) → IfSome (judgement_of address rows hand claim) (λ j. IsSomeAnd claim (Says address j))
said_by address rows hand None = tt
said_by address rows hand (Some c) =
    let P = λ (j : Judgement). Says address j c in
    when (bytes_eq c.subject address) (option_and_then (judged hand c) (row_at c.rule c.node rows)) P (λ page.
    after_some (row_at c.rule c.node rows) (judged hand c) P (λ row at.
    when (is_open row.auto && bytes_eq c.digest (digest row.evidence))
    (Some (record { rule = c.rule; node = c.node; verdict = c.verdict; hand = hand; note = c.note; evidence = row.evidence })) P (λ both. record {
      subject = (bytes_decides c.subject address).0 page;
      rule = refl;
      node = refl;
      verdict = refl;
      note = refl;
      seen = (bytes_decides c.digest (digest row.evidence)).0 (and_parts (is_open row.auto) (bytes_eq c.digest (digest row.evidence)) both).1;
    })))

past : {X : Type 0} (P Q : X → Type 0) (o : Option X) → ((x : X) → P x → Q x) → IfSome o P → IfSome o Q
past P Q None more h = tt
past P Q (Some x) more h = more x h

pub added_were_sent : (address : List ℕ) (rows : List OutRow) (js : List Judgement) (hand : List ℕ) (claims : List (Option Claim))
    → AllByRecursion (IsSent address claims) (taken_of address rows js hand claims).added
added_were_sent address rows js hand claims =
    all_added (IsSent address claims) js nothing (map (judgement_of address rows hand) claims) tt
    (each_at (IsSent address claims) (judgement_of address rows hand) claims (λ k claim within is.
    past (λ j. IsSomeAnd claim (Says address j)) (IsSent address claims) (judgement_of address rows hand claim) (λ j said. (k, claim, within, is, said)) (said_by address rows hand claim)))

pub added_are_new : (address : List ℕ) (rows : List OutRow) (js : List Judgement) (hand : List ℕ) (claims : List (Option Claim))
    → AllByRecursion (λ j. stands j js ≡ false) (taken_of address rows js hand claims).added
added_are_new address rows js hand claims = fresh js nothing (map (judgement_of address rows hand) claims) tt

-- ---- each entry counts once

sum_up : (a k s n m l : ℕ) → k + a ≡ 0 + 0 + n → s ≡ 0 + m → n + m ≡ l → a + k + s ≡ l
sum_up a k s n m l h i e = omega (arith, h, i, e)

length_map : {X Y : Type 0} (f : X → Y) (xs : List X) → length (map f xs) ≡ length xs
length_map f [] = refl
length_map f (x ∷ xs) = ap suc (length_map f xs)

pub each_counts : (address : List ℕ) (rows : List OutRow) (js : List Judgement) (hand : List ℕ) (claims : List (Option Claim))
    → length (taken_of address rows js hand claims).added + (taken_of address rows js hand claims).known + (taken_of address rows js hand claims).skipped ≡ length claims
each_counts address rows js hand claims =
    let entries = map (judgement_of address rows hand) claims in
    sum_up _ _ _ (somes entries) (nones entries) _ (taken_count js nothing entries) (skipped_count js nothing entries) (all_count entries ∙ length_map (judgement_of address rows hand) claims)

-- ---- again

abbrev judged_of : List ℕ → Claim → Automatic → Option Judgement
judged_of hand c found =
    cond (is_open found.auto && bytes_eq c.digest (digest found.evidence)) (Some (record { rule = c.rule; node = c.node; verdict = c.verdict; hand = hand; note = c.note; evidence = found.evidence })) None

by_found : (hand : List ℕ) (c : Claim) (o : Option OutRow) → option_and_then (judged hand c) o ≡ option_and_then (judged_of hand c) (option_map automatic o)
by_found hand c None = refl
by_found hand c (Some row) = refl

same_entry : (address : List ℕ) (rows after : List OutRow) (hand : List ℕ) → map automatic rows ≡ map automatic after → (claim : Option Claim)
    → judgement_of address after hand claim ≡ judgement_of address rows hand claim
same_entry address rows after hand same None = refl
same_entry address rows after hand same (Some c) =
    ap (λ o. cond (bytes_eq c.subject address) o None)
    (by_found hand c (row_at c.rule c.node after) ∙ ap (option_and_then (judged_of hand c)) (sym (same_at rows after c.rule c.node same)) ∙ sym (by_found hand c (row_at c.rule c.node rows)))

same_map : {X Y : Type 0} (f g : X → Y) → ((x : X) → f x ≡ g x) → (xs : List X) → map f xs ≡ map g xs
same_map f g same [] = refl
same_map f g same (x ∷ xs) = ap (λ y. y ∷ map f xs) (same x) ∙ ap (λ ys. g x ∷ ys) (same_map f g same xs)

from_none : (n k : ℕ) → k ≡ 0 + 0 + n → 0 + n ≡ k
from_none n k h = omega (arith, h)

from_none_skipped : (n k : ℕ) → k ≡ 0 + n → 0 + n ≡ k
from_none_skipped n k h = omega (arith, h)

pub taken_again : (address : List ℕ) (rows after : List OutRow) (js more : List Judgement) (hand : List ℕ) (claims : List (Option Claim)) → map automatic rows ≡ map automatic after
    → taken_of address after (js ++ (taken_of address rows js hand claims).added ++ more) hand claims
    ≡ record { added = []; known = (taken_of address rows js hand claims).known + length (taken_of address rows js hand claims).added; skipped = (taken_of address rows js hand claims).skipped }
taken_again address rows after js more hand claims same =
    let entries = map (judgement_of address rows hand) claims in
    let first = taken_of address rows js hand claims in
    let all = js ++ first.added ++ more in
    let stand = each_more (λ j. stands j (js ++ first.added) ≡ true) (λ j. stands j all ≡ true) (λ j h. still j (js ++ first.added) more h) entries (each_stands js nothing entries) in
    ap (fold (with_entry all) nothing) (same_map (judgement_of address after hand) (judgement_of address rows hand) (same_entry address rows after hand same) claims)
    ∙ all_known all nothing entries stand
    ∙ ap (λ k. counted [] k (0 + nones entries)) (from_none (somes entries) (first.known + length first.added) (taken_count js nothing entries))
    ∙ ap (counted [] (first.known + length first.added)) (from_none_skipped (nones entries) first.skipped (skipped_count js nothing entries))
