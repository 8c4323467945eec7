-- What was read of a source means what the source tells, by any meaning of bytes that refuses those beyond the limit on what is read.
use Rattle.std.proofs.Common.{◌≡◌, ℕ, ◌<◌, ◌≤◌, inl, inr, List, ◌++◌, length, Option, Some, None, IfSome, Result, Ok, Err, sym, ap, ◌∙◌, subst, append-nil, length-append, arith}
use Rattle.std.proofs.lemmas.Bool.{cases_lt}
use Rattle.std.proofs.lemmas.Option.{none-some, same_Some}
use Rattle.std.specs.Io.KnownBytes.{IsAtEnd}
use Rattle.streams.specs.Told.{Input}
use Rattle.streams.specs.Streams.{WasRead, before_left, IsReadTo}
use Rattle.audit_run.specs.declared.auditing.TheConstants.{MOST_READ}
use Rattle.audit_run.specs.Audit.{GaveAll}

-- bytes that are as many as are read have one fault
pub record IsLimited {A F : Type 0} (meaning : List ℕ → Result A F) : Type 0 where
  pub fault : F
  pub beyond : (bytes : List ℕ) → MOST_READ ≤ length bytes → meaning bytes ≡ Err fault

not_both : {A F : Type 0} (r : Result A F) (x : A) (fault : F) → r ≡ Ok x → r ≡ Err fault → ⊥
not_both r x fault is not = cc

-- bytes that mean something are fewer
short : {A F : Type 0} (meaning : List ℕ → Result A F) → IsLimited meaning → (bytes : List ℕ) (x : A) → meaning bytes ≡ Ok x → length bytes < MOST_READ
short meaning limited bytes x is =
    elim (cases_lt (length bytes) MOST_READ) [ inl low ↦ low | inr high ↦ absurd (not_both (meaning bytes) x limited.fault is (limited.beyond bytes high)) ]

-- ---- what was read is all that was left

all_left : (a b : Option (List ℕ)) (bytes : List ℕ) → WasRead before_left bytes a b → IfSome a (λ _. IsAtEnd b) → IfSome a (λ left. left ≡ bytes)
all_left None b bytes h end = tt
all_left (Some x) None bytes h end = absurd (none-some x (sym h))
all_left (Some x) (Some y) bytes h end = same_Some x (bytes ++ y) h ∙ ap (λ l. bytes ++ l) end ∙ append-nil bytes

pub gave_all : {A F : Type 0} (meaning : List ℕ → Result A F) → IsLimited meaning → (old new : Input) (bytes : List ℕ) (x : A) → meaning bytes ≡ Ok x → IsReadTo MOST_READ old new bytes → GaveAll old new bytes
gave_all meaning limited old new bytes x is gave =
    let end = gave.end (short meaning limited bytes x is) in
    record { all = all_left old.left new.left bytes gave.front end; end = end }

-- ---- what a source tells

told : (a : Option (List ℕ)) (left bytes : List ℕ) → a ≡ Some left → IfSome a (λ l. l ≡ bytes) → left ≡ bytes
told a left bytes is h = let P : Option (List ℕ) → Type 0 = λ o. IfSome o (λ l. l ≡ bytes) in subst P is h

-- where a source gave bytes up to the limit, it had as many
had_more : (a b : Option (List ℕ)) (left bytes : List ℕ) → a ≡ Some left → WasRead before_left bytes a b → length bytes ≤ length left
had_more a b left bytes is h = had b (sym is ∙ h)
  where
    had : (c : Option (List ℕ)) → WasRead before_left bytes (Some left) c → length bytes ≤ length left
    had None k = absurd (none-some left (sym k))
    had (Some y) k = omega (arith, ap length (same_Some left (bytes ++ y) k), length-append bytes y)

-- bytes that have a fault show that what was left has one
pub all_refused : {A F : Type 0} (meaning : List ℕ → Result A F) → IsLimited meaning → (old new : Input) (left bytes : List ℕ) (x : A) (fault : F)
    → old.left ≡ Some left → IsReadTo MOST_READ old new bytes → meaning bytes ≡ Err fault → meaning left ≡ Ok x → ⊥
all_refused {A = A} {F = F} meaning limited old new left bytes x fault is gave not good =
    elim (cases_lt (length bytes) MOST_READ) [
      | inl low ↦ (let P : List ℕ → Type 0 = λ l. meaning l ≡ Ok x in
          not_both (meaning bytes) x fault (subst P (told old.left left bytes is (all_left old.left new.left bytes gave.front (gave.end low))) good) not)
      | inr high ↦ not_both (meaning left) x limited.fault good (limited.beyond left (omega (arith, had_more old.left new.left left bytes is gave.front)))
    ]

-- what all bytes that were left mean is what those mean that are told
pub same_meaning : {A F : Type 0} (meaning : List ℕ → Result A F) (old new : Input) (left bytes : List ℕ) (x y : A)
    → old.left ≡ Some left → GaveAll old new bytes → meaning left ≡ Ok x → meaning bytes ≡ Ok y → y ≡ x
same_meaning meaning old new left bytes x y is gave this that = both (told old.left left bytes is gave.all)
  where
    both : left ≡ bytes → y ≡ x
    both e = cc (ap meaning e)

-- and those have no fault
pub no_fault : {A F : Type 0} (meaning : List ℕ → Result A F) (old new : Input) (left bytes : List ℕ) (x : A) (fault : F)
    → old.left ≡ Some left → GaveAll old new bytes → meaning left ≡ Err fault → meaning bytes ≡ Ok x → ⊥
no_fault meaning old new left bytes x fault is gave not good =
    not_both (meaning left) x fault (ap meaning (told old.left left bytes is gave.all) ∙ good) not
