-- What is told before a call and after it.
use Rattle.std.proofs.Common.{◌≡◌, ℕ, ◌+◌, List, [], ◌++◌, take, drop, Option, Some, None, refl, sym, ap, ◌∙◌}
use Rattle.std.proofs.Math.Seq.{take-add}
use Rattle.std.proofs.lemmas.Option.{none-some, same_Some}
use Rattle.streams.specs.Streams.{unread_told, WasRead, extended_told, Wrote}

-- ---- what is told after a call

-- where something is told after a read, it was told before it with the bytes that were read
pub was_read : {A : Type 0} (unread : List ℕ → A → A) (bytes : List ℕ) (old new : Option A) (t : A) → WasRead unread bytes old new → new ≡ Some t → old ≡ Some (unread bytes t)
was_read unread bytes old new t read is = read ∙ ap (unread_told unread bytes) is

-- where something is told after a write, it was told before it
pub was_written : {A : Type 0} (extended : A → List ℕ → A) (bytes : List ℕ) (old new : Option A) (t : A) → Wrote extended bytes old new → new ≡ Some t → (s : A) × (old ≡ Some s) × (t ≡ extended s bytes)
was_written extended bytes None new t wrote is = absurd (none-some t (sym wrote ∙ is))
was_written extended bytes (Some s) new t wrote is = (s, refl, same_Some t (extended s bytes) (sym is ∙ wrote))

-- ---- one write after another

-- nothing was written yet
pub wrote_none : {A : Type 0} (extended : A → List ℕ → A) (same : (t : A) → extended t [] ≡ t) (a : Option A) → Wrote extended [] a a
wrote_none extended same None = refl
wrote_none extended same (Some t) = ap Some (sym (same t))

twice : {A : Type 0} (extended : A → List ℕ → A) (join : (t : A) (x y : List ℕ) → extended (extended t x) y ≡ extended t (x ++ y)) (a : Option A) (x y : List ℕ) →
    extended_told extended (extended_told extended a x) y ≡ extended_told extended a (x ++ y)
twice extended join None x y = refl
twice extended join (Some t) x y = ap Some (join t x y)

-- a write after a front of the bytes was written
pub wrote_more : {A : Type 0} (extended : A → List ℕ → A) (join : (t : A) (x y : List ℕ) → extended (extended t x) y ≡ extended t (x ++ y)) (a b c : Option A) (bytes rest : List ℕ) (at n : ℕ) →
    Wrote extended (take at bytes) a b → rest ≡ drop at bytes → Wrote extended (take n rest) b c → Wrote extended (take (at + n) bytes) a c
wrote_more extended join a b c bytes rest at n before same now =
    now ∙ ap (λ o. extended_told extended o (take n rest)) before ∙ twice extended join a (take at bytes) (take n rest)
    ∙ ap (extended_told extended a) (ap (λ r. take at bytes ++ take n r) same ∙ sym (take-add at n bytes))
