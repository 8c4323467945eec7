-- Streams over several reads and writes.
use Rattle.std.proofs.Common.{◌≡◌, ℕ, ◌+◌, ◌<◌, ◌≤◌, List, [], ◌++◌, length, take, drop, Option, Some, None, Ok, refl, sym, ap, ◌∙◌, subst, IfSome, append-nil, append_assoc, length-append, arith}
use Rattle.std.proofs.Math.Seq.{take-append_seam}
use Rattle.std.proofs.lemmas.List.{length-take-le}
use Rattle.std.specs.Io.KnownBytes.{IsAtEnd}
use Rattle.counts.specs.Counts.{next}
use Rattle.streams.specs.Told.{Input, Output}
use Rattle.streams.specs.Streams.{unread_told, WasRead, Read, Wrote, before_left, left_is, after_held, IsReadTo, Took, BrokeOff}
use Rattle.streams.proofs.Told.{wrote_none, wrote_more}

-- ---- writing

-- nothing was written yet
pub took_none : (a : Output) → Took a a []
took_none a = record { wrote = wrote_none after_held append-nil a.held; no_fault = refl }

-- a write after a front of the bytes was written
pub took_more : (a b c : Output) (bytes rest : List ℕ) (at n : ℕ) → Took a b (take at bytes) → rest ≡ drop at bytes → Wrote after_held (take n rest) b.held c.held → c.faults ≡ b.faults → Took a c (take (at + n) bytes)
took_more a b c bytes rest at n before same now kept = record {
  wrote = wrote_more after_held append_assoc a.held b.held c.held bytes rest at n before.wrote same now;
  no_fault = kept ∙ before.no_fault;
}

-- a write that failed after a front of the bytes was written
pub broke_off : (a b c : Output) (bytes : List ℕ) (at : ℕ) → Took a b (take at bytes) → at < length bytes → c.held ≡ b.held → c.faults ≡ next b.faults → BrokeOff a c bytes
broke_off a b c bytes at before more kept fault =
    record { wrote = (at, more, kept ∙ before.wrote); fault = fault ∙ ap next before.no_fault }

-- ---- reading

-- nothing was read yet
pub gave_none : (bytes : List ℕ) (a : Option (List ℕ)) → bytes ≡ [] → WasRead before_left bytes a a
gave_none bytes None none = refl
gave_none bytes (Some x) none = ap (λ l. Some (l ++ x)) (sym none)

twice : (bytes more : List ℕ) (c : Option (List ℕ)) → unread_told before_left bytes (unread_told before_left more c) ≡ unread_told before_left (bytes ++ more) c
twice bytes more None = refl
twice bytes more (Some z) = ap Some (sym (append_assoc bytes more z))

both : (a b c : Option (List ℕ)) (bytes more : List ℕ) → WasRead before_left bytes a b → WasRead before_left more b c → WasRead before_left (bytes ++ more) a c
both a b c bytes more before now = before ∙ ap (unread_told before_left bytes) now ∙ twice bytes more c

-- a read after others
pub gave_more : (a b c : Option (List ℕ)) (bytes given new buf : List ℕ) (n : ℕ) → WasRead before_left bytes a b → new ≡ bytes ++ given → given ≡ take n buf → WasRead before_left (take n buf) b c → WasRead before_left new a c
gave_more a b c bytes given new buf n before grown same now =
    let P : List ℕ → Type 0 = λ taken. WasRead before_left taken a c in
    subst P (ap (λ l. bytes ++ l) (sym same) ∙ sym grown) (both a b c bytes (take n buf) before now)

-- no more is read than a limit
pub read_within : (a b c : Option (List ℕ)) (bytes buf : List ℕ) (limit n : ℕ) → length bytes + n ≤ limit → n ≤ length buf → WasRead before_left bytes a b → WasRead before_left (take n buf) b c →
    (read : List ℕ) × (length read ≤ limit) × WasRead before_left read a c
read_within a b c bytes buf limit n within fits before now =
    (bytes ++ take n buf, omega (arith, within, length-append bytes (take n buf), length-take-le n buf fits), both a b c bytes (take n buf) before now)

at_end : (a c : Option (List ℕ)) → ((left : List ℕ) → c ≡ Some left → left ≡ []) → IfSome a (λ _. IsAtEnd c)
at_end None c none = tt
at_end (Some x) None none = tt
at_end (Some x) (Some y) none = none y refl

-- a read that gave nothing found nothing left
pub read_to_end : (a c : Input) (b : Option (List ℕ)) (bytes buf : List ℕ) (limit n : ℕ) → length bytes ≤ limit → WasRead before_left bytes a.left b → Read before_left left_is buf b c.left (Ok n) → n ≡ 0 → IsReadTo limit a c bytes
read_to_end a c b bytes buf limit n within before now none =
    let P : ℕ → Type 0 = λ k. WasRead before_left (take k buf) b c.left in
    let Q : List ℕ → Type 0 = λ given. WasRead before_left given a.left c.left in
    record {
      front = subst Q (append-nil bytes) (both a.left b c.left bytes [] before (subst P none now.0));
      within = within;
      end = λ _. at_end a.left c.left (now.1 none);
    }

-- a buffer that was written whole
pub whole : {A : Type 0} (buf rest : List A) (n : ℕ) → n ≡ length buf → take n (buf ++ rest) ≡ buf
whole buf rest n all = ap (λ k. take k (buf ++ rest)) all ∙ take-append_seam buf rest
