-- What holds of an answer, step by step.
use Rattle.std.proofs.Common.{◌≡◌, ◌<◌, ℕ, suc, Bool, true, false, cond, List, [], ◌∷◌, length, get_or, map, Option, Some, None, IfSome, refl, arith}
use Rattle.std.specs.Option.{option_and_then}
use Rattle.judge_core.specs.declared.judgement.Judgement.{Judgement}
use Rattle.earl_in.specs.Entries.{◌>>=◌}
use Rattle.earl_in.proofs.Effects.{each_is}

pub when : {X : Type 0} (b : Bool) (o : Option X) (P : X → Type 0) → (b ≡ true → IfSome o P) → IfSome (cond b o None) P
when true o P h = h refl
when false o P h = tt

pub after_some : {X Y : Type 0} (o : Option X) (f : X → Option Y) (P : Y → Type 0) → ((x : X) → o ≡ Some x → IfSome (f x) P) → IfSome (option_and_then f o) P
after_some None f P h = tt
after_some (Some x) f P h = h x refl

-- what each entry of a list makes
pub each_at : {X : Type 0} (P : Judgement → Type 0) (f : X → Option Judgement) (xs : List X) → ((k : ℕ) (x : X) → k < length xs → get_or xs k x ≡ x → IfSome (f x) P) → each_is P (map f xs)
each_at P f [] h = tt
each_at P f (x ∷ xs) h = (h 0 x (omega arith) refl, each_at P f xs (λ k y within is. h (suc k) y (deeper k (length xs) within) is))
  where
    deeper : (k n : ℕ) → k < n → suc k < suc n
    deeper k n within = omega (arith, within)

pub each_more : (P Q : Judgement → Type 0) → ((j : Judgement) → P j → Q j) → (entries : List (Option Judgement)) → each_is P entries → each_is Q entries
each_more P Q more [] all = tt
each_more P Q more (None ∷ entries) all = (tt, each_more P Q more entries all.1)
each_more P Q more (Some j ∷ entries) all = (more j all.0, each_more P Q more entries all.1)

-- what holds after a step holds of the answer
pub past : {X Y : Type 0} (P : Y → Type 0) (o : Option X) (next : X → Option Y) → ((x : X) → IfSome (next x) P) → IfSome (o >>= next) P
past P None next h = tt
past P (Some x) next h = h x

pub past_this : {X Y : Type 0} (P : Y → Type 0) (Q : X → Type 0) (o : Option X) (next : X → Option Y) → IfSome o Q → ((x : X) → Q x → IfSome (next x) P) → IfSome (o >>= next) P
past_this P Q None next here h = tt
past_this P Q (Some x) next here h = h x here
