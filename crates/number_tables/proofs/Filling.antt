-- A table that is filled value by value: what it has, or else what is still to come.
use Rattle.std.proofs.Common.{◌≡◌, Bool, true, false, if◌then◌else◌, Option, Some, None, ap}
use Rattle.std.specs.Option.{option_or}

-- nothing is to come
pub or_none : {X : Type 0} (g f : Option X) → option_or g None ≡ f → g ≡ f
or_none None f h = h
or_none (Some x) f h = h

-- one more value is put
pub next_or : {X : Type 0} (g h f : Option X) (x : X) (b : Bool) → h ≡ option_or g (if b then Some x else None) → option_or h f ≡ option_or g (if b then Some x else f)
next_or None h f x true e = ap (λ h. option_or h f) e
next_or None h f x false e = ap (λ h. option_or h f) e
next_or (Some y) h f x b e = ap (λ h. option_or h f) e
