-- Values that are read one after another.
use Rattle.std.proofs.Common.{◌≡◌, Option, Some, None, option_map, refl, sym}
use Rattle.std.specs.Prelude.{IsSome}
use Rattle.store_tables.specs.Reading.{◌>>=◌}

pub some_same : {A : Type 0} (x y : A) → ◌≡◌ {A = Option A} (Some x) (Some y) → x ≡ y
some_same x y e = cc

pub none_some : {A : Type 0} (x : A) → ◌≡◌ {A = Option A} None (Some x) → ⊥
none_some x e = cc

-- where a step reads and the next one too, both do
pub both_read : {A B : Type 0} (o : Option A) (next : A → Option B) (y : B) → (o >>= next) ≡ Some y → (x : A) × (o ≡ Some x) × (next x ≡ Some y)
both_read None next y is = absurd (none_some y is)
both_read (Some x) next y is = (x, refl, is)

-- where a row that was looked for reads, it was found
pub found_reads : {A : Type 0} (o : Option A) (x : Option A) → option_map Some o ≡ Some x → (a : A) × (o ≡ Some a) × (x ≡ Some a)
found_reads None x is = absurd (none_some x is)
found_reads (Some a) x is = (a, refl, sym (some_same (Some a) x is))

-- what is some is this
pub some_of : {A : Type 0} (o : Option A) → IsSome o → (x : A) × (o ≡ Some x)
some_of None h = absurd cc
some_of (Some x) h = (x, refl)
