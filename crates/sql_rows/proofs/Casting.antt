-- Values that a table's columns take as they are.
use Rattle.std.proofs.Common.{◌≡◌, ℕ, ℤ, List, [], ◌∷◌, Bool, true, false, not, cond, Option, Some, None, refl, sym, ap, ap₂, ◌∙◌, true≢false, ◌&&◌}
use Rattle.std.proofs.lemmas.Bool.{and_parts}
use Rattle.sqlite_value.specs.declared.value.Value.{Value}
use Rattle.sqlite_value.specs.declared.value.Value.TheVariants.{Null, Int, Text, Blob}
use Rattle.sqlite_value.specs.Order.{Row}
use Rattle.sqlite_sql.specs.Ops.{unary, is_null}
use Rattle.sqlite_rules.specs.Cast.{cast, cast_all, cast_row}
use Rattle.sqlite_schema.specs.declared.schema.Column.{Column}
use Rattle.sqlite_schema.specs.declared.schema.Kind.{Kind}
use Rattle.sqlite_schema.specs.declared.schema.Kind.TheVariants as kind
use Rattle.sqlite_schema.specs.declared.schema.Table.{Table}
use Rattle.sqlite_schema.specs.declared.command.Conflict.TheVariants.{Replace}
use Rattle.sqlite_schema.specs.Names.{is_key}
use Rattle.sqlite.specs.Rows.{mended, mended_from}

either : (b : Bool) (x : Value) → cond b x x ≡ x
either true x = refl
either false x = refl

pub cast_null : cast kind.Integer Null ≡ Null
unfolding unary
cast_null = either _ Null

pub cast_int : (n : ℤ) → cast kind.Integer (Int n) ≡ Int n
unfolding unary
cast_int n = either _ (Int n)

-- a value that is of a column's kind
abbrev pub is_exact : Kind → Value → Bool
is_exact kind.Integer (Int n) = true
is_exact kind.Text (Text t) = true
is_exact kind.Blob (Blob b) = true
is_exact _ _ = false

abbrev pub are_exact : List Column → Row → Bool
are_exact [] [] = true
are_exact (c ∷ columns) (v ∷ row) = is_exact c.kind v && are_exact columns row
are_exact _ _ = false

cast_same : (k : Kind) (v : Value) → is_exact k v ≡ true → cast k v ≡ v
cast_same kind.Integer (Int n) h = cast_int n
cast_same kind.Text (Text t) h = refl
cast_same kind.Blob (Blob b) h = refl
cast_same _ _ h = absurd (true≢false (sym h))

some_exact : (k : Kind) (v : Value) → is_exact k v ≡ true → is_null v ≡ false
some_exact kind.Integer (Int n) h = refl
some_exact kind.Text (Text t) h = refl
some_exact kind.Blob (Blob b) h = refl
some_exact _ _ h = absurd (true≢false (sym h))

cast_all_same : (columns : List Column) (row : Row) → are_exact columns row ≡ true → cast_all columns row ≡ row
cast_all_same [] [] h = refl
cast_all_same (c ∷ columns) (v ∷ row) h = let parts = and_parts _ _ h in ap₂ (λ x xs. x ∷ xs) (cast_same c.kind v parts.0) (cast_all_same columns row parts.1)
cast_all_same _ _ h = absurd (true≢false (sym h))

-- a value that is there is not replaced by a default
present : (a b n : Bool) (x y : Value) → n ≡ false → cond (a && n && b) x y ≡ y
present true b n x y none = rw none refl
present false b n x y none = refl

mended_same : (key : Option ℕ) (at : ℕ) (columns : List Column) (row : Row) → are_exact columns row ≡ true → mended_from key at columns row ≡ row
mended_same key at [] [] h = refl
mended_same key at (c ∷ columns) (v ∷ row) h =
    let parts = and_parts _ _ h in
    ap₂ (λ x xs. x ∷ xs) (present c.not_null (not (is_key key at)) (is_null v) c.default v (some_exact c.kind v parts.0)) (mended_same key (Rattle.std.proofs.Common.◌+◌ at 1) columns row parts.1)
mended_same key at _ _ h = absurd (true≢false (sym h))

module _ (table : Table) (cells : Row) (exact : are_exact table.columns cells ≡ true) where
  pub source_cast : cast_row table (Null ∷ cells) ≡ Null ∷ cells
  source_cast = ap₂ (λ x xs. x ∷ xs) cast_null (cast_all_same table.columns cells exact)

  pub mended_cast : cast_row table (mended Replace table (Null ∷ cells)) ≡ Null ∷ cells
  mended_cast = ap₂ (λ x xs. x ∷ xs) cast_null (ap (cast_all table.columns) (mended_same table.key 0 table.columns cells exact) ∙ cast_all_same table.columns cells exact)

  pub made_cast : (n : ℤ) → cast_row table (Int n ∷ cells) ≡ Int n ∷ cells
  made_cast n = ap₂ (λ x xs. x ∷ xs) (cast_int n) (cast_all_same table.columns cells exact)
