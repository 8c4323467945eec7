-- A table whose first columns are its key: texts, and a text or a number as the last of them.
use Rattle.std.specs.Prelude.{◌≡◌, ⊤, ℕ, suc, List, [], ◌∷◌, true, false, None, Some, slice_get, ◌||◌}
use Rattle.sqlite_value.specs.Order.{Row}
use Rattle.sqlite_value.specs.Keys.{plain}
use Rattle.sqlite_rules.specs.Lists.{Has}
use Rattle.sqlite_rules.specs.Keys.{conflicts}
use Rattle.sqlite_rules.specs.Action.{works}
use Rattle.sqlite_schema.specs.Rules.{agree, guards}
use Rattle.sqlite_schema.specs.declared.schema.Column.{Column}
use Rattle.sqlite_schema.specs.declared.schema.Index.{Index}
use Rattle.sqlite_schema.specs.declared.schema.Keys.{Keys}
use Rattle.sqlite_schema.specs.declared.schema.Kind.{Kind}
use Rattle.sqlite_schema.specs.declared.schema.Kind.TheVariants as kind
use Rattle.sqlite_schema.specs.declared.schema.Schema.{Schema}
use Rattle.sqlite_schema.specs.declared.schema.Table.{Table}

-- what stands in a column of a key
pub data KeyKind : Type 0 where
  text : KeyKind
  number : KeyKind

abbrev pub kind_in : KeyKind → Kind
kind_in text = kind.Text
kind_in number = kind.Integer

abbrev pub IsKeyColumn : KeyKind → Column → Type 0
IsKeyColumn k c = (c.is_strict ≡ true) × (c.kind ≡ kind_in k) × (c.not_null ≡ true)

-- the columns from a place on are those of the key
abbrev pub AreKeyColumns : ℕ → List KeyKind → List Column → Type 0
AreKeyColumns at [] columns = ⊤
AreKeyColumns at (k ∷ kinds) columns = ((c : Column) × (slice_get columns at ≡ Some c) × IsKeyColumn k c) × AreKeyColumns (suc at) kinds columns

-- the places of the key in a row, whose rowid stands before the columns
abbrev pub places_from : ℕ → List KeyKind → List ℕ
places_from at [] = []
places_from at (k ∷ kinds) = at ∷ places_from (suc at) kinds

-- a column more than the group has
abbrev pub IsNamedBy : List KeyKind → List (List ℕ) → Type 0
IsNamedBy [] group = ⊥
IsNamedBy (k ∷ []) [] = ⊤
IsNamedBy (k ∷ kinds) (n ∷ group) = IsNamedBy kinds group
IsNamedBy (k ∷ more ∷ kinds) [] = ⊥

-- it is listed, no foreign key acts, and the one unique index is that of the key
pub record IsKeyed (schema : Schema) (table : Table) (kinds : List KeyKind) : Type 0 where
  pub listed : Has schema.tables table
  pub keyless : table.key ≡ None
  pub columns : AreKeyColumns 0 kinds table.columns
  pub index : Index
  pub indexed : Has schema.indexes index
  pub guarded : guards index table ≡ true
  pub order : index.order ≡ plain
  pub places : index.columns ≡ places_from 1 kinds
  pub conflicting : (new row : Row) → conflicts None schema.indexes table new row ≡ (agree plain (0 ∷ []) row (0 ∷ []) new || (agree plain (places_from 1 kinds) row (places_from 1 kinds) new || false))
  pub quiet : (keys : Keys) (olds news : List Row) → works schema keys 0 table.tree olds news ≡ []
