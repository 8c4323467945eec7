-- The parts of the queries of one table by its key, as they are compiled.
use Rattle.std.specs.Prelude.{◌≡◌, ⊤, ℕ, suc, List, [], ◌∷◌, map, pos, negsuc, None, false}
use Rattle.sqlite_value.specs.declared.value.Value.TheVariants.{Int, Text}
use Rattle.sqlite_value.specs.declared.keys.Collation.TheVariants.{Binary}
use Rattle.sqlite_value.specs.declared.keys.Key.{Key}
use Rattle.sqlite_value.specs.Keys.{ascending}
use Rattle.sqlite_value.specs.Order.{Row, column}
use Rattle.sqlite_sql.specs.declared.ops.BinaryOp.TheVariants.{Compare}
use Rattle.sqlite_sql.specs.declared.ops.CompareOp.TheVariants.{Eq}
use Rattle.sqlite_sql.specs.Term.{Term, lit, col, op2}
use Rattle.sqlite_sql.specs.Query.{Query, inner, end}
use Rattle.sql_rows.specs.Keyed.{KeyKind, text}

-- WHERE: the columns from a place on are the parameters from another on, one for each name
abbrev pub wheres : ℕ → ℕ → List (List ℕ) → List Term
wheres at param [] = []
wheres at param (n ∷ names) = op2 (Compare Eq Binary) (col 1 at) (col 0 param) ∷ wheres (suc at) (suc param) names

-- the parameters from a place on are the names
abbrev pub AreGiven : ℕ → List (List ℕ) → Row → Type 0
AreGiven param [] params = ⊤
AreGiven param (n ∷ names) params = (column params param ≡ Text n) × AreGiven (suc param) names params

-- the first columns of the key are texts, one for each name
abbrev pub BeginWithTexts : List (List ℕ) → List KeyKind → Type 0
BeginWithTexts [] kinds = ⊤
BeginWithTexts (n ∷ names) [] = ⊥
BeginWithTexts (n ∷ names) (k ∷ kinds) = (k ≡ text) × BeginWithTexts names kinds

-- ORDER BY the columns of the key
abbrev pub sorts : ℕ → List KeyKind → List (Term × Key)
sorts at [] = []
sorts at (k ∷ kinds) = (col 1 at, ascending Binary) ∷ sorts (suc at) kinds

-- what is shown of a row: these of its columns
abbrev pub cells_at : List ℕ → Row → Row
cells_at columns row = map (column row) columns

abbrev pub shows : List ℕ → List Term
shows columns = map (λ c. col 1 (suc c)) columns

-- a query of the rows of one table, all that pass WHERE
abbrev pub simple : ℕ → List Term → List Term → List (Term × Key) → Query
simple tree filter project order =
    record { from = inner tree end; filter = filter; group = None; project = project; distinct = false; collations = []; order = order; limit = lit (Int (negsuc 0)); offset = lit (Int (pos 0)) }
