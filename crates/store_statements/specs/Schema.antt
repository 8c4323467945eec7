-- The tables of the store.
use Rattle.std.specs.Prelude.{true, false, [], ◌∷◌, ◌++◌, None, codes, List, ℕ, suc, map, take}
use Rattle.sqlite_value.specs.declared.keys.Collation.TheVariants.{Binary}
use Rattle.sqlite_value.specs.declared.value.Value.TheVariants.{Null}
use Rattle.sqlite_value.specs.Keys.{plain}
use Rattle.sqlite_schema.specs.declared.schema.Column.{Column}
use Rattle.sqlite_schema.specs.declared.schema.Index.{Index}
use Rattle.sqlite_schema.specs.declared.schema.Kind.{Kind}
use Rattle.sqlite_schema.specs.declared.schema.Kind.TheVariants.{Integer, Text, Blob}
use Rattle.sqlite_schema.specs.declared.schema.Table.{Table}
use Rattle.sqlite_schema.specs.declared.schema.Schema.{Schema}

-- a column of a STRICT table that is NOT NULL
abbrev pub column_of : List ℕ → Kind → Column
column_of name kind = record { name = name; kind = kind; is_strict = true; not_null = true; default = Null; collation = Binary }

-- a STRICT table with a primary key
abbrev pub table_of : List ℕ → ℕ → List Column → List ℕ → Table
table_of name tree columns key = record {
  name = name;
  tree = tree;
  columns = columns;
  key = None;
  primary = key;
  uniques = key ∷ [];
  orders = plain ∷ [];
  checks = [];
  references = [];
  computed = [];
  stamps = record { places = []; terms = []; formats = [] };
  is_counted = false;
}

abbrev pub sites_table : Table
sites_table = table_of (codes "sites") 0 (column_of (codes "name") Text ∷ column_of (codes "counter") Integer ∷ []) (1 ∷ [])

abbrev pub members_table : Table
members_table = table_of (codes "members") 2 (column_of (codes "site") Text ∷ column_of (codes "user") Text ∷ column_of (codes "role") Integer ∷ []) (1 ∷ 2 ∷ [])

abbrev pub pages_table : Table
pages_table = table_of (codes "pages") 4
    (column_of (codes "site") Text ∷ column_of (codes "page") Text ∷ column_of (codes "rev") Integer ∷ column_of (codes "hand") Text ∷ column_of (codes "snapshot") Blob ∷ []) (1 ∷ 2 ∷ [])

abbrev pub judgements_table : Table
judgements_table = table_of (codes "judgements") 6
    (column_of (codes "site") Text ∷ column_of (codes "page") Text ∷ column_of (codes "seq") Integer ∷ column_of (codes "rule") Integer ∷ column_of (codes "node") Integer
    ∷ column_of (codes "verdict") Integer ∷ column_of (codes "hand") Text ∷ column_of (codes "note") Text ∷ column_of (codes "evidence") Text ∷ [])
    (1 ∷ 2 ∷ 3 ∷ [])

abbrev pub outcomes_table : Table
outcomes_table = table_of (codes "outcomes") 8
    (column_of (codes "site") Text ∷ column_of (codes "page") Text ∷ column_of (codes "seq") Integer ∷ column_of (codes "rule") Integer ∷ column_of (codes "node") Integer
    ∷ column_of (codes "auto") Integer ∷ column_of (codes "reason") Text ∷ column_of (codes "evidence") Text ∷ column_of (codes "last") Integer ∷ column_of (codes "hand") Text ∷ [])
    (1 ∷ 2 ∷ 3 ∷ [])

abbrev pub edition_table : Table
edition_table = table_of (codes "edition") 10 (column_of (codes "number") Integer ∷ []) (1 ∷ [])

abbrev pub languages_table : Table
languages_table = table_of (codes "languages") 12 (column_of (codes "site") Text ∷ column_of (codes "seq") Integer ∷ column_of (codes "tag") Text ∷ []) (1 ∷ 2 ∷ [])

-- in the order in which they are made; stores that were made before languages were kept have the first six
abbrev pub the_tables : List Table
the_tables = sites_table ∷ members_table ∷ pages_table ∷ judgements_table ∷ outcomes_table ∷ edition_table ∷ languages_table ∷ []

-- the index that SQLite makes for a table's key, in the tree behind the table's
abbrev pub key_index : Table → Index
key_index table = record {
  name = codes "sqlite_autoindex_" ++ (table.name ++ codes "_1");
  tree = suc table.tree;
  table = table.tree;
  columns = table.primary;
  order = plain;
  is_unique = true;
}

abbrev pub schema_of : List Table → Schema
schema_of tables = record { tables = tables; indexes = map key_index tables; views = [] }

-- a store with the first so many of its tables
abbrev pub first_tables : ℕ → Schema
first_tables n = schema_of (take n the_tables)

abbrev pub the_schema : Schema
the_schema = schema_of the_tables

abbrev pub old_schema : Schema
old_schema = first_tables 6
