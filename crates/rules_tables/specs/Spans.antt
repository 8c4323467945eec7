-- How many columns and rows a cell spans (HTML, "attributes common to td and th elements").
use Rattle.std.specs.Prelude.{◌==◌, ℕ, List, min, if◌then◌else◌, Option, Some, None, option_and_then}
use Rattle.std.specs.Str.{trim_start}
use Rattle.snap_tree.specs.declared.row.Row.{Row}
use Rattle.acc_tree.specs.declared.attributes.Attribute.TheVariants as attribute
use Rattle.acc_tree.specs.Numbers.{whole_number}
use Rattle.acc_tree.specs.Seen.{attr}
use Rattle.rules_tables.specs.declared.spans.TheConstants.{MOST_COLUMNS, MOST_ROWS}

-- the number that the whole value writes: white space, then digits
abbrev pub span : Option (List ℕ) → Option ℕ
span value = option_and_then (λ text. whole_number (trim_start text)) value

-- a value that isn't there or doesn't read is 1, and so is 0
abbrev pub columns : Option ℕ → ℕ
columns None = 1
columns (Some n) = if n == 0 then 1 else min n MOST_COLUMNS

-- the same of rows, where so many are left in the row group: 0 reaches to its end, and no span past it
abbrev pub rows_within : ℕ → Option ℕ → ℕ
rows_within left None = min 1 left
rows_within left (Some n) = if n == 0 then left else min (min n MOST_ROWS) left

abbrev pub column_span : Row → ℕ
column_span cell = columns (span (attr attribute.Colspan cell))

abbrev pub row_span : ℕ → Row → ℕ
row_span left cell = rows_within left (span (attr attribute.Rowspan cell))
