-- Rows that come in any order, put in order of their names. Of rows with one name the last stays.
use Rattle.std.specs.Prelude.{ℕ, List, []}
use Rattle.named_rows.specs.ByName.{put_rows}

abbrev pub in_order : {T : Type 0} → (T → List ℕ) → List T → List T
in_order name rows = put_rows name rows []
