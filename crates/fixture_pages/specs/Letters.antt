-- Facts by their letters, and parents by their numbers.
use Rattle.std.specs.Prelude.{◌==◌, ℕ, List, Bool, Option, Some, None, if◌then◌else◌}
use Rattle.std.specs.List.{list_any}
use Rattle.snap_tree.specs.declared.row.NodeId.{NodeId}
use Rattle.snap_tree.specs.declared.row.Facts.{Facts}

abbrev pub has_letter : ℕ → List ℕ → Bool
has_letter letter letters = list_any (λ l. l == letter) letters

-- the facts whose letters are there: r (114), v (118), f (102) and t (116)
abbrev pub facts_in : List ℕ → Facts
facts_in letters =
    record { rendered = has_letter 114 letters; visible = has_letter 118 letters; focusable = has_letter 102 letters; tabbable = has_letter 116 letters }

-- a parent's number, where it isn't 0
abbrev pub named : ℕ → Option NodeId
named n = if n == 0 then None else Some (record { 0 = n })
