-- Rows that come in order of their names.
use Rattle.std.specs.Prelude.{◌≡◌, ⊤, ℕ, List, [], ◌∷◌}
use Rattle.std.specs.declared.cmp.Ordering.TheVariants.{Less}
use Rattle.named_rows.specs.ByName.{names_cmp}

-- a row's name is below that of the first of others
abbrev pub ComesFirst : {T : Type 0} → (T → List ℕ) → T → List T → Type 0
ComesFirst name row [] = ⊤
ComesFirst name row (first ∷ rows) = names_cmp (name row) (name first) ≡ Less
