-- The rows that a rule had, beside the nodes that they are on.
use Rattle.std.proofs.Common.{◌≡◌, ◌<◌, ◌+◌, ℕ, List, [], ◌∷◌, length, map, drop, get_or, Option, Bor, refl, sym, ◌∙◌, ap}
use Rattle.std.proofs.lemmas.List.{drop_more}
use Rattle.std.specs.List.{filter_map}
use Rattle.std.specs.Option.{option_copied}
use Rattle.snap_tree.specs.declared.row.NodeId.{NodeId}
use Rattle.snap_tree.specs.declared.row.Row.{Row}
use Rattle.snap_tree.specs.Trees.{Document, rows_of}
use Rattle.judge_core.specs.declared.outcomes.OutRow.{OutRow}
use Rattle.judged_rows.specs.Merging.{head_on, after, AreOn}
use Rattle.judged_rows.proofs.Merged.{leads}
use Rattle.reaudit.specs.declared.known.Placed.{Placed}
use Rattle.reaudit.specs.Known.{placed_of, ArePlaced}

-- the leading row is that of the next node, where it has one
pub leads_here : (f : NodeId → Option OutRow) → AreOn f → (some : List Placed) (i : ℕ) (d : Placed) (left next : List OutRow) (row : Option (Bor OutRow)) → i < length some
    → left ≡ filter_map f (map (λ p. p.node) (drop i some)) → option_copied row ≡ head_on (get_or some i d).node left → next ≡ after (get_or some i d).node left
    → (option_copied row ≡ f (get_or some i d).node) × (next ≡ filter_map f (map (λ p. p.node) (drop (i + 1) some)))
leads_here f on some i d left next row within begins head goes =
    let p = get_or some i d in
    let ns = map (λ (p : Placed). p.node) (drop (i + 1) some) in
    let cut : drop i some ≡ p ∷ drop (i + 1) some = drop_more some i d within in
    let whole : left ≡ filter_map f (p.node ∷ ns) = begins ∙ ap (λ l. filter_map f (map (λ (p : Placed). p.node) l)) cut in
    let step = leads f on p.node ns in
    (head ∙ ap (head_on p.node) whole ∙ step.0, goes ∙ ap (after p.node) whole ∙ step.1)

numbers_placed : (old new : Document) (rows : List Row) → map (λ (p : Placed). p.node) (map (λ (row : Row). placed_of old new row.id) rows) ≡ map (λ (row : Row). row.id) rows
numbers_placed old new [] = refl
numbers_placed old new (row ∷ rows) = ap (λ ns. row.id ∷ ns) (numbers_placed old new rows)

-- the numbers of the nodes of the new page
pub numbers_are : (old new : Document) (placed : List Placed) → ArePlaced old new placed → map (λ (row : Row). row.id) (rows_of new.trees) ≡ map (λ (p : Placed). p.node) placed
numbers_are old new placed p = sym (ap (map (λ (p : Placed). p.node)) p ∙ numbers_placed old new (rows_of new.trees))
