-- The rows that nodes had, in the order of the nodes.
use Rattle.std.proofs.Common.{◌≡◌, ◌<◌, ◌+◌, ℕ, zero, suc, List, [], ◌∷◌, ◌++◌, length, map, take, drop, get_or, slice_get, Option, Some, None, option_map, Bor, refl, sym, ◌∙◌, ap}
use Rattle.std.proofs.lemmas.List.{map-append, drop_more, take_more}
use Rattle.std.specs.List.{filter_map}
use Rattle.std.specs.Option.{option_copied}
use Rattle.snap_tree.specs.declared.row.NodeId.{NodeId}
use Rattle.snap_tree.specs.declared.row.Row.{Row}
use Rattle.judge_core.specs.declared.outcomes.OutRow.{OutRow}
use Rattle.judged_rows.specs.Merging.{head_on, after, AreOn}
use Rattle.judged_rows.proofs.Merged.{leads}
use Rattle.reaudit.specs.declared.known.Known.{Known}
use Rattle.reaudit.specs.Before.{joined, kept_at}

-- one node more
pub before_more : (f : NodeId → Option OutRow) → AreOn f → (nodes : List Row) (i : ℕ) (d : Row) (left next : List OutRow) (before now : List (Option (Bor OutRow))) (found : Option (Bor OutRow)) → i < length nodes
    → left ≡ filter_map f (map (λ row. row.id) (drop i nodes)) → map option_copied before ≡ map (λ row. f row.id) (take i nodes) → option_copied found ≡ head_on (get_or nodes i d).id left → next ≡ after (get_or nodes i d).id left → now ≡ before ++ found ∷ []
    → (next ≡ filter_map f (map (λ row. row.id) (drop (i + 1) nodes))) × (map option_copied now ≡ map (λ row. f row.id) (take (i + 1) nodes))
before_more f on nodes i d left next before now found within begins so_far head goes more =
    let node = get_or nodes i d in
    let ns = map (λ (r : Row). r.id) (drop (i + 1) nodes) in
    let cut : drop i nodes ≡ node ∷ drop (i + 1) nodes = drop_more nodes i d within in
    let whole : left ≡ filter_map f (node.id ∷ ns) = begins ∙ ap (λ l. filter_map f (map (λ (r : Row). r.id) l)) cut in
    let step = leads f on node.id ns in
    let first : option_copied found ≡ f node.id = head ∙ ap (head_on node.id) whole ∙ step.0 in (
      goes ∙ ap (after node.id) whole ∙ step.1,
      ap (map option_copied) more ∙ map-append option_copied before (found ∷ []) ∙ (λ j. so_far j ++ first j ∷ [])
          ∙ sym (map-append (λ (r : Row). f r.id) (take i nodes) (node ∷ [])) ∙ ap (map (λ (r : Row). f r.id)) (sym (take_more nodes i d within)),
    )

-- ---- at a place

get_map : {X Y : Type 0} (f : X → Y) (xs : List X) (i : ℕ) → slice_get (map f xs) i ≡ option_map f (slice_get xs i)
get_map f [] i = refl
get_map f (x ∷ xs) zero = refl
get_map f (x ∷ xs) (suc i) = get_map f xs i

pub row_at : (before : List (Option (Bor OutRow))) (known : Known) (row : Option (Bor OutRow)) → Some row ≡ slice_get before known.place → option_copied row ≡ kept_at (map option_copied before) (Some known)
row_at before known row e = ap (λ o. joined (option_map option_copied o)) e ∙ ap joined (sym (get_map option_copied before known.place))

pub no_row : (before : List (Option (Bor OutRow))) (known : Known) → None ≡ slice_get before known.place → None ≡ kept_at (map option_copied before) (Some known)
no_row before known e = ap (λ o. joined (option_map option_copied o)) e ∙ ap joined (sym (get_map option_copied before known.place))
