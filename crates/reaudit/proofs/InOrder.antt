-- Pages that hold the same nodes in the same order.
use Rattle.std.proofs.Common.{◌≡◌, ◌==◌, ◌||◌, ◌&&◌, ◌+◌, ℕ, List, [], ◌∷◌, map, Bool, true, false, if◌then◌else◌, Option, Some, refl, sym, ◌∙◌, ap, arith}
use Rattle.std.proofs.lemmas.Bool.Decides.{Decides-eqb, nat_tests}
use Rattle.std.specs.List.{list_any}
use Rattle.snap_tree.specs.declared.row.NodeId.{NodeId}
use Rattle.snap_tree.specs.declared.row.Row.{Row}
use Rattle.snap_tree.specs.Rows.{has_number}
use Rattle.snap_tree.specs.Trees.{Trees, Document, rows_of}
use Rattle.snap_tree.specs.Well.{AreApart, IsWell}
use Rattle.acc_tree.specs.Seen.{seen}
use Rattle.acc_tree.proofs.Finding.{rows_seen}
use Rattle.page_keys.proofs.Pages.{page_seen}
use Rattle.page_changes.specs.declared.flags.Flags.{Flags}
use Rattle.page_changes.specs.Flags.{flags_of}
use Rattle.page_keys.specs.PageKeys.{same_langs}
use Rattle.reaudit.specs.declared.known.Known.{Known}
use Rattle.reaudit.specs.declared.known.Placed.{Placed}
use Rattle.reaudit.specs.Known.{first_known, placed_of, ArePlaced, same_nodes, in_order}
use Rattle.reaudit.proofs.Kept.{map_seen}

abbrev all_flags : Trees → Trees → List Row → List Flags
all_flags old new rows = map (λ row. flags_of old new row.id) rows

same : (n : ℕ) → (n == n) ≡ true
same n = grind (arith, nat_tests)

turned : (m n : ℕ) → (m == n) ≡ false → (n == m) ≡ false
turned m n h = grind (arith, nat_tests)

pub neither : (a b : Bool) → (a || b) ≡ false → (a ≡ false) × (b ≡ false)
neither true b h = cc
neither false b h = (refl, h)

both : (a b : Bool) → (a && b) ≡ true → (a ≡ true) × (b ≡ true)
both true b h = (refl, h)
both false b h = cc

abbrev with_known : Bool → (ℕ → Option Known) → Row → Placed
with_known langs find row = record { node = row.id; known = find row.id.0; langs = langs }

-- a node that stands before others isn't found where these are looked for
later_same : (langs : Bool) (n : NodeId) (k : Known) (find : ℕ → Option Known) (rows : List Row) → list_any (has_number n) rows ≡ false
    → map (with_known langs (λ m. if n.0 == m then Some k else find m)) rows ≡ map (with_known langs find) rows
later_same langs n k find [] h = refl
later_same langs n k find (row ∷ rows) h =
    let parts = neither (row.id.0 == n.0) (list_any (has_number n) rows) h in
    let P : Bool → Placed = λ b. record { node = row.id; known = if b then Some k else find row.id.0; langs = langs } in
    ap (λ b. P b ∷ map (with_known langs (λ m. if n.0 == m then Some k else find m)) rows) (turned row.id.0 n.0 parts.0) ∙ ap (λ l. with_known langs find row ∷ l) (later_same langs n k find rows parts.1)

-- each is found at its own place
in_place : (langs : Bool) (old new : Trees) (from : ℕ) (rows : List Row) → AreApart rows
    → in_order langs from (all_flags old new rows) ≡ map (with_known langs (λ m. first_known from m (all_flags old new rows))) rows
in_place langs old new from [] apart = refl
in_place langs old new from (r ∷ rows) apart =
    let k : Known = record { place = from; flags = flags_of old new r.id } in
    let rest : Option Known = first_known (from + 1) r.id.0 (all_flags old new rows) in
    let P : Bool → Placed = λ b. record { node = r.id; known = if b then Some k else rest; langs = langs } in
    ap (λ b. P b ∷ in_order langs (from + 1) (all_flags old new rows)) (sym (same r.id.0))
    ∙ ap (λ l. P (r.id.0 == r.id.0) ∷ l)
    (in_place langs old new (from + 1) rows apart.1 ∙ sym (later_same langs r.id k (λ n. first_known (from + 1) n (all_flags old new rows)) rows apart.0))

-- what there is of the same nodes
pub of_same : {X : Type 0} (g : NodeId → X) (before rows : List Row) → same_nodes before rows ≡ true → map (λ (row : Row). g row.id) before ≡ map (λ (row : Row). g row.id) rows
of_same g [] [] h = refl
of_same g [] (row ∷ rows) h = cc
of_same g (r ∷ before) [] h = cc
of_same g (r ∷ before) (row ∷ rows) h =
    let parts = both (r.id.0 == row.id.0) (same_nodes before rows) h in
    let one : r.id.0 ≡ row.id.0 = (Decides-eqb r.id.0 row.id.0).0 parts.0 in
    let id : r.id ≡ row.id = ap (λ k. let n : NodeId = record { 0 = k } in n) one in
    (λ i. g (id i) ∷ of_same g before rows parts.1 i)

pub placed_in_order : (old new : Document) (flags : List Flags) (placed : List Placed) → IsWell old.trees → flags ≡ all_flags (seen old.trees) (seen new.trees) (rows_of (seen old.trees)) → same_nodes (rows_of old.trees) (rows_of new.trees) ≡ true
    → (langs : Bool) → langs ≡ same_langs old.langs new.langs → placed ≡ in_order langs 0 flags → ArePlaced old new placed
placed_in_order old new flags placed well is same langs langs_is placed_is =
    let list = same_langs old.langs new.langs in
    placed_is ∙ (λ i. in_order (langs_is i) 0 (is i)) ∙ in_place list (seen old.trees) (seen new.trees) 0 (rows_of (seen old.trees)) (page_seen old.trees well).apart
    ∙ ap (map (λ (row : Row). placed_of old new row.id)) (rows_seen old.trees) ∙ map_seen (placed_of old new) (rows_of old.trees)
    ∙ of_same (placed_of old new) (rows_of old.trees) (rows_of new.trees) same
