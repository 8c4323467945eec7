-- What is shown, among rows and among what is seen of them.
use Rattle.std.proofs.Common.{◌≡◌, ◌&&◌, List, [], ◌∷◌, ◌++◌, map, if◌then◌else◌, refl, sym, ap, ◌∙◌}
use Rattle.std.specs.List.{flat_map}
use Rattle.snap_tree.specs.declared.row.Body.{Body}
use Rattle.snap_tree.specs.declared.row.Body.TheVariants.{Element, Words}
use Rattle.snap_tree.specs.declared.row.Row.{Row}
use Rattle.snap_tree.specs.Trees.{Trees, rows_of}
use Rattle.acc_tree.specs.Seen.{seen_body, seen_row, seen}
use Rattle.acc_tree.proofs.Finding.{rows_seen}
use Rattle.rules_more.specs.ShownText.{text_of, shown_of, all_shown}

text_seen : (b : Body) → text_of (seen_body b) ≡ text_of b
text_seen (Element space tag attrs) = refl
text_seen (Words text) = refl

row_seen : (row : Row) → shown_of (seen_row row) ≡ shown_of row
row_seen row = ap (λ text. if row.facts.rendered && row.facts.visible then text else []) (text_seen row.body)

among_seen : (rows : List Row) → flat_map shown_of (map seen_row rows) ≡ flat_map shown_of rows
among_seen [] = refl
among_seen (row ∷ rows) = λ i. row_seen row i ++ among_seen rows i

pub shown_seen : (t : Trees) → flat_map shown_of (rows_of t) ≡ all_shown (seen t)
shown_seen t = sym (ap (flat_map shown_of) (rows_seen t) ∙ among_seen (rows_of t))
