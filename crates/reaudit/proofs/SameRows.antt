-- Rows that the test takes for the same are equal, and pages that have such rows have equal trees.
use Rattle.std.proofs.Common.{◌≡◌, ◌&&◌, List, [], ◌∷◌, Bool, true, refl, sym, ◌∙◌, ap}
use Rattle.std.specs.Cmp.{first_so, second_so}
use Rattle.std.specs.Cmp.Lexicographic.{pointwise, pointwise_decides, bytes_decides}
use Rattle.std.specs.Option.{option_eq}
use Rattle.std.specs.Str.{bytes_eq}
use denote.Enum.Bare.{sameb}
use Rattle.snap_tree.specs.contracts.row.Space as space
use Rattle.snap_tree.specs.declared.row.Body.{Body}
use Rattle.snap_tree.specs.declared.row.Body.TheVariants.{Element, Words}
use Rattle.snap_tree.specs.declared.row.Row.{Row}
use Rattle.snap_tree.specs.Trees.{Trees, rows_of}
use Rattle.snap_tree.specs.Grown.{grown}
use Rattle.page_keys.specs.Same.{same_node, same_attr, same_facts}
use Rattle.page_keys.proofs.Tests.{options, nodes, attrs, spaces, facts}
use Rattle.reaudit.specs.SameRows.{same_body, same_row, same_rows}

bodies : (a b : Body) → same_body a b ≡ true → a ≡ b
bodies (Element s tag xs) (Element z other others) h =
    let more = second_so (sameb space.the_type s z) (bytes_eq tag other && pointwise same_attr xs others) h in
    let spaces_same = (spaces s z).0 (first_so (sameb space.the_type s z) (bytes_eq tag other && pointwise same_attr xs others) h) in
    let tags = (bytes_decides tag other).0 (first_so (bytes_eq tag other) (pointwise same_attr xs others) more) in
    let each = (pointwise_decides attrs xs others).0 (second_so (bytes_eq tag other) (pointwise same_attr xs others) more) in
    λ i. Element (spaces_same i) (tags i) (each i)
bodies (Element s tag xs) (Words text) h = cc
bodies (Words text) (Element z other others) h = cc
bodies (Words text) (Words other) h = ap Words ((bytes_decides text other).0 h)

rows : (a b : Row) → same_row a b ≡ true → a ≡ b
rows a b h =
    let last = same_facts a.facts b.facts && same_body a.body b.body in
    let more = second_so (same_node a.id b.id) (option_eq same_node a.parent b.parent && last) h in
    let rest = second_so (option_eq same_node a.parent b.parent) last more in
    let ids = (nodes a.id b.id).0 (first_so (same_node a.id b.id) (option_eq same_node a.parent b.parent && last) h) in
    let parents = (options same_node nodes a.parent b.parent).0 (first_so (option_eq same_node a.parent b.parent) last more) in
    let told = (facts a.facts b.facts).0 (first_so (same_facts a.facts b.facts) (same_body a.body b.body) rest) in
    let body = bodies a.body b.body (second_so (same_facts a.facts b.facts) (same_body a.body b.body) rest) in
    λ i. record { id = ids i; parent = parents i; body = body i; facts = told i }

all_rows : (old new : List Row) → same_rows old new ≡ true → old ≡ new
all_rows [] [] h = refl
all_rows [] (b ∷ bs) h = cc
all_rows (a ∷ xs) [] h = cc
all_rows (a ∷ xs) (b ∷ bs) h =
    let one = rows a b (first_so (same_row a b) (same_rows xs bs) h) in
    let more = all_rows xs bs (second_so (same_row a b) (same_rows xs bs) h) in
    λ i. one i ∷ more i

pub same_trees : (old new : Trees) → grown (rows_of old) ≡ old → grown (rows_of new) ≡ new → same_rows (rows_of old) (rows_of new) ≡ true → old ≡ new
same_trees old new first second h = sym first ∙ ap grown (all_rows (rows_of old) (rows_of new) h) ∙ second
