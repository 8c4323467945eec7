-- Whether two pages have the same rows, as a test.
use Rattle.std.specs.Prelude.{◌&&◌, List, Bool, false}
use Rattle.std.specs.Cmp.Lexicographic.{pointwise}
use Rattle.std.specs.Option.{option_eq}
use Rattle.std.specs.Str.{bytes_eq}
use denote.Enum.Bare.{sameb}
use Rattle.snap_tree.specs.contracts.row.Space as space
use Rattle.snap_tree.specs.declared.row.Body.{Body}
use Rattle.snap_tree.specs.declared.row.Body.TheVariants.{Element, Words}
use Rattle.snap_tree.specs.declared.row.Row.{Row}
use Rattle.page_keys.specs.Same.{same_node, same_attr, same_facts}

abbrev pub same_body : Body → Body → Bool
same_body (Element s tag attrs) (Element z other others) = sameb space.the_type s z && (bytes_eq tag other && pointwise same_attr attrs others)
same_body (Element s tag attrs) (Words text) = false
same_body (Words text) (Element z other others) = false
same_body (Words text) (Words other) = bytes_eq text other

abbrev pub same_row : Row → Row → Bool
same_row a b = same_node a.id b.id && (option_eq same_node a.parent b.parent && (same_facts a.facts b.facts && same_body a.body b.body))

abbrev pub same_rows : List Row → List Row → Bool
same_rows old new = pointwise same_row old new
