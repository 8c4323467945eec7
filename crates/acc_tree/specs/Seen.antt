-- What is looked at. Nothing that is said of a page's nodes depends on anything else.
use Rattle.std.specs.Prelude.{ℕ, List, [], filter, Bool, true, false, Option, unwrap_or}
use Rattle.std.specs.Option.{is_some, option_map_or}
use Rattle.snap_tree.specs.declared.row.Attr.{Attr}
use Rattle.snap_tree.specs.declared.row.Body.{Body}
use Rattle.snap_tree.specs.declared.row.Body.TheVariants.{Element, Words}
use Rattle.snap_tree.specs.declared.row.Row.{Row}
use Rattle.snap_tree.specs.Trees.{Trees, empty, tree}
use Rattle.snap_tree.specs.Rows.{attrs_of, attribute}
use Rattle.texts.specs.Words.{blank, same_folded}
use Rattle.acc_tree.specs.declared.attributes.Attribute.{Attribute}
use Rattle.acc_tree.specs.Attributes.{attribute_name, is_aria, is_looked_at}

-- the looked-at attributes, in their order and spelling
abbrev pub seen_body : Body → Body
seen_body (Element space tag attrs) = Element space tag (filter (λ a. is_looked_at a.name) attrs)
seen_body (Words text) = Words text

abbrev pub seen_row : Row → Row
seen_row row = record row { body = seen_body row.body }

abbrev pub seen : Trees → Trees
seen empty = empty
seen (tree row kids after) = tree (seen_row row) (seen kids) (seen after)

-- ---- the attributes of a seen row

-- the value of an attribute; none where it isn't there
abbrev pub attr : Attribute → Row → Option (List ℕ)
attr name row = attribute (attribute_name name) row

abbrev pub has : Attribute → Row → Bool
has name row = is_some (attr name row)

-- the value of an attribute; no character where it isn't there
abbrev pub text_at : Attribute → Row → List ℕ
text_at name row = unwrap_or (attr name row) []

-- an attribute that isn't there is blank
abbrev pub is_blank_at : Attribute → Row → Bool
is_blank_at name row = option_map_or blank (attr name row) true

-- the attribute is there, and its whole value is this keyword
abbrev pub is_keyword : List ℕ → Option (List ℕ) → Bool
is_keyword word value = option_map_or (same_folded word) value false

abbrev pub is_word_at : Attribute → List ℕ → Row → Bool
is_word_at name word row = is_keyword word (attr name row)

-- the attributes whose names begin `aria-`, in their order and as sent
abbrev pub aria_attrs : Row → List Attr
aria_attrs row = filter (λ a. is_aria a.name) (attrs_of row)
