-- What a row says by itself. Tags and attribute names compare with ASCII letters in lower case.
use Rattle.std.specs.Prelude.{◌==◌, ◌&&◌, ◌||◌, ℕ, List, [], ◌∷◌, length, Bool, true, false, nat_lt, if◌then◌else◌, Option, Some, None, option_map}
use Rattle.std.specs.List.{list_any, find}
use Rattle.std.specs.Str.{bytes_eq}
use Rattle.snap_tree.specs.declared.row.NodeId.{NodeId}
use Rattle.snap_tree.specs.declared.row.Space.{Space}
use Rattle.snap_tree.specs.declared.row.Space.TheVariants.{Html, Svg, Other}
use Rattle.snap_tree.specs.declared.row.Attr.{Attr}
use Rattle.snap_tree.specs.declared.row.Body.{Body}
use Rattle.snap_tree.specs.declared.row.Body.TheVariants.{Element, Words}
use Rattle.snap_tree.specs.declared.row.Row.{Row}
use Rattle.snap_tree.specs.declared.fault.TreeFault.{TreeFault}
use Rattle.snap_tree.specs.declared.fault.TreeFault.TheVariants.{TooManyAttrs, TextTooLong, DoubleAttr, EmptyName}
use Rattle.texts.specs.Words.{same_folded}
use Rattle.snap_tree.specs.declared.limits.TheConstants.{MOST_ATTRS, MOST_BYTES}

abbrev pub has_number : NodeId → Row → Bool
has_number n r = r.id.0 == n.0

abbrev pub is_text : Row → Bool
is_text r = is_words r.body
  where
    is_words : Body → Bool
    is_words (Element space tag attrs) = false
    is_words (Words text) = true

abbrev pub is_html_space : Space → Bool
is_html_space Html = true
is_html_space Svg = false
is_html_space Other = false

-- an HTML element of this tag
abbrev pub is_html_body : List ℕ → Body → Bool
is_html_body name (Element space tag attrs) = is_html_space space && same_folded name tag
is_html_body name (Words text) = false

abbrev pub is_html : List ℕ → Row → Bool
is_html name r = is_html_body name r.body

abbrev pub attrs_in : Body → List Attr
attrs_in (Element space tag attrs) = attrs
attrs_in (Words text) = []

abbrev pub attrs_of : Row → List Attr
attrs_of r = attrs_in r.body

-- the value of the first attribute of this name
abbrev pub value_of : List ℕ → List Attr → Option (List ℕ)
value_of name attrs = option_map (λ a. a.value) (find (λ a. same_folded a.name name) attrs)

abbrev pub attribute : List ℕ → Row → Option (List ℕ)
attribute name r = value_of name (attrs_of r)

-- the value is there, and is this text
abbrev pub is_key : List ℕ → Option (List ℕ) → Bool
is_key text None = false
is_key text (Some key) = bytes_eq text key

-- ---- the limits of a row

abbrev pub is_long : List ℕ → Bool
is_long text = nat_lt MOST_BYTES (length text)

-- the text, the tag, or a name or a value of an attribute is too long
abbrev pub has_long : Body → Bool
has_long (Element space tag attrs) = is_long tag || list_any (λ a. is_long a.name || is_long a.value) attrs
has_long (Words text) = is_long text

-- two names are equal when folded
abbrev pub has_double : List Attr → Bool
has_double [] = false
has_double (a ∷ attrs) = list_any (λ b. same_folded a.name b.name) attrs || has_double attrs

abbrev pub is_empty : List ℕ → Bool
is_empty text = length text == 0

-- the tag or the name of an attribute is empty
abbrev pub has_empty : Body → Bool
has_empty (Element space tag attrs) = is_empty tag || list_any (λ a. is_empty a.name) attrs
has_empty (Words text) = false

-- the first fault of a row by itself
unfoldable pub own_fault : Row → Option TreeFault
own_fault r =
    if nat_lt MOST_ATTRS (length (attrs_of r)) then Some (TooManyAttrs r.id)
    else (if has_long r.body then Some (TextTooLong r.id)
    else (if has_double (attrs_of r) then Some (DoubleAttr r.id)
    else (if r.id.0 == 0 || has_empty r.body then Some (EmptyName r.id) else None)))
