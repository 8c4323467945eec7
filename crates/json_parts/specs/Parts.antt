-- The items of a list that is the one member of an object, each as a text, and what the whole text is.
use Rattle.std.specs.Prelude.{◌≡◌, ℕ, List, [], ◌∷◌, ◌++◌, Bool, true, false, ◌&&◌, if◌then◌else◌, Option, Some, None, option_map, option_and_then}
use Rattle.std.specs.Str.{IsUtf8, is_utf8}
use Rattle.json.specs.Ascii as ascii
use Rattle.json.specs.Token.{Token}
use Rattle.json.specs.Lex.{tokens}
use Rattle.json.specs.Json.{skip_value}
use Rattle.serde_json.specs.Data.{Data, array, object, Items, no_items, item, no_members, member}
use Rattle.serde_json.specs.Read.{read}

-- texts with a comma between each two
abbrev pub joined : List (List ℕ) → List ℕ
joined [] = []
joined (text ∷ []) = text
joined (text ∷ other ∷ others) = text ++ ascii.comma ∷ joined (other ∷ others)

-- no token is left
abbrev pub is_end : Option (List Token) → Bool
is_end None = false
is_end (Some []) = true
is_end (Some (t ∷ ts)) = false

-- a JSON text nested at most so deep
unfoldable pub is_shallow : ℕ → List ℕ → Bool
is_shallow depth text = is_end (skip_value depth (tokens text))

-- the value that bytes are, where they are such a text
unfoldable pub value_of : ℕ → List ℕ → Option Data
value_of depth bytes = if is_utf8 bytes && is_shallow depth bytes then read bytes else None

-- the value of a text that stands in a list within an object
abbrev pub part_of : List ℕ → Option Data
part_of = value_of 125

-- the values of parts, where each has one
abbrev pub parts_of : List (List ℕ) → Option Items
parts_of [] = Some no_items
parts_of (part ∷ parts) = option_and_then (λ value. option_map (item value) (parts_of parts)) (part_of part)

-- Where each part has a value, the whole is an object with this one member, the list of these values.
abbrev pub AreParts : List ℕ → List ℕ → List (List ℕ) → Type 0
AreParts key whole parts = (values : Items) → parts_of parts ≡ Some values → IsUtf8 whole × (read whole ≡ Some (object (member key (array values) no_members)))
