-- The tokens that JSON is written as.
use Rattle.std.specs.Prelude.{List, map}
use Rattle.json.specs.Token.{Token}
use Rattle.json.specs.Tree.{json_tokens, items_tokens}
use Rattle.serde_json.specs.Data.{Data}
use Rattle.serde_json.specs.View.{items_of}
use Rattle.serde_json.specs.Written.{outline, items_outline}

abbrev pub tokens_of : Data → List Token
tokens_of d = json_tokens (outline d)

-- of a list's items, with the closing bracket
abbrev pub list_tokens : {X : Type 0} → (X → Data) → List X → List Token
list_tokens f xs = items_tokens (items_outline (items_of (map f xs)))
