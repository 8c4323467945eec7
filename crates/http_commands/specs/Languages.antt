-- The body of a request on a site's languages: a list of language subtags.
use Rattle.std.specs.Prelude.{ℕ, ◌+◌, min, List, [], ◌∷◌, length, codes, nat_lt, if◌then◌else◌, Option, Some, None, option_and_then, Result, Ok, Err}
use Rattle.serde_json.specs.Data.{Data, Items, no_items, item}
use Rattle.serde_json.specs.Find.{get, as_array, as_object}
use Rattle.snap_tree.specs.Langs.{langs_fault}
use Rattle.snap_json.specs.Fields.{text_of}
use Rattle.http_routes.specs.declared.part.Part.TheVariants.{Body, Languages}
use Rattle.http_routes.specs.declared.fault.RequestFault.{RequestFault}
use Rattle.http_routes.specs.declared.fault.RequestFault.TheVariants.{BadShape}
use Rattle.http_commands.specs.Shapes.{◌>>=◌, in_shape}
use Rattle.http_commands.specs.Entries.{many}

abbrev pub list_of : Option Data → Option Items
list_of member = option_and_then as_array member

-- the texts with which a list begins: up to its first value that is none
abbrev pub text_before : Option (List ℕ) → List (List ℕ) → List (List ℕ)
text_before None others = []
text_before (Some text) others = text ∷ others

abbrev pub texts_in : Items → List (List ℕ)
texts_in no_items = []
texts_in (item d others) = text_before (text_of (Some d)) (texts_in others)

-- the place behind some texts, which stands still at the greatest u32
abbrev pub place_behind : List (List ℕ) → ℕ
place_behind texts = min (length texts + 1) 4294967295

-- the texts, where nothing breaks the form: the first of them that does is told, or else the first value that is no text
abbrev pub unless_broken : ℕ → List (List ℕ) → Option ℕ → Result (List (List ℕ)) RequestFault
unless_broken values texts (Some place) = Err (BadShape Languages place)
unless_broken values texts None = if nat_lt (length texts) values then Err (BadShape Languages (place_behind texts)) else Ok texts

abbrev pub in_form : ℕ → List (List ℕ) → Result (List (List ℕ)) RequestFault
in_form values texts = unless_broken values texts (langs_fault texts)

-- an object whose `languages` is a list of the form
abbrev pub languages_in : Data → Result (List (List ℕ)) RequestFault
languages_in body = do
  members ← in_shape Body 0 (as_object body)
  values ← in_shape Languages 0 (list_of (get (codes "languages") body))
  in_form (many values) (texts_in values)
