-- A list of languages that a body gives is of the form.
use Rattle.std.proofs.Common.{◌≡◌, ℕ, List, Bool, true, false, cond, length, nat_lt, Option, Some, None, Result, Ok, Err, refl}
use Rattle.std.specs.Prelude.{codes, IfOk}
use Rattle.serde_json.specs.Data.{Data}
use Rattle.serde_json.specs.Find.{get, as_object}
use Rattle.snap_tree.specs.Langs.{AreLangs, langs_fault}
use Rattle.http_routes.specs.declared.part.Part.TheVariants.{Body, Languages}
use Rattle.http_routes.specs.declared.fault.RequestFault.{RequestFault}
use Rattle.http_routes.specs.declared.fault.RequestFault.TheVariants.{BadShape}
use Rattle.http_commands.specs.Shapes.{in_shape}
use Rattle.http_commands.specs.Entries.{many}
use Rattle.http_commands.specs.Languages.{list_of, texts_in, place_behind, unless_broken, in_form, languages_in}
use Rattle.http_commands.proofs.Steps.{past}

unless_long : (b : Bool) (texts : List (List ℕ)) (place : ℕ) → AreLangs texts
    → IfOk (let r : Result (List (List ℕ)) RequestFault = cond b (Err (BadShape Languages place)) (Ok texts) in r) AreLangs
unless_long true texts place form = tt
unless_long false texts place form = form

form_fits : (values : ℕ) (texts : List (List ℕ)) → IfOk (in_form values texts) AreLangs
form_fits values texts = by (langs_fault texts) refl
  where
    by : (o : Option ℕ) → langs_fault texts ≡ o → IfOk (unless_broken values texts o) AreLangs
    by (Some place) is = tt
    by None is = unless_long (nat_lt (length texts) values) texts (place_behind texts) is

pub languages_fit : (d : Data) → IfOk (languages_in d) AreLangs
languages_fit d =
    past AreLangs (in_shape Body 0 (as_object d)) _ (λ members.
    past AreLangs (in_shape Languages 0 (list_of (get (codes "languages") d))) _ (λ values. form_fits (many values) (texts_in values)))
