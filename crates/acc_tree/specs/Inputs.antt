-- The types of HTML's `input`.
use Rattle.std.specs.Prelude.{ℕ, List, [], ◌∷◌, codes, Option, option_and_then, unwrap_or}
use Rattle.std.specs.List.{find}
use Rattle.snap_tree.specs.declared.row.Row.{Row}
use Rattle.texts.specs.Words.{same_folded}
use Rattle.acc_tree.specs.declared.attributes.Attribute.TheVariants as attribute
use Rattle.acc_tree.specs.declared.inputs.InputType.{InputType}
use Rattle.acc_tree.specs.declared.inputs.InputType.TheVariants as type
use Rattle.acc_tree.specs.Seen.{attr}

-- each type's word
unfoldable pub type_word : InputType → List ℕ
type_word type.Button = codes "button"
type_word type.Checkbox = codes "checkbox"
type_word type.Color = codes "color"
type_word type.Date = codes "date"
type_word type.DatetimeLocal = codes "datetime-local"
type_word type.File = codes "file"
type_word type.Hidden = codes "hidden"
type_word type.Image = codes "image"
type_word type.Month = codes "month"
type_word type.Number = codes "number"
type_word type.Password = codes "password"
type_word type.Radio = codes "radio"
type_word type.Range = codes "range"
type_word type.Reset = codes "reset"
type_word type.Search = codes "search"
type_word type.Submit = codes "submit"
type_word type.TextField = codes "text"
type_word type.Time = codes "time"
type_word type.Week = codes "week"

abbrev pub all_types : List InputType
all_types =
    type.Button ∷ type.Checkbox ∷ type.Color ∷ type.Date ∷ type.DatetimeLocal ∷ type.File ∷
    type.Hidden ∷ type.Image ∷ type.Month ∷ type.Number ∷ type.Password ∷ type.Radio ∷
    type.Range ∷ type.Reset ∷ type.Search ∷ type.Submit ∷ type.TextField ∷ type.Time ∷
    type.Week ∷ []

abbrev pub type_among : List ℕ → List InputType → Option InputType
type_among text types = find (λ t. same_folded text (type_word t)) types

-- the type of an `input`: a text field where it has no `type`, and where that is any other word
abbrev pub input_type : Row → InputType
input_type row = unwrap_or (option_and_then (λ text. type_among text all_types) (attr attribute.TypeAttr row)) type.TextField
