-- The kind of value of each attribute, and which values are of a kind.
use Rattle.std.specs.Prelude.{◌&&◌, ◌==◌, ℕ, List, [], ◌∷◌, codes, length, nat_lt, Bool, true}
use Rattle.std.specs.List.{list_all}
use Rattle.aria_tables.specs.declared.attr.AriaAttr.{AriaAttr}
use Rattle.aria_tables.specs.declared.attr.AriaAttr.TheVariants.{Activedescendant, Atomic, Autocomplete, Busy, Checked, Colcount, Colindex, Colspan, Controls, Current, Describedby, Details, Disabled, Dropeffect, Errormessage, Expanded, Flowto, Grabbed, Haspopup, Hidden, Invalid, Keyshortcuts, Label, Labelledby, Level, Live, Modal, Multiline, Multiselectable, Orientation, Owns, Placeholder, Posinset, Pressed, Readonly, Relevant, Required, Roledescription, Rowcount, Rowindex, Rowspan, Selected, Setsize, Sort, Valuemax, Valuemin, Valuenow, Valuetext}
use Rattle.aria_tables.specs.Numbers.{is_number, is_whole_number}
use Rattle.aria_tables.specs.Tokens.{tokens}
use Rattle.aria_tables.specs.Words.{is_among}
use Rattle.aria_tables.specs.declared.value.ValueKind.{ValueKind}
use Rattle.aria_tables.specs.declared.value.ValueKind.TheVariants.{Truth, TruthOrUndefined, Tristate, Token, TokenList, WholeNumber, Number, Id, IdList, Anything}

abbrev pub value_kind : AriaAttr → ValueKind
value_kind Atomic = Truth
value_kind Busy = Truth
value_kind Disabled = Truth
value_kind Modal = Truth
value_kind Multiline = Truth
value_kind Multiselectable = Truth
value_kind Readonly = Truth
value_kind Required = Truth
value_kind Expanded = TruthOrUndefined
value_kind Grabbed = TruthOrUndefined
value_kind Hidden = TruthOrUndefined
value_kind Selected = TruthOrUndefined
value_kind Checked = Tristate
value_kind Pressed = Tristate
value_kind Autocomplete = Token
value_kind Current = Token
value_kind Haspopup = Token
value_kind Invalid = Token
value_kind Live = Token
value_kind Orientation = Token
value_kind Sort = Token
value_kind Dropeffect = TokenList
value_kind Relevant = TokenList
value_kind Colcount = WholeNumber
value_kind Colindex = WholeNumber
value_kind Colspan = WholeNumber
value_kind Level = WholeNumber
value_kind Posinset = WholeNumber
value_kind Rowcount = WholeNumber
value_kind Rowindex = WholeNumber
value_kind Rowspan = WholeNumber
value_kind Setsize = WholeNumber
value_kind Valuemax = Number
value_kind Valuemin = Number
value_kind Valuenow = Number
value_kind Activedescendant = Id
value_kind Details = Id
value_kind Errormessage = Id
value_kind Controls = IdList
value_kind Describedby = IdList
value_kind Flowto = IdList
value_kind Labelledby = IdList
value_kind Owns = IdList
value_kind Keyshortcuts = Anything
value_kind Label = Anything
value_kind Placeholder = Anything
value_kind Roledescription = Anything
value_kind Valuetext = Anything

-- the words that stand for a value, or for a token of it, of the attributes that have such of their own
abbrev pub value_words : AriaAttr → List (List ℕ)
value_words Autocomplete = codes "inline" ∷ codes "list" ∷ codes "both" ∷ codes "none" ∷ []
value_words Current = codes "page" ∷ codes "step" ∷ codes "location" ∷ codes "date" ∷ codes "time" ∷ codes "true" ∷ codes "false" ∷ []
value_words Haspopup = codes "false" ∷ codes "true" ∷ codes "menu" ∷ codes "listbox" ∷ codes "tree" ∷ codes "grid" ∷ codes "dialog" ∷ []
value_words Invalid = codes "grammar" ∷ codes "false" ∷ codes "spelling" ∷ codes "true" ∷ []
value_words Live = codes "assertive" ∷ codes "off" ∷ codes "polite" ∷ []
value_words Orientation = codes "horizontal" ∷ codes "undefined" ∷ codes "vertical" ∷ []
value_words Sort = codes "ascending" ∷ codes "descending" ∷ codes "none" ∷ codes "other" ∷ []
value_words Dropeffect = codes "copy" ∷ codes "execute" ∷ codes "link" ∷ codes "move" ∷ codes "none" ∷ codes "popup" ∷ []
value_words Relevant = codes "additions" ∷ codes "all" ∷ codes "removals" ∷ codes "text" ∷ []
value_words _ = []

-- the value is of this kind, with these words
abbrev pub is_of_kind : ValueKind → List (List ℕ) → List ℕ → Bool
is_of_kind Truth those value = is_among (codes "true" ∷ codes "false" ∷ []) value
is_of_kind TruthOrUndefined those value = is_among (codes "true" ∷ codes "false" ∷ codes "undefined" ∷ []) value
is_of_kind Tristate those value = is_among (codes "true" ∷ codes "false" ∷ codes "mixed" ∷ codes "undefined" ∷ []) value
is_of_kind Token those value = is_among those value
is_of_kind TokenList those value = nat_lt 0 (length (tokens value)) && list_all (is_among those) (tokens value)
is_of_kind WholeNumber those value = is_whole_number value
is_of_kind Number those value = is_number value
is_of_kind Id those value = length (tokens value) == 1
is_of_kind IdList those value = nat_lt 0 (length (tokens value))
is_of_kind Anything those value = true

-- the value is one that the attribute may have
unfoldable pub value_ok : AriaAttr → List ℕ → Bool
value_ok attr value = is_of_kind (value_kind attr) (value_words attr) value
