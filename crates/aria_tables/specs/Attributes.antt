-- The known states and properties: their names, and which of them are global or refer to elements.
use Rattle.std.specs.Prelude.{ℕ, List, [], ◌∷◌, codes, Bool, true, false, Option}
use Rattle.std.specs.List.{find, list_any}
use Rattle.texts.specs.Words.{same_folded}
use Rattle.aria_tables.specs.declared.attr.AriaAttr.{AriaAttr}
use Rattle.aria_tables.specs.declared.attr.AriaAttr.TheVariants.{Activedescendant, Atomic, Autocomplete, Busy, Checked, Colcount, Colindex, Colspan, Controls, Current, Describedby, Details, Disabled, Dropeffect, Errormessage, Expanded, Flowto, Grabbed, Haspopup, Hidden, Invalid, Keyshortcuts, Label, Labelledby, Level, Live, Modal, Multiline, Multiselectable, Orientation, Owns, Placeholder, Posinset, Pressed, Readonly, Relevant, Required, Roledescription, Rowcount, Rowindex, Rowspan, Selected, Setsize, Sort, Valuemax, Valuemin, Valuenow, Valuetext}

abbrev pub name_of : AriaAttr → List ℕ
name_of Activedescendant = codes "aria-activedescendant"
name_of Atomic = codes "aria-atomic"
name_of Autocomplete = codes "aria-autocomplete"
name_of Busy = codes "aria-busy"
name_of Checked = codes "aria-checked"
name_of Colcount = codes "aria-colcount"
name_of Colindex = codes "aria-colindex"
name_of Colspan = codes "aria-colspan"
name_of Controls = codes "aria-controls"
name_of Current = codes "aria-current"
name_of Describedby = codes "aria-describedby"
name_of Details = codes "aria-details"
name_of Disabled = codes "aria-disabled"
name_of Dropeffect = codes "aria-dropeffect"
name_of Errormessage = codes "aria-errormessage"
name_of Expanded = codes "aria-expanded"
name_of Flowto = codes "aria-flowto"
name_of Grabbed = codes "aria-grabbed"
name_of Haspopup = codes "aria-haspopup"
name_of Hidden = codes "aria-hidden"
name_of Invalid = codes "aria-invalid"
name_of Keyshortcuts = codes "aria-keyshortcuts"
name_of Label = codes "aria-label"
name_of Labelledby = codes "aria-labelledby"
name_of Level = codes "aria-level"
name_of Live = codes "aria-live"
name_of Modal = codes "aria-modal"
name_of Multiline = codes "aria-multiline"
name_of Multiselectable = codes "aria-multiselectable"
name_of Orientation = codes "aria-orientation"
name_of Owns = codes "aria-owns"
name_of Placeholder = codes "aria-placeholder"
name_of Posinset = codes "aria-posinset"
name_of Pressed = codes "aria-pressed"
name_of Readonly = codes "aria-readonly"
name_of Relevant = codes "aria-relevant"
name_of Required = codes "aria-required"
name_of Roledescription = codes "aria-roledescription"
name_of Rowcount = codes "aria-rowcount"
name_of Rowindex = codes "aria-rowindex"
name_of Rowspan = codes "aria-rowspan"
name_of Selected = codes "aria-selected"
name_of Setsize = codes "aria-setsize"
name_of Sort = codes "aria-sort"
name_of Valuemax = codes "aria-valuemax"
name_of Valuemin = codes "aria-valuemin"
name_of Valuenow = codes "aria-valuenow"
name_of Valuetext = codes "aria-valuetext"

-- every known attribute
unfoldable pub attributes : List AriaAttr
attributes =
    Activedescendant ∷ Atomic ∷ Autocomplete ∷ Busy ∷ Checked ∷ Colcount ∷ Colindex ∷ Colspan ∷
    Controls ∷ Current ∷ Describedby ∷ Details ∷ Disabled ∷ Dropeffect ∷ Errormessage ∷ Expanded ∷
    Flowto ∷ Grabbed ∷ Haspopup ∷ Hidden ∷ Invalid ∷ Keyshortcuts ∷ Label ∷ Labelledby ∷ Level ∷
    Live ∷ Modal ∷ Multiline ∷ Multiselectable ∷ Orientation ∷ Owns ∷ Placeholder ∷ Posinset ∷
    Pressed ∷ Readonly ∷ Relevant ∷ Required ∷ Roledescription ∷ Rowcount ∷ Rowindex ∷ Rowspan ∷
    Selected ∷ Setsize ∷ Sort ∷ Valuemax ∷ Valuemin ∷ Valuenow ∷ Valuetext ∷ []

-- the attribute of this name, which compares ASCII case-insensitively
unfoldable pub attr_of : List ℕ → Option AriaAttr
attr_of name = find (λ attr. same_folded name (name_of attr)) attributes

-- the attributes of later editions, which are not judged
abbrev pub later : List (List ℕ)
later =
    codes "aria-actions" ∷ codes "aria-braillelabel" ∷ codes "aria-brailleroledescription" ∷
    codes "aria-colindextext" ∷ codes "aria-description" ∷ codes "aria-rowindextext" ∷ []

abbrev pub is_later : List ℕ → Bool
is_later name = list_any (same_folded name) later

-- the global attributes of this profile
abbrev pub is_global : AriaAttr → Bool
is_global Atomic = true
is_global Busy = true
is_global Controls = true
is_global Current = true
is_global Describedby = true
is_global Details = true
is_global Dropeffect = true
is_global Flowto = true
is_global Grabbed = true
is_global Hidden = true
is_global Keyshortcuts = true
is_global Label = true
is_global Labelledby = true
is_global Live = true
is_global Owns = true
is_global Relevant = true
is_global Roledescription = true
is_global _ = false

-- the attributes whose tokens are looked up as ids of the page
abbrev pub is_reference : AriaAttr → Bool
is_reference Describedby = true
is_reference Details = true
is_reference Flowto = true
is_reference Labelledby = true
is_reference Owns = true
is_reference _ = false
