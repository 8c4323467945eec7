-- The attributes that roles, names and rules look at. Names compare with ASCII letters in lower case.
use Rattle.std.specs.Prelude.{◌||◌, ℕ, List, [], ◌∷◌, take, codes, Bool}
use Rattle.std.specs.List.{list_any}
use Rattle.std.specs.Str.{bytes_eq}
use Rattle.texts.specs.Words.{folded}
use Rattle.aria_tables.specs.Attributes.{name_of}
use Rattle.acc_tree.specs.declared.attributes.Attribute.{Attribute}
use Rattle.acc_tree.specs.declared.attributes.Attribute.TheVariants as attribute

-- each attribute's name
unfoldable pub attribute_name : Attribute → List ℕ
attribute_name attribute.Alt = codes "alt"
attribute_name attribute.Autocomplete = codes "autocomplete"
attribute_name attribute.Colspan = codes "colspan"
attribute_name attribute.Content = codes "content"
attribute_name attribute.Disabled = codes "disabled"
attribute_name attribute.For = codes "for"
attribute_name attribute.Headers = codes "headers"
attribute_name attribute.Href = codes "href"
attribute_name attribute.HttpEquiv = codes "http-equiv"
attribute_name attribute.Id = codes "id"
attribute_name attribute.Label = codes "label"
attribute_name attribute.Lang = codes "lang"
attribute_name attribute.ListAttr = codes "list"
attribute_name attribute.Multiple = codes "multiple"
attribute_name attribute.Name = codes "name"
attribute_name attribute.Placeholder = codes "placeholder"
attribute_name attribute.RoleAttr = codes "role"
attribute_name attribute.Rowspan = codes "rowspan"
attribute_name attribute.Scope = codes "scope"
attribute_name attribute.Selected = codes "selected"
attribute_name attribute.Size = codes "size"
attribute_name attribute.Title = codes "title"
attribute_name attribute.TypeAttr = codes "type"
attribute_name attribute.Value = codes "value"
attribute_name attribute.XmlLang = codes "xml:lang"
attribute_name (attribute.Aria a) = name_of a

-- the looked-at attributes whose names don't begin `aria-`
abbrev pub looked_at_names : List (List ℕ)
looked_at_names =
    codes "alt" ∷ codes "autocomplete" ∷ codes "colspan" ∷ codes "content" ∷ codes "disabled" ∷
    codes "for" ∷ codes "headers" ∷ codes "href" ∷ codes "http-equiv" ∷ codes "id" ∷
    codes "label" ∷ codes "lang" ∷ codes "list" ∷ codes "multiple" ∷ codes "name" ∷
    codes "placeholder" ∷ codes "role" ∷ codes "rowspan" ∷ codes "scope" ∷ codes "selected" ∷
    codes "size" ∷ codes "title" ∷ codes "type" ∷ codes "value" ∷ codes "xml:lang" ∷ []

-- a folded name begins `aria-`
abbrev pub begins_aria : List ℕ → Bool
begins_aria name = bytes_eq (take 5 name) (codes "aria-")

abbrev pub is_aria : List ℕ → Bool
is_aria name = begins_aria (folded name)

-- a folded name is looked at
abbrev pub is_among : List ℕ → Bool
is_among name = begins_aria name || list_any (λ w. bytes_eq name (folded w)) looked_at_names

-- the attributes of this name are looked at
unfoldable pub is_looked_at : List ℕ → Bool
is_looked_at name = is_among (folded name)
