-- What is looked at isn't lost: a seen row says of the looked-at attributes what the row itself says.
use Rattle.std.proofs.Common.{◌≡◌, List, [], ◌∷◌, filter, Bool, true, false, option_map, refl, sym, ◌∙◌, ap}
use Rattle.std.proofs.lemmas.Slice.Eq.{bytes_eq-Decides}
use Rattle.aria_tables.specs.declared.attr.AriaAttr.{AriaAttr}
use Rattle.aria_tables.specs.declared.attr.AriaAttr.TheVariants as aria
use Rattle.aria_tables.proofs.Lengths.{find-filter}
use Rattle.aria_tables.specs.Attributes.{name_of}
use Rattle.snap_tree.specs.declared.row.Attr.{Attr}
use Rattle.snap_tree.specs.declared.row.Body.{Body}
use Rattle.snap_tree.specs.declared.row.Body.TheVariants.{Element, Words}
use Rattle.snap_tree.specs.declared.row.Row.{Row}
use Rattle.snap_tree.specs.Rows.{attrs_in, attrs_of, attribute, value_of}
use Rattle.texts.specs.Words.{folded, same_folded}
use Rattle.acc_tree.specs.declared.attributes.Attribute.{Attribute}
use Rattle.acc_tree.specs.declared.attributes.Attribute.TheVariants as attribute
use Rattle.acc_tree.specs.Attributes.{attribute_name, is_aria, is_among, is_looked_at}
use Rattle.acc_tree.specs.Seen.{seen_body, seen_row, attr, aria_attrs}

-- ---- lists

-- what is kept stays, if all of it was kept before
pub filter-kept : {A : Type 0} (p q : A → Bool) → ((x : A) → p x ≡ true → q x ≡ true) → (xs : List A) → filter p (filter q xs) ≡ filter p xs
filter-kept p q keeps [] = refl
filter-kept {A} p q keeps (x ∷ xs) = by_tests (p x) (q x) refl refl (filter-kept p q keeps xs)
  where
    by_tests : (a b : Bool) → p x ≡ a → q x ≡ b → filter p (filter q xs) ≡ filter p xs → filter p (filter q (x ∷ xs)) ≡ filter p (x ∷ xs)
    by_tests true true e k h = rw (k, e) (ap (λ ys. x ∷ ys) h)
    by_tests true false e k h = let no : false ≡ true = sym k ∙ keeps x e in cc
    by_tests false true e k h = rw (k, e) h
    by_tests false false e k h = rw (k, e) h

-- ---- names

aria_among : (a : AriaAttr) → is_among (folded (name_of a)) ≡ true
aria_among aria.Activedescendant = refl
aria_among aria.Atomic = refl
aria_among aria.Autocomplete = refl
aria_among aria.Busy = refl
aria_among aria.Checked = refl
aria_among aria.Colcount = refl
aria_among aria.Colindex = refl
aria_among aria.Colspan = refl
aria_among aria.Controls = refl
aria_among aria.Current = refl
aria_among aria.Describedby = refl
aria_among aria.Details = refl
aria_among aria.Disabled = refl
aria_among aria.Dropeffect = refl
aria_among aria.Errormessage = refl
aria_among aria.Expanded = refl
aria_among aria.Flowto = refl
aria_among aria.Grabbed = refl
aria_among aria.Haspopup = refl
aria_among aria.Hidden = refl
aria_among aria.Invalid = refl
aria_among aria.Keyshortcuts = refl
aria_among aria.Label = refl
aria_among aria.Labelledby = refl
aria_among aria.Level = refl
aria_among aria.Live = refl
aria_among aria.Modal = refl
aria_among aria.Multiline = refl
aria_among aria.Multiselectable = refl
aria_among aria.Orientation = refl
aria_among aria.Owns = refl
aria_among aria.Placeholder = refl
aria_among aria.Posinset = refl
aria_among aria.Pressed = refl
aria_among aria.Readonly = refl
aria_among aria.Relevant = refl
aria_among aria.Required = refl
aria_among aria.Roledescription = refl
aria_among aria.Rowcount = refl
aria_among aria.Rowindex = refl
aria_among aria.Rowspan = refl
aria_among aria.Selected = refl
aria_among aria.Setsize = refl
aria_among aria.Sort = refl
aria_among aria.Valuemax = refl
aria_among aria.Valuemin = refl
aria_among aria.Valuenow = refl
aria_among aria.Valuetext = refl

name_among : (name : Attribute) → is_among (folded (attribute_name name)) ≡ true
unfolding attribute_name
name_among attribute.Alt = refl
name_among attribute.Autocomplete = refl
name_among attribute.Colspan = refl
name_among attribute.Content = refl
name_among attribute.Disabled = refl
name_among attribute.For = refl
name_among attribute.Headers = refl
name_among attribute.Href = refl
name_among attribute.HttpEquiv = refl
name_among attribute.Id = refl
name_among attribute.Label = refl
name_among attribute.Lang = refl
name_among attribute.ListAttr = refl
name_among attribute.Multiple = refl
name_among attribute.Name = refl
name_among attribute.Placeholder = refl
name_among attribute.RoleAttr = refl
name_among attribute.Rowspan = refl
name_among attribute.Scope = refl
name_among attribute.Selected = refl
name_among attribute.Size = refl
name_among attribute.Title = refl
name_among attribute.TypeAttr = refl
name_among attribute.Value = refl
name_among attribute.XmlLang = refl
name_among (attribute.Aria a) = aria_among a

-- an attribute that is asked for by name is looked at
pub named_seen : (name : Attribute) (a : Attr) → same_folded a.name (attribute_name name) ≡ true → is_looked_at a.name ≡ true
unfolding is_looked_at
named_seen name a same =
    ap is_among ((bytes_eq-Decides (folded a.name) (folded (attribute_name name))).0 same) ∙ name_among name

-- an attribute whose name begins `aria-` is looked at
pub aria_seen : (a : Attr) → is_aria a.name ≡ true → is_looked_at a.name ≡ true
unfolding is_looked_at
aria_seen a begins = rw begins refl

-- ---- rows

attrs_in_seen : (body : Body) → attrs_in (seen_body body) ≡ filter (λ a. is_looked_at a.name) (attrs_in body)
attrs_in_seen (Element space tag attrs) = refl
attrs_in_seen (Words text) = refl

pub attrs_seen : (row : Row) → attrs_of (seen_row row) ≡ filter (λ a. is_looked_at a.name) (attrs_of row)
attrs_seen row = attrs_in_seen row.body

value_seen : (asked : Attribute) (body : Body) → value_of (attribute_name asked) (attrs_in (seen_body body)) ≡ value_of (attribute_name asked) (attrs_in body)
value_seen asked (Element space tag attrs) = ap (option_map (λ a. a.value)) (find-filter (λ a. same_folded a.name (attribute_name asked)) (λ a. is_looked_at a.name) (named_seen asked) attrs)
value_seen asked (Words text) = refl

pub attr_seen : (name : Attribute) (row : Row) → attr name (seen_row row) ≡ attribute (attribute_name name) row
attr_seen name row = value_seen name row.body

aria_in_seen : (body : Body) → filter (λ a. is_aria a.name) (attrs_in (seen_body body)) ≡ filter (λ a. is_aria a.name) (attrs_in body)
aria_in_seen (Element space tag attrs) = filter-kept (λ a. is_aria a.name) (λ a. is_looked_at a.name) aria_seen attrs
aria_in_seen (Words text) = refl

pub aria_attrs_seen : (row : Row) → aria_attrs (seen_row row) ≡ aria_attrs row
aria_attrs_seen row = aria_in_seen row.body
