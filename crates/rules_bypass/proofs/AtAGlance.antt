-- A node that a glance at its row rules out can't count.
use Rattle.std.proofs.Common.{◌≡◌, ℕ, List, [], ◌∷◌, map, length, ◌&&◌, ◌||◌, not, Bool, true, false, cond, if◌then◌else◌, Option, Some, None, option_and_then, refl, sym, ap, ◌∙◌}
use Rattle.std.proofs.lemmas.Bool.{false≢true, or_parts}
use Rattle.std.proofs.lemmas.List.{length-map}
use Rattle.std.proofs.lemmas.Slice.Eq.{bytes_eq-Decides}
use Rattle.std.specs.Char.{to_ascii_lowercase}
use Rattle.std.specs.Option.{is_some, option_or, option_map_or}
use Rattle.std.specs.Str.{bytes_eq}
use Rattle.aria_tables.specs.declared.attr.AriaAttr.TheVariants as aria
use Rattle.aria_tables.specs.declared.role.Role.{Role}
use Rattle.aria_tables.specs.declared.role.Role.TheVariants as role
use Rattle.snap_tree.specs.declared.row.Body.{Body}
use Rattle.snap_tree.specs.declared.row.Body.TheVariants.{Element, Words}
use Rattle.snap_tree.specs.declared.row.Row.{Row}
use Rattle.snap_tree.specs.declared.row.Space.TheVariants.{Html, Svg, Other}
use Rattle.snap_tree.specs.Trees.{Trees}
use Rattle.acc_tree.specs.declared.attributes.Attribute.TheVariants as attribute
use Rattle.acc_tree.specs.declared.inputs.InputType.{InputType}
use Rattle.acc_tree.specs.declared.inputs.InputType.TheVariants as type
use Rattle.acc_tree.specs.declared.tags.Tag.{Tag}
use Rattle.acc_tree.specs.declared.tags.Tag.TheVariants as tag
use Rattle.acc_tree.specs.Frames.{nothing_above}
use Rattle.acc_tree.specs.Inputs.{input_type}
use Rattle.acc_tree.specs.Roles.{explicit, implicit, role_at, tag_role, input_role, unless_conflicting, named_role, heads_rows, is_empty_text, is_labelled, shows_list}
use Rattle.acc_tree.specs.Seen.{attr, has}
use Rattle.acc_tree.specs.Tags.{all_tags, html_tag, in_html, known_tag, space_in, tag_among, tag_in, tag_word}
use Rattle.rules_bypass.specs.declared.bypass.Bypass.{Bypass}
use Rattle.rules_bypass.specs.declared.bypass.Bypass.TheVariants as bypass
use Rattle.rules_bypass.specs.Bypass.{is_button, is_heading, is_link, is_mark, is_summary, leads, may_count}
use Rattle.rules_bypass.specs.Shapes.{initial, heading_shape, landmark_shape, has_shape, seems}

-- ---- tags that are the same but for case are of one shape

-- the first byte of a text in lower case
front : List ℕ → ℕ
front [] = 0
front (b ∷ rest) = b

initial_front : (a : List ℕ) → initial a ≡ front (map to_ascii_lowercase a)
unfolding front
initial_front [] = refl
initial_front (b ∷ rest) = refl

lowered_length : (a b : List ℕ) → map to_ascii_lowercase a ≡ map to_ascii_lowercase b → length a ≡ length b
lowered_length a b same = sym (length-map a to_ascii_lowercase) ∙ ap length same ∙ length-map b to_ascii_lowercase

abbrev of_shape : (ℕ → ℕ → Bool) → List ℕ → Bool
of_shape shape text = shape (length text) (initial text)

one_shape : (shape : ℕ → ℕ → Bool) (a b : List ℕ) → map to_ascii_lowercase a ≡ map to_ascii_lowercase b → of_shape shape a ≡ of_shape shape b
one_shape shape a b same =
    ap (λ n. shape n (initial a)) (lowered_length a b same) ∙ ap (shape (length b)) (initial_front a ∙ ap front same ∙ sym (initial_front b))

-- ---- an element of another shape is no heading, or no landmark

-- the shape of the tag tells of this role
abbrev tells : (Option Role → Bool) → (ℕ → ℕ → Bool) → Tag → Option Role → Bool
tells p shape t r = of_shape shape (tag_word t) || not (p r)

abbrev both_tell : Tag → Option Role → Bool
both_tell t r = tells is_heading heading_shape t r && tells is_mark landmark_shape t r

whichever : {A : Type 0} (p : A → Bool) (b : Bool) (x y : A) → p x ≡ true → p y ≡ true → p (if b then x else y) ≡ true
whichever p true x y h k = h
whichever p false x y h k = k

input_told : (row : Row) (kind : InputType) → both_tell tag.Input (input_role row kind) ≡ true
unfolding tag_word
input_told row type.Search = whichever (λ r. both_tell tag.Input (Some r)) (has attribute.ListAttr row) role.Combobox role.Searchbox refl refl
input_told row type.TextField = whichever (λ r. both_tell tag.Input (Some r)) (has attribute.ListAttr row) role.Combobox role.Textbox refl refl
input_told row _ = refl

told : (row : Row) (t : Tag) → both_tell t (tag_role nothing_above row t) ≡ true
unfolding tag_word tag_role
told row tag.A = whichever (λ r. both_tell tag.A (Some r)) (has attribute.Href row) role.Link role.Generic refl refl
told row tag.Area = whichever (λ r. both_tell tag.Area (Some r)) (has attribute.Href row) role.Link role.Generic refl refl
told row tag.Form = whichever (both_tell tag.Form) (is_labelled row) (Some role.Form) None refl refl
told row tag.Img = whichever (λ r. both_tell tag.Img (Some r)) (is_empty_text (attr attribute.Alt row)) role.Presentation role.Img refl refl
told row tag.Input = input_told row (input_type row)
told row tag.Section = whichever (λ r. both_tell tag.Section (Some r)) (is_labelled row) role.Region role.Generic refl refl
told row tag.Select = whichever (λ r. both_tell tag.Select (Some r)) (shows_list row) role.Listbox role.Combobox refl refl
told row tag.Th = whichever (λ r. both_tell tag.Th (Some r)) (heads_rows row) role.Rowheader role.Columnheader refl refl
told row _ = refl

-- the shape of its tag tells of each element, and what has no role isn't asked for
record Tells (p : Option Role → Bool) (shape : ℕ → ℕ → Bool) : Type 0 where
  nothing : p None ≡ false
  tag : (row : Row) (t : Tag) → tells p shape t (tag_role nothing_above row t) ≡ true

and_parts : (a b : Bool) → a && b ≡ true → (a ≡ true) × (b ≡ true)
and_parts true b h = (refl, h)
and_parts false b h = absurd (false≢true h)

heading_told : Tells is_heading heading_shape
heading_told = record { nothing = refl; tag = λ row t. (and_parts _ _ (told row t)).0 }

mark_told : Tells is_mark landmark_shape
mark_told = record { nothing = refl; tag = λ row t. (and_parts _ _ (told row t)).1 }

unless : (a b : Bool) → a || not b ≡ true → a ≡ false → b ≡ false
unless true b h k = absurd (false≢true (sym k))
unless false true h k = absurd (false≢true h)
unless false false h k = refl

-- the words are the same but for case
abbrev alike : List ℕ → List ℕ → Bool
alike a b = bytes_eq (map to_ascii_lowercase a) (map to_ascii_lowercase b)

other_tag : (p : Option Role → Bool) (shape : ℕ → ℕ → Bool) → Tells p shape → (row : Row) (text : List ℕ) → of_shape shape text ≡ false → (tags : List Tag)
    → p (option_and_then (tag_role nothing_above row) (tag_among text tags)) ≡ false
other_tag p shape is row text h [] = is.nothing
other_tag p shape is row text h (t ∷ tags) = by_word (alike text (tag_word t)) refl (other_tag p shape is row text h tags)
  where
    by_word : (same : Bool) → alike text (tag_word t) ≡ same → p (option_and_then (tag_role nothing_above row) (tag_among text tags)) ≡ false
        → p (option_and_then (tag_role nothing_above row) (cond same (Some t) (tag_among text tags))) ≡ false
    by_word true e later =
        unless (of_shape shape (tag_word t)) (p (tag_role nothing_above row t)) (is.tag row t) (sym (one_shape shape text (tag_word t) ((bytes_eq-Decides _ _).0 e)) ∙ h)
    by_word false e later = later

other_body : (p : Option Role → Bool) (shape : ℕ → ℕ → Bool) → Tells p shape → (row : Row) (body : Body) → option_map_or (of_shape shape) (tag_in body) false ≡ false
    → p (option_and_then (tag_role nothing_above row) (in_html (space_in body) (option_and_then known_tag (tag_in body)))) ≡ false
other_body p shape is row (Element Html text attrs) h = other_tag p shape is row text h all_tags
other_body p shape is row (Element Svg text attrs) h = is.nothing
other_body p shape is row (Element Other text attrs) h = is.nothing
other_body p shape is row (Words text) h = is.nothing

-- ---- nor is one that names no role

none_of_none : {A B : Type 0} (f : A → Option B) (o : Option A) → is_some o ≡ false → option_and_then f o ≡ None
none_of_none f None h = refl
none_of_none f (Some a) h = absurd (false≢true (sym h))

no_named : (row : Row) → has attribute.RoleAttr row ≡ false → named_role row ≡ None
no_named row h = none_of_none _ (attr attribute.RoleAttr row) h

no_explicit : (row : Row) → has attribute.RoleAttr row ≡ false → explicit row ≡ None
no_explicit row h = ap (unless_conflicting row) (no_named row h)

unshaped : (p : Option Role → Bool) (shape : ℕ → ℕ → Bool) → Tells p shape → (row : Row) → has_shape shape row ≡ false → p (role_at nothing_above row) ≡ false
unshaped p shape is row h =
    let parts = or_parts _ _ h in
    ap (λ o. p (option_or o (implicit nothing_above row))) (no_explicit row parts.1) ∙ other_body p shape is row row.body parts.0

-- ---- none of the four

neither_says : (stops says summary button : Bool) → stops && (says || summary) ≡ false → stops && (summary || (button && says)) ≡ false
neither_says false says summary button h = refl
neither_says true true summary button h = absurd (false≢true (sym h))
neither_says true false true button h = absurd (false≢true (sym h))
neither_says true false false true h = refl
neither_says true false false false h = refl

pub ruled_out : (b : Bypass) (t : Trees) (row : Row) → seems b row ≡ false → false ≡ may_count b t row
ruled_out bypass.Heading t row h = sym (unshaped is_heading heading_shape heading_told row h)
ruled_out bypass.Landmark t row h = sym (unshaped is_mark landmark_shape mark_told row h)
ruled_out bypass.SkipLink t row h = sym (ap (λ stops. stops && leads t row && is_link (role_at nothing_above row)) h)
ruled_out bypass.Collapse t row h =
    sym (neither_says row.facts.tabbable (has (attribute.Aria aria.Expanded) row) (is_summary (html_tag row)) (is_button (role_at nothing_above row)) h)
