-- The role of a node. What is above it is given, as far as it matters.
use Rattle.std.specs.Prelude.{◌&&◌, ◌||◌, ◌==◌, not, nat_lt, ℕ, List, [], ◌∷◌, codes, length, Bool, true, false, if◌then◌else◌, Option, Some, None, option_and_then}
use Rattle.std.specs.Option.{option_or, option_map_or}
use Rattle.std.specs.List.{list_any}
use Rattle.aria_tables.specs.declared.attr.AriaAttr.TheVariants as aria
use Rattle.aria_tables.specs.declared.role.Role.{Role}
use Rattle.aria_tables.specs.declared.role.Role.TheVariants as role
use Rattle.aria_tables.specs.Attributes.{attr_of, is_global}
use Rattle.aria_tables.specs.Roles.{role_of}
use Rattle.snap_tree.specs.declared.row.Facts.{Facts}
use Rattle.snap_tree.specs.declared.row.Row.{Row}
use Rattle.texts.specs.Words.{words}
use Rattle.acc_tree.specs.declared.above.Above.{Above}
use Rattle.acc_tree.specs.declared.attributes.Attribute.TheVariants as attribute
use Rattle.acc_tree.specs.declared.inputs.InputType.{InputType}
use Rattle.acc_tree.specs.declared.inputs.InputType.TheVariants as type
use Rattle.acc_tree.specs.declared.tags.Tag.{Tag}
use Rattle.acc_tree.specs.declared.tags.Tag.TheVariants as tag
use Rattle.acc_tree.specs.Inputs.{input_type}
use Rattle.acc_tree.specs.Numbers.{whole_number}
use Rattle.acc_tree.specs.Seen.{attr, has, is_blank_at, is_word_at, aria_attrs}
use Rattle.acc_tree.specs.Tags.{html_tag}

-- ---- the explicit role

-- the first of the words that is a known role
abbrev pub first_known : List (List ℕ) → Option Role
first_known [] = None
first_known (word ∷ words) = option_or (role_of word) (first_known words)

-- the role that the attribute `role` names
abbrev pub named_role : Row → Option Role
named_role row = option_and_then (λ text. first_known (words text)) (attr attribute.RoleAttr row)

abbrev pub is_presentational : Role → Bool
is_presentational role.NoneRole = true
is_presentational role.Presentation = true
is_presentational _ = false

abbrev pub is_focusable : Facts → Bool
is_focusable facts = facts.focusable || facts.tabbable

abbrev pub is_global_name : List ℕ → Bool
is_global_name name = option_map_or is_global (attr_of name) false

-- the element has a global attribute, be it a blank one
abbrev pub has_global : Row → Bool
has_global row = list_any (λ a. is_global_name a.name) (aria_attrs row)

-- the role doesn't count: the element is of use to someone, so it can't be presentational
abbrev pub conflicts : Row → Role → Bool
conflicts row r = is_presentational r && (is_focusable row.facts || has_global row)

abbrev pub unless_conflicting : Row → Option Role → Option Role
unless_conflicting row None = None
unless_conflicting row (Some r) = if conflicts row r then None else Some r

-- the role that the attribute `role` names, unless it conflicts
abbrev pub explicit : Row → Option Role
explicit row = unless_conflicting row (named_role row)

-- the role of a `table`, which what is above it doesn't change
abbrev pub table_role : Row → Option Role
table_role row = option_or (explicit row) (Some role.TableRole)

-- ---- the implicit role

-- the element has a name of its author, at least by these attributes
abbrev pub is_labelled : Row → Bool
is_labelled row =
    not (is_blank_at (attribute.Aria aria.Label) row)
    || (not (is_blank_at (attribute.Aria aria.Labelledby) row) || not (is_blank_at attribute.Title row))

-- the attribute is there and has no character
abbrev pub is_empty_text : Option (List ℕ) → Bool
is_empty_text value = option_map_or (λ text. length text == 0) value false

abbrev pub is_above_one : Option ℕ → Bool
is_above_one number = option_map_or (nat_lt 1) number false

abbrev pub shows_several : Row → Bool
shows_several row = is_above_one (option_and_then whole_number (attr attribute.Size row))

-- a `select` from which several options can be chosen, or of which several show
abbrev pub shows_list : Row → Bool
shows_list row = has attribute.Multiple row || shows_several row

-- a text field with suggestions is a combobox
abbrev pub with_suggestions : Row → Role → Role
with_suggestions row r = if has attribute.ListAttr row then role.Combobox else r

-- the implicit role of an `input`, by its type
abbrev pub input_role : Row → InputType → Option Role
input_role row type.Button = Some role.Button
input_role row type.Image = Some role.Button
input_role row type.Reset = Some role.Button
input_role row type.Submit = Some role.Button
input_role row type.Checkbox = Some role.Checkbox
input_role row type.Radio = Some role.Radio
input_role row type.Range = Some role.Slider
input_role row type.Number = Some role.Spinbutton
input_role row type.Search = Some (with_suggestions row role.Searchbox)
input_role row type.TextField = Some (with_suggestions row role.Textbox)
input_role row type.Color = None
input_role row type.Date = None
input_role row type.DatetimeLocal = None
input_role row type.File = None
input_role row type.Hidden = None
input_role row type.Month = None
input_role row type.Password = None
input_role row type.Time = None
input_role row type.Week = None

abbrev pub is_grid : Option Role → Bool
is_grid (Some role.Grid) = true
is_grid (Some role.Treegrid) = true
is_grid _ = false

-- the nearest table is a grid
abbrev pub in_grid : Above → Bool
in_grid above = option_map_or (λ t. is_grid t.role) above.table false

abbrev pub heads_rows : Row → Bool
heads_rows row = is_word_at attribute.Scope (codes "row") row || is_word_at attribute.Scope (codes "rowgroup") row

abbrev pub link_role : Row → Role
link_role row = if has attribute.Href row then role.Link else role.Generic

-- a header or footer of the page and not of a part of it
abbrev pub of_page : Above → Role → Role
of_page above r = if above.in_section then role.Generic else r

abbrev pub form_role : Row → Option Role
form_role row = if is_labelled row then Some role.Form else None

abbrev pub section_role : Row → Role
section_role row = if is_labelled row then role.Region else role.Generic

abbrev pub image_role : Row → Role
image_role row = if is_empty_text (attr attribute.Alt row) then role.Presentation else role.Img

abbrev pub item_role : Above → Role
item_role above = if above.in_list then role.Listitem else role.Generic

abbrev pub select_role : Row → Role
select_role row = if shows_list row then role.Listbox else role.Combobox

abbrev pub cell_role : Above → Role
cell_role above = if in_grid above then role.Gridcell else role.Cell

abbrev pub header_role : Row → Role
header_role row = if heads_rows row then role.Rowheader else role.Columnheader

-- the implicit role of an HTML element of this tag; a tag that isn't named here has none
unfoldable pub tag_role : Above → Row → Tag → Option Role
tag_role above row tag.A = Some (link_role row)
tag_role above row tag.Area = Some (link_role row)
tag_role above row tag.Address = Some role.Group
tag_role above row tag.Details = Some role.Group
tag_role above row tag.Fieldset = Some role.Group
tag_role above row tag.Optgroup = Some role.Group
tag_role above row tag.Article = Some role.Article
tag_role above row tag.Blockquote = Some role.Blockquote
tag_role above row tag.Button = Some role.Button
tag_role above row tag.Caption = Some role.Caption
tag_role above row tag.Code = Some role.Code
tag_role above row tag.Dialog = Some role.Dialog
tag_role above row tag.Figure = Some role.Figure
tag_role above row tag.Main = Some role.Main
tag_role above row tag.Meter = Some role.Meter
tag_role above row tag.OptionTag = Some role.OptionRole
tag_role above row tag.Search = Some role.Search
tag_role above row tag.Strong = Some role.Strong
tag_role above row tag.Table = Some role.TableRole
tag_role above row tag.Time = Some role.Time
tag_role above row tag.Aside = Some role.Complementary
tag_role above row tag.Nav = Some role.Navigation
tag_role above row tag.B = Some role.Generic
tag_role above row tag.Bdi = Some role.Generic
tag_role above row tag.Bdo = Some role.Generic
tag_role above row tag.BodyTag = Some role.Generic
tag_role above row tag.Div = Some role.Generic
tag_role above row tag.I = Some role.Generic
tag_role above row tag.Pre = Some role.Generic
tag_role above row tag.Q = Some role.Generic
tag_role above row tag.Samp = Some role.Generic
tag_role above row tag.Small = Some role.Generic
tag_role above row tag.Span = Some role.Generic
tag_role above row tag.U = Some role.Generic
tag_role above row tag.Datalist = Some role.Listbox
tag_role above row tag.Dd = Some role.Definition
tag_role above row tag.Dfn = Some role.Term
tag_role above row tag.Dt = Some role.Term
tag_role above row tag.Del = Some role.Deletion
tag_role above row tag.S = Some role.Deletion
tag_role above row tag.Ins = Some role.Insertion
tag_role above row tag.Em = Some role.Emphasis
tag_role above row tag.Footer = Some (of_page above role.Contentinfo)
tag_role above row tag.Header = Some (of_page above role.Banner)
tag_role above row tag.Form = form_role row
tag_role above row tag.Section = Some (section_role row)
tag_role above row tag.H1 = Some role.Heading
tag_role above row tag.H2 = Some role.Heading
tag_role above row tag.H3 = Some role.Heading
tag_role above row tag.H4 = Some role.Heading
tag_role above row tag.H5 = Some role.Heading
tag_role above row tag.H6 = Some role.Heading
tag_role above row tag.Hr = Some role.Separator
tag_role above row tag.Html = Some role.DocumentRole
tag_role above row tag.Output = Some role.Status
tag_role above row tag.Img = Some (image_role row)
tag_role above row tag.Input = input_role row (input_type row)
tag_role above row tag.Li = Some (item_role above)
tag_role above row tag.Menu = Some role.ListRole
tag_role above row tag.Ol = Some role.ListRole
tag_role above row tag.Ul = Some role.ListRole
tag_role above row tag.P = Some role.Paragraph
tag_role above row tag.Progress = Some role.Progressbar
tag_role above row tag.Select = Some (select_role row)
tag_role above row tag.Sub = Some role.Subscript
tag_role above row tag.Sup = Some role.Superscript
tag_role above row tag.Tbody = Some role.Rowgroup
tag_role above row tag.Tfoot = Some role.Rowgroup
tag_role above row tag.Thead = Some role.Rowgroup
tag_role above row tag.Tr = Some role.RowRole
tag_role above row tag.Td = Some (cell_role above)
tag_role above row tag.Textarea = Some role.Textbox
tag_role above row tag.Th = Some (header_role row)
tag_role above row _ = None

-- the implicit role of such an element depends on what is above it
abbrev pub asks_above : Tag → Bool
asks_above tag.Footer = true
asks_above tag.Header = true
asks_above tag.Li = true
asks_above tag.Td = true
asks_above _ = false

-- an element of another space, and one of another tag, has no implicit role
abbrev pub implicit : Above → Row → Option Role
implicit above row = option_and_then (tag_role above row) (html_tag row)

-- ---- the role

abbrev pub role_at : Above → Row → Option Role
role_at above row = option_or (explicit row) (implicit above row)

-- the role is none or presentation
abbrev pub is_decoration : Option Role → Bool
is_decoration r = option_map_or is_presentational r false

abbrev pub decorative : Above → Row → Bool
decorative above row = is_decoration (role_at above row)
