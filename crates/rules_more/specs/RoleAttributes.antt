-- On which roles a state or property is permitted (WAI-ARIA 1.2, "Used in Roles"). The table is this profile's.
use Rattle.std.specs.Prelude.{List, [], ◌∷◌}
use Rattle.aria_tables.specs.declared.attr.AriaAttr.{AriaAttr}
use Rattle.aria_tables.specs.declared.attr.AriaAttr.TheVariants.{Checked, Expanded, Level, Modal, Multiline, Placeholder, Multiselectable, Pressed, Selected, Sort}
use Rattle.aria_tables.specs.declared.role.Role.{Role}
use Rattle.aria_tables.specs.declared.role.Role.TheVariants as role

-- the roles on which this attribute is permitted; none for an attribute of which nothing is asked
unfoldable pub permitted_roles : AriaAttr → List Role
permitted_roles Checked =
    role.Checkbox ∷ role.Menuitemcheckbox ∷ role.Menuitemradio ∷ role.OptionRole ∷ role.Radio ∷ role.Switch ∷
    role.Treeitem ∷ []
permitted_roles Expanded =
    role.Application ∷ role.Button ∷ role.Checkbox ∷ role.Columnheader ∷ role.Combobox ∷ role.Gridcell ∷ role.Link ∷
    role.Listbox ∷ role.Menuitem ∷ role.Menuitemcheckbox ∷ role.Menuitemradio ∷ role.RowRole ∷ role.Rowheader ∷
    role.Switch ∷ role.Tab ∷ role.Treeitem ∷ []
permitted_roles Level = role.Heading ∷ role.Listitem ∷ role.RowRole ∷ role.Tablist ∷ role.Treeitem ∷ []
permitted_roles Modal = role.Alertdialog ∷ role.Dialog ∷ []
permitted_roles Multiline = role.Searchbox ∷ role.Textbox ∷ []
permitted_roles Placeholder = role.Searchbox ∷ role.Textbox ∷ []
permitted_roles Multiselectable = role.Grid ∷ role.Listbox ∷ role.Tablist ∷ role.TreeRole ∷ role.Treegrid ∷ []
permitted_roles Pressed = role.Button ∷ []
permitted_roles Selected =
    role.Columnheader ∷ role.Gridcell ∷ role.OptionRole ∷ role.RowRole ∷ role.Rowheader ∷ role.Tab ∷ role.Treeitem ∷ []
permitted_roles Sort = role.Columnheader ∷ role.Rowheader ∷ []
permitted_roles _ = []
