-- In which roles an element of a role has to stand (WAI-ARIA 1.2, "Required Accessibility Parent Role"). Both tables are
-- this profile's.
use Rattle.std.specs.Prelude.{List, [], ◌∷◌}
use Rattle.aria_tables.specs.declared.role.Role.{Role}
use Rattle.aria_tables.specs.declared.role.Role.TheVariants.{Cell, Columnheader, Directory, Generic, Grid, Gridcell, Group, ListRole, Listbox, Listitem, Menu, Menubar, Menuitem, Menuitemcheckbox, Menuitemradio, NoneRole, OptionRole, Presentation, RowRole, Rowgroup, Rowheader, Tab, TableRole, Tablist, TreeRole, Treegrid, Treeitem}

-- the roles in one of which an element of this role has to stand; none for a role of which nothing is asked
unfoldable pub context_roles : Role → List Role
context_roles Listitem = ListRole ∷ Directory ∷ []
context_roles OptionRole = Listbox ∷ []
context_roles Menuitem = Menu ∷ Menubar ∷ []
context_roles Menuitemcheckbox = Menu ∷ Menubar ∷ []
context_roles Menuitemradio = Menu ∷ Menubar ∷ []
context_roles Tab = Tablist ∷ []
context_roles Treeitem = TreeRole ∷ Treeitem ∷ []
context_roles RowRole = TableRole ∷ Grid ∷ Treegrid ∷ []
context_roles Rowgroup = TableRole ∷ Grid ∷ Treegrid ∷ []
context_roles Cell = RowRole ∷ []
context_roles Columnheader = RowRole ∷ []
context_roles Gridcell = RowRole ∷ []
context_roles Rowheader = RowRole ∷ []
context_roles _ = []

-- the roles that are passed over on the way up to the context of an element of this role: a row stands in a row group
-- as in what holds that
abbrev pub passed_by_all : List Role
passed_by_all = NoneRole ∷ Presentation ∷ Generic ∷ Group ∷ []

abbrev pub passed_by_rows : List Role
passed_by_rows = NoneRole ∷ Presentation ∷ Generic ∷ Group ∷ Rowgroup ∷ []

abbrev pub passed_roles : Role → List Role
passed_roles RowRole = passed_by_rows
passed_roles _ = passed_by_all
