-- What an element of a role may own. The table is this profile's: a treegrid isn't in it.
use Rattle.std.specs.Prelude.{List, [], ◌∷◌}
use Rattle.aria_tables.specs.declared.role.Role.{Role}
use Rattle.aria_tables.specs.declared.role.Role.TheVariants.{Article, Caption, Cell, Columnheader, Feed, Grid, Gridcell, Group, ListRole, Listbox, Listitem, Menu, Menubar, Menuitem, Menuitemcheckbox, Menuitemradio, OptionRole, RowRole, Rowgroup, Rowheader, Separator, Tab, TableRole, Tablist, TreeRole, Treeitem}

-- the roles that an element of this role may own; none for a role that isn't asked what it owns
abbrev pub allowed_owned : Role → List Role
allowed_owned ListRole = Listitem ∷ []
allowed_owned Listbox = OptionRole ∷ []
allowed_owned Menu = Menuitem ∷ Menuitemcheckbox ∷ Menuitemradio ∷ Separator ∷ []
allowed_owned Menubar = Menuitem ∷ Menuitemcheckbox ∷ Menuitemradio ∷ Separator ∷ []
allowed_owned Tablist = Tab ∷ []
allowed_owned TreeRole = Treeitem ∷ []
allowed_owned TableRole = RowRole ∷ Caption ∷ []
allowed_owned Grid = RowRole ∷ Caption ∷ []
allowed_owned Rowgroup = RowRole ∷ []
allowed_owned RowRole = Cell ∷ Columnheader ∷ Gridcell ∷ Rowheader ∷ []
allowed_owned Feed = Article ∷ []
allowed_owned _ = []

-- the roles of owned elements in whose place stands what they own themselves
abbrev pub looks_through : Role → List Role
looks_through Listbox = Group ∷ []
looks_through Menu = Group ∷ []
looks_through Menubar = Group ∷ []
looks_through TreeRole = Group ∷ []
looks_through TableRole = Rowgroup ∷ []
looks_through Grid = Rowgroup ∷ []
looks_through _ = []
