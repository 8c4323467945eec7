-- The known roles: their words, and what this profile says of each.
use Rattle.std.specs.Prelude.{ℕ, List, [], ◌∷◌, codes, Bool, true, false, Option}
use Rattle.std.specs.List.{find, list_any}
use Rattle.std.specs.Str.{bytes_eq}
use Rattle.texts.specs.Words.{same_folded}
use Rattle.aria_tables.specs.declared.role.Role.{Role}
use Rattle.aria_tables.specs.declared.role.Role.TheVariants.{Alert, Alertdialog, Application, Article, Banner, Blockquote, Button, Caption, Cell, Checkbox, Code, Columnheader, Combobox, Complementary, Contentinfo, Definition, Deletion, Dialog, Directory, DocumentRole, Emphasis, Feed, Figure, Form, Generic, Grid, Gridcell, Group, Heading, Img, Insertion, Link, ListRole, Listbox, Listitem, Log, Main, Marquee, Math, Menu, Menubar, Menuitem, Menuitemcheckbox, Menuitemradio, Meter, Navigation, NoneRole, Note, OptionRole, Paragraph, Presentation, Progressbar, Radio, Radiogroup, Region, RowRole, Rowgroup, Rowheader, Scrollbar, Search, Searchbox, Separator, Slider, Spinbutton, Status, Strong, Subscript, Superscript, Switch, Tab, TableRole, Tablist, Tabpanel, Term, Textbox, Time, Timer, Toolbar, Tooltip, TreeRole, Treegrid, Treeitem}

abbrev pub word_of : Role → List ℕ
word_of Alert = codes "alert"
word_of Alertdialog = codes "alertdialog"
word_of Application = codes "application"
word_of Article = codes "article"
word_of Banner = codes "banner"
word_of Blockquote = codes "blockquote"
word_of Button = codes "button"
word_of Caption = codes "caption"
word_of Cell = codes "cell"
word_of Checkbox = codes "checkbox"
word_of Code = codes "code"
word_of Columnheader = codes "columnheader"
word_of Combobox = codes "combobox"
word_of Complementary = codes "complementary"
word_of Contentinfo = codes "contentinfo"
word_of Definition = codes "definition"
word_of Deletion = codes "deletion"
word_of Dialog = codes "dialog"
word_of Directory = codes "directory"
word_of DocumentRole = codes "document"
word_of Emphasis = codes "emphasis"
word_of Feed = codes "feed"
word_of Figure = codes "figure"
word_of Form = codes "form"
word_of Generic = codes "generic"
word_of Grid = codes "grid"
word_of Gridcell = codes "gridcell"
word_of Group = codes "group"
word_of Heading = codes "heading"
word_of Img = codes "img"
word_of Insertion = codes "insertion"
word_of Link = codes "link"
word_of ListRole = codes "list"
word_of Listbox = codes "listbox"
word_of Listitem = codes "listitem"
word_of Log = codes "log"
word_of Main = codes "main"
word_of Marquee = codes "marquee"
word_of Math = codes "math"
word_of Menu = codes "menu"
word_of Menubar = codes "menubar"
word_of Menuitem = codes "menuitem"
word_of Menuitemcheckbox = codes "menuitemcheckbox"
word_of Menuitemradio = codes "menuitemradio"
word_of Meter = codes "meter"
word_of Navigation = codes "navigation"
word_of NoneRole = codes "none"
word_of Note = codes "note"
word_of OptionRole = codes "option"
word_of Paragraph = codes "paragraph"
word_of Presentation = codes "presentation"
word_of Progressbar = codes "progressbar"
word_of Radio = codes "radio"
word_of Radiogroup = codes "radiogroup"
word_of Region = codes "region"
word_of RowRole = codes "row"
word_of Rowgroup = codes "rowgroup"
word_of Rowheader = codes "rowheader"
word_of Scrollbar = codes "scrollbar"
word_of Search = codes "search"
word_of Searchbox = codes "searchbox"
word_of Separator = codes "separator"
word_of Slider = codes "slider"
word_of Spinbutton = codes "spinbutton"
word_of Status = codes "status"
word_of Strong = codes "strong"
word_of Subscript = codes "subscript"
word_of Superscript = codes "superscript"
word_of Switch = codes "switch"
word_of Tab = codes "tab"
word_of TableRole = codes "table"
word_of Tablist = codes "tablist"
word_of Tabpanel = codes "tabpanel"
word_of Term = codes "term"
word_of Textbox = codes "textbox"
word_of Time = codes "time"
word_of Timer = codes "timer"
word_of Toolbar = codes "toolbar"
word_of Tooltip = codes "tooltip"
word_of TreeRole = codes "tree"
word_of Treegrid = codes "treegrid"
word_of Treeitem = codes "treeitem"

-- every known role
unfoldable pub roles : List Role
roles =
    Alert ∷ Alertdialog ∷ Application ∷ Article ∷ Banner ∷ Blockquote ∷ Button ∷ Caption ∷ Cell ∷
    Checkbox ∷ Code ∷ Columnheader ∷ Combobox ∷ Complementary ∷ Contentinfo ∷ Definition ∷
    Deletion ∷ Dialog ∷ Directory ∷ DocumentRole ∷ Emphasis ∷ Feed ∷ Figure ∷ Form ∷ Generic ∷
    Grid ∷ Gridcell ∷ Group ∷ Heading ∷ Img ∷ Insertion ∷ Link ∷ ListRole ∷ Listbox ∷ Listitem ∷
    Log ∷ Main ∷ Marquee ∷ Math ∷ Menu ∷ Menubar ∷ Menuitem ∷ Menuitemcheckbox ∷ Menuitemradio ∷
    Meter ∷ Navigation ∷ NoneRole ∷ Note ∷ OptionRole ∷ Paragraph ∷ Presentation ∷ Progressbar ∷
    Radio ∷ Radiogroup ∷ Region ∷ RowRole ∷ Rowgroup ∷ Rowheader ∷ Scrollbar ∷ Search ∷ Searchbox ∷
    Separator ∷ Slider ∷ Spinbutton ∷ Status ∷ Strong ∷ Subscript ∷ Superscript ∷ Switch ∷ Tab ∷
    TableRole ∷ Tablist ∷ Tabpanel ∷ Term ∷ Textbox ∷ Time ∷ Timer ∷ Toolbar ∷ Tooltip ∷ TreeRole ∷
    Treegrid ∷ Treeitem ∷ []

-- the role whose word a token is, which compares ASCII case-insensitively
unfoldable pub role_of : List ℕ → Option Role
role_of token = find (λ role. same_folded token (word_of role)) roles

-- the two are one role, which their words tell
unfoldable pub same_role : Role → Role → Bool
same_role a b = bytes_eq (word_of a) (word_of b)

-- the role is one of these
abbrev pub is_one_of : List Role → Role → Bool
is_one_of those role = list_any (same_role role) those

-- the name of an element of this role may come from what it holds
abbrev pub named_from_content : Role → Bool
named_from_content Button = true
named_from_content Cell = true
named_from_content Checkbox = true
named_from_content Columnheader = true
named_from_content Gridcell = true
named_from_content Heading = true
named_from_content Link = true
named_from_content Menuitem = true
named_from_content Menuitemcheckbox = true
named_from_content Menuitemradio = true
named_from_content OptionRole = true
named_from_content Radio = true
named_from_content RowRole = true
named_from_content Rowheader = true
named_from_content Switch = true
named_from_content Tab = true
named_from_content Tooltip = true
named_from_content Treeitem = true
named_from_content _ = false

-- the landmarks
abbrev pub is_landmark : Role → Bool
is_landmark Banner = true
is_landmark Complementary = true
is_landmark Contentinfo = true
is_landmark Form = true
is_landmark Main = true
is_landmark Navigation = true
is_landmark Region = true
is_landmark Search = true
is_landmark _ = false
