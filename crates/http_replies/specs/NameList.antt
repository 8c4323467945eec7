-- The body of the reply that lists the names of a page: what is said of each element by which a person who listens finds
-- the way.
use Rattle.std.specs.Prelude.{◌&&◌, not, ℕ, List, [], map, filter, codes, Bool, false, Option}
use Rattle.std.specs.Option.{option_map_or}
use Rattle.serde_json.specs.Data.{Data, string, array, object, no_members, member}
use Rattle.serde_json.specs.View.{items_of}
use Rattle.aria_tables.specs.declared.role.Role.{Role}
use Rattle.aria_tables.specs.declared.role.Role.TheVariants.{Generic}
use Rattle.aria_tables.specs.Roles.{word_of, same_role}
use Rattle.snap_tree.specs.declared.row.NodeId.{NodeId}
use Rattle.snap_tree.specs.declared.row.Row.{Row}
use Rattle.snap_tree.specs.Trees.{Trees, rows_of}
use Rattle.acc_tree.specs.Pages.{role, is_included}
use Rattle.acc_tree.specs.Seen.{seen}
use Rattle.acc_name.specs.declared.named.NameSource.{NameSource}
use Rattle.acc_name.specs.declared.named.NameSource.TheVariants as source
use Rattle.acc_name.specs.Names.{name_of}
use Rattle.http_replies.specs.Words.{whole}

-- the clause that gave a name, by its variant's name
abbrev pub source_word : NameSource → List ℕ
source_word source.Nothing = codes "Nothing"
source_word source.LabelledBy = codes "LabelledBy"
source_word source.AriaLabel = codes "AriaLabel"
source_word source.HostLabel = codes "HostLabel"
source_word source.HostText = codes "HostText"
source_word source.Content = codes "Content"
source_word source.Title = codes "Title"
source_word source.Placeholder = codes "Placeholder"

-- a role that is listed: any but generic
abbrev pub is_told : Role → Bool
is_told r = not (same_role r Generic)

-- A node of the accessibility tree that has a role other than generic. Elements alone have roles.
abbrev pub is_listed : Trees → NodeId → Bool
is_listed trees n = is_included (seen trees) n && option_map_or is_told (role (seen trees) n) false

-- the word of a node's role
abbrev pub word_at : Option Role → List ℕ
word_at r = option_map_or word_of r []

-- a node by its name, its number, its role, and the clause that gave the name
unfoldable pub name_data : Trees → NodeId → Data
name_data trees n =
    object (member (codes "name") (string (name_of (seen trees) n).text)
    (member (codes "node") (whole n.0)
    (member (codes "role") (string (word_at (role (seen trees) n)))
    (member (codes "source") (string (source_word (name_of (seen trees) n).source))
    no_members))))

-- those of some rows of a page that are listed, in their order
abbrev pub names_among : Trees → List Row → List Data
names_among trees rows = map (λ row. name_data trees row.id) (filter (λ row. is_listed trees row.id) rows)

-- those of all, in document order
unfoldable pub names_data : Trees → Data
names_data trees = object (member (codes "names") (array (items_of (names_among trees (rows_of trees)))) no_members)
