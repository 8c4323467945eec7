-- What an element owns: the elements that count as its children. They are those below it, and those that it follows by
-- aria-owns. From an element that was followed nothing is followed. So each owned element comes with a number: how many
-- times one may still follow from there on, 1 or 0.
use Rattle.std.specs.Prelude.{◌||◌, not, ℕ, zero, suc, List, [], ◌∷◌, ◌++◌, map, Bool, true, false, if◌then◌else◌, Option, Some, None}
use Rattle.std.specs.List.{flat_map}
use Rattle.std.specs.Option.{option_map_or}
use Rattle.aria_tables.specs.declared.role.Role.{Role}
use Rattle.aria_tables.specs.declared.role.Role.TheVariants as role
use Rattle.aria_tables.specs.Roles.{is_one_of}
use Rattle.snap_tree.specs.declared.row.NodeId.{NodeId}
use Rattle.snap_tree.specs.declared.row.Row.{Row}
use Rattle.snap_tree.specs.Rows.{is_text}
use Rattle.snap_tree.specs.Trees.{Trees, empty, tree}
use Rattle.acc_tree.specs.declared.above.Above.{Above}
use Rattle.acc_tree.specs.declared.owning.Item.{Item}
use Rattle.acc_tree.specs.declared.owning.OwnedElement.{OwnedElement}
use Rattle.acc_tree.specs.declared.owning.Standing.{Standing}
use Rattle.acc_tree.specs.declared.owning.Standing.TheVariants as standing
use Rattle.acc_tree.specs.Following.{followed}
use Rattle.acc_tree.specs.Frames.{under}
use Rattle.acc_tree.specs.Inclusion.{is_hidden}
use Rattle.acc_tree.specs.Roles.{role_at}
use Rattle.acc_tree.specs.Sights.{Sight, sight_of}

-- an element of such a role stands for what it owns itself
abbrev pub is_bare : Role → Bool
is_bare role.NoneRole = true
is_bare role.Presentation = true
is_bare role.Generic = true
is_bare _ = false

-- the roles are those that are looked through
abbrev pub by_role : List Role → Option Role → Standing
by_role through None = standing.Through
by_role through (Some r) = if is_bare r || is_one_of through r then standing.Through else standing.Owned r

-- a node that isn't rendered or is hidden isn't owned, nor is anything that it owns; in the place of one
-- that isn't visible, or whose role is none, presentation, generic, absent or looked through, stands what
-- that owns itself
abbrev pub standing_of : List Role → Above → Row → Standing
standing_of through above row =
    if is_text row || not row.facts.rendered || is_hidden row then standing.Left
    else (if not row.facts.visible then standing.Through else by_role through (role_at above row))

-- what stands in the place of a node with this number, given what it owns itself
abbrev pub owned_at : Standing → ℕ → NodeId → List OwnedElement → List OwnedElement
owned_at standing.Left number n owns = []
owned_at standing.Through number n owns = owns
owned_at (standing.Owned r) number n owns = record { node = n; role = r; number = number } ∷ []

-- what the children own that these trees are, in document order, each with this number; a row that is looked through
-- takes in more behind its own children
abbrev pub owned_in : List Role → ℕ → (Row → List OwnedElement) → Above → Trees → List OwnedElement
owned_in through number takes above empty = []
owned_in through number takes above (tree row kids after) =
    owned_at (standing_of through above row) number row.id (owned_in through number takes (under above row) kids ++ takes row)
    ++ owned_in through number takes above after

abbrev pub takes_nothing : Row → List OwnedElement
takes_nothing row = []

-- what stands in the place of a node that is followed
abbrev pub in_its_place : List Role → Sight → List OwnedElement
in_its_place through s =
    owned_at (standing_of through s.above s.row) 0 s.row.id (owned_in through 0 takes_nothing (under s.above s.row) s.below)

-- what a row takes in, where one may follow so many times: that in the place of each node which it follows
abbrev pub taken : List Role → Trees → ℕ → Row → List OwnedElement
taken through trees zero row = []
taken through trees (suc number) row = flat_map (in_its_place through) (followed trees row)

-- what an element owns where one may follow so many times and these roles are looked through, again and again: first
-- what stands in the place of its children, then in the place of the nodes that it follows
abbrev pub owned_by : List Role → Trees → ℕ → Sight → List OwnedElement
owned_by through trees number s =
    owned_in through number (taken through trees number) (under s.above s.row) s.below ++ taken through trees number s.row

-- an owned element, without its role
abbrev pub item_of : OwnedElement → Item
item_of o = record { node = o.node; number = o.number }

-- what a node owns where one may follow so many times, each element with its number; nothing for a stranger
abbrev pub items : Trees → NodeId → ℕ → List Item
items trees n number = option_map_or (λ s. map item_of (owned_by [] trees number s)) (sight_of trees n) []

-- the numbers of the elements that a node owns; none for a stranger
abbrev pub owned : Trees → NodeId → List NodeId
owned trees n = map (λ i. i.node) (items trees n 1)
