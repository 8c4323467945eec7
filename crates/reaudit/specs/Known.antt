-- What is known of the nodes of a page that was edited.
use Rattle.std.specs.Prelude.{◌≡◌, ◌==◌, ◌+◌, ◌&&◌, not, ℕ, List, [], ◌∷◌, map, Bool, true, false, if◌then◌else◌, Option, Some, None}
use Rattle.snap_tree.specs.declared.row.NodeId.{NodeId}
use Rattle.snap_tree.specs.declared.row.Row.{Row}
use Rattle.snap_tree.specs.Trees.{Document, rows_of}
use Rattle.acc_tree.specs.Seen.{seen}
use Rattle.rule_core.specs.declared.info.Class.{Class}
use Rattle.rule_core.specs.declared.info.Class.TheVariants.{SelfOnly, Sub, Table, Title, Metas, Whole, Lang, SubLang}
use Rattle.rule_core.specs.declared.info.RuleInfo.{RuleInfo}
use Rattle.page_changes.specs.declared.flags.Flags.{Flags}
use Rattle.page_changes.specs.Flags.{flags_of}
use Rattle.page_keys.specs.PageKeys.{same_langs}
use Rattle.reaudit.specs.declared.known.Known.{Known}
use Rattle.reaudit.specs.declared.known.Placed.{Placed}

-- the first flags of a number in a list, with their place, counted from `from`
abbrev pub first_known : ℕ → ℕ → List Flags → Option Known
first_known from n [] = None
first_known from n (f ∷ list) = if f.node.0 == n then Some (record { place = from; flags = f }) else first_known (from + 1) n list

-- what is known of a number: its place on the old page, and what of it is the same
abbrev pub known_of : Document → Document → NodeId → Option Known
known_of old new n = first_known 0 n.0 (map (λ row. flags_of (seen old.trees) (seen new.trees) row.id) (rows_of (seen old.trees)))

-- and whether the lists of language subtags are the same
abbrev pub placed_of : Document → Document → NodeId → Placed
placed_of old new n = record { node = n; known = known_of old new n; langs = same_langs old.langs new.langs }

-- the nodes of the new page, with what is known of each
abbrev pub ArePlaced : Document → Document → List Placed → Type 0
ArePlaced old new placed = placed ≡ map (λ row. placed_of old new row.id) (rows_of new.trees)

-- pages hold the same nodes, in the same order
abbrev pub same_nodes : List Row → List Row → Bool
same_nodes [] [] = true
same_nodes [] (row ∷ rows) = false
same_nodes (r ∷ before) [] = false
same_nodes (r ∷ before) (row ∷ rows) = r.id.0 == row.id.0 && same_nodes before rows

-- the nodes of flags in their order, with their places, counted from `from`
abbrev pub in_order : Bool → ℕ → List Flags → List Placed
in_order langs from [] = []
in_order langs from (f ∷ flags) = record { node = f.node; known = Some (record { place = from; flags = f }); langs = langs } ∷ in_order langs (from + 1) flags

-- ---- what has to be judged

-- the pages, whose lists of language subtags are the same or not, agree on all that a class looks at
abbrev pub class_flag : Bool → Class → Flags → Bool
class_flag langs SelfOnly f = f.itself
class_flag langs Sub f = f.sub
class_flag langs Table f = f.table
class_flag langs Title f = f.title
class_flag langs Metas f = f.metas
class_flag langs Whole f = f.whole
class_flag langs Lang f = f.itself && langs
class_flag langs SubLang f = f.sub && langs

-- a rule has to judge a node: it is new, or something isn't the same that the rule looks at, which on a target is more
abbrev pub has_to_judge : RuleInfo → Bool → Option Known → Bool → Bool
has_to_judge info langs None target = true
has_to_judge info langs (Some k) target = not (class_flag langs info.applies k.flags && (if target then class_flag langs info.expects k.flags else true))
