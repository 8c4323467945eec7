-- The nodes of a page that was edited, as every rule goes over them.
use Rattle.std.specs.Prelude.{◌≡◌, ◌&&◌, ◌||◌, not, List, filter, Bool, true, false, Option, Some, None}
use Rattle.std.specs.List.{AllByRecursion}
use Rattle.snap_tree.specs.Trees.{Document, rows_of}
use Rattle.reaudit.specs.declared.known.Known.{Known}
use Rattle.reaudit.specs.declared.known.Placed.{Placed}
use Rattle.reaudit.specs.declared.nodes.Nodes.{Nodes}
use Rattle.reaudit.specs.Known.{placed_of, ArePlaced, same_nodes}
use Rattle.reaudit.specs.Marks.{is_marked}
use Rattle.reaudit.specs.Relisted.{AreRelisted}

-- the pages agree on all that rules look at of a node of both
abbrev pub is_settled : Bool → Option Known → Bool
is_settled langs None = false
is_settled langs (Some k) = langs && (k.flags.itself && (k.flags.sub && (k.flags.table && (k.flags.title && (k.flags.metas && k.flags.whole)))))

-- the others: those that the edit reaches
abbrev pub reached_by : List Placed → List Placed
reached_by placed = filter (λ p. not (is_settled p.langs p.known)) placed

-- the edit reaches a node, or it may have a row
abbrev pub is_live : List Bool → Placed → Bool
is_live marks p = not (is_settled p.langs p.known) || is_marked marks p.node

-- those that the edit reaches, and those that may have a row
abbrev pub live_by : List Bool → List Placed → List Placed
live_by marks placed = filter (is_live marks) placed

-- of each of these nodes it is told what is known of it
abbrev pub AreKnown : Document → Document → List Placed → Type 0
AreKnown old new some = AllByRecursion (λ p. p ≡ placed_of old new p.node) some

pub record AreNodes (old new : Document) (nodes : Nodes) : Type 0 where
  pub placed : ArePlaced old new nodes.placed.items
  pub reached : nodes.reached.items ≡ reached_by nodes.placed.items
  pub live : nodes.live.items ≡ live_by nodes.marks.items nodes.placed.items
  pub in_order : nodes.in_order ≡ same_nodes (rows_of old.trees) (rows_of new.trees)
  pub relisted : nodes.relisted ≡ true → AreRelisted old new
