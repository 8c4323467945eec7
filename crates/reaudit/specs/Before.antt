-- The rows that the nodes of a page had.
use Rattle.std.specs.Prelude.{◌≡◌, List, map, slice_get, Option, Some, None, IfSome}
use Rattle.std.specs.List.{filter_map}
use Rattle.snap_tree.specs.Trees.{Document, rows_of}
use Rattle.rule_core.specs.declared.info.RuleNo.{RuleNo}
use Rattle.rule_core.specs.Books.{Book}
use Rattle.judge_core.specs.declared.judgement.Judgement.{Judgement}
use Rattle.judge_core.specs.declared.outcomes.OutRow.{OutRow}
use Rattle.judge_core.specs.Outcomes.{atomic_row}
use Rattle.reaudit.specs.declared.known.Known.{Known}
use Rattle.reaudit.specs.declared.known.Placed.{Placed}
use Rattle.reaudit.specs.Known.{placed_of}

abbrev pub joined : Option (Option OutRow) → Option OutRow
joined None = None
joined (Some row) = row

-- the row at the place of a node that is known
abbrev pub kept_at : List (Option OutRow) → Option Known → Option OutRow
kept_at before None = None
kept_at before (Some known) = joined (slice_get before known.place)

-- the rows that a rule had on the nodes of the old page, in the order of the nodes
abbrev pub WereRows : Book → Document → List Judgement → RuleNo → List (Option OutRow) → Type 0
WereRows book old js rule before = before ≡ map (λ row. atomic_row book old js rule row.id) (rows_of old.trees)

-- the row that a rule had on a node, where the old page holds the node
abbrev pub HadRow : Book → RuleNo → Placed → Option OutRow → Document → List Judgement → Type 0
HadRow book rule placed row old js = IfSome placed.known (λ k. row ≡ atomic_row book old js rule placed.node)

-- the rows that a rule had on the nodes of the old page that the new one holds, each at the place of its node
pub record KeepsRows (book : Book) (rule : RuleNo) (new : Document) (before : List (Option OutRow)) (old : Document) (js : List Judgement) : Type 0 where
  pub each : (p : Placed) → p ≡ placed_of old new p.node → HadRow book rule p (kept_at before p.known) old js

-- the rows that a rule had, where the nodes of the old page are these, in their order
abbrev pub HadRows : Book → RuleNo → List Placed → List OutRow → Document → List Judgement → Type 0
HadRows book rule placed rows old js = rows ≡ filter_map (atomic_row book old js rule) (map (λ p. p.node) placed)
