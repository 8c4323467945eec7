-- What is found of a rule after an edit, by the rows that it had on the old page.
--
-- Code that has these rows alone never sees the old page, nor what was judged there: so what it finds holds for each old page and all
-- judgements of which `Had` holds, which says what rows the rule had.
use Rattle.std.specs.Prelude.{◌≡◌, ◌+◌, ◌≤◌, ◌++◌, ℕ, List, length, filter, if◌then◌else◌, Option, OnOk, IfOk, Result, Vec}
use Rattle.std.specs.Borrow.{Bor}
use Rattle.std.specs.BTreeMap.{BTreeMap}
use Rattle.std.specs.List.{Contains, filter_map}
use Rattle.std.specs.Option.{option_to_list}
use Rattle.std.specs.declared.alloc.Global.{Global}
use Rattle.snap_tree.specs.Trees.{Document}
use Rattle.rule_core.specs.declared.info.RuleInfo.{RuleInfo}
use Rattle.rule_core.specs.Books.{Book}
use Rattle.rule_core.specs.Local.{AreVersions}
use Rattle.rule_core.specs.Reach.{is_affected, affected_nodes}
use Rattle.judge_core.specs.declared.judgement.Judgement.{Judgement}
use Rattle.judge_core.specs.declared.outcomes.OutRow.{OutRow}
use Rattle.judge_core.specs.Outcomes.{atomic_row, atomic_rows}
use Rattle.judged_rows.specs.ByNode.{IsByNode}
use Rattle.reaudit.specs.declared.known.Placed.{Placed}
use Rattle.reaudit.specs.Known.{placed_of}
use Rattle.reaudit.specs.Nodes.{AreKnown}

-- the judgements on each node
abbrev pub ByNode : Type 0
ByNode = BTreeMap ℕ (Vec (Bor Judgement) Global)

-- a row was added, where there is one
abbrev pub Adds : {A E : Type 0} → Option OutRow → List OutRow → List OutRow → Result A E → Type 0
Adds row old new result = OnOk result (new ≡ old ++ option_to_list row)

-- ---- one node

-- the row was added that a rule of the book has on a node of the new page under these judgements
abbrev pub AddsRow : {A E : Type 0} → Book → RuleInfo → Document → Placed → (Document → List Judgement → Type 0) → ByNode → List OutRow → List OutRow → Result A E → Type 0
AddsRow book info new placed Had by_node before now result =
    (old : Document) (earlier js : List Judgement) → Contains book.infos info → AreVersions old new
    → placed ≡ placed_of old new placed.node → Had old earlier
    → IsByNode js by_node → Adds (atomic_row book new js info.no placed.node) before now result

-- that costs a judging at most, and none where the edit doesn't affect the rule on the node
abbrev pub CostsRow : Book → RuleInfo → Document → Placed → (Document → List Judgement → Type 0) → ℕ → ℕ → Type 0
CostsRow book info new placed Had before now =
    (old : Document) (js : List Judgement) → placed ≡ placed_of old new placed.node → Had old js
    → now ≤ before + (if is_affected info (book.means info.no) old new placed.node then 1 else 0)

-- ---- some nodes

-- the rows that a rule of the book has on these nodes of the new page under these judgements
abbrev pub FindsRows : {E : Type 0} → Book → RuleInfo → Document → List Placed → (Document → List Judgement → Type 0) → ByNode → Result (Vec OutRow Global) E → Type 0
FindsRows book info new some Had by_node result =
    (old : Document) (earlier js : List Judgement) → Contains book.infos info → AreVersions old new
    → AreKnown old new some → Had old earlier
    → IsByNode js by_node → IfOk result (λ rows. rows.items ≡ filter_map (λ p. atomic_row book new js info.no p.node) some)

-- they cost a judging at most for each of these nodes on which the edit affects the rule
abbrev pub CostsRows : Book → RuleInfo → Document → List Placed → (Document → List Judgement → Type 0) → ℕ → ℕ → Type 0
CostsRows book info new some Had before now =
    (old : Document) (js : List Judgement) → AreKnown old new some → Had old js
    → now ≤ before + length (filter (λ p. is_affected info (book.means info.no) old new p.node) some)

-- ---- a page

-- where these rows are those of the old page, under whatever judgements, the result is the rows on the new page under these
abbrev pub FindsAgain : {E : Type 0} → Book → RuleInfo → Document → Document → List OutRow → ByNode → Result (Vec OutRow Global) E → Type 0
FindsAgain book info old new rows by_node result =
    (earlier js : List Judgement) → rows ≡ atomic_rows book old earlier info.no
    → IsByNode js by_node → IfOk result (λ rows. rows.items ≡ atomic_rows book new js info.no)

-- and they cost a judging at most for each node on which the edit affects the rule
abbrev pub CostsAgain : Book → RuleInfo → Document → Document → List OutRow → ℕ → ℕ → Type 0
CostsAgain book info old new rows before now =
    (earlier : List Judgement) → rows ≡ atomic_rows book old earlier info.no
    → now ≤ before + length (affected_nodes info (book.means info.no) old new)
