-- Pages that differ in their lists of language subtags alone.
use Rattle.std.specs.Prelude.{◌≡◌, List, true, false, if◌then◌else◌, Option, Some, ℕ, length}
use Rattle.std.specs.List.{filter_map}
use Rattle.snap_tree.specs.declared.row.NodeId.{NodeId}
use Rattle.snap_tree.specs.Trees.{Document}
use Rattle.page_changes.specs.declared.flags.Flags.{Flags}
use Rattle.rule_core.specs.declared.info.RuleInfo.{RuleInfo}
use Rattle.rule_core.specs.Books.{Book}
use Rattle.rule_core.specs.Reach.{looks_at_langs}
use Rattle.judge_core.specs.declared.judgement.Judgement.{Judgement}
use Rattle.judge_core.specs.declared.outcomes.OutRow.{OutRow}
use Rattle.judge_core.specs.Outcomes.{atomic_row}
use Rattle.judged_rows.specs.Again.{again}
use Rattle.page_keys.specs.PageKeys.{same_langs}

-- the nodes are the same, and the lists aren't
pub record AreRelisted (old new : Document) : Type 0 where
  pub trees : old.trees ≡ new.trees
  pub langs : same_langs old.langs new.langs ≡ false

-- flags of a node of which all is the same
abbrev pub agreeing : NodeId → Flags
agreeing n = record { node = n; itself = true; sub = true; table = true; title = true; metas = true; whole = true }

-- the row that a rule has on a node on which it had this one: anew where its expectations look at the list, else that one
abbrev pub relisted_row : Book → RuleInfo → Document → List Judgement → OutRow → Option OutRow
relisted_row book info new js row = if looks_at_langs info.expects then atomic_row book new js info.no row.node else Some (again js row)

-- those of all nodes on which it had one
abbrev pub relisted_rows : Book → RuleInfo → Document → List Judgement → List OutRow → List OutRow
relisted_rows book info new js rows = filter_map (relisted_row book info new js) rows

-- how many judgings that takes at the most
abbrev pub relisted_cost : RuleInfo → List OutRow → ℕ
relisted_cost info rows = if looks_at_langs info.expects then length rows else 0
