-- How many judgings an edit costs, rule by rule.
use Rattle.std.specs.Prelude.{ℕ, length, if◌then◌else◌}
use Rattle.snap_tree.specs.Trees.{Document}
use Rattle.rule_core.specs.declared.info.RuleInfo.{RuleInfo}
use Rattle.rule_core.specs.Books.{Book}
use Rattle.rule_core.specs.Infos.{is_atomic}
use Rattle.rule_core.specs.Pages.{node_count}
use Rattle.rule_core.specs.Reach.{affected_nodes}

-- of an atomic rule, the nodes on which the edit affects it
abbrev pub affected_cost : Book → Document → Document → RuleInfo → ℕ
affected_cost book old new info = if is_atomic info then length (affected_nodes info (book.means info.no) old new) else 0

-- of an atomic rule, all nodes of a page
abbrev pub whole_cost : Document → RuleInfo → ℕ
whole_cost page info = if is_atomic info then node_count page else 0
