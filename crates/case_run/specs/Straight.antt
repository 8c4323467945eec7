-- A case that is read straight from the texts of its members.
use Rattle.std.specs.Prelude.{◌≡◌, ℕ, List, [], Bool, true, ◌&&◌, Some, Ok}
use Rattle.std.specs.Str.{is_utf8}
use Rattle.json_parts.specs.Parts.{is_shallow}
use Rattle.json_parts.specs.declared.members.Members.{Members}
use Rattle.snap_tree.specs.Trees.{Document}
use Rattle.snap_json.specs.Pages.{sent_tree}
use Rattle.rule_core.specs.declared.info.RuleInfo.{RuleInfo}
use Rattle.case_run.specs.declared.case.Case.{Case}
use Rattle.case_run.specs.Words.{expected_named}
use Rattle.case_run.specs.Cases.{new_id, rule_named}

-- a snapshot that may stand in a case, and its tree
pub record Snaps (bytes : List ℕ) (tree : Document) : Type 0 where
  pub inner : (is_utf8 bytes && is_shallow 124 bytes) ≡ true
  pub is : sent_tree bytes ≡ Ok tree

-- the case has these members
pub record HasMembers (infos : List RuleInfo) (members : Members) (c : Case) : Type 0 where
  pub id : new_id [] members.first.now ≡ Some c.id
  pub rule : rule_named infos members.second.now ≡ Some c.rule
  pub expected : expected_named members.third.now ≡ Some c.expected
  pub snapshot : Snaps members.last.now c.tree
