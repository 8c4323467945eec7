-- A book that is a table says nothing by a number that is no atomic rule of it.
use Rattle.std.proofs.Common.{◌≡◌, Bool, true, false, cond, eqb, List, [], ◌∷◌, Option, Some, None, refl, sym}
use Rattle.std.proofs.lemmas.Bool.{false≢true}
use Rattle.std.specs.Option.{option_map_or}
use Rattle.snap_tree.specs.declared.row.NodeId.{NodeId}
use Rattle.snap_tree.specs.Trees.{Document}
use Rattle.rule_core.specs.declared.info.RuleNo.{RuleNo}
use Rattle.rule_core.specs.declared.info.RuleInfo.{RuleInfo}
use Rattle.rule_core.specs.declared.verdict.Verdict.{Verdict}
use Rattle.rule_core.specs.Infos.{is_atomic, info_of, has_atomic}
use Rattle.rule_core.specs.Books.{Entry, infos_of, said}

not_atomic : (atomic : Bool) (v : Option Verdict) → atomic ≡ false → cond atomic v None ≡ None
not_atomic true v h = absurd (false≢true (sym h))
not_atomic false v h = refl

at_number : (here : Bool) (i : RuleInfo) (later : Option RuleInfo) (v w : Option Verdict)
    → (option_map_or is_atomic later false ≡ false → w ≡ None)
    → option_map_or is_atomic (cond here (Some i) later) false ≡ false → cond here (cond (is_atomic i) v None) w ≡ None
at_number true i later v w next h = not_atomic (is_atomic i) v h
at_number false i later v w next h = next h

pub said_strange : (entries : List Entry) (rule : RuleNo) → has_atomic (infos_of entries) rule.0 ≡ false → (page : Document) (n : NodeId) → said entries rule page n ≡ None
said_strange [] rule h page n = refl
said_strange (e ∷ entries) rule h page n =
    at_number (eqb rule.0 e.info.no.0) e.info (info_of (infos_of entries) rule.0) (e.says page n) (said entries rule page n) (λ k. said_strange entries rule k page n) h
