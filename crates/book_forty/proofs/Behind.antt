-- A table with another one behind it says what it says by itself, by a number that no atomic rule behind it has.
use Rattle.std.proofs.Common.{◌≡◌, List, [], ◌∷◌, ◌++◌, Bool, false, cond, eqb, Option, sym, ap}
use Rattle.snap_tree.specs.declared.row.NodeId.{NodeId}
use Rattle.snap_tree.specs.Trees.{Document}
use Rattle.rule_core.specs.declared.info.RuleNo.{RuleNo}
use Rattle.rule_core.specs.declared.verdict.Verdict.{Verdict}
use Rattle.rule_core.specs.Books.{Entry, infos_of, said}
use Rattle.rule_core.specs.BookLaws.{said_strange}
use Rattle.rule_core.specs.Infos.{has_atomic}

chosen : (here : Bool) (v w z : Option Verdict) → w ≡ z → cond here v w ≡ cond here v z
chosen here v w z e = ap (cond here v) e

on_node : (entries more : List Entry) (rule : RuleNo) → has_atomic (infos_of more) rule.0 ≡ false → (page : Document) (n : NodeId) → said entries rule page n ≡ said (entries ++ more) rule page n
on_node [] more rule strange page n = sym (said_strange more rule strange page n)
on_node (e ∷ entries) more rule strange page n =
    chosen (eqb rule.0 e.info.no.0) _ (said entries rule page n) (said (entries ++ more) rule page n) (on_node entries more rule strange page n)

pub said_before : (entries more : List Entry) (rule : RuleNo) → has_atomic (infos_of more) rule.0 ≡ false → said entries rule ≡ said (entries ++ more) rule
said_before entries more rule strange = λ i page n. on_node entries more rule strange page n i
