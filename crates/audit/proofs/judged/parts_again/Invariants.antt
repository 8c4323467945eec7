use Rattle.std.proofs.Common.{◌≡◌, List, IsTrue, map, take, drop}
use Rattle.std.specs.List.{flat_map, AllByRecursion}
use Rattle.snap_tree.specs.Trees.{Document}
use Rattle.rule_core.specs.Infos.{rise}
use Rattle.rule_core.specs.Books.{Book}
use Rattle.judge_core.specs.declared.judgement.Judgement.{Judgement}
use Rattle.judge_core.specs.Outcomes.{rule_rows, outcomes}
use Rattle.judged_rows.specs.ByNode.{IsByNode}
use Rattle.judged_rows.specs.Parts.{IsPart}
use Rattle.audit.proofs.judged.parts_again.Given as goal

abbrev pub invariant-loop-info : goal.invariant-loop-info
invariant-loop-info l =
    (map (λ p. p.info) l.parts.items ≡ take l.info-index l.infos)
    × ((book : Book) (page : Document) (before js : List Judgement) → IsTrue (rise l.infos) → l.infos ≡ book.infos → l.rows ≡ outcomes book page before → IsByNode js l.by_node →
    (l.left ≡ flat_map (rule_rows book page before) (drop l.info-index l.infos)) × AllByRecursion (IsPart book page js) l.parts.items)
