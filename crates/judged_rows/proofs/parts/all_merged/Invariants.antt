use Rattle.std.proofs.Common.{◌≡◌, List, [], cond, map, take}
use Rattle.snap_tree.specs.Trees.{Document}
use Rattle.rule_core.specs.Infos.{is_atomic}
use Rattle.rule_core.specs.Books.{Book}
use Rattle.judge_core.specs.declared.judgement.Judgement.{Judgement}
use Rattle.judge_core.specs.Outcomes.{composite_rows}
use Rattle.judged_rows.specs.Parts.{AreParts, SaysByAtomic}
use Rattle.judged_rows.proofs.parts.all_merged.Given as goal

abbrev pub invariant-loop-part : goal.invariant-loop-part
invariant-loop-part l =
    (book : Book) (page : Document) (js : List Judgement) → SaysByAtomic book → AreParts book page js l.parts →
    l.groups.items ≡ map (λ p. cond (is_atomic p.info) [] (composite_rows book page js p.info)) (take l.part-index l.parts)
