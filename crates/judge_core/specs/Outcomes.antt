-- The outcomes of a page: what each rule of a book says of each node, with what people judged.
use Rattle.std.specs.Prelude.{ℕ, ◌*◌, List, [], ◌∷◌, if◌then◌else◌, not, ◌==◌, Option, Some, None, option_map, filter, map, count_by, length}
use Rattle.std.specs.List.{flat_map, filter_map}
use Rattle.snap_tree.specs.declared.row.NodeId.{NodeId}
use Rattle.snap_tree.specs.Trees.{Document, rows_of}
use Rattle.rule_core.specs.declared.info.RuleNo.{RuleNo}
use Rattle.rule_core.specs.declared.info.RuleInfo.{RuleInfo}
use Rattle.rule_core.specs.declared.reason.Reason.TheVariants.{Merged}
use Rattle.rule_core.specs.declared.verdict.Verdict.{Verdict}
use Rattle.rule_core.specs.Infos.{is_atomic}
use Rattle.rule_core.specs.Books.{Book}
use Rattle.judge_core.specs.declared.judgement.Judgement.{Judgement}
use Rattle.judge_core.specs.declared.outcomes.OutRow.{OutRow}
use Rattle.judge_core.specs.declared.outcomes.Final.{Final}
use Rattle.judge_core.specs.Judgements.{final}
use Rattle.judge_core.specs.Composites.{merge}

-- the row of an outcome with its final one
abbrev pub row_with : RuleNo → NodeId → Verdict → Final → OutRow
row_with rule node verdict final =
    record { rule = rule; node = node; auto = verdict.auto; reason = verdict.reason; evidence = verdict.evidence; last = final.last; hand = final.hand }

-- the row of a verdict under judgements
abbrev pub row_of : RuleNo → NodeId → List Judgement → Verdict → OutRow
row_of rule node js verdict = row_with rule node verdict (final verdict.auto rule node verdict.evidence js)

-- the row of an atomic rule on a node, where there is a verdict
abbrev pub atomic_row : Book → Document → List Judgement → RuleNo → NodeId → Option OutRow
atomic_row book page js rule node = option_map (row_of rule node js) (book.means rule page node)

-- the rows of an atomic rule: of each node with a verdict, in document order
abbrev pub atomic_rows : Book → Document → List Judgement → RuleNo → List OutRow
atomic_rows book page js rule = filter_map (λ row. atomic_row book page js rule row.id) (rows_of page.trees)

-- the row of a composite rule on a node, whose inputs have these rows there: none where they have none
abbrev pub merged_row : RuleNo → NodeId → List OutRow → Option OutRow
merged_row rule node [] = None
merged_row rule node (row ∷ rows) = Some (record {
  rule = rule;
  node = node;
  auto = merge (map (λ r. r.auto) (row ∷ rows));
  reason = Merged;
  evidence = [];
  last = merge (map (λ r. r.last) (row ∷ rows));
  hand = [];
})

-- the rules of those numbers that aren't 0
abbrev pub rules_among : List ℕ → List RuleNo
rules_among numbers = map (λ number. record { 0 = number }) (filter (λ number. not (number == 0)) numbers)

-- the rules that a composite rule merges
abbrev pub inputs_of : RuleInfo → List RuleNo
inputs_of info = rules_among info.inputs

-- the row of a composite rule on a node, where some input has a verdict there
abbrev pub composite_row : Book → Document → List Judgement → RuleInfo → NodeId → Option OutRow
composite_row book page js info node = merged_row info.no node (filter_map (λ input. atomic_row book page js input node) (inputs_of info))

-- the rows of a composite rule, in document order
abbrev pub composite_rows : Book → Document → List Judgement → RuleInfo → List OutRow
composite_rows book page js info = filter_map (λ row. composite_row book page js info row.id) (rows_of page.trees)

-- the rows of a rule
abbrev pub rule_rows : Book → Document → List Judgement → RuleInfo → List OutRow
rule_rows book page js info = if is_atomic info then atomic_rows book page js info.no else composite_rows book page js info

-- the outcomes of a page by a book under judgements: the rows of each rule, in the order of the book
abbrev pub outcomes : Book → Document → List Judgement → List OutRow
outcomes book page js = flat_map (rule_rows book page js) book.infos

-- the judgings of a page: each atomic rule on each node
abbrev pub judgings : Book → Document → ℕ
judgings book page = count_by is_atomic book.infos * length (rows_of page.trees)
