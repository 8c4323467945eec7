-- The rows of a rule are those of its verdicts.
use Rattle.std.proofs.Common.{◌≡◌, List, [], ◌∷◌, map, Option, Some, None, option_map, refl, ap, ◌∙◌}
use Rattle.std.specs.List.{filter_map, cons_option}
use Rattle.snap_tree.specs.declared.row.NodeId.{NodeId}
use Rattle.snap_tree.specs.declared.row.Row.{Row}
use Rattle.snap_tree.specs.Trees.{Document, rows_of}
use Rattle.rule_core.specs.declared.info.RuleNo.{RuleNo}
use Rattle.rule_core.specs.declared.verdict.NodeVerdict.{NodeVerdict}
use Rattle.rule_core.specs.declared.verdict.Verdict.{Verdict}
use Rattle.rule_core.specs.Pages.{on_node, page_verdicts}
use Rattle.rule_core.specs.Books.{Book}
use Rattle.judge_core.specs.declared.judgement.Judgement.{Judgement}
use Rattle.judge_core.specs.declared.outcomes.OutRow.{OutRow}
use Rattle.judge_core.specs.Outcomes.{row_of, atomic_row, atomic_rows}

-- the row of a verdict on a node
abbrev pub verdict_row : RuleNo → List Judgement → NodeVerdict → OutRow
verdict_row rule js v = row_of rule v.node js v.verdict

one_row : (rule : RuleNo) (js : List Judgement) (n : NodeId) (o : Option Verdict) (vs : List NodeVerdict)
    → map (verdict_row rule js) (cons_option (on_node n o) vs) ≡ cons_option (option_map (row_of rule n js) o) (map (verdict_row rule js) vs)
one_row rule js n None vs = refl
one_row rule js n (Some v) vs = refl

all_rows : (book : Book) (page : Document) (js : List Judgement) (rule : RuleNo) (rows : List Row)
    → map (verdict_row rule js) (filter_map (λ (row : Row). on_node row.id (book.means rule page row.id)) rows) ≡ filter_map (λ (row : Row). atomic_row book page js rule row.id) rows
all_rows book page js rule [] = refl
all_rows book page js rule (row ∷ rows) =
    one_row rule js row.id (book.means rule page row.id) (filter_map (λ (row : Row). on_node row.id (book.means rule page row.id)) rows)
    ∙ ap (cons_option (atomic_row book page js rule row.id)) (all_rows book page js rule rows)

pub verdict_rows : (book : Book) (page : Document) (js : List Judgement) (rule : RuleNo) → map (verdict_row rule js) (page_verdicts (book.means rule) page) ≡ atomic_rows book page js rule
verdict_rows book page js rule = all_rows book page js rule (rows_of page.trees)
