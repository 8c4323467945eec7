-- The nodes of a composite rule, under other judgements.
use Rattle.std.proofs.Common.{◌≡◌, List, [], ◌∷◌, map, Option, Some, None, IfSome, refl, sym, ap, ◌∙◌}
use Rattle.std.specs.List.{filter_map, cons_option, AllByRecursion}
use Rattle.std.specs.Option.{option_map}
use Rattle.snap_tree.specs.declared.row.NodeId.{NodeId}
use Rattle.snap_tree.specs.declared.row.Row.{Row}
use Rattle.snap_tree.specs.Trees.{Document, rows_of}
use Rattle.rule_core.specs.declared.info.RuleNo.{RuleNo}
use Rattle.rule_core.specs.declared.info.RuleInfo.{RuleInfo}
use Rattle.rule_core.specs.declared.verdict.Verdict.{Verdict}
use Rattle.rule_core.specs.Books.{Book}
use Rattle.judge_core.specs.declared.judgement.Judgement.{Judgement}
use Rattle.judge_core.specs.declared.outcomes.OutRow.{OutRow}
use Rattle.judge_core.specs.Outcomes.{row_of, atomic_row, merged_row, composite_row, composite_rows, inputs_of}
use Rattle.judged_rows.specs.declared.parts.RulePart.{RulePart}
use Rattle.judged_rows.specs.Merging.{AreOn}
use Rattle.judged_rows.specs.Parts.{Suffice}
use Rattle.judged_rows.proofs.PartLaws.{all_map}

-- ---- the nodes of a composite rule's rows

-- nodes on which there is no row can be left out
left_out : (f g : NodeId → Option OutRow) → AreOn f → ((n : NodeId) → f n ≡ None → g n ≡ None) → (rows : List Row) →
    filter_map g (map (λ r. r.node) (filter_map (λ row. f row.id) rows)) ≡ filter_map (λ row. g row.id) rows
left_out f g on none [] = refl
left_out f g on none (row ∷ rows) = here (f row.id) refl (on row.id) (left_out f g on none rows)
  where
    here : (o : Option OutRow) → f row.id ≡ o → IfSome o (λ r. r.node ≡ row.id) → filter_map g (map (λ r. r.node) (filter_map (λ row. f row.id) rows)) ≡ filter_map (λ row. g row.id) rows →
        filter_map g (map (λ r. r.node) (cons_option o (filter_map (λ row. f row.id) rows))) ≡ cons_option (g row.id) (filter_map (λ row. g row.id) rows)
    here None is own later = later ∙ ap (λ o. cons_option o (filter_map (λ row. g row.id) rows)) (sym (none row.id is))
    here (Some r) is own later = ap (λ n. cons_option (g n) (filter_map g (map (λ r. r.node) (filter_map (λ row. f row.id) rows)))) own ∙ ap (cons_option (g row.id)) later

merged_on : (rule : RuleNo) (n : NodeId) (rows : List OutRow) → IfSome (merged_row rule n rows) (λ r. r.node ≡ n)
merged_on rule n [] = tt
merged_on rule n (row ∷ rows) = refl

composite_on : (book : Book) (page : Document) (js : List Judgement) (info : RuleInfo) → AreOn (composite_row book page js info)
composite_on book page js info n = merged_on info.no n (filter_map (λ input. atomic_row book page js input n) (inputs_of info))

-- where inputs have no row under some judgements, they have no verdict
abbrev Silent : Book → Document → NodeId → RuleNo → Type 0
Silent book page n input = book.means input page n ≡ None

silent : (book : Book) (page : Document) (before : List Judgement) (rule : RuleNo) (n : NodeId) (inputs : List RuleNo) →
    merged_row rule n (filter_map (λ input. atomic_row book page before input n) inputs) ≡ None → AllByRecursion (Silent book page n) inputs
silent book page before rule n [] none = tt
silent book page before rule n (input ∷ inputs) none = here (book.means input page n) refl none (silent book page before rule n inputs)
  where
    here : (v : Option Verdict) → book.means input page n ≡ v →
        merged_row rule n (cons_option (option_map (row_of input n before) v) (filter_map (λ input. atomic_row book page before input n) inputs)) ≡ None →
        (merged_row rule n (filter_map (λ input. atomic_row book page before input n) inputs) ≡ None → AllByRecursion (Silent book page n) inputs) →
        AllByRecursion (Silent book page n) (input ∷ inputs)
    here None is none later = (is, later none)
    here (Some verdict) is none later = cc

-- inputs without a verdict have no row under any judgements
still_silent : (book : Book) (page : Document) (js : List Judgement) (rule : RuleNo) (n : NodeId) (inputs : List RuleNo) → AllByRecursion (Silent book page n) inputs →
    merged_row rule n (filter_map (λ input. atomic_row book page js input n) inputs) ≡ None
still_silent book page js rule n inputs all = ap (merged_row rule n) (no_rows inputs all)
  where
    no_rows : (inputs : List RuleNo) → AllByRecursion (Silent book page n) inputs → filter_map (λ input. atomic_row book page js input n) inputs ≡ []
    no_rows [] all = refl
    no_rows (input ∷ inputs) all = ap (λ v. cons_option (option_map (row_of input n js) v) (filter_map (λ input. atomic_row book page js input n) inputs)) all.0 ∙ no_rows inputs all.1

-- what holds of each of some rules for every node, rule by rule
turned : (P : NodeId → RuleNo → Type 0) (Q : NodeId → Type 0) (inputs : List RuleNo) → ((n : NodeId) → Q n → AllByRecursion (P n) inputs) → AllByRecursion (λ input. (n : NodeId) → Q n → P n input) inputs
turned P Q [] h = tt
turned P Q (input ∷ inputs) h = (λ n q. (h n q).0, turned P Q inputs (λ n q. (h n q).1))

pub still_suffice : (book : Book) (page : Document) (before js : List Judgement) (part : RulePart) → part.nodes ≡ map (λ (r : OutRow). r.node) (composite_rows book page before part.info) → Suffice book page js part
still_suffice book page before js part is =
    let f = composite_row book page before part.info in
    let on = composite_on book page before part.info in
    record {
      rows = ap (filter_map (composite_row book page js part.info)) is
          ∙ left_out f (composite_row book page js part.info) on (λ n none. still_silent book page js part.info.no n (inputs_of part.info) (silent book page before part.info.no n (inputs_of part.info) none)) (rows_of page.trees);
      inputs = all_map (λ input quiet. ap (filter_map (atomic_row book page js input)) is ∙ left_out f (atomic_row book page js input) on (λ n none. ap (option_map (row_of input n js)) (quiet n none)) (rows_of page.trees))
          (inputs_of part.info) (turned (Silent book page) (λ n. f n ≡ None) (inputs_of part.info) (λ n none. silent book page before part.info.no n (inputs_of part.info) none));
    }
