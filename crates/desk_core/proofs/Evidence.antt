-- Judgements change neither what is found automatically nor its evidence.
use Rattle.std.proofs.Common.{◌≡◌, List, [], ◌∷◌, ◌++◌, map, Bool, true, false, if◌then◌else◌, Option, Some, None, option_map, refl, sym, ap, ◌∙◌}
use Rattle.std.specs.Option.{option_map_or}
use Rattle.std.specs.List.{flat_map, filter_map, cons_option}
use Rattle.std.proofs.lemmas.List.{map-append}
use Rattle.snap_tree.specs.declared.row.NodeId.{NodeId}
use Rattle.snap_tree.specs.declared.row.Row.{Row}
use Rattle.snap_tree.specs.Trees.{Document, rows_of}
use Rattle.rule_core.specs.declared.info.RuleNo.{RuleNo}
use Rattle.rule_core.specs.declared.info.RuleInfo.{RuleInfo}
use Rattle.rule_core.specs.declared.verdict.Verdict.{Verdict}
use Rattle.rule_core.specs.declared.verdict.Auto.{Auto}
use Rattle.rule_core.specs.declared.reason.Reason.TheVariants.{Merged}
use Rattle.rule_core.specs.Infos.{is_atomic}
use Rattle.rule_core.specs.Books.{Book}
use Rattle.judge_core.specs.declared.judgement.Judgement.{Judgement}
use Rattle.judge_core.specs.declared.outcomes.OutRow.{OutRow}
use Rattle.judge_core.specs.Composites.{merge}
use Rattle.judge_core.specs.Outcomes.{row_of, atomic_row, atomic_rows, merged_row, inputs_of, composite_row, composite_rows, rule_rows, outcomes}
use Rattle.judge_core.specs.RowLookups.{is_row_on, row_at}

-- a row as it was found, whatever was judged
abbrev pub unjudged : OutRow → OutRow
unjudged row = record { rule = row.rule; node = row.node; auto = row.auto; reason = row.reason; evidence = row.evidence; last = row.auto; hand = [] }

-- what a composite rule finds, where its inputs found this
found_row : RuleNo → NodeId → List Auto → Option OutRow
found_row rule node [] = None
found_row rule node (auto ∷ autos) =
    Some (record { rule = rule; node = node; auto = merge (auto ∷ autos); reason = Merged; evidence = []; last = merge (auto ∷ autos); hand = [] })

merged_found : (rule : RuleNo) (node : NodeId) (rows : List OutRow) → option_map unjudged (merged_row rule node rows) ≡ found_row rule node (map (λ r. r.auto) rows)
unfolding found_row
merged_found rule node [] = refl
merged_found rule node (row ∷ rows) = refl

module _ {Y : Type 0} (g : OutRow → Y) where
  mapped_cons : (o : Option OutRow) (rows : List OutRow) → map g (cons_option o rows) ≡ cons_option (option_map g o) (map g rows)
  mapped_cons None rows = refl
  mapped_cons (Some row) rows = refl

  filter_same : {X : Type 0} (f h : X → Option OutRow) (xs : List X) → ((x : X) → option_map g (f x) ≡ option_map g (h x)) → map g (filter_map f xs) ≡ map g (filter_map h xs)
  filter_same f h [] same = refl
  filter_same f h (x ∷ xs) same =
      mapped_cons (f x) (filter_map f xs) ∙ ap (λ o. cons_option o (map g (filter_map f xs))) (same x)
      ∙ ap (cons_option (option_map g (h x))) (filter_same f h xs same) ∙ sym (mapped_cons (h x) (filter_map h xs))

  flat_same : {X : Type 0} (f h : X → List OutRow) (xs : List X) → ((x : X) → map g (f x) ≡ map g (h x)) → map g (flat_map f xs) ≡ map g (flat_map h xs)
  flat_same f h [] same = refl
  flat_same f h (x ∷ xs) same =
      map-append g (f x) (flat_map f xs) ∙ ap (λ rows. rows ++ map g (flat_map f xs)) (same x)
      ∙ ap (λ rows. map g (h x) ++ rows) (flat_same f h xs same) ∙ sym (map-append g (h x) (flat_map h xs))

either_same : (b : Bool) (x y v w : List OutRow) → map unjudged x ≡ map unjudged v → map unjudged y ≡ map unjudged w → map unjudged (if b then x else y) ≡ map unjudged (if b then v else w)
either_same true x y v w first second = first
either_same false x y v w first second = second

module _ (book : Book) (page : Document) (js ks : List Judgement) where
  verdict_same : {Y : Type 0} (g : OutRow → Y) (rule : RuleNo) (node : NodeId) (o : Option Verdict) → ((v : Verdict) → g (row_of rule node js v) ≡ g (row_of rule node ks v))
      → option_map g (option_map (row_of rule node js) o) ≡ option_map g (option_map (row_of rule node ks) o)
  verdict_same g rule node None same = refl
  verdict_same g rule node (Some v) same = ap Some (same v)

  composite_same : (info : RuleInfo) (node : NodeId) → option_map unjudged (composite_row book page js info node) ≡ option_map unjudged (composite_row book page ks info node)
  composite_same info node =
      merged_found info.no node (filter_map (λ input. atomic_row book page js input node) (inputs_of info))
      ∙ ap (found_row info.no node) (filter_same (λ r. r.auto) (λ input. atomic_row book page js input node) (λ input. atomic_row book page ks input node) (inputs_of info)
      (λ input. verdict_same (λ r. r.auto) input node (book.means input page node) (λ _. refl)))
      ∙ sym (merged_found info.no node (filter_map (λ input. atomic_row book page ks input node) (inputs_of info)))

  rule_same : (info : RuleInfo) → map unjudged (rule_rows book page js info) ≡ map unjudged (rule_rows book page ks info)
  rule_same info =
      either_same (is_atomic info) (atomic_rows book page js info.no) (composite_rows book page js info) (atomic_rows book page ks info.no) (composite_rows book page ks info)
      (filter_same unjudged (λ (row : Row). atomic_row book page js info.no row.id) (λ row. atomic_row book page ks info.no row.id) (rows_of page.trees)
      (λ row. verdict_same unjudged info.no row.id (book.means info.no page row.id) (λ _. refl)))
      (filter_same unjudged (λ (row : Row). composite_row book page js info row.id) (λ row. composite_row book page ks info row.id) (rows_of page.trees) (λ row. composite_same info row.id))

  all_same : map unjudged (outcomes book page js) ≡ map unjudged (outcomes book page ks)
  all_same = flat_same unjudged (rule_rows book page js) (rule_rows book page ks) book.infos rule_same

found_by : (b : Bool) (row : OutRow) (rest : Option OutRow) → option_map unjudged (if b then Some row else rest) ≡ (if b then Some (unjudged row) else option_map unjudged rest)
found_by true row rest = refl
found_by false row rest = refl

row_found : (rule : RuleNo) (node : NodeId) (rows : List OutRow) → option_map unjudged (row_at rule node rows) ≡ row_at rule node (map unjudged rows)
row_found rule node [] = refl
row_found rule node (row ∷ rows) =
    found_by (is_row_on rule node row) row (row_at rule node rows) ∙ ap (λ o. if is_row_on rule node row then Some (unjudged row) else o) (row_found rule node rows)

-- the row of a rule on a node has its evidence under any judgements
pub same_evidence : (book : Book) (page : Document) (js ks : List Judgement) (rule : RuleNo) (node : NodeId) (row other : OutRow)
    → row_at rule node (outcomes book page js) ≡ Some row → row_at rule node (outcomes book page ks) ≡ Some other → row.evidence ≡ other.evidence
same_evidence book page js ks rule node row other is is_other =
    let both : option_map unjudged (Some row) ≡ option_map unjudged (Some other) =
    ap (option_map unjudged) (sym is) ∙ row_found rule node (outcomes book page js) ∙ ap (row_at rule node) (all_same book page js ks)
    ∙ sym (row_found rule node (outcomes book page ks)) ∙ ap (option_map unjudged) is_other in
    ap (λ o. option_map_or (λ (r : OutRow). r.evidence) o []) both
