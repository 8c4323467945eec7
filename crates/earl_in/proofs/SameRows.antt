-- What people judge changes nothing of what was found.
use Rattle.std.proofs.Common.{◌≡◌, Bool, true, false, ◌&&◌, ◌==◌, cond, List, [], ◌∷◌, ◌++◌, map, Option, Some, None, refl, sym, ap, ◌∙◌}
use Rattle.std.proofs.lemmas.List.{map-append}
use Rattle.std.specs.List.{find, filter_map, flat_map, cons_option}
use Rattle.std.specs.Option.{option_map}
use Rattle.snap_tree.specs.declared.row.Row.{Row}
use Rattle.snap_tree.specs.declared.row.NodeId.{NodeId}
use Rattle.snap_tree.specs.Trees.{Document, rows_of}
use Rattle.rule_core.specs.declared.info.RuleNo.{RuleNo}
use Rattle.rule_core.specs.declared.info.RuleInfo.{RuleInfo}
use Rattle.rule_core.specs.declared.verdict.Verdict.{Verdict}
use Rattle.rule_core.specs.Infos.{is_atomic}
use Rattle.rule_core.specs.Books.{Book}
use Rattle.judge_core.specs.declared.judgement.Judgement.{Judgement}
use Rattle.judge_core.specs.declared.outcomes.OutRow.{OutRow}
use Rattle.judge_core.specs.Composites.{merge}
use Rattle.judge_core.specs.Outcomes.{row_of, atomic_row, atomic_rows, merged_row, inputs_of, composite_row, composite_rows, rule_rows, outcomes}
use Rattle.judge_core.specs.RowLookups.{row_at}
use Rattle.earl_in.specs.Effects.{Automatic, automatic}

abbrev seen : List OutRow → List Automatic
seen rows = map automatic rows

-- ---- lists of rows of the same

same_filtered : {X : Type 0} (f g : X → Option OutRow) (xs : List X) → ((x : X) → option_map automatic (f x) ≡ option_map automatic (g x))
    → seen (filter_map f xs) ≡ seen (filter_map g xs)
same_filtered f g [] same = refl
same_filtered f g (x ∷ xs) same = both (f x) (g x) (filter_map f xs) (filter_map g xs) (same x) (same_filtered f g xs same)
  where
    through : (o : Option OutRow) (rows : List OutRow) → seen (cons_option o rows) ≡ cons_option (option_map automatic o) (seen rows)
    through None rows = refl
    through (Some row) rows = refl

    both : (o l : Option OutRow) (rows others : List OutRow) → option_map automatic o ≡ option_map automatic l → seen rows ≡ seen others → seen (cons_option o rows) ≡ seen (cons_option l others)
    both o l rows others first rest =
        through o rows ∙ ap (λ p. cons_option p (seen rows)) first ∙ ap (cons_option (option_map automatic l)) rest ∙ sym (through l others)

same_joined : {X : Type 0} (f g : X → List OutRow) (xs : List X) → ((x : X) → seen (f x) ≡ seen (g x)) → seen (flat_map f xs) ≡ seen (flat_map g xs)
same_joined f g [] same = refl
same_joined f g (x ∷ xs) same =
    map-append automatic (f x) (flat_map f xs) ∙ ap (λ rows. rows ++ seen (flat_map f xs)) (same x)
    ∙ ap (λ rows. seen (g x) ++ rows) (same_joined f g xs same) ∙ sym (map-append automatic (g x) (flat_map g xs))

-- ---- the rows of a rule

same_atomic : (book : Book) (page : Document) (js others : List Judgement) (rule : RuleNo) (node : NodeId)
    → option_map automatic (atomic_row book page js rule node) ≡ option_map automatic (atomic_row book page others rule node)
same_atomic book page js others rule node = by_verdict (book.means rule page node)
  where
    by_verdict : (v : Option Verdict) → option_map automatic (option_map (row_of rule node js) v) ≡ option_map automatic (option_map (row_of rule node others) v)
    by_verdict None = refl
    by_verdict (Some v) = refl

-- what some rows merge to is found by what was found of them
abbrev merged : RuleNo → NodeId → List Automatic → Option Automatic
merged rule node [] = None
merged rule node (a ∷ rows) = Some (record { rule = rule; node = node; auto = merge (map (λ r. r.auto) (a ∷ rows)); evidence = [] })

autos : (rows : List OutRow) → map (λ r. r.auto) rows ≡ map (λ (a : Automatic). a.auto) (seen rows)
autos [] = refl
autos (row ∷ rows) = ap (λ l. row.auto ∷ l) (autos rows)

merged_seen : (rule : RuleNo) (node : NodeId) (rows : List OutRow) → option_map automatic (merged_row rule node rows) ≡ merged rule node (seen rows)
merged_seen rule node [] = refl
merged_seen rule node (row ∷ rows) = ap (λ l. Some (record { rule = rule; node = node; auto = merge l; evidence = [] })) (autos (row ∷ rows))

same_composite : (book : Book) (page : Document) (js others : List Judgement) (info : RuleInfo) (node : NodeId)
    → option_map automatic (composite_row book page js info node) ≡ option_map automatic (composite_row book page others info node)
same_composite book page js others info node =
    let rows = λ (list : List Judgement). filter_map (λ input. atomic_row book page list input node) (inputs_of info) in
    merged_seen info.no node (rows js)
    ∙ ap (merged info.no node) (same_filtered (λ input. atomic_row book page js input node) (λ input. atomic_row book page others input node) (inputs_of info) (λ input. same_atomic book page js others input node))
    ∙ sym (merged_seen info.no node (rows others))

same_rule : (book : Book) (page : Document) (js others : List Judgement) (info : RuleInfo) → seen (rule_rows book page js info) ≡ seen (rule_rows book page others info)
same_rule book page js others info =
    by_kind (is_atomic info)
    (same_filtered (λ (row : Row). atomic_row book page js info.no row.id) (λ row. atomic_row book page others info.no row.id) (rows_of page.trees) (λ row. same_atomic book page js others info.no row.id))
    (same_filtered (λ (row : Row). composite_row book page js info row.id) (λ row. composite_row book page others info row.id) (rows_of page.trees) (λ row. same_composite book page js others info row.id))
  where
    by_kind : (b : Bool) → seen (atomic_rows book page js info.no) ≡ seen (atomic_rows book page others info.no) → seen (composite_rows book page js info) ≡ seen (composite_rows book page others info)
        → seen (cond b (atomic_rows book page js info.no) (composite_rows book page js info)) ≡ seen (cond b (atomic_rows book page others info.no) (composite_rows book page others info))
    by_kind true atomic composite = atomic
    by_kind false atomic composite = composite

pub same_rows : (book : Book) (page : Document) (js others : List Judgement) → map automatic (outcomes book page js) ≡ map automatic (outcomes book page others)
same_rows book page js others = same_joined (rule_rows book page js) (rule_rows book page others) book.infos (same_rule book page js others)

-- ---- the row on a node

abbrev is_there : RuleNo → NodeId → Automatic → Bool
is_there rule node a = a.rule.0 == rule.0 && a.node.0 == node.0

found_seen : (rule : RuleNo) (node : NodeId) (rows : List OutRow) → option_map automatic (row_at rule node rows) ≡ find (is_there rule node) (seen rows)
found_seen rule node [] = refl
found_seen rule node (row ∷ rows) = chosen (is_there rule node (automatic row)) (found_seen rule node rows)
  where
    chosen : (b : Bool) → option_map automatic (row_at rule node rows) ≡ find (is_there rule node) (seen rows)
        → option_map automatic (cond b (Some row) (row_at rule node rows)) ≡ cond b (Some (automatic row)) (find (is_there rule node) (seen rows))
    chosen true rest = refl
    chosen false rest = rest

pub same_at : (rows after : List OutRow) (rule : RuleNo) (node : NodeId) → map automatic rows ≡ map automatic after → option_map automatic (row_at rule node rows) ≡ option_map automatic (row_at rule node after)
same_at rows after rule node same = found_seen rule node rows ∙ ap (find (is_there rule node)) same ∙ sym (found_seen rule node after)
