-- The rows of an atomic rule under other judgements, and the rows of one rule after another.
use Rattle.std.proofs.Common.{◌≡◌, ℕ, zero, suc, ◌+◌, ◌<◌, eqb, ltb, Bool, true, false, cond, ◌&&◌, List, [], ◌∷◌, ◌++◌, map, length, take, drop, get_or, Option, Some, None, IfSome, refl, sym, ap, ◌∙◌, subst, add-one, arith}
use Rattle.std.specs.List.{filter_map, flat_map, prefix_len, list_all, cons_option, AllByRecursion}
use Rattle.std.specs.Option.{option_map}
use Rattle.std.proofs.Math.Seq.{drop-append_seam, take-append_seam, drop-cons}
use Rattle.std.proofs.lemmas.Bool.Decides.{nat_tests}
use Rattle.snap_tree.specs.declared.row.NodeId.{NodeId}
use Rattle.snap_tree.specs.declared.row.Row.{Row}
use Rattle.snap_tree.specs.Trees.{Document, rows_of}
use Rattle.rule_core.specs.declared.info.RuleNo.{RuleNo}
use Rattle.rule_core.specs.declared.info.RuleInfo.{RuleInfo}
use Rattle.rule_core.specs.declared.verdict.Verdict.{Verdict}
use Rattle.rule_core.specs.Infos.{is_atomic, rise, differ, is_id, has_atomic_inputs, is_orderly}
use Rattle.rule_core.specs.Books.{Book}
use Rattle.judge_core.specs.declared.judgement.Judgement.{Judgement}
use Rattle.judge_core.specs.declared.outcomes.OutRow.{OutRow}
use Rattle.judge_core.specs.Outcomes.{row_of, atomic_row, atomic_rows, merged_row, composite_row, composite_rows, inputs_of, rule_rows}
use Rattle.judged_rows.specs.Again.{is_of_rule, again}
use Rattle.judged_rows.proofs.Merged.{same}

-- ---- the rows of an atomic rule

pub atomic_again : (book : Book) (page : Document) (before js : List Judgement) (rule : RuleNo) → map (again js) (atomic_rows book page before rule) ≡ atomic_rows book page js rule
atomic_again book page before js rule = each (rows_of page.trees)
  where
    one : (n : NodeId) (v : Option Verdict) (old new : List OutRow) → map (again js) old ≡ new → map (again js) (cons_option (option_map (row_of rule n before) v) old) ≡ cons_option (option_map (row_of rule n js) v) new
    one n None old new e = e
    one n (Some verdict) old new e = ap (λ l. row_of rule n js verdict ∷ l) e

    each : (rows : List Row) → map (again js) (filter_map (λ row. atomic_row book page before rule row.id) rows) ≡ filter_map (λ row. atomic_row book page js rule row.id) rows
    each [] = refl
    each (row ∷ rows) = one row.id (book.means rule page row.id) _ _ (each rows)

-- ---- the rows of one rule after another

both : (a b : Bool) → (a && b) ≡ true → (a ≡ true) × (b ≡ true)
both true b h = (refl, h)
both false b h = cc

rise-drop : (k : ℕ) (infos : List RuleInfo) → rise infos ≡ true → rise (drop k infos) ≡ true
rise-drop zero infos h = h
rise-drop (suc k) [] h = h
rise-drop (suc k) (i ∷ infos) h = rise-drop k infos (both (list_all (λ j. ltb i.no.0 j.no.0) infos) (rise infos) h).1

pub orderly_rise : (infos : List RuleInfo) → is_orderly infos ≡ true → rise infos ≡ true
orderly_rise infos h =
    let no_inputs = both (rise infos && differ infos && list_all (λ i. is_id i.id) infos) (list_all (has_atomic_inputs infos) infos) h in
    let no_ids = both (rise infos && differ infos) (list_all (λ i. is_id i.id) infos) no_inputs.0 in
    (both (rise infos) (differ infos) no_ids.0).0

abbrev Of : RuleNo → OutRow → Type 0
Of rule row = row.rule ≡ rule

filtered_of : (rule : RuleNo) (f : NodeId → Option OutRow) → ((n : NodeId) → IfSome (f n) (Of rule)) → (rows : List Row) → AllByRecursion (Of rule) (filter_map (λ row. f row.id) rows)
filtered_of rule f own [] = tt
filtered_of rule f own (row ∷ rows) = here (f row.id) (own row.id) (filtered_of rule f own rows)
  where
    here : (o : Option OutRow) → IfSome o (Of rule) → AllByRecursion (Of rule) (filter_map (λ row. f row.id) rows) → AllByRecursion (Of rule) (cons_option o (filter_map (λ row. f row.id) rows))
    here None own later = later
    here (Some r) own later = (own, later)

rows_own : (book : Book) (page : Document) (js : List Judgement) (info : RuleInfo) → AllByRecursion (Of info.no) (rule_rows book page js info)
rows_own book page js info = kind (is_atomic info)
  where
    of_verdict : (n : NodeId) (v : Option Verdict) → IfSome (option_map (row_of info.no n js) v) (Of info.no)
    of_verdict n None = tt
    of_verdict n (Some verdict) = refl

    of_merged : (n : NodeId) (rows : List OutRow) → IfSome (merged_row info.no n rows) (Of info.no)
    of_merged n [] = tt
    of_merged n (row ∷ rows) = refl

    kind : (b : Bool) → AllByRecursion (Of info.no) (cond b (atomic_rows book page js info.no) (composite_rows book page js info))
    kind true = filtered_of info.no (atomic_row book page js info.no) (λ n. of_verdict n (book.means info.no page n)) (rows_of page.trees)
    kind false = filtered_of info.no (composite_row book page js info) (λ n. of_merged n (filter_map (λ input. atomic_row book page js input n) (inputs_of info))) (rows_of page.trees)

other : (m n : ℕ) → ltb m n ≡ true → eqb n m ≡ false
other m n below = grind (arith, nat_tests)

-- the rows of a rule lead, where what follows begins with none of it
prefix_own : (rule : RuleNo) (rows later : List OutRow) → AllByRecursion (Of rule) rows → prefix_len (is_of_rule rule) later ≡ 0 → prefix_len (is_of_rule rule) (rows ++ later) ≡ length rows
prefix_own rule [] later own none = none
prefix_own rule (row ∷ rows) later own none =
    ap (λ (r : RuleNo). cond (eqb r.0 rule.0) (1 + prefix_len (is_of_rule rule) (rows ++ later)) 0) own.0
    ∙ ap (λ b. cond b (1 + prefix_len (is_of_rule rule) (rows ++ later)) 0) (same rule.0)
    ∙ ap (λ n. 1 + n) (prefix_own rule rows later own.1 none) ∙ omega arith

prefix_other : (rule other : RuleNo) (rows later : List OutRow) → eqb other.0 rule.0 ≡ false → AllByRecursion (Of other) rows → prefix_len (is_of_rule rule) later ≡ 0 →
    prefix_len (is_of_rule rule) (rows ++ later) ≡ 0
prefix_other rule other [] later apart own none = none
prefix_other rule other (row ∷ rows) later apart own none =
    ap (λ (r : RuleNo). cond (eqb r.0 rule.0) (1 + prefix_len (is_of_rule rule) (rows ++ later)) 0) own.0
    ∙ ap (λ b. cond b (1 + prefix_len (is_of_rule rule) (rows ++ later)) 0) apart

later_rules : (book : Book) (page : Document) (js : List Judgement) (i : RuleInfo) (later : List RuleInfo) → list_all (λ j. ltb i.no.0 j.no.0) later ≡ true →
    prefix_len (is_of_rule i.no) (flat_map (rule_rows book page js) later) ≡ 0
later_rules book page js i [] above = refl
later_rules book page js i (j ∷ later) above =
    let h = both (ltb i.no.0 j.no.0) (list_all (λ k. ltb i.no.0 k.no.0) later) above in
    prefix_other i.no j.no (rule_rows book page js j) (flat_map (rule_rows book page js) later) (other i.no.0 j.no.0 h.0) (rows_own book page js j) (later_rules book page js i later h.1)

-- the leading rows of what is left are the next rule's, and the others are those of the later rules
pub next_rule : (book : Book) (page : Document) (js : List Judgement) (infos : List RuleInfo) (k : ℕ) (d : RuleInfo) (left : List OutRow) → rise infos ≡ true → k < length infos →
    left ≡ flat_map (rule_rows book page js) (drop k infos) →
    let i = get_or infos k d in
    (take (prefix_len (is_of_rule i.no) left) left ≡ rule_rows book page js i) × (drop (prefix_len (is_of_rule i.no) left) left ≡ flat_map (rule_rows book page js) (drop (k + 1) infos))
next_rule book page js infos k d left rising within is =
    let i = get_or infos k d in
    let later = drop (k + 1) infos in
    let split : drop k infos ≡ i ∷ later = drop-cons infos k d within ∙ ap (λ n. i ∷ drop n infos) (sym (add-one k)) in
    let own = rule_rows book page js i in
    let others = flat_map (rule_rows book page js) later in
    let whole : left ≡ own ++ others = is ∙ ap (flat_map (rule_rows book page js)) split in
    let P : List RuleInfo → Type 0 = λ l. rise l ≡ true in
    let above = (both (list_all (λ j. ltb i.no.0 j.no.0) later) (rise later) (subst P split (rise-drop k infos rising))).0 in
    let count : prefix_len (is_of_rule i.no) left ≡ length own = ap (prefix_len (is_of_rule i.no)) whole ∙ prefix_own i.no own others (rows_own book page js i) (later_rules book page js i later above) in (
      ap (λ n. take n left) count ∙ ap (take (length own)) whole ∙ take-append_seam own others,
      ap (λ n. drop n left) count ∙ ap (drop (length own)) whole ∙ drop-append_seam own others,
    )
