-- Where pages differ in their lists of language subtags alone, a rule whose applicability doesn't look at the list has rows on
-- the same nodes at the most, and only those are to be judged of which its expectations look at it.
use Rattle.std.proofs.Common.{◌≡◌, ◌≤◌, ◌<◌, ◌+◌, ◌&&◌, ◌||◌, not, ℕ, List, [], ◌∷◌, length, map, filter, take, Bool, true, false, if◌then◌else◌, Option, Some, None, option_map, IfSome, refl, sym, ◌∙◌, ap, subst, arith}
use Rattle.std.proofs.lemmas.List.{length-take, length-take-le, take_all}
use Rattle.std.proofs.lemmas.List.Folds.{list_all-append}
use Rattle.std.specs.List.{filter_map, cons_option}
use Rattle.std.specs.Option.{is_some}
use Rattle.snap_tree.specs.declared.row.NodeId.{NodeId}
use Rattle.snap_tree.specs.declared.row.Row.{Row}
use Rattle.snap_tree.specs.Rows.{has_number}
use Rattle.snap_tree.specs.Trees.{Trees, Document, rows_of}
use Rattle.acc_tree.specs.Seen.{seen, seen_row}
use Rattle.acc_tree.proofs.Finding.{rows_seen}
use Rattle.page_keys.specs.Keys.{Key}
use Rattle.page_keys.specs.Nodes.{self_keys}
use Rattle.page_keys.specs.Classes.{sub_keys, table_keys, title_keys, metas_keys, whole_keys}
use Rattle.page_keys.specs.PageKeys.{PageKey, same_langs, same_in, all_same_in}
use Rattle.page_keys.specs.Same.{same, all_same}
use Rattle.page_keys.proofs.Tests.{same_tells}
use Rattle.page_changes.specs.declared.flags.Flags.{Flags}
use Rattle.page_changes.specs.Flags.{flags_of, AreFlags}
use Rattle.rule_core.specs.declared.info.Class.{Class}
use Rattle.rule_core.specs.declared.info.RuleInfo.{RuleInfo}
use Rattle.rule_core.specs.declared.info.RuleNo.{RuleNo}
use Rattle.rule_core.specs.declared.verdict.Verdict.{Verdict}
use Rattle.rule_core.specs.Books.{Book}
use Rattle.rule_core.specs.Local.{AreVersions, IsLocal}
use Rattle.rule_core.specs.Reach.{class_keys, looks_at_langs, looked_at, agrees, is_held, is_affected, affected_nodes}
use Rattle.rule_core.proofs.Targets.{langs_same, agree_is}
use Rattle.judge_core.specs.declared.judgement.Judgement.{Judgement}
use Rattle.judge_core.specs.declared.outcomes.OutRow.{OutRow}
use Rattle.judge_core.specs.Outcomes.{row_of, atomic_row, atomic_rows}
use Rattle.judged_rows.specs.Again.{again}
use Rattle.reaudit.specs.Relisted.{AreRelisted, agreeing, relisted_row, relisted_rows, relisted_cost}
use Rattle.reaudit.proofs.Kept.{map_seen}

-- ---- equal trees agree on all of their keys

each_same : (t : Trees) (keys : List Key) → all_same t t keys ≡ true
each_same t [] = refl
each_same t (key ∷ keys) = let one : same t t key ≡ true = (same_tells t t key).1 refl in (λ i. one i && all_same t t keys) ∙ each_same t keys

pub all_agree : (old new : Trees) (keys : List Key) → old ≡ new → all_same old new keys ≡ true
all_agree old new keys e = ap (λ t. all_same old t keys) (sym e) ∙ each_same old keys

flags_agree : (old new : Trees) (n : NodeId) → old ≡ new → agreeing n ≡ flags_of old new n
flags_agree old new n e =
    let all : (keys : List Key) → true ≡ all_same old new keys = λ keys. sym (all_agree old new keys e) in
    λ i. record {
      node = n;
      itself = all (self_keys old n) i;
      sub = all (sub_keys old n) i;
      table = all (table_keys old n) i;
      title = all (title_keys old n) i;
      metas = all (metas_keys old n) i;
      whole = all (whole_keys old n) i;
    }

each_flags : (old new : Trees) → old ≡ new → (rows : List Row) → map (λ (row : Row). agreeing row.id) rows ≡ map (λ (row : Row). flags_of old new row.id) rows
each_flags old new e [] = refl
each_flags old new e (row ∷ rows) = λ i. flags_agree old new row.id e i ∷ each_flags old new e rows i

pub agreeing_flags : (old new : Trees) (flags : List Flags) → old ≡ new → flags ≡ map (λ (row : Row). agreeing row.id) (rows_of old) → AreFlags (seen old) (seen new) flags
agreeing_flags old new flags e is =
    is ∙ sym (map_seen agreeing (rows_of old)) ∙ ap (map (λ (row : Row). agreeing row.id)) (sym (rows_seen old))
    ∙ each_flags (seen old) (seen new) (ap seen e) (rows_of (seen old))

-- ---- what a rule says there

-- the pages agree on what a class looks at that doesn't look at the list
class_agrees : (class : Class) (old new : Document) (n : NodeId) → AreRelisted old new → looks_at_langs class ≡ false → all_same_in old new (looked_at class old n) ≡ true
class_agrees class old new n are off =
    let nodes = all_agree (seen old.trees) (seen new.trees) (class_keys class (seen old.trees) n) (ap seen are.trees) in
    let langs : langs_same class old new ≡ true = ap (λ b. if b then same_langs old.langs new.langs else true) off in
    agree_is class old new n ∙ (λ i. nodes i && langs i)

-- and differ in one that does
class_differs : (class : Class) (old new : Document) (n : NodeId) → AreRelisted old new → looks_at_langs class ≡ true → all_same_in old new (looked_at class old n) ≡ false
class_differs class old new n are on =
    let nodes = all_agree (seen old.trees) (seen new.trees) (class_keys class (seen old.trees) n) (ap seen are.trees) in
    let langs : langs_same class old new ≡ false = ap (λ b. if b then same_langs old.langs new.langs else true) on ∙ are.langs in
    agree_is class old new n ∙ (λ i. nodes i && langs i)

agrees_is : (info : RuleInfo) (says : Document → NodeId → Option Verdict) (old new : Document) (n : NodeId)
    → agrees info says old new n ≡ (all_same_in old new (looked_at info.applies old n) && all_same_in old new (if is_some (says old n) then looked_at info.expects old n else []))
agrees_is info says old new n = list_all-append (same_in old new) (looked_at info.applies old n) (if is_some (says old n) then looked_at info.expects old n else [])

both_true : (a b : Bool) → a ≡ true → b ≡ true → (a && b) ≡ true
both_true a b p q = λ i. p i && q i

-- where the rule had nothing to say, or its expectations don't look at the list, it says the same
same_there : (info : RuleInfo) (says : Document → NodeId → Option Verdict) → IsLocal info says → (old new : Document) → AreVersions old new → AreRelisted old new → looks_at_langs info.applies ≡ false
    → (n : NodeId) → all_same_in old new (if is_some (says old n) then looked_at info.expects old n else []) ≡ true → says old n ≡ says new n
same_there info says local old new versions are off n rest =
    local old new n versions (agrees_is info says old new n ∙ both_true _ _ (class_agrees info.applies old new n are off) rest)

-- ---- its rows

module _ (book : Book) (info : RuleInfo) (local : IsLocal info (book.means info.no)) (old new : Document) (versions : AreVersions old new) (are : AreRelisted old new) (off : looks_at_langs info.applies ≡ false)
    (earlier js : List Judgement) where
  abbrev had : NodeId → Option OutRow
  had = atomic_row book old earlier info.no

  abbrev has : NodeId → Option OutRow
  has = atomic_row book new js info.no

  -- of one node
  one_row : (n : NodeId) (o : Option Verdict) → book.means info.no old n ≡ o → (rest : List OutRow)
      → filter_map (relisted_row book info new js) (cons_option (option_map (row_of info.no n earlier) o) rest) ≡ cons_option (has n) (filter_map (relisted_row book info new js) rest)
  one_row n None e rest =
      let same = same_there info (book.means info.no) local old new versions are off n (ap (λ o. all_same_in old new (if is_some o then looked_at info.expects old n else [])) e) in
      let none : has n ≡ None = ap (option_map (row_of info.no n js)) (sym same ∙ e) in
      ap (λ o. cons_option o (filter_map (relisted_row book info new js) rest)) (sym none)
  one_row n (Some v) e rest = by_class (looks_at_langs info.expects) refl
    where
      by_class : (b : Bool) → looks_at_langs info.expects ≡ b
          → cons_option (relisted_row book info new js (row_of info.no n earlier v)) (filter_map (relisted_row book info new js) rest) ≡ cons_option (has n) (filter_map (relisted_row book info new js) rest)
      by_class true on =
          ap (λ b. cons_option (if b then has n else Some (again js (row_of info.no n earlier v))) (filter_map (relisted_row book info new js) rest)) on
      by_class false on =
          let looked = class_agrees info.expects old new n are on in
          let same = same_there info (book.means info.no) local old new versions are off n (ap (λ o. all_same_in old new (if is_some o then looked_at info.expects old n else [])) e ∙ looked) in
          let kept : Some (again js (row_of info.no n earlier v)) ≡ has n = ap (option_map (row_of info.no n js)) (sym e ∙ same) in
          ap (λ b. cons_option (if b then has n else Some (again js (row_of info.no n earlier v))) (filter_map (relisted_row book info new js) rest)) on
          ∙ ap (λ o. cons_option o (filter_map (relisted_row book info new js) rest)) kept

  of_rows : (rows : List Row) → filter_map (relisted_row book info new js) (filter_map (λ (row : Row). had row.id) rows) ≡ filter_map (λ (row : Row). has row.id) rows
  of_rows [] = refl
  of_rows (row ∷ rows) =
      one_row row.id (book.means info.no old row.id) refl (filter_map (λ (row : Row). had row.id) rows) ∙ ap (cons_option (has row.id)) (of_rows rows)

  pub rows_relisted : (own : List OutRow) → own ≡ atomic_rows book old earlier info.no → relisted_rows book info new js own ≡ atomic_rows book new js info.no
  rows_relisted own is =
      ap (filter_map (relisted_row book info new js)) is ∙ of_rows (rows_of old.trees) ∙ ap (λ t. filter_map (λ (row : Row). has row.id) (rows_of t)) are.trees

-- ---- what that costs

module _ (book : Book) (info : RuleInfo) (old new : Document) (are : AreRelisted old new) (on : looks_at_langs info.expects ≡ true) (earlier : List Judgement) where
  abbrev affected_at : NodeId → Bool
  affected_at = is_affected info (book.means info.no) old new

  -- a node with a row is affected
  target_affected : (n : NodeId) (v : Verdict) → book.means info.no old n ≡ Some v → affected_at n ≡ true
  target_affected n v e =
      let rest : all_same_in old new (if is_some (book.means info.no old n) then looked_at info.expects old n else []) ≡ false =
      ap (λ o. all_same_in old new (if is_some o then looked_at info.expects old n else [])) e ∙ class_differs info.expects old new n are on in
      let never : agrees info (book.means info.no) old new n ≡ false = agrees_is info (book.means info.no) old new n ∙ ap (λ b. all_same_in old new (looked_at info.applies old n) && b) rest ∙ and_false (all_same_in old new (looked_at info.applies old n)) in
      ap (λ b. not (is_held old n) || not b) never ∙ or_true (not (is_held old n))
    where
      and_false : (b : Bool) → (b && false) ≡ false
      and_false true = refl
      and_false false = refl

      or_true : (b : Bool) → (b || true) ≡ true
      or_true true = refl
      or_true false = refl

  fewer_rows : (rows : List Row) → length (filter_map (λ (row : Row). atomic_row book old earlier info.no row.id) rows) ≤ length (filter affected_at (map (λ (row : Row). row.id) rows))
  fewer_rows [] = omega arith
  fewer_rows (row ∷ rows) = by_verdict (book.means info.no old row.id) refl (fewer_rows rows)
    where
      by_test : (b : Bool) → length (filter_map (λ (row : Row). atomic_row book old earlier info.no row.id) rows) ≤ length (filter affected_at (map (λ (row : Row). row.id) rows))
          → length (filter_map (λ (row : Row). atomic_row book old earlier info.no row.id) rows) ≤ length (if b then row.id ∷ filter affected_at (map (λ (row : Row). row.id) rows) else filter affected_at (map (λ (row : Row). row.id) rows))
      by_test true h = omega arith
      by_test false h = h

      by_verdict : (o : Option Verdict) → book.means info.no old row.id ≡ o → length (filter_map (λ (row : Row). atomic_row book old earlier info.no row.id) rows) ≤ length (filter affected_at (map (λ (row : Row). row.id) rows))
          → length (cons_option (option_map (row_of info.no row.id earlier) o) (filter_map (λ (row : Row). atomic_row book old earlier info.no row.id) rows)) ≤ length (filter affected_at (row.id ∷ map (λ (row : Row). row.id) rows))
      by_verdict None e h = by_test (affected_at row.id) h
      by_verdict (Some v) e h =
          let one = ap (λ b. length (if b then row.id ∷ filter affected_at (map (λ (row : Row). row.id) rows) else filter affected_at (map (λ (row : Row). row.id) rows))) (target_affected row.id v e) in
          omega (arith, h, one)

  rows_affected : (own : List OutRow) → own ≡ atomic_rows book old earlier info.no → length own ≤ length (affected_nodes info (book.means info.no) old new)
  rows_affected own is =
      let few = fewer_rows (rows_of old.trees) in
      let moved = ap (λ t. length (filter affected_at (map (λ (row : Row). row.id) (rows_of t)))) are.trees in
      omega (arith, few, ap length is, moved)

pub cost_relisted : (book : Book) (info : RuleInfo) (old new : Document) → AreRelisted old new → (earlier : List Judgement) (own : List OutRow) → own ≡ atomic_rows book old earlier info.no
    → relisted_cost info own ≤ length (affected_nodes info (book.means info.no) old new)
cost_relisted book info old new are earlier own is = by_class (looks_at_langs info.expects) refl
  where
    by_class : (b : Bool) → looks_at_langs info.expects ≡ b → (if b then length own else 0) ≤ length (affected_nodes info (book.means info.no) old new)
    by_class true on = rows_affected book info old new are on earlier own is
    by_class false on = omega arith

-- a rule has no more rows than there are nodes
rows_within : (book : Book) (page : Document) (js : List Judgement) (rule : RuleNo) (rows : List Row) → length (filter_map (λ (row : Row). atomic_row book page js rule row.id) rows) ≤ length rows
rows_within book page js rule [] = omega arith
rows_within book page js rule (row ∷ rows) = by_row (atomic_row book page js rule row.id) (rows_within book page js rule rows)
  where
    by_row : (o : Option OutRow) → length (filter_map (λ (row : Row). atomic_row book page js rule row.id) rows) ≤ length rows → length (cons_option o (filter_map (λ (row : Row). atomic_row book page js rule row.id) rows)) ≤ length (row ∷ rows)
    by_row None h = omega (arith, h)
    by_row (Some x) h = omega (arith, h)

pub own_within : (book : Book) (page : Document) (js : List Judgement) (rule : RuleNo) (own : List OutRow) → own ≡ atomic_rows book page js rule → length own ≤ length (rows_of page.trees)
own_within book page js rule own is = omega (arith, ap length is, rows_within book page js rule (rows_of page.trees))

pub cost_within : (info : RuleInfo) (own : List OutRow) (n : ℕ) → length own ≤ n → relisted_cost info own ≤ n
cost_within info own n few = by_class (looks_at_langs info.expects)
  where
    by_class : (b : Bool) → (if b then length own else 0) ≤ n
    by_class true = few
    by_class false = omega arith

-- what one more row costs, and some of the rows
pub cost_more : (info : RuleInfo) (own : List OutRow) (i before at now : ℕ) → i < length own → at ≤ before + relisted_cost info (take i own) → now ≤ at + (if looks_at_langs info.expects then 1 else 0) → now ≤ before + relisted_cost info (take (i + 1) own)
cost_more info own i before at now within so_far more = by_class (looks_at_langs info.expects) so_far more
  where
    first : length (take i own) ≡ i
    first = length-take-le i own (omega (arith, within))

    next : length (take (i + 1) own) ≡ i + 1
    next = length-take-le (i + 1) own (omega (arith, within))

    by_class : (b : Bool) → at ≤ before + (if b then length (take i own) else 0) → now ≤ at + (if b then 1 else 0) → now ≤ before + (if b then length (take (i + 1) own) else 0)
    by_class true h k = omega (arith, h, k, first, next)
    by_class false h k = omega (arith, h, k)

pub cost_taken : (info : RuleInfo) (own : List OutRow) (i : ℕ) → relisted_cost info (take i own) ≤ relisted_cost info own
cost_taken info own i = by_class (looks_at_langs info.expects)
  where
    by_class : (b : Bool) → (if b then length (take i own) else 0) ≤ (if b then length own else 0)
    by_class true = let cut = length-take i own in grind (arith, cut)
    by_class false = omega arith

-- the rows up to some number
pub front_whole : (most : ℕ) (rows : List OutRow) → length rows ≤ most → take most rows ≡ rows
front_whole most rows few = take_all most rows few

pub front_few : (most : ℕ) (rows : List OutRow) → most ≤ length rows → length (take most rows) ≤ most
front_few most rows few = let cut = length-take-le most rows few in omega (arith, cut)
