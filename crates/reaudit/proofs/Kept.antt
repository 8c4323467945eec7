-- What is judged is what the edit affects, and what is kept is right.
use Rattle.std.proofs.Common.{◌≡◌, ◌&&◌, ◌||◌, ◌==◌, ◌+◌, not, ℕ, suc, List, [], ◌∷◌, map, Bool, true, false, if◌then◌else◌, slice_get, Option, Some, None, option_map, IfSome, Bor, refl, sym, ◌∙◌, ap, arith}
use Rattle.std.proofs.lemmas.Bool.Decides.{Decides-eqb}
use Rattle.std.proofs.lemmas.List.Folds.{list_all-append}
use Rattle.std.specs.Option.{is_some, option_copied}
use Rattle.std.specs.List.{find}
use Rattle.snap_tree.specs.declared.row.NodeId.{NodeId}
use Rattle.snap_tree.specs.declared.row.Row.{Row}
use Rattle.snap_tree.specs.Rows.{has_number}
use Rattle.snap_tree.specs.Trees.{Trees, Document, rows_of}
use Rattle.acc_tree.specs.Seen.{seen_row, seen}
use Rattle.acc_tree.proofs.Finding.{rows_seen}
use Rattle.rule_core.specs.declared.info.Class.{Class}
use Rattle.rule_core.specs.declared.info.Class.TheVariants.{SelfOnly, Sub, Table, Title, Metas, Whole, Lang, SubLang}
use Rattle.rule_core.specs.declared.info.RuleInfo.{RuleInfo}
use Rattle.rule_core.specs.declared.info.RuleNo.{RuleNo}
use Rattle.rule_core.specs.declared.verdict.Verdict.{Verdict}
use Rattle.rule_core.specs.Books.{Book}
use Rattle.judge_core.specs.declared.judgement.Judgement.{Judgement}
use Rattle.judge_core.specs.declared.outcomes.OutRow.{OutRow}
use Rattle.judge_core.specs.Outcomes.{row_of, atomic_row}
use Rattle.judged_rows.specs.Again.{again}
use Rattle.page_keys.specs.Same.{all_same}
use Rattle.page_keys.specs.Nodes.{self_keys}
use Rattle.page_keys.specs.Classes.{sub_keys, table_keys, title_keys, metas_keys, whole_keys}
use Rattle.page_keys.specs.PageKeys.{PageKey, same_langs, same_in, all_same_in}
use Rattle.rule_core.specs.Reach.{class_keys, looks_at_langs, looked_at, agrees, is_held, is_affected}
use Rattle.rule_core.specs.Local.{AreVersions, IsLocal}
use Rattle.rule_core.proofs.Affecting.{keeps_the_rest}
use Rattle.rule_core.proofs.Targets.{agree_is}
use Rattle.page_changes.specs.declared.flags.Flags.{Flags}
use Rattle.page_changes.specs.Flags.{flags_of}
use Rattle.reaudit.specs.declared.known.Known.{Known}
use Rattle.reaudit.specs.Known.{first_known, known_of, class_flag, has_to_judge}
use Rattle.reaudit.specs.Before.{joined, kept_at, WereRows}

-- ---- classes

and_true : (b : Bool) → b ≡ (b && true)
and_true true = refl
and_true false = refl

class_is : (langs : Bool) (old new : Trees) (n : NodeId) (class : Class) → class_flag langs class (flags_of old new n) ≡ (all_same old new (class_keys class old n) && (if looks_at_langs class then langs else true))
unfolding class_keys
class_is langs old new n SelfOnly = and_true (all_same old new (self_keys old n))
class_is langs old new n Sub = and_true (all_same old new (sub_keys old n))
class_is langs old new n Table = and_true (all_same old new (table_keys old n))
class_is langs old new n Title = and_true (all_same old new (title_keys old n))
class_is langs old new n Metas = and_true (all_same old new (metas_keys old n))
class_is langs old new n Whole = and_true (all_same old new (whole_keys old n))
class_is langs old new n Lang = refl
class_is langs old new n SubLang = refl

if_keys : (old new : Document) (b : Bool) (keys : List PageKey) → (if b then all_same_in old new keys else true) ≡ all_same_in old new (if b then keys else [])
if_keys old new true keys = refl
if_keys old new false keys = refl

-- ---- what is known of a number

-- a number that the old page holds: its flags, and what a list over the page has at its place
pub record IsFound {X : Type 0} (old new : Trees) (n : NodeId) (g : NodeId → X) (rows : List Row) (from : ℕ) (k : Known) : Type 0 where
  pub at : ℕ
  pub place : k.place ≡ from + at
  pub flags : k.flags ≡ flags_of old new n
  pub value : slice_get (map (λ row. g row.id) rows) at ≡ Some (g n)

abbrev all_flags : Trees → Trees → List Row → List Flags
all_flags old new rows = map (λ row. flags_of old new row.id) rows

same_number : (row : Row) (n : NodeId) → (row.id.0 == n.0) ≡ true → row.id ≡ n
same_number row n e = ap (λ k. record { 0 = k }) ((Decides-eqb row.id.0 n.0).0 e)

found_at : {X : Type 0} (old new : Trees) (n : NodeId) (g : NodeId → X) (from : ℕ) (rows : List Row) (k : Known) → first_known from n.0 (all_flags old new rows) ≡ Some k → IsFound old new n g rows from k
found_at old new n g from [] k e = cc
found_at {X} old new n g from (row ∷ rows) k e = by_number (row.id.0 == n.0) refl e (λ h. found_at old new n g (from + 1) rows k h)
  where
    by_number : (b : Bool) → (row.id.0 == n.0) ≡ b → (if b then Some (record { place = from; flags = flags_of old new row.id }) else first_known (from + 1) n.0 (all_flags old new rows)) ≡ Some k
        → (first_known (from + 1) n.0 (all_flags old new rows) ≡ Some k → IsFound old new n g rows (from + 1) k) → IsFound old new n g (row ∷ rows) from k
    by_number true h is next =
        let here : record { place = from; flags = flags_of old new row.id } ≡ k = cc in
        let id = same_number row n h in
        record { at = 0; place = sym (ap (λ (k : Known). k.place) here) ∙ omega arith; flags = sym (ap (λ (k : Known). k.flags) here) ∙ ap (flags_of old new) id; value = ap (λ n. Some (g n)) id }
    by_number false h is next =
        let later = next is in
        record { at = suc later.at; place = later.place ∙ omega arith; flags = later.flags; value = later.value }

lost : (old new : Trees) (n : NodeId) (from : ℕ) (rows : List Row) → is_some (first_known from n.0 (all_flags old new rows)) ≡ is_some (find (has_number n) rows)
lost old new n from [] = refl
lost old new n from (row ∷ rows) = by_number (row.id.0 == n.0) (lost old new n (from + 1) rows)
  where
    by_number : (b : Bool) → is_some (first_known (from + 1) n.0 (all_flags old new rows)) ≡ is_some (find (has_number n) rows)
        → is_some (if b then Some (record { place = from; flags = flags_of old new row.id }) else first_known (from + 1) n.0 (all_flags old new rows)) ≡ is_some (if b then Some row else find (has_number n) rows)
    by_number true h = refl
    by_number false h = h

some_seen : (n : NodeId) (rows : List Row) → is_some (find (has_number n) (map seen_row rows)) ≡ is_some (find (has_number n) rows)
some_seen n [] = refl
some_seen n (row ∷ rows) = by_number (row.id.0 == n.0) (some_seen n rows)
  where
    by_number : (b : Bool) → is_some (find (has_number n) (map seen_row rows)) ≡ is_some (find (has_number n) rows)
        → is_some (if b then Some (seen_row row) else find (has_number n) (map seen_row rows)) ≡ is_some (if b then Some row else find (has_number n) rows)
    by_number true h = refl
    by_number false h = h

pub held_is : (old new : Document) (n : NodeId) → is_some (known_of old new n) ≡ is_held old n
held_is old new n =
    lost (seen old.trees) (seen new.trees) n 0 (rows_of (seen old.trees)) ∙ ap (λ rows. is_some (find (has_number n) rows)) (rows_seen old.trees) ∙ some_seen n (rows_of old.trees)

pub map_seen : {X : Type 0} (g : NodeId → X) (rows : List Row) → map (λ row. g row.id) (map seen_row rows) ≡ map (λ row. g row.id) rows
map_seen g [] = refl
map_seen g (row ∷ rows) = ap (λ xs. g row.id ∷ xs) (map_seen g rows)

-- what is known of a number is found, over the rows of the page
pub record IsKnown {X : Type 0} (old new : Document) (n : NodeId) (g : NodeId → X) (k : Known) : Type 0 where
  pub flags : k.flags ≡ flags_of (seen old.trees) (seen new.trees) n
  pub value : slice_get (map (λ row. g row.id) (rows_of old.trees)) k.place ≡ Some (g n)

pub is_known : {X : Type 0} (old new : Document) (n : NodeId) (g : NodeId → X) (k : Known) → known_of old new n ≡ Some k → IsKnown old new n g k
is_known old new n g k e =
    let f = found_at (seen old.trees) (seen new.trees) n g 0 (rows_of (seen old.trees)) k e in
    let place : k.place ≡ f.at = f.place ∙ omega arith in
    record {
      flags = f.flags;
      value = ap (slice_get (map (λ (row : Row). g row.id) (rows_of old.trees))) place
          ∙ ap (λ xs. slice_get xs f.at) (sym (map_seen g (rows_of old.trees)) ∙ ap (map (λ (row : Row). g row.id)) (sym (rows_seen old.trees))) ∙ f.value;
    }

-- ---- the row that a node had

pub had_at : (book : Book) (old new : Document) (js : List Judgement) (rule : RuleNo) (n : NodeId) (before : List (Option OutRow)) → WereRows book old js rule before → (known : Option Known) → known ≡ known_of old new n
    → (row : Option OutRow) → row ≡ kept_at before known → IfSome known (λ k. row ≡ atomic_row book old js rule n)
had_at book old new js rule n before w None e row r = tt
had_at book old new js rule n before w (Some k) e row r =
    let is = is_known old new n (atomic_row book old js rule) k (sym e) in
    r ∙ ap (λ xs. joined (slice_get xs k.place)) w ∙ ap joined is.value

pub had_each : {X : Type 0} {P : Type 0} (o : Option X) → P → IfSome o (λ k. P)
had_each None h = tt
had_each (Some k) h = h

had_row : (book : Book) (page : Document) (js : List Judgement) (rule : RuleNo) (n : NodeId) → is_some (atomic_row book page js rule n) ≡ is_some (book.means rule page n)
had_row book page js rule n = by_verdict (book.means rule page n)
  where
    by_verdict : (o : Option Verdict) → is_some (option_map (row_of rule n js) o) ≡ is_some o
    by_verdict None = refl
    by_verdict (Some v) = refl

some_copied : (o : Option (Bor OutRow)) → is_some o ≡ is_some (option_copied o)
some_copied None = refl
some_copied (Some x) = refl

-- ---- what has to be judged is affected, and nothing else

pub judged_here : (book : Book) (info : RuleInfo) (old new : Document) (js : List Judgement) (n : NodeId) (langs : Bool) → langs ≡ same_langs old.langs new.langs → (known : Option Known) → known ≡ known_of old new n
    → (row : Option (Bor OutRow)) → IfSome known (λ k. option_copied row ≡ atomic_row book old js info.no n) → has_to_judge info langs known (is_some row) ≡ is_affected info (book.means info.no) old new n
judged_here book info old new js n langs same known e row had = by_known known e (ap is_some e ∙ held_is old new n) had
  where
    by_known : (o : Option Known) → o ≡ known_of old new n → is_some o ≡ is_held old n → IfSome o (λ k. option_copied row ≡ atomic_row book old js info.no n)
        → has_to_judge info langs o (is_some row) ≡ (not (is_held old n) || not (agrees info (book.means info.no) old new n))
    by_known None e h r = ap (λ b. not b || not (agrees info (book.means info.no) old new n)) h
    by_known (Some known) e h r =
        let is = is_known old new n (λ m. m) known (sym e) in
        let target : is_some row ≡ is_some ((book.means info.no) old n) = some_copied row ∙ ap is_some r ∙ had_row book old js info.no n in
        let class : (class : Class) → class_flag langs class known.flags ≡ all_same_in old new (looked_at class old n) = λ class.
        ap (class_flag langs class) is.flags ∙ class_is langs (seen old.trees) (seen new.trees) n class
        ∙ ap (λ b. all_same (seen old.trees) (seen new.trees) (class_keys class (seen old.trees) n) && (if looks_at_langs class then b else true)) same
        ∙ sym (agree_is class old new n) in
        let parts : (class_flag langs info.applies known.flags && (if is_some row then class_flag langs info.expects known.flags else true)) ≡ agrees info (book.means info.no) old new n =
        (λ i. class info.applies i && (if target i then class info.expects i else true))
        ∙ ap (λ b. all_same_in old new (looked_at info.applies old n) && b) (if_keys old new (is_some ((book.means info.no) old n)) (looked_at info.expects old n))
        ∙ sym (list_all-append (same_in old new) (looked_at info.applies old n) (if is_some ((book.means info.no) old n) then looked_at info.expects old n else [])) in
        ap not parts ∙ ap (λ b. not b || not (agrees info (book.means info.no) old new n)) h

-- a row under other judgements
row_anew : (rule : RuleNo) (n : NodeId) (earlier js : List Judgement) (o : Option Verdict) → option_map (again js) (option_map (row_of rule n earlier) o) ≡ option_map (row_of rule n js) o
row_anew rule n earlier js None = refl
row_anew rule n earlier js (Some v) = refl

-- where a node need not be judged, the row that it had is the one that it has, under whatever judgements
pub kept_here : (book : Book) (info : RuleInfo) → IsLocal info (book.means info.no) → (old new : Document) → AreVersions old new → (earlier js : List Judgement) (n : NodeId) (langs : Bool) → langs ≡ same_langs old.langs new.langs → (known : Option Known) → known ≡ known_of old new n
    → (row : Option (Bor OutRow)) → IfSome known (λ k. option_copied row ≡ atomic_row book old earlier info.no n) → has_to_judge info langs known (is_some row) ≡ false → option_map (again js) (option_copied row) ≡ atomic_row book new js info.no n
kept_here book info local old new versions earlier js n langs same known e row had off = by_known known had off (sym (judged_here book info old new earlier n langs same known e row had) ∙ off)
  where
    by_known : (o : Option Known) → IfSome o (λ k. option_copied row ≡ atomic_row book old earlier info.no n) → has_to_judge info langs o (is_some row) ≡ false → is_affected info (book.means info.no) old new n ≡ false
        → option_map (again js) (option_copied row) ≡ atomic_row book new js info.no n
    by_known None r off unaffected = cc
    by_known (Some k) r off unaffected =
        ap (option_map (again js)) r ∙ row_anew info.no n earlier js (book.means info.no old n)
        ∙ ap (option_map (row_of info.no n js)) (keeps_the_rest info (book.means info.no) local old new n versions unaffected)
