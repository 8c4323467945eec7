-- What is found of a rule without rows: nothing, but where the edit reaches.
use Rattle.std.proofs.Common.{◌≡◌, ◌≤◌, ◌<◌, ◌&&◌, ◌||◌, not, ℕ, zero, suc, List, [], ◌∷◌, length, filter, map, get_or, slice_get, Bool, true, false, if◌then◌else◌, Option, Some, None, IfSome, Bor, subst, refl, sym, ◌∙◌, ap, arith}
use Rattle.std.specs.List.{filter_map, cons_option}
use Rattle.std.specs.Option.{option_copied, is_some}
use Rattle.snap_tree.specs.declared.row.NodeId.{NodeId}
use Rattle.snap_tree.specs.declared.row.Row.{Row}
use Rattle.snap_tree.specs.Trees.{Document, rows_of}
use Rattle.rule_core.specs.declared.info.Class.{Class}
use Rattle.rule_core.specs.declared.info.Class.TheVariants.{SelfOnly, Sub, Table, Title, Metas, Whole, Lang, SubLang}
use Rattle.rule_core.specs.declared.info.RuleInfo.{RuleInfo}
use Rattle.rule_core.specs.declared.info.RuleNo.{RuleNo}
use Rattle.rule_core.specs.Books.{Book}
use Rattle.rule_core.specs.Local.{AreVersions, IsLocal}
use Rattle.judge_core.specs.declared.judgement.Judgement.{Judgement}
use Rattle.judge_core.specs.declared.outcomes.OutRow.{OutRow}
use Rattle.judge_core.specs.Outcomes.{atomic_row, atomic_rows}
use Rattle.page_keys.specs.PageKeys.{same_langs}
use Rattle.reaudit.specs.declared.known.Known.{Known}
use Rattle.reaudit.specs.declared.known.Placed.{Placed}
use Rattle.reaudit.specs.Known.{placed_of, known_of, ArePlaced, class_flag, has_to_judge}
use Rattle.reaudit.specs.Before.{joined, kept_at, HadRow, KeepsRows, WereRows}
use Rattle.reaudit.specs.Marks.{is_marked}
use Rattle.reaudit.specs.Nodes.{is_settled, live_by, reached_by, AreKnown}
use Rattle.reaudit.proofs.Kept.{kept_here, had_at}

-- ---- of each it is told what is known

all_placed : (old new : Document) (rows : List Row) → AreKnown old new (map (λ row. placed_of old new row.id) rows)
all_placed old new [] = tt
all_placed old new (row ∷ rows) = (refl, all_placed old new rows)

pub placed_known : (old new : Document) (placed : List Placed) → ArePlaced old new placed → AreKnown old new placed
placed_known old new placed p = subst (AreKnown old new) (sym p) (all_placed old new (rows_of new.trees))

pub some_known : (old new : Document) (test : Placed → Bool) (placed : List Placed) → AreKnown old new placed → AreKnown old new (filter test placed)
some_known old new test [] each = tt
some_known old new test (p ∷ placed) each = by_test (test p) (some_known old new test placed each.1)
  where
    by_test : (b : Bool) → AreKnown old new (filter test placed) → AreKnown old new (if b then p ∷ filter test placed else filter test placed)
    by_test true h = (each.0, h)
    by_test false h = h

pub reached_known : (old new : Document) (placed : List Placed) → AreKnown old new placed → AreKnown old new (reached_by placed)
reached_known old new placed each = some_known old new (λ p. not (is_settled p.langs p.known)) placed each

pub known_at : (old new : Document) (some : List Placed) → AreKnown old new some → (i : ℕ) (d : Placed) → i < length some → get_or some i d ≡ placed_of old new (get_or some i d).node
known_at old new [] each i d h = let none : ⊥ = omega (arith, h) in absurd none
known_at old new (p ∷ some) each zero d h = each.0
known_at old new (p ∷ some) each (suc i) d h = known_at old new some each.1 i d (omega (arith, h))

-- ---- the others have no row

-- where there is none at all, there is none on each
none_of_each : (f : NodeId → Option OutRow) (rows : List Row) → [] ≡ filter_map (λ row. f row.id) rows → map (λ (row : Row). f row.id) rows ≡ map (λ (row : Row). let none : Option OutRow = None in none) rows
none_of_each f [] e = refl
none_of_each f (row ∷ rows) e = by_row (f row.id) refl e (λ h. none_of_each f rows h)
  where
    by_row : (o : Option OutRow) → f row.id ≡ o → [] ≡ cons_option o (filter_map (λ (row : Row). f row.id) rows)
        → ([] ≡ filter_map (λ (row : Row). f row.id) rows → map (λ (row : Row). f row.id) rows ≡ map (λ (row : Row). let none : Option OutRow = None in none) rows)
        → f row.id ∷ map (λ (row : Row). f row.id) rows ≡ None ∷ map (λ (row : Row). let none : Option OutRow = None in none) rows
    by_row None is h later = λ i. is i ∷ later h i
    by_row (Some x) is h later = cc

abbrev none_on : Document → List (Option OutRow)
none_on page = map (λ (row : Row). let none : Option OutRow = None in none) (rows_of page.trees)

none_at : (rows : List Row) (place : ℕ) → joined (slice_get (map (λ (row : Row). let none : Option OutRow = None in none) rows) place) ≡ None
none_at [] place = refl
none_at (row ∷ rows) zero = refl
none_at (row ∷ rows) (suc place) = none_at rows place

none_kept : (page : Document) (known : Option Known) → kept_at (none_on page) known ≡ None
none_kept page None = refl
none_kept page (Some known) = none_at (rows_of page.trees) known.place

-- a rule without rows had none on a node
none_had : (book : Book) (old new : Document) (js : List Judgement) (rule : RuleNo) → [] ≡ atomic_rows book old js rule → (p : Placed) → p ≡ placed_of old new p.node → HadRow book rule p None old js
none_had book old new js rule h p is =
    had_at book old new js rule p.node (none_on old) (sym (none_of_each (atomic_row book old js rule) (rows_of old.trees) h)) p.known (ap (λ (p : Placed). p.known) is) None (sym (none_kept old p.known))

no_place : (known : Option Known) → kept_at [] known ≡ None
no_place None = refl
no_place (Some known) = refl

pub keeps_none : (book : Book) (old new : Document) (js : List Judgement) (rule : RuleNo) → [] ≡ atomic_rows book old js rule → KeepsRows book rule new [] old js
keeps_none book old new js rule h = record { each = λ p is. subst (λ row. HadRow book rule p row old js) (sym (no_place p.known)) (none_had book old new js rule h p is) }

pub keeps_rows : (book : Book) (old new : Document) (js : List Judgement) (rule : RuleNo) (before : List (Option OutRow)) → WereRows book old js rule before → KeepsRows book rule new before old js
keeps_rows book old new js rule before w = record { each = λ p is. had_at book old new js rule p.node before w p.known (ap (λ (p : Placed). p.known) is) (kept_at before p.known) refl }

both : (a b : Bool) → (a && b) ≡ true → (a ≡ true) × (b ≡ true)
both true b h = (refl, h)
both false b h = cc

each_flag : (langs : Bool) (class : Class) (k : Known) → is_settled langs (Some k) ≡ true → class_flag langs class k.flags ≡ true
each_flag langs class k h =
    let l = both langs _ h in
    let a = both k.flags.itself _ l.1 in
    let b = both k.flags.sub _ a.1 in
    let c = both k.flags.table _ b.1 in
    let d = both k.flags.title _ c.1 in
    let e = both k.flags.metas k.flags.whole d.1 in
    by_class class l.0 a.0 b.0 c.0 d.0 e.0 e.1
  where
    by_class : (class : Class) → langs ≡ true → k.flags.itself ≡ true → k.flags.sub ≡ true → k.flags.table ≡ true → k.flags.title ≡ true → k.flags.metas ≡ true → k.flags.whole ≡ true → class_flag langs class k.flags ≡ true
    by_class SelfOnly l a b c d e f = a
    by_class Sub l a b c d e f = b
    by_class Table l a b c d e f = c
    by_class Title l a b c d e f = d
    by_class Metas l a b c d e f = e
    by_class Whole l a b c d e f = f
    by_class Lang l a b c d e f = λ i. a i && l i
    by_class SubLang l a b c d e f = λ i. b i && l i

settled_off : (info : RuleInfo) (langs : Bool) (known : Option Known) → is_settled langs known ≡ true → has_to_judge info langs known false ≡ false
settled_off info langs None h = cc
settled_off info langs (Some k) h = ap (λ b. not (b && true)) (each_flag langs info.applies k h)

-- so a rule without rows has none where the edit doesn't reach
pub settled_none : (book : Book) (info : RuleInfo) → IsLocal info (book.means info.no) → (old new : Document) → AreVersions old new → (earlier js : List Judgement) → [] ≡ atomic_rows book old earlier info.no
    → (p : Placed) → p ≡ placed_of old new p.node → is_settled p.langs p.known ≡ true → atomic_row book new js info.no p.node ≡ None
settled_none book info local old new versions earlier js h p is settled =
    sym (kept_here book info local old new versions earlier js p.node p.langs (ap (λ (p : Placed). p.langs) is) p.known (ap (λ (p : Placed). p.known) is) None (none_had book old new earlier info.no h p is) (settled_off info p.langs p.known settled))

-- nor has it one on a node that had none, where the edit doesn't reach
pub quiet_none : (book : Book) (info : RuleInfo) → IsLocal info (book.means info.no) → (old new : Document) → AreVersions old new → (earlier js : List Judgement) (n : NodeId) (langs : Bool) → langs ≡ same_langs old.langs new.langs → (known : Option Known) → known ≡ known_of old new n
    → (row : Option (Bor OutRow)) → IfSome known (λ k. option_copied row ≡ atomic_row book old earlier info.no n) → (is_settled langs known && not (is_some row)) ≡ true → atomic_row book new js info.no n ≡ None
quiet_none book info local old new versions earlier js n langs same known e None had quiet =
    sym (kept_here book info local old new versions earlier js n langs same known e None had (settled_off info langs known (both (is_settled langs known) true quiet).0))
quiet_none book info local old new versions earlier js n langs same known e (Some row) had quiet =
    let never = (both (is_settled langs known) false quiet).1 in cc

-- ---- so only those are gone over

-- nothing is found where a test fails
pub rows_kept : (f : NodeId → Option OutRow) (old new : Document) (test : Placed → Bool) (placed : List Placed) → AreKnown old new placed → ((p : Placed) → p ≡ placed_of old new p.node → test p ≡ false → f p.node ≡ None)
    → filter_map (λ (p : Placed). f p.node) (filter test placed) ≡ filter_map (λ (p : Placed). f p.node) placed
rows_kept f old new test [] each none = refl
rows_kept f old new test (p ∷ placed) each none = by_test (test p) refl (rows_kept f old new test placed each.1 none)
  where
    by_test : (b : Bool) → test p ≡ b → filter_map (λ (p : Placed). f p.node) (filter test placed) ≡ filter_map (λ (p : Placed). f p.node) placed
        → filter_map (λ (p : Placed). f p.node) (if b then p ∷ filter test placed else filter test placed) ≡ cons_option (f p.node) (filter_map (λ (p : Placed). f p.node) placed)
    by_test true e h = ap (cons_option (f p.node)) h
    by_test false e h = h ∙ ap (λ o. cons_option o (filter_map (λ (p : Placed). f p.node) placed)) (sym (none p each.0 e))

turned : (b : Bool) → not b ≡ false → b ≡ true
turned true h = refl
turned false h = cc

pub rows_reached : (f : NodeId → Option OutRow) (old new : Document) (placed : List Placed) → AreKnown old new placed → ((p : Placed) → p ≡ placed_of old new p.node → is_settled p.langs p.known ≡ true → f p.node ≡ None)
    → filter_map (λ (p : Placed). f p.node) (reached_by placed) ≡ filter_map (λ (p : Placed). f p.node) placed
rows_reached f old new placed each none = rows_kept f old new (λ p. not (is_settled p.langs p.known)) placed each (λ p is off. none p is (turned (is_settled p.langs p.known) off))

-- those that the edit reaches are among the live ones
pub reached_live : (marks : List Bool) (placed : List Placed) → reached_by (live_by marks placed) ≡ reached_by placed
reached_live marks [] = refl
reached_live marks (p ∷ placed) = by_test (is_settled p.langs p.known) refl (is_marked marks p.node) (reached_live marks placed)
  where
    by_test : (s : Bool) → is_settled p.langs p.known ≡ s → (m : Bool) → reached_by (live_by marks placed) ≡ reached_by placed
        → reached_by (if not s || m then p ∷ live_by marks placed else live_by marks placed) ≡ (if not s then p ∷ reached_by placed else reached_by placed)
    by_test false e m h = ap (λ b. if not b then p ∷ reached_by (live_by marks placed) else reached_by (live_by marks placed)) e ∙ ap (λ l. p ∷ l) h
    by_test true e true h = ap (λ b. if not b then p ∷ reached_by (live_by marks placed) else reached_by (live_by marks placed)) e ∙ h
    by_test true e false h = h

pub fewer : {X : Type 0} (test some : X → Bool) (xs : List X) → length (filter test (filter some xs)) ≤ length (filter test xs)
fewer test some [] = omega arith
fewer {X} test some (x ∷ xs) = by_some (some x) (fewer test some xs)
  where
    by_test : (b : Bool) → length (filter test (filter some xs)) ≤ length (filter test xs) → length (if b then x ∷ filter test (filter some xs) else filter test (filter some xs)) ≤ length (if b then x ∷ filter test xs else filter test xs)
    by_test true h = omega arith
    by_test false h = h

    either : (b : Bool) → length (filter test (filter some xs)) ≤ length (filter test xs) → length (filter test (filter some xs)) ≤ length (if b then x ∷ filter test xs else filter test xs)
    either true h = omega arith
    either false h = h

    by_some : (b : Bool) → length (filter test (filter some xs)) ≤ length (filter test xs) → length (filter test (if b then x ∷ filter some xs else filter some xs)) ≤ length (filter test (x ∷ xs))
    by_some true h = by_test (test x) h
    by_some false h = either (test x) h

pub at_most : {X : Type 0} (some : X → Bool) (xs : List X) → length (filter some xs) ≤ length xs
at_most some [] = omega arith
at_most {X} some (x ∷ xs) = by_some (some x) (at_most some xs)
  where
    by_some : (b : Bool) → length (filter some xs) ≤ length xs → length (if b then x ∷ filter some xs else filter some xs) ≤ length (x ∷ xs)
    by_some true h = omega arith
    by_some false h = omega arith
