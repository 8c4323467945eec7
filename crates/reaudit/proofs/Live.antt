-- What is found of a rule with rows: nothing, but on the nodes that the edit reaches or that may have a row.
use Rattle.std.proofs.Common.{◌≡◌, ◌≤◌, ◌&&◌, not, ℕ, List, length, filter, map, slice_get, Bool, true, false, Option, Some, None, IfSome, subst, refl, sym, ◌∙◌, ap, arith}
use Rattle.std.proofs.lemmas.List.{length-map}
use Rattle.std.specs.List.{filter_map}
use Rattle.snap_tree.specs.declared.row.NodeId.{NodeId}
use Rattle.snap_tree.specs.declared.row.Row.{Row}
use Rattle.snap_tree.specs.Trees.{Document, rows_of}
use Rattle.rule_core.specs.declared.info.RuleNo.{RuleNo}
use Rattle.rule_core.specs.declared.info.RuleInfo.{RuleInfo}
use Rattle.rule_core.specs.Books.{Book}
use Rattle.rule_core.specs.Local.{AreVersions, IsLocal}
use Rattle.judge_core.specs.declared.judgement.Judgement.{Judgement}
use Rattle.judge_core.specs.declared.outcomes.OutRow.{OutRow}
use Rattle.judge_core.specs.Outcomes.{atomic_row, atomic_rows}
use Rattle.judged_rows.proofs.Merged.{filter_map_map}
use Rattle.judged_rows.proofs.PartLaws.{on_own}
use Rattle.reaudit.specs.declared.known.Known.{Known}
use Rattle.reaudit.specs.declared.known.Placed.{Placed}
use Rattle.reaudit.specs.Before.{HadRows}
use Rattle.reaudit.specs.Known.{placed_of, known_of, ArePlaced, same_nodes}
use Rattle.reaudit.specs.Marks.{is_marked, AreMarked}
use Rattle.reaudit.specs.Nodes.{is_settled, is_live, live_by, AreKnown}
use Rattle.reaudit.proofs.Along.{numbers_are}
use Rattle.reaudit.proofs.InOrder.{neither, of_same}
use Rattle.reaudit.proofs.Kept.{is_known, had_each}
use Rattle.reaudit.proofs.Marking.{marked_at}
use Rattle.reaudit.proofs.Placing.{affected_in, rows_are}
use Rattle.reaudit.proofs.Reaching.{placed_known, some_known, quiet_none, rows_kept, fewer, at_most}

-- ---- the others had no row

had_none : (book : Book) (rule : RuleNo) (old new : Document) (earlier : List Judgement) (marks : List Bool) (own : List OutRow) → own ≡ atomic_rows book old earlier rule → AreMarked marks own
    → (p : Placed) → p ≡ placed_of old new p.node → is_live marks p ≡ false → atomic_row book old earlier rule p.node ≡ None
had_none book rule old new earlier marks own is all p placed off =
    let parts = neither (not (is_settled p.langs p.known)) (is_marked marks p.node) off in
    by_known p.known (ap (λ (p : Placed). p.known) placed) parts.0 parts.1
  where
    by_row : (o : Option OutRow) → atomic_row book old earlier rule p.node ≡ o → IfSome o (λ row. row.node ≡ p.node) → (place : ℕ)
        → slice_get (map (λ (row : Row). atomic_row book old earlier rule row.id) (rows_of old.trees)) place ≡ Some (atomic_row book old earlier rule p.node) → is_marked marks p.node ≡ false → o ≡ None
    by_row None e on place at unmarked = refl
    by_row (Some row) e on place at unmarked =
        let marked : is_marked marks row.node ≡ true = marked_at marks (λ (r : Row). atomic_row book old earlier rule r.id) (rows_of old.trees) place row (subst (AreMarked marks) is all) (at ∙ ap (λ (o : Option OutRow). Some o) e) in
        let never : true ≡ false = sym marked ∙ ap (is_marked marks) on ∙ unmarked in cc

    by_known : (o : Option Known) → o ≡ known_of old new p.node → not (is_settled p.langs o) ≡ false → is_marked marks p.node ≡ false → atomic_row book old earlier rule p.node ≡ None
    by_known None e settled unmarked = cc
    by_known (Some k) e settled unmarked =
        by_row (atomic_row book old earlier rule p.node) refl (on_own book old earlier rule p.node) k.place (is_known old new p.node (atomic_row book old earlier rule) k (sym e)).value unmarked

quiet : (b : Bool) → not b ≡ false → (b && true) ≡ true
quiet true h = refl
quiet false h = cc

-- so they have none
has_none : (book : Book) (info : RuleInfo) → IsLocal info (book.means info.no) → (old new : Document) → AreVersions old new → (earlier js : List Judgement) (marks : List Bool) (own : List OutRow) → own ≡ atomic_rows book old earlier info.no → AreMarked marks own
    → (p : Placed) → p ≡ placed_of old new p.node → is_live marks p ≡ false → atomic_row book new js info.no p.node ≡ None
has_none book info local old new versions earlier js marks own is all p placed off =
    let none = had_none book info.no old new earlier marks own is all p placed off in
    quiet_none book info local old new versions earlier js p.node p.langs (ap (λ (p : Placed). p.langs) placed) p.known (ap (λ (p : Placed). p.known) placed) None (had_each p.known (sym none)) (quiet (is_settled p.langs p.known) (neither (not (is_settled p.langs p.known)) (is_marked marks p.node) off).0)

-- ---- so only those are gone over

pub live_known : (old new : Document) (marks : List Bool) (placed live : List Placed) → ArePlaced old new placed → live ≡ live_by marks placed → AreKnown old new live
live_known old new marks placed live p is = subst (AreKnown old new) (sym is) (some_known old new (is_live marks) placed (placed_known old new placed p))

-- the rows that a rule had stand in the order of those nodes
pub had_live : (book : Book) (rule : RuleNo) (old new : Document) (earlier : List Judgement) (marks : List Bool) (placed live : List Placed) (own : List OutRow) → ArePlaced old new placed → same_nodes (rows_of old.trees) (rows_of new.trees) ≡ true
    → live ≡ live_by marks placed → own ≡ atomic_rows book old earlier rule → AreMarked marks own → HadRows book rule live own old earlier
had_live book rule old new earlier marks placed live own p same is had all =
    let f : NodeId → Option OutRow = atomic_row book old earlier rule in
    let nodes = of_same (λ n. n) (rows_of old.trees) (rows_of new.trees) same ∙ numbers_are old new placed p in
    had ∙ sym (filter_map_map f (λ (row : Row). row.id) (rows_of old.trees)) ∙ ap (filter_map f) nodes
    ∙ filter_map_map f (λ (p : Placed). p.node) placed
    ∙ sym (rows_kept f old new (is_live marks) placed (placed_known old new placed p) (had_none book rule old new earlier marks own had all))
    ∙ ap (filter_map (λ (p : Placed). f p.node)) (sym is)
    ∙ sym (filter_map_map f (λ (p : Placed). p.node) live)

-- the rows that it has are those of these nodes
pub has_live : (book : Book) (info : RuleInfo) → IsLocal info (book.means info.no) → (old new : Document) → AreVersions old new → (earlier js : List Judgement) (marks : List Bool) (placed live : List Placed) (own : List OutRow) → ArePlaced old new placed
    → live ≡ live_by marks placed → own ≡ atomic_rows book old earlier info.no → AreMarked marks own → filter_map (λ (p : Placed). atomic_row book new js info.no p.node) live ≡ atomic_rows book new js info.no
has_live book info local old new versions earlier js marks placed live own p is had all =
    let f : NodeId → Option OutRow = atomic_row book new js info.no in
    ap (filter_map (λ (p : Placed). f p.node)) is
    ∙ rows_kept f old new (is_live marks) placed (placed_known old new placed p) (has_none book info local old new versions earlier js marks own had all)
    ∙ rows_are old new placed p f

pub live_affected : (old new : Document) (marks : List Bool) (placed live : List Placed) → ArePlaced old new placed → live ≡ live_by marks placed → (test : NodeId → Bool)
    → length (filter (λ (p : Placed). test p.node) live) ≤ length (filter test (map (λ (row : Row). row.id) (rows_of new.trees)))
live_affected old new marks placed live p is test =
    let some = ap (λ xs. length (filter (λ (p : Placed). test p.node) xs)) is in
    omega (arith, some, fewer (λ (p : Placed). test p.node) (is_live marks) placed, affected_in old new placed p test)

pub live_within : (old new : Document) (marks : List Bool) (placed live : List Placed) → ArePlaced old new placed → live ≡ live_by marks placed → length live ≤ length (rows_of new.trees)
live_within old new marks placed live p is =
    let all = ap length p ∙ length-map (rows_of new.trees) (λ (row : Row). placed_of old new row.id) in
    omega (arith, ap length is, at_most (is_live marks) placed, all)
