-- Subtrees removed, inserted and moved.
use Rattle.std.proofs.Common.{◌≡◌, ℕ, List, ◌∷◌, ◌++◌, get_or, take, drop, Bool, true, false, ◌||◌, Option, Some, None, Result, Ok, Err, if◌then◌else◌, refl, sym, ◌∙◌, ap, subst}
use Rattle.std.proofs.lemmas.List.Folds.{list_any-append}
use Rattle.std.specs.Option.{is_none, is_some, option_map_or}
use Rattle.std.specs.List.{list_any}
use Rattle.snap_tree.specs.declared.row.NodeId.{NodeId}
use Rattle.snap_tree.specs.declared.row.Row.{Row}
use Rattle.snap_tree.specs.Trees.{Trees, empty, tree, rows_of}
use Rattle.snap_tree.specs.Grown.{grown}
use Rattle.snap_tree.specs.Rows.{has_number}
use Rattle.snap_tree.specs.Spots.{Spot, spot}
use Rattle.snap_tree.specs.Places.{place_from}
use Rattle.snap_tree.specs.Naming.{AreNamed}
use Rattle.snap_tree.proofs.Growth.{rows_of_grown}
use Rattle.snap_tree.specs.Faults.{tree_fault}
use Rattle.snap_edit.specs.declared.edit.Edit.TheVariants.{Insert, Remove, Move}
use Rattle.snap_edit.specs.declared.fault.EditKind.{EditKind}
use Rattle.snap_edit.specs.declared.fault.EditKind.TheVariants.{NoNode, NumberTaken, RootMoved, IntoItself, Tree}
use Rattle.snap_edit.specs.declared.fault.EditRefusal.{EditRefusal}
use Rattle.snap_edit.specs.Trees.{without, inserted, hung}
use Rattle.snap_edit.specs.Edits.{at, is_root, is_within, in_place, has_taken, alone_fault, taken_alone, effect}
use Rattle.snap_edit.specs.Places.{subtree_at, rest_without, hung_rows, IsNodeAt, at_movable, IsMovableAt, IsPlaceIn}
use Rattle.snap_edit.specs.Made.{IsPage, Makes, Declines}
use Rattle.snap_edit.proofs.Standing.{Stands, stands, page_of_sound, at_found, at_none, at_there}
use Rattle.snap_edit.proofs.Putting.{hung_rows_of}
use Rattle.snap_edit.proofs.Taking.{TakenOut, taken_out, root_is, any_less}
use Rattle.snap_edit.proofs.TakenAlone.{hung_alone}
use Rattle.snap_edit.proofs.Numbers.{held_by}
use Rattle.snap_tree.proofs.Entering.{place_from-any}
use Rattle.std.proofs.lemmas.List.{append-nil}
use Rattle.std.proofs.Math.Bool.{or-true}

-- ---- the root stays

-- what is said of a node that isn't the root
abbrev unless_root : (Spot → Result Trees EditKind) → Spot → Result Trees EditKind
unless_root f s = if is_root s then Err RootMoved else f s

pub at_root :
    {rows : List Row} {n : NodeId} {place : ℕ} {row : Row} {b : Bool} (f : Spot → Result Trees EditKind)
    → tree_fault rows ≡ None → IsNodeAt rows n place → row ≡ get_or rows place row → is_none row.parent ≡ b
    → at_movable (grown rows) n f ≡ (if b then Err RootMoved else at (grown rows) n f)
at_root {rows = rows} {row = row} {b = b} f sound node r e =
    let h = stands (page_of_sound rows sound) node in
    let root : is_root h.there ≡ b = root_is h ∙ ap (λ (r : Row). is_none r.parent) (sym (r ∙ h.row row)) ∙ e in
    at_there h (unless_root f) ∙ ap (λ b. if b then Err RootMoved else f h.there) root
    ∙ ap (λ x. if b then Err RootMoved else x) (sym (at_there h f))

pub removed :
    {rows new : List Row} {n : NodeId} {place : ℕ}
    → tree_fault rows ≡ None → IsMovableAt rows n place → new ≡ rest_without rows place
    → Makes new (effect (grown rows) (Remove n))
removed {rows = rows} {new = new} {n = n} sound at is =
    let h = stands (page_of_sound rows sound) at.node in
    let out = taken_out h in
    let done = at.follows _ ∙ at_there h (λ s. Ok (without n (grown rows))) in
    subst (Makes new) (sym done) (out.rows_are ∙ sym is, out.named)

-- ---- trees put in

put_makes :
    {rows new subtree : List Row} {p : NodeId} {k begin : ℕ} {answer : Result Trees EditKind} (others : Trees)
    → IsPlaceIn rows p k begin → rows_of others ≡ subtree → AreNamed (Some p) (hung p others)
    → new ≡ take begin rows ++ (hung_rows p subtree ++ drop begin rows)
    → answer ≡ Ok (inserted p k (hung p others) (grown rows)) → Makes new answer
put_makes {rows = rows} {new = new} {p = p} {begin = begin} others place is named e ans =
    let hung_is = hung_rows_of p others ∙ ap (hung_rows p) is in
    let new_is =
    place.rows_are (hung p others) ∙ ap (λ rs. take begin rows ++ (rs ++ drop begin rows)) hung_is ∙ sym e
    in
    subst (Makes new) (sym ans) (new_is, place.named (hung p others) named)

pub insert_makes :
    {rows new given subtree : List Row} {p : NodeId} {k begin : ℕ}
    → IsPlaceIn rows p k begin → has_taken (grown rows) given ≡ false → alone_fault given ≡ None → subtree ≡ given
    → new ≡ take begin rows ++ (hung_rows p subtree ++ drop begin rows)
    → Makes new (effect (grown rows) (Insert p k given))
insert_makes {rows = rows} {given = given} {p = p} {k = k} place free sound same e =
    let put = λ (others : Trees). inserted p k (hung p others) (grown rows) in
    let done : Result Trees EditKind = Ok (put (grown given)) in
    let alone : taken_alone given (λ others. Ok (put others)) ≡ done =
    ap (λ o. option_map_or (λ fault. Err (Tree fault)) o done) sound
    in
    let ans =
    place.follows _ ∙ ap (λ b. if b then Err NumberTaken else taken_alone given (λ others. Ok (put others))) free
    ∙ alone
    in
    put_makes (grown given) place (rows_of_grown given ∙ sym same) (hung_alone p given sound) e ans

-- ---- a subtree moved

at_held :
    (t : Trees) (n : NodeId) (x : Result Trees EditKind) (o : Option Spot)
    → spot t n ≡ o → is_some o ≡ true → at t n (λ s. x) ≡ x
at_held t n x None e h = cc
at_held t n x (Some s) e h = at_found t n s (λ s. x) e

at_absent :
    (t : Trees) (n : NodeId) (f : Spot → Result Trees EditKind) (o : Option Spot)
    → spot t n ≡ o → is_some o ≡ false → at t n f ≡ Err NoNode
at_absent t n f None e h = at_none t n f e
at_absent t n f (Some s) e h = cc

any_within :
    (p : NodeId) (xs ys zs : List Row)
    → list_any (has_number p) ys ≡ true → list_any (has_number p) (xs ++ (ys ++ zs)) ≡ true
any_within p xs ys zs h =
    let any = list_any (has_number p) in
    let later : any (ys ++ zs) ≡ true = list_any-append (has_number p) ys zs ∙ ap (λ b. b || any zs) h in
    list_any-append (has_number p) xs (ys ++ zs) ∙ ap (λ b. any xs || b) later ∙ or-true (any xs)

-- what is said of the new parent, where that isn't in the subtree
abbrev pub moved_in : Trees → NodeId → ℕ → Spot → Result Trees EditKind
moved_in rest p k s = in_place rest p k (Ok (inserted p k (hung p (tree s.row s.below empty)) rest))

-- a page's rows without the subtree that moves, and the subtree's
pub record Lifted (rows rest subtree : List Row) (n : NodeId) (place : ℕ) : Type 0 where
  pub stands : Stands rows n place
  pub movable : IsMovableAt rows n place
  pub out : TakenOut rows n place stands.there
  pub rest_is : rest ≡ rest_without rows place
  pub subtree_is : subtree ≡ stands.there.row ∷ rows_of stands.there.below
  pub page : IsPage rest

pub lifted :
    {rows rest subtree : List Row} {n : NodeId} {place : ℕ}
    → tree_fault rows ≡ None → IsMovableAt rows n place → subtree ≡ subtree_at rows place
    → rest ≡ rest_without rows place → Lifted rows rest subtree n place
lifted {rows = rows} sound at sub rest =
    let h = stands (page_of_sound rows sound) at.node in
    let out = taken_out h in
    record {
      stands = h;
      movable = at;
      out = out;
      rest_is = rest;
      subtree_is = sub ∙ out.subtree;
      page = subst IsPage (sym rest) out.page;
    }

-- whether the new parent is in the subtree, as its place there tells
pub within :
    {rows rest subtree slice : List Row} {n : NodeId} {place : ℕ} {o : Option ℕ} {found b : Bool} (p : NodeId)
    (l : Lifted rows rest subtree n place)
    → slice ≡ subtree → o ≡ place_from 0 p.0 slice → found ≡ is_some o → found ≡ b → is_within p l.stands.there ≡ b
within {slice = slice} p l s o f e =
    ap (list_any (has_number p)) (sym (s ∙ l.subtree_is)) ∙ sym (place_from-any 0 p slice) ∙ ap is_some (sym o)
    ∙ sym f ∙ e

-- a move's answer, told by its subtree's spot
moves_by :
    {rows rest subtree : List Row} {n : NodeId} {place : ℕ} {b : Bool} (p : NodeId) (k : ℕ)
    (l : Lifted rows rest subtree n place)
    → is_within p l.stands.there ≡ b
    → effect (grown rows) (Move n p k)
    ≡ at (grown rows) p (λ _. if b then Err IntoItself else moved_in (without n (grown rows)) p k l.stands.there)
moves_by {rows = rows} {n = n} p k l e =
    let t = grown rows in
    let f = λ (s : Spot). at t p (λ _. if is_within p s then Err IntoItself else moved_in (without n t) p k s) in
    l.movable.follows f ∙ at_there l.stands f
    ∙ ap (λ b. at t p (λ _. if b then Err IntoItself else moved_in (without n t) p k l.stands.there)) e

pub into_itself :
    {rows rest subtree : List Row} {n : NodeId} {place : ℕ} (p : NodeId) (k : ℕ) (l : Lifted rows rest subtree n place)
    → is_within p l.stands.there ≡ true → effect (grown rows) (Move n p k) ≡ Err IntoItself
into_itself {rows = rows} p k l e =
    let h = l.stands in
    let in_rows = any_within p h.parts.before (h.there.row ∷ rows_of h.there.below) h.parts.later e in
    let held : is_some (spot (grown rows) p) ≡ true = held_by rows p ∙ ap (list_any (has_number p)) h.rows_are ∙ in_rows in
    moves_by p k l e ∙ at_held (grown rows) p (Err IntoItself) (spot (grown rows) p) refl held

elsewhere_by :
    {rows rest subtree : List Row} {n : NodeId} {place : ℕ} (p : NodeId) (k : ℕ) (l : Lifted rows rest subtree n place)
    (b : Bool)
    → is_some (spot (grown rows) p) ≡ b
    → at (grown rows) p (λ _. moved_in (without n (grown rows)) p k l.stands.there)
    ≡ moved_in (without n (grown rows)) p k l.stands.there
elsewhere_by {rows = rows} {n = n} p k l true held =
    at_held (grown rows) p (moved_in (without n (grown rows)) p k l.stands.there) (spot (grown rows) p) refl held
elsewhere_by {rows = rows} {n = n} {place = place} p k l false held =
    let h = l.stands in
    let own = h.there.row ∷ rows_of h.there.below in
    let none = ap (list_any (has_number p)) (sym h.rows_are) ∙ sym (held_by rows p) ∙ held in
    let less = any_less p h.parts.before own h.parts.later none in
    let rest_is : rest_without rows place ≡ h.parts.before ++ h.parts.later =
    sym l.out.rows_are ∙ h.parts.new_rows (λ r kids. empty)
    in
    let left = held_by (rest_without rows place) p ∙ ap (list_any (has_number p)) rest_is ∙ less in
    let gone : is_some (spot (without n (grown rows)) p) ≡ false =
    ap (λ t. is_some (spot t p)) (sym l.out.regrown) ∙ left
    in
    at_absent (grown rows) p _ (spot (grown rows) p) refl held
    ∙ sym (at_absent (without n (grown rows)) p _ (spot (without n (grown rows)) p) refl gone)

-- a move's answer, told by the rows without the subtree
elsewhere :
    {rows rest subtree : List Row} {n : NodeId} {place : ℕ} (p : NodeId) (k : ℕ) (l : Lifted rows rest subtree n place)
    → is_within p l.stands.there ≡ false → effect (grown rows) (Move n p k) ≡ moved_in (grown rest) p k l.stands.there
elsewhere {rows = rows} p k l e =
    moves_by p k l e ∙ elsewhere_by p k l (is_some (spot (grown rows) p)) refl
    ∙ ap (λ t. moved_in t p k l.stands.there) (sym l.out.regrown ∙ ap grown (sym l.rest_is))

pub move_declined :
    {rows rest subtree : List Row} {n : NodeId} {place : ℕ} (f : EditRefusal) (p : NodeId) (k : ℕ)
    (l : Lifted rows rest subtree n place)
    → is_within p l.stands.there ≡ false
    → ((next : Result Trees EditKind) → Declines f (in_place (grown rest) p k next))
    → Declines f (effect (grown rows) (Move n p k))
move_declined f p k l out d = subst (Declines f) (sym (elsewhere p k l out)) (d _)

pub move_makes :
    {rows rest new subtree : List Row} {n p : NodeId} {place k begin : ℕ} (l : Lifted rows rest subtree n place)
    → is_within p l.stands.there ≡ false → IsPlaceIn rest p k begin
    → new ≡ take begin rest ++ (hung_rows p subtree ++ drop begin rest) → Makes new (effect (grown rows) (Move n p k))
move_makes {subtree = subtree} {p = p} {k = k} l out at e =
    let s = l.stands.there in
    let whole : rows_of (tree s.row s.below empty) ≡ subtree =
    ap (λ rs. s.row ∷ rs) (append-nil (rows_of s.below)) ∙ sym l.subtree_is
    in
    put_makes (tree s.row s.below empty) at whole (refl, (l.stands.names.below, tt)) e (elsewhere p k l out ∙ at.follows _)
