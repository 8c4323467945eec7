-- A text that only grows, and the marks from which it is written again.
use Rattle.std.proofs.Common.{◌≡◌, ◌≤◌, ℕ, List, [], ◌∷◌, ◌++◌, length, take, drop, Bool, true, false, if◌then◌else◌, IsUtf8, IsCharBoundary, refl, sym, ◌∙◌, ap, subst, arith, append_assoc}
use Rattle.std.proofs.Math.Seq.{take-append_seam, drop-append_seam}
use Rattle.std.proofs.lemmas.List.{length-take-le, length-append, append-nil, take-append-le, take-take}
use Rattle.std.proofs.lemmas.Str.{IsUtf8-take, IsUtf8-drop, IsCharBoundary-from_take}
use Rattle.snap_tree.specs.declared.row.Row.{Row}
use Rattle.acc_name.specs.Names.{stands_apart, placed}
use Rattle.acc_name.specs.Placing.{gap}

-- what stands before a mark, and from there on
pub front_at : (front later text : List ℕ) (mark : ℕ) → mark ≡ length front → text ≡ front ++ later → take mark text ≡ front
front_at front later text mark at is = rw (at, is) (take-append_seam front later)

pub later_at : (front later text : List ℕ) (mark : ℕ) → mark ≡ length front → text ≡ front ++ later → drop mark text ≡ later
later_at front later text mark at is = rw (at, is) (drop-append_seam front later)

-- a text that follows another begins at a boundary
pub boundary_at : (front later text : List ℕ) (mark : ℕ) → IsUtf8 front → IsUtf8 text → mark ≡ length front → text ≡ front ++ later → IsCharBoundary text mark
boundary_at front later text mark front_is text_is at is =
    let within : mark ≤ length text = omega (arith, ap length is, length-append front later) in
    IsCharBoundary-from_take text mark text_is within (subst IsUtf8 (sym (front_at front later text mark at is)) front_is)

-- what follows a text is a text
pub utf8_behind : (front later text : List ℕ) → IsUtf8 front → IsUtf8 text → text ≡ front ++ later → IsUtf8 later
utf8_behind front later text front_is text_is is =
    subst IsUtf8 (later_at front later text (length front) refl is)
    (IsUtf8-drop text (length front) text_is (boundary_at front later text (length front) front_is text_is refl is))

-- the place of a mark
pub mark_at : (old : List ℕ) (mark : ℕ) → IsCharBoundary old mark → mark ≡ length (take mark old)
mark_at old mark boundary = sym (length-take-le mark old boundary.0)

-- a node's text with the spaces beside it
pub gaps_placed : (row : Row) (before text : List ℕ) → (before ++ gap row) ++ text ++ gap row ≡ before ++ placed row text
gaps_placed row before text = by_place (stands_apart row.body)
  where
    by_place : (apart : Bool) → (before ++ (if apart then 32 ∷ [] else [])) ++ text ++ (if apart then 32 ∷ [] else []) ≡ before ++ (if apart then 32 ∷ text ++ 32 ∷ [] else text)
    by_place true = simp append_assoc
    by_place false = simp append-nil

-- a text written from a mark on begins at a boundary
pub written_boundary : (old text now : List ℕ) (mark : ℕ) → IsUtf8 old → IsUtf8 now → IsCharBoundary old mark → now ≡ take mark old ++ text → IsCharBoundary now mark
written_boundary old text now mark old_is now_is boundary is = boundary_at (take mark old) text now mark (IsUtf8-take old mark old_is boundary) now_is (mark_at old mark boundary) is

pub written_text : (old text now : List ℕ) (mark : ℕ) → IsCharBoundary old mark → now ≡ take mark old ++ text → drop mark now ≡ text
written_text old text now mark boundary is = later_at (take mark old) text now mark (mark_at old mark boundary) is

-- a boundary before the mark stays one
pub earlier_boundary : (old text now : List ℕ) (start mark : ℕ) → IsUtf8 old → IsUtf8 now → IsCharBoundary old start → IsCharBoundary old mark → start ≤ mark → now ≡ take mark old ++ text → IsCharBoundary now start
earlier_boundary old text now start mark old_is now_is start_at mark_at_is order is =
    let len : length (take mark old) ≡ mark = length-take-le mark old mark_at_is.0 in
    let within : start ≤ length (take mark old) = omega (arith, order, len) in
    let inside : start ≤ length now = omega (arith, within, ap length is, length-append (take mark old) text) in
    let same : take start now ≡ take start old = ap (take start) is ∙ take-append-le start (take mark old) text within ∙ take-take start mark old order in
    IsCharBoundary-from_take now start now_is inside (subst IsUtf8 (sym same) (IsUtf8-take old start old_is start_at))
