-- The place of a new child among the rows of a page.
use Rattle.std.proofs.Common.{◌≡◌, ℕ, List, Bool, Option, Some, None, Result, Err, if◌then◌else◌, sym, ◌∙◌, ap, subst}
use Rattle.snap_tree.specs.declared.row.NodeId.{NodeId}
use Rattle.snap_tree.specs.declared.row.Row.{Row}
use Rattle.snap_tree.specs.Trees.{Trees, sizes_of}
use Rattle.snap_tree.specs.Grown.{grown}
use Rattle.snap_tree.specs.Places.{run_below}
use Rattle.snap_edit.specs.declared.fault.EditKind.{EditKind}
use Rattle.snap_edit.specs.declared.fault.EditKind.TheVariants.{PlaceOut}
use Rattle.snap_edit.specs.Edits.{in_place}
use Rattle.snap_edit.specs.Places.{child_place, IsElementAt, IsPlaceIn}
use Rattle.snap_edit.specs.Made.{IsPage}
use Rattle.snap_edit.proofs.Standing.{Stands, stands}
use Rattle.snap_edit.proofs.Putting.{PutAt, put_at_place, inserted_named}

abbrev unless_out : Result Trees EditKind → Bool → Result Trees EditKind
unless_out next b = if b then Err PlaceOut else next

put_is :
    {rows : List Row} {p : NodeId} {above : ℕ} (k : ℕ) (o : Option ℕ) (h : Stands rows p above)
    → o ≡ child_place above k (grown (run_below above rows (sizes_of (grown rows)))) → PutAt rows p k o
put_is {rows = rows} {p = p} {above = above} k o h e =
    subst (PutAt rows p k) (sym (e ∙ ap (child_place above k) h.below)) (put_at_place rows p above k h)

pub child_out :
    {rows : List Row} {p : NodeId} {above : ℕ} (k : ℕ) (next : Result Trees EditKind)
    → IsPage rows → IsElementAt rows p above
    → None ≡ child_place above k (grown (run_below above rows (sizes_of (grown rows))))
    → in_place (grown rows) p k next ≡ Err PlaceOut
child_out k next page at e = at.follows _ ∙ ap (unless_out next) (put_is k None (stands page at.node) e)

pub child_in :
    {rows : List Row} {p : NodeId} {above begin : ℕ} (k : ℕ)
    → IsPage rows → IsElementAt rows p above
    → Some begin ≡ child_place above k (grown (run_below above rows (sizes_of (grown rows)))) → IsPlaceIn rows p k begin
child_in {rows = rows} {p = p} {begin = begin} k page at e =
    let h = stands page at.node in
    let put : PutAt rows p k (Some begin) = put_is k (Some begin) h e in
    record {
      follows = λ next. at.follows _ ∙ ap (unless_out next) put.0;
      fits = put.1.0;
      rows_are = put.1.1;
      named = λ others m. inserted_named k others h m;
    }
