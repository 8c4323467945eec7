-- Edits of a page on its nested tree, one clause for each kind, and lists of edits.
use Rattle.std.specs.Prelude.{◌≡◌, ◌+◌, ℕ, List, [], ◌∷◌, length, Bool, nat_lt, if◌then◌else◌, Option, Some, is_some, is_none, Result, Ok, Err}
use Rattle.std.specs.Option.{option_map_or, option_or}
use Rattle.std.specs.List.{list_any}
use Rattle.snap_tree.specs.declared.row.NodeId.{NodeId}
use Rattle.snap_tree.specs.declared.row.Attr.{Attr}
use Rattle.snap_tree.specs.declared.row.Row.{Row}
use Rattle.snap_tree.specs.declared.fault.TreeFault.{TreeFault}
use Rattle.snap_tree.specs.declared.fault.TreeFault.TheVariants.{TooMany, ParentUnknownOrNotOpen}
use Rattle.snap_tree.specs.Trees.{Trees, empty, tree, rows_of}
use Rattle.snap_tree.specs.Grown.{grown}
use Rattle.snap_tree.specs.Rows.{has_number, is_text, own_fault}
use Rattle.snap_tree.specs.Spots.{Spot, spot, number_of, kids}
use Rattle.snap_tree.specs.Faults.{rows_fault, tree_fault}
use Rattle.snap_edit.specs.declared.edit.TheConstants.{MOST_EDITS}
use Rattle.snap_edit.specs.declared.edit.Edit.{Edit}
use Rattle.snap_edit.specs.declared.edit.Edit.TheVariants.{SetAttr, DropAttr, SetText, SetFacts, Insert, Remove, Move}
use Rattle.snap_edit.specs.declared.fault.EditKind.{EditKind}
use Rattle.snap_edit.specs.declared.fault.EditKind.TheVariants.{NoNode, NotElement, NotText, NumberTaken, IntoItself, RootMoved, PlaceOut, Tree, TooManyEdits}
use Rattle.snap_edit.specs.declared.fault.EditFault.{EditFault}
use Rattle.snap_edit.specs.declared.fault.EditFault.TheVariants.{At, OutOfMemory}
use Rattle.snap_edit.specs.Attrs.{attrs_with, attrs_without, with_attrs, with_text, with_facts}
use Rattle.snap_edit.specs.Trees.{changed, without, inserted, hung}
use Rattle.snap_tree.specs.declared.build.TheConstants.{MOST_NODES}

-- what a node's spot gives, where the trees hold the number
abbrev pub at : Trees → NodeId → (Spot → Result Trees EditKind) → Result Trees EditKind
at t n f = option_map_or f (spot t n) (Err NoNode)

abbrev pub is_root : Spot → Bool
is_root s = is_none (number_of s.above)

-- the number is the node's, or one of those below it
abbrev pub is_within : NodeId → Spot → Bool
is_within n s = list_any (has_number n) (s.row ∷ rows_of s.below)

-- a row has a number that the trees hold
abbrev pub has_taken : Trees → List Row → Bool
has_taken t rows = list_any (λ r. is_some (spot t r.id)) rows

-- what follows where the trees have an element of this number with so many children
abbrev pub in_place : Trees → NodeId → ℕ → Result Trees EditKind → Result Trees EditKind
in_place t p place next =
    at t p (λ parent.
    if is_text parent.row then Err NotElement
    else (if nat_lt (length (kids t p)) place then Err PlaceOut else next))

-- the first fault of rows whose first row is a text, where a text may be the root: the later ones have
-- no parent that is open but a text, and a text alone refers to nothing
abbrev pub text_fault : Row → List Row → Option TreeFault
text_fault r rows =
    if nat_lt MOST_NODES (length (r ∷ rows)) then Some TooMany
    else (if is_some r.parent then Some (ParentUnknownOrNotOpen r.id)
    else option_or (own_fault r) (rows_fault (r ∷ []) rows))

-- the first fault of rows taken alone, as a page's, but that a text may be the root
unfoldable pub alone_fault : List Row → Option TreeFault
alone_fault [] = tree_fault []
alone_fault (r ∷ rows) = if is_text r then text_fault r rows else tree_fault (r ∷ rows)

-- the trees that rows taken alone grow to
abbrev pub taken_alone : List Row → (Trees → Result Trees EditKind) → Result Trees EditKind
taken_alone rows f = option_map_or (λ fault. Err (Tree fault)) (alone_fault rows) (f (grown rows))

-- the trees with an element's attributes changed so
abbrev pub attrs_changed : Trees → NodeId → (List Attr → List Attr) → Result Trees EditKind
attrs_changed t n f = at t n (λ s. if is_text s.row then Err NotElement else Ok (changed n (with_attrs f) t))

-- an edit's trees, before they are tried, or the first of its other faults
abbrev pub effect : Trees → Edit → Result Trees EditKind
effect t (SetAttr n name value) = attrs_changed t n (attrs_with name value)
effect t (DropAttr n name) = attrs_changed t n (attrs_without name)
effect t (SetText n text) = at t n (λ s. if is_text s.row then Ok (changed n (with_text text) t) else Err NotText)
effect t (SetFacts n facts) = at t n (λ s. Ok (changed n (with_facts facts) t))
effect t (Insert p place rows) =
    in_place t p place (
    if has_taken t rows then Err NumberTaken
    else taken_alone rows (λ others. Ok (inserted p place (hung p others) t)))
effect t (Remove n) = at t n (λ s. if is_root s then Err RootMoved else Ok (without n t))
effect t (Move n p place) =
    at t n (λ s.
    if is_root s then Err RootMoved
    else at t p (λ _.
    if is_within p s then Err IntoItself
    else in_place (without n t) p place (Ok (inserted p place (hung p (tree s.row s.below empty)) (without n t)))))

-- trees without a fault, or the first one of their rows
unfoldable pub settled : Trees → Result Trees EditKind
settled t = option_map_or (λ fault. Err (Tree fault)) (tree_fault (rows_of t)) (Ok t)

abbrev pub then_settled : Result Trees EditKind → Result Trees EditKind
then_settled (Err kind) = Err kind
then_settled (Ok t) = settled t

-- the edited trees, or the edit's first fault
abbrev pub edited : Trees → Edit → Result Trees EditKind
edited t e = then_settled (effect t e)

-- what follows on an edit with this index
abbrev pub followed : ℕ → (Trees → Result Trees EditFault) → Result Trees EditKind → Result Trees EditFault
followed index next (Err kind) = Err (At index kind)
followed index next (Ok t) = next t

-- one edit after another, counted from an index, until one has a fault
abbrev pub edited_from : ℕ → List Edit → Trees → Result Trees EditFault
edited_from index [] t = Ok t
edited_from index (e ∷ edits) t = followed index (edited_from (index + 1) edits) (edited t e)

-- a list's answer, and then more edits
abbrev pub continued : ℕ → List Edit → Result Trees EditFault → Result Trees EditFault
continued index edits (Err fault) = Err fault
continued index edits (Ok t) = edited_from index edits t

-- the trees after a list of edits, or the first fault with its index
abbrev pub edited_all : Trees → List Edit → Result Trees EditFault
edited_all t edits = if nat_lt MOST_EDITS (length edits) then Err (At MOST_EDITS TooManyEdits) else edited_from 0 edits t

-- a refusal names this fault, unless memory ran out
abbrev pub Refuses : EditFault → Result Trees EditFault → Type 0
Refuses (At index kind) answer = answer ≡ Err (At index kind)
Refuses OutOfMemory answer = Unit {0}
