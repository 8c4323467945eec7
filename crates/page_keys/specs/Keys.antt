-- The keys of a page: what can be asked of it, and what it answers. The trees are what is seen of a page.
use Rattle.std.specs.Prelude.{◌≡◌, ℕ, List, map, Option, Some, None, option_map}
use Rattle.snap_tree.specs.declared.row.NodeId.{NodeId}
use Rattle.snap_tree.specs.declared.row.Attr.{Attr}
use Rattle.snap_tree.specs.declared.row.Facts.{Facts}
use Rattle.snap_tree.specs.declared.row.Body.{Body}
use Rattle.snap_tree.specs.declared.row.Body.TheVariants.{Element, Words}
use Rattle.snap_tree.specs.declared.row.Row.{Row}
use Rattle.snap_tree.specs.Labels.{first_with_id, labels_naming}
use Rattle.snap_tree.specs.Lookups.{tagged}
use Rattle.snap_tree.specs.Rows.{attrs_of}
use Rattle.snap_tree.specs.Spots.{roots}
use Rattle.snap_tree.specs.Trees.{Trees}
use Rattle.acc_tree.specs.Frames.{Frame, frame}
use Rattle.acc_tree.specs.Sights.{sight_of}

-- what can be asked: the frame of a node, what it has of its own, and which its children are; the element of an
-- id, the labels for an id, and the HTML elements of a tag
pub data Key : Type 0 where
  frame_key : NodeId → Key
  own_key : NodeId → Key
  kids_key : NodeId → Key
  id_key : List ℕ → Key
  label_key : List ℕ → Key
  tagged_key : List ℕ → Key

-- what a node has of its own beside its frame: the looked-at attributes in order and as sent, the browser's facts,
-- and the text of a text
pub record Own : Type 0 where
  pub attrs : List Attr
  pub facts : Facts
  pub text : Option (List ℕ)

abbrev pub text_in : Body → Option (List ℕ)
text_in (Element space tag attrs) = None
text_in (Words text) = Some text

abbrev pub own : Row → Own
own row = record { attrs = attrs_of row; facts = row.facts; text = text_in row.body }

-- the numbers of the roots of some trees, in order
abbrev pub root_numbers : Trees → List NodeId
root_numbers trees = map (λ r. r.id) (roots trees)

-- ---- values; none for a number that the page doesn't hold

abbrev pub frame_at : Trees → NodeId → Option Frame
frame_at t n = option_map (λ s. frame s.above s.row) (sight_of t n)

abbrev pub own_at : Trees → NodeId → Option Own
own_at t n = option_map (λ s. own s.row) (sight_of t n)

abbrev pub kids_at : Trees → NodeId → Option (List NodeId)
kids_at t n = option_map (λ s. root_numbers s.below) (sight_of t n)

-- of which kind a key's value is
abbrev pub Value : Key → Type 0
Value (frame_key n) = Option Frame
Value (own_key n) = Option Own
Value (kids_key n) = Option (List NodeId)
Value (id_key id) = Option NodeId
Value (label_key id) = List NodeId
Value (tagged_key tag) = List NodeId

-- the value of a key
abbrev pub value : Trees → (key : Key) → Value key
value t (frame_key n) = frame_at t n
value t (own_key n) = own_at t n
value t (kids_key n) = kids_at t n
value t (id_key id) = first_with_id t id
value t (label_key id) = labels_naming t id
value t (tagged_key tag) = tagged t tag

-- two pages agree on a key: it has one value on both
abbrev pub Agree : Trees → Trees → Key → Type 0
Agree old new key = value old key ≡ value new key
