-- Each clause of names in the standard's own shape (Accessible Name and Description Computation 1.2,
-- "Computation steps").
use Rattle.std.specs.Prelude.{◌≡◌, ◌&&◌, not, ℕ, List, [], ◌∷◌, ◌++◌, map, filter, Bool, true, false, Option, Some, None, option_map, IsTrue}
use Rattle.std.specs.List.{find, flat_map}
use Rattle.aria_tables.specs.declared.attr.AriaAttr.TheVariants as aria
use Rattle.aria_tables.specs.declared.role.Role.{Role}
use Rattle.snap_tree.specs.declared.row.Body.{Body}
use Rattle.snap_tree.specs.declared.row.Body.TheVariants.{Element, Words}
use Rattle.snap_tree.specs.declared.row.NodeId.{NodeId}
use Rattle.snap_tree.specs.Labels.{labels_for}
use Rattle.snap_tree.specs.Rows.{has_number}
use Rattle.snap_tree.specs.Trees.{Trees, empty, tree}
use Rattle.texts.specs.Words.{spaced, tidy}
use Rattle.acc_tree.specs.declared.above.Above.{Above}
use Rattle.acc_tree.specs.declared.attributes.Attribute.TheVariants as attribute
use Rattle.acc_tree.specs.Following.{followed}
use Rattle.acc_tree.specs.Frames.{under}
use Rattle.acc_tree.specs.Inclusion.{exposed}
use Rattle.acc_tree.specs.References.{found, named_by}
use Rattle.acc_tree.specs.Roles.{role_at}
use Rattle.acc_tree.specs.Seen.{text_at}
use Rattle.acc_tree.specs.Sights.{Sight, sight_of}
use Rattle.acc_tree.specs.Tags.{html_tag}
use Rattle.acc_name.specs.declared.named.How.{How}
use Rattle.acc_name.specs.declared.named.How.TheVariants as how
use Rattle.acc_name.specs.declared.named.Name.{Name}
use Rattle.acc_name.specs.declared.named.NameSource.TheVariants as source
use Rattle.acc_name.specs.Hosts.{host_of, host_text, caption_of, is_captioning}
use Rattle.acc_name.specs.Names.{Asked, untold, no_name, says, first_said, is_shown, is_silent, is_input, is_select, is_entry, is_range, range_text, is_named, heard}
use Rattle.acc_name.specs.Names.{value_of, content_of, placed, placeholder_of, is_chosen, spoken, referred, told_by, named, name_of}

-- ---- the nodes below a node

-- nodes side by side, where this is above them
abbrev pub roots_seen : Above → Trees → List Sight
roots_seen above empty = []
roots_seen above (tree row kids after) = record { row = row; below = kids; above = above } ∷ roots_seen above after

abbrev pub children : Sight → List Sight
children s = roots_seen (under s.above s.row) s.below

-- all nodes in document order, where this is above them
abbrev pub nodes_seen : Above → Trees → List Sight
nodes_seen above empty = []
nodes_seen above (tree row kids after) =
    record { row = row; below = kids; above = above } ∷ nodes_seen (under above row) kids ++ nodes_seen above after

abbrev pub descendants : Sight → List Sight
descendants s = nodes_seen (under s.above s.row) s.below

-- ---- the texts of the clauses

-- what a node says within the name
abbrev pub within : Asked → Sight → List ℕ
within asked s = (spoken asked how.Inner s).text

-- what the selected options say below a node
abbrev pub chosen_texts : Asked → Sight → List (List ℕ)
chosen_texts asked s = map (within asked) (filter (λ o. is_chosen o.row) (descendants s))

-- what the first child says that captions a node
abbrev pub caption_text : Asked → Sight → Option (List ℕ)
caption_text asked s = option_map (within asked) (find (λ child. is_captioning (caption_of s.row) child.row) (children s))

-- each child's text in order, with spaces around those that stand apart
abbrev pub children_texts : Asked → Sight → List ℕ
children_texts asked s = flat_map (λ child. placed child.row (within asked child)) (children s)

-- step 2C
abbrev pub value_text : Asked → How → Sight → List ℕ
value_text asked how s = value_of how (role_at s.above s.row) s.row (Some (spaced (chosen_texts asked s)))

-- steps 2B to 2F and 2I of an element, in their order
abbrev pub clauses : Asked → How → Sight → List Name
clauses asked how s =
    says source.LabelledBy (asked.told s).labelled_by
    ∷ says source.HostText (value_text asked how s)
    ∷ says source.AriaLabel (text_at (attribute.Aria aria.Label) s.row)
    ∷ says source.HostLabel (asked.told s).labels
    ∷ says source.HostText (host_text (host_of s.row) s.row (caption_text asked s))
    ∷ says source.Content (content_of how (role_at s.above s.row) (children_texts asked s ++ (asked.told s).owned))
    ∷ says source.Title (text_at attribute.Title s.row)
    ∷ says source.Placeholder (placeholder_of s.row)
    ∷ []

-- ---- the laws

abbrev pub is_words : Body → Bool
is_words (Element space tag attrs) = false
is_words (Words text) = true

-- the node says something: it is neither the node asked for within its own name, nor hidden
abbrev pub Speaks : Asked → How → Sight → Type 0
Speaks asked how s = is_silent asked.node asked.hidden how s.row ≡ false

-- step 2A, and each node is consulted once: the node asked for says nothing within its own content,
-- references and labels
abbrev pub OwnNodeIsSilent : Asked → Sight → Type 0
OwnNodeIsSilent asked s = IsTrue (has_number asked.node s.row) → spoken asked how.Inner s ≡ no_name

-- step 2A: a hidden node says nothing, unless hidden nodes count
abbrev pub HiddenIsSilent : Asked → How → Sight → Type 0
HiddenIsSilent asked how s = asked.hidden ≡ false → is_shown s.row ≡ false → spoken asked how s ≡ no_name

-- the first of an element's clauses that isn't blank decides
abbrev pub FirstDecides : Asked → How → Sight → Type 0
FirstDecides asked how s = is_words s.row.body ≡ false → Speaks asked how s → spoken asked how s ≡ first_said (clauses asked how s)

-- what an element says where it is referred to: as one that is referred to, with no reference followed from
-- there on, and with hidden nodes counting if it isn't exposed
abbrev pub referred_text : NodeId → Sight → List ℕ
referred_text node s =
    tidy (spoken (record { node = node; hidden = not (exposed s.above s.row); told = untold }) how.Referred s).text

-- what an element says that another follows by aria-owns: as a child within the name, with no reference followed from
-- there on
abbrev pub owned_text : NodeId → Bool → Sight → List ℕ
owned_text node hidden s = placed s.row (within (record { node = node; hidden = hidden; told = untold }) s)

-- steps 2B and 2E: each element that is found says its text, in order, with a space between; step 2H: each that is
-- followed by aria-owns says its text, in order, with nothing between
pub record ReferencesTell (trees : Trees) (node : NodeId) (hidden : Bool) (s : Sight) : Type 0 where
  pub labelled_by : (told_by trees node hidden s).labelled_by ≡ spaced (map (referred trees node) (found trees (named_by aria.Labelledby s.row)))
  pub labels : (told_by trees node hidden s).labels ≡ spaced (map (referred trees node) (labels_for trees s.row.id))
  pub owned : (told_by trees node hidden s).owned ≡ flat_map (owned_text node hidden) (followed trees s.row)

abbrev pub ReferredSays : Trees → NodeId → NodeId → Type 0
ReferredSays trees node m = (s : Sight) → sight_of trees m ≡ Some s → referred trees node m ≡ referred_text node s

-- the clauses of an element that is come to by a reference: it isn't asked for its own references
abbrev pub clauses_once : Asked → How → Sight → List Name
clauses_once asked how s =
    says source.HostText (value_text asked how s)
    ∷ says source.AriaLabel (text_at (attribute.Aria aria.Label) s.row)
    ∷ says source.HostText (host_text (host_of s.row) s.row (caption_text asked s))
    ∷ says source.Content (content_of how (role_at s.above s.row) (children_texts asked s))
    ∷ says source.Title (text_at attribute.Title s.row)
    ∷ says source.Placeholder (placeholder_of s.row)
    ∷ []

-- a reference within a reference isn't followed
abbrev pub FollowsOnce : NodeId → Bool → How → Sight → Type 0
FollowsOnce node hidden how s =
    let asked : Asked = record { node = node; hidden = hidden; told = untold } in
    is_words s.row.body ≡ false → Speaks asked how s → spoken asked how s ≡ first_said (clauses_once asked how s)

-- step 2C: only within a name, a control says its value
pub record ValuesWithin (asked : Asked) (s : Sight) : Type 0 where
  pub own : value_text asked how.Own s ≡ []
  pub referred : value_text asked how.Referred s ≡ []
  pub input : is_input (html_tag s.row) ≡ true → is_entry (role_at s.above s.row) ≡ true → value_text asked how.Inner s ≡ text_at attribute.Value s.row
  pub select : is_select (html_tag s.row) ≡ true → value_text asked how.Inner s ≡ spaced (chosen_texts asked s)
  pub range : (is_input (html_tag s.row) && is_entry (role_at s.above s.row)) ≡ false → is_select (html_tag s.row) ≡ false
      → is_range (role_at s.above s.row) ≡ true → value_text asked how.Inner s ≡ range_text s.row

-- step 2F: what is referred to or within a name says what its children say; of its own name a node does if
-- its role is named from content
pub record ContentNames (role : Option Role) (content : List ℕ) : Type 0 where
  pub referred : content_of how.Referred role content ≡ content
  pub inner : content_of how.Inner role content ≡ content
  pub own : is_named role ≡ true → content_of how.Own role content ≡ content
  pub not_own : is_named role ≡ false → content_of how.Own role content ≡ []

-- step 2G: a text says itself
abbrev pub TextSaysItself : Asked → How → Sight → Type 0
TextSaysItself asked how s = (text : List ℕ) → s.row.body ≡ Words text → Speaks asked how s → spoken asked how s ≡ says source.Content text

-- step 2H: what the children say, put together from their trees at once, is what each of them says
abbrev pub ChildrenInOrder : Asked → Sight → Type 0
ChildrenInOrder asked s = (heard asked (under s.above s.row) (caption_of s.row) s.below).content ≡ children_texts asked s

-- the name is the node's own text, tidied
abbrev pub NameIsOwn : Trees → NodeId → Type 0
NameIsOwn trees n =
    (s : Sight) → sight_of trees n ≡ Some s →
    let own : Name = spoken (record { node = n; hidden = false; told = told_by trees n false }) how.Own s in
    name_of trees n ≡ named own.source (tidy own.text)

abbrev pub StrangerHasNone : Trees → NodeId → Type 0
StrangerHasNone trees n = sight_of trees n ≡ None → name_of trees n ≡ no_name
