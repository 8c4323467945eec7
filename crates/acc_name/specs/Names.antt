-- The accessible name of a node, in nine clauses (Accessible Name and Description Computation 1.2,
-- "Computation steps"). The first clause that gives a text which isn't blank decides. The clauses of an
-- element stand in by_clauses, in their order.
use Rattle.std.specs.Prelude.{◌&&◌, ◌||◌, not, ℕ, List, [], ◌∷◌, ◌++◌, map, Bool, true, false, if◌then◌else◌, Option, Some, None, unwrap_or}
use Rattle.std.specs.List.{flat_map}
use Rattle.std.specs.Option.{option_map_or, option_or}
use Rattle.aria_tables.specs.declared.attr.AriaAttr.TheVariants as aria
use Rattle.aria_tables.specs.declared.role.Role.{Role}
use Rattle.aria_tables.specs.declared.role.Role.TheVariants as role
use Rattle.aria_tables.specs.Roles.{named_from_content}
use Rattle.snap_tree.specs.declared.row.Body.{Body}
use Rattle.snap_tree.specs.declared.row.Body.TheVariants.{Element, Words}
use Rattle.snap_tree.specs.declared.row.NodeId.{NodeId}
use Rattle.snap_tree.specs.declared.row.Row.{Row}
use Rattle.snap_tree.specs.Labels.{labels_for}
use Rattle.snap_tree.specs.Rows.{has_number}
use Rattle.snap_tree.specs.Trees.{Trees, empty, tree}
use Rattle.texts.specs.Words.{blank, spaced, tidy}
use Rattle.acc_tree.specs.declared.above.Above.{Above}
use Rattle.acc_tree.specs.declared.attributes.Attribute.TheVariants as attribute
use Rattle.acc_tree.specs.declared.tags.Tag.{Tag}
use Rattle.acc_tree.specs.declared.tags.Tag.TheVariants as tag
use Rattle.acc_tree.specs.Following.{followed}
use Rattle.acc_tree.specs.Frames.{under}
use Rattle.acc_tree.specs.Inclusion.{is_hidden, exposed}
use Rattle.acc_tree.specs.References.{found, named_by}
use Rattle.acc_tree.specs.Roles.{role_at}
use Rattle.acc_tree.specs.Seen.{has, text_at, is_blank_at}
use Rattle.acc_tree.specs.Sights.{Sight, sight_of}
use Rattle.acc_tree.specs.Tags.{known_tag, html_tag}
use Rattle.acc_name.specs.declared.hosts.CaptionKind.{CaptionKind}
use Rattle.acc_name.specs.declared.named.How.{How}
use Rattle.acc_name.specs.declared.named.How.TheVariants as how
use Rattle.acc_name.specs.declared.named.Name.{Name}
use Rattle.acc_name.specs.declared.named.NameSource.{NameSource}
use Rattle.acc_name.specs.declared.named.NameSource.TheVariants as source
use Rattle.acc_name.specs.declared.told.Told.{Told}
use Rattle.acc_name.specs.Hosts.{host_of, host_text, caption_of, is_captioning}

-- ---- what is asked, and what is said

-- within a reference no other is followed
abbrev pub untold : Sight → Told
untold s = record { labelled_by = []; labels = []; owned = [] }

-- the node whose name is asked, whether hidden nodes count, and what references say
pub record Asked : Type 0 where
  pub node : NodeId
  pub hidden : Bool
  pub told : Sight → Told

-- what some trees say to the node above them: the content of all, what the chosen options among them
-- say, joined by spaces, and what the first root says that captions that node
pub record Heard : Type 0 where
  pub content : List ℕ
  pub chosen : Option (List ℕ)
  pub caption : Option (List ℕ)

abbrev pub no_name : Name
no_name = record { text = []; source = source.Nothing }

abbrev pub says : NameSource → List ℕ → Name
says source text = record { text = text; source = source }

-- the first that isn't blank
abbrev pub first_said : List Name → Name
first_said [] = no_name
first_said (said ∷ later) = if blank said.text then first_said later else said

-- ---- clause 1, step 2A: the node asked for doesn't count within its own name, and hidden nodes don't count

abbrev pub is_inner : How → Bool
is_inner how.Own = false
is_inner how.Referred = false
is_inner how.Inner = true

abbrev pub is_shown : Row → Bool
is_shown row = (row.facts.rendered && row.facts.visible) && not (is_hidden row)

abbrev pub is_silent : NodeId → Bool → How → Row → Bool
is_silent node hidden how row = (is_inner how && has_number node row) || (not hidden && not (is_shown row))

-- ---- clause 3, step 2C: controls within a name say their values

abbrev pub is_input : Option Tag → Bool
is_input (Some tag.Input) = true
is_input _ = false

abbrev pub is_select : Option Tag → Bool
is_select (Some tag.Select) = true
is_select _ = false

abbrev pub is_entry : Option Role → Bool
is_entry (Some role.Textbox) = true
is_entry (Some role.Searchbox) = true
is_entry (Some role.Combobox) = true
is_entry (Some role.Spinbutton) = true
is_entry (Some role.Slider) = true
is_entry _ = false

abbrev pub is_range : Option Role → Bool
is_range (Some role.Slider) = true
is_range (Some role.Spinbutton) = true
is_range (Some role.Scrollbar) = true
is_range (Some role.Meter) = true
is_range (Some role.Progressbar) = true
is_range _ = false

abbrev pub range_text : Row → List ℕ
range_text row =
    if is_blank_at (attribute.Aria aria.Valuetext) row then text_at (attribute.Aria aria.Valuenow) row
    else text_at (attribute.Aria aria.Valuetext) row

abbrev pub control_text : Option Role → Row → Option (List ℕ) → List ℕ
control_text role row chosen =
    if is_input (html_tag row) && is_entry role then text_at attribute.Value row
    else (if is_select (html_tag row) then unwrap_or chosen []
    else (if is_range role then range_text row else []))

abbrev pub value_of : How → Option Role → Row → Option (List ℕ) → List ℕ
value_of how.Own role row chosen = []
value_of how.Referred role row chosen = []
value_of how.Inner role row chosen = control_text role row chosen

-- ---- clause 6, step 2F: content names what is referred to or within a name, and the roles named from content

abbrev pub is_named : Option Role → Bool
is_named role = option_map_or named_from_content role false

abbrev pub asks_content : How → Option Role → Bool
asks_content how.Own role = is_named role
asks_content how.Referred role = true
asks_content how.Inner role = true

abbrev pub content_of : How → Option Role → List ℕ → List ℕ
content_of how role content = if asks_content how role then content else []

-- ---- clause 8, step 2H: elements stand apart from the text around them, but for those within a line

abbrev pub is_inline : Option Tag → Bool
is_inline (Some tag.A) = true
is_inline (Some tag.Abbr) = true
is_inline (Some tag.B) = true
is_inline (Some tag.Bdi) = true
is_inline (Some tag.Bdo) = true
is_inline (Some tag.Cite) = true
is_inline (Some tag.Code) = true
is_inline (Some tag.Em) = true
is_inline (Some tag.I) = true
is_inline (Some tag.Kbd) = true
is_inline (Some tag.Mark) = true
is_inline (Some tag.Q) = true
is_inline (Some tag.S) = true
is_inline (Some tag.Samp) = true
is_inline (Some tag.Small) = true
is_inline (Some tag.Span) = true
is_inline (Some tag.Strong) = true
is_inline (Some tag.Sub) = true
is_inline (Some tag.Sup) = true
is_inline (Some tag.U) = true
is_inline (Some tag.Var) = true
is_inline _ = false

-- by its tag, in any name space
abbrev pub stands_apart : Body → Bool
stands_apart (Element space tag attrs) = not (is_inline (known_tag tag))
stands_apart (Words text) = false

abbrev pub placed : Row → List ℕ → List ℕ
placed row text = if stands_apart row.body then 32 ∷ text ++ 32 ∷ [] else text

-- ---- clause 9, step 2I: the title, and then the placeholder

abbrev pub has_placeholder : Option Tag → Bool
has_placeholder (Some tag.Input) = true
has_placeholder (Some tag.Textarea) = true
has_placeholder _ = false

abbrev pub placeholder_of : Row → List ℕ
placeholder_of row = if has_placeholder (html_tag row) then text_at attribute.Placeholder row else []

-- ---- what a node says

-- an element's clauses in their order
abbrev pub by_clauses : Told → How → Option Role → Row → Heard → Name
by_clauses told how role row inner = first_said (
    -- clause 2, step 2B
    says source.LabelledBy told.labelled_by
    -- clause 3, step 2C
    ∷ says source.HostText (value_of how role row inner.chosen)
    -- clause 4, step 2D
    ∷ says source.AriaLabel (text_at (attribute.Aria aria.Label) row)
    -- clause 5, step 2E: the labels, and then the text of the element's kind
    ∷ says source.HostLabel told.labels
    ∷ says source.HostText (host_text (host_of row) row inner.caption)
    -- clauses 6 and 8, steps 2F and 2H: the children's texts, and then those of the elements that it owns besides
    ∷ says source.Content (content_of how role (inner.content ++ told.owned))
    -- clause 9, step 2I
    ∷ says source.Title (text_at attribute.Title row)
    ∷ says source.Placeholder (placeholder_of row)
    ∷ [])

-- clause 7, step 2G: a text says itself
abbrev pub by_body : Told → How → Option Role → Row → Heard → Body → Name
by_body told how role row inner (Element space tag attrs) = by_clauses told how role row inner
by_body told how role row inner (Words text) = says source.Content text

-- what a node says, given what references say of it, its role, and what those below it say
abbrev pub said : NodeId → Bool → Told → How → Option Role → Row → Heard → Name
said node hidden told how role row inner =
    if is_silent node hidden how row then no_name else by_body told how role row inner row.body

-- ---- what trees say

abbrev pub nothing_heard : Heard
nothing_heard = record { content = []; chosen = None; caption = None }

-- two texts, where they are there, with a space between
abbrev pub joined : Option (List ℕ) → Option (List ℕ) → Option (List ℕ)
joined None later = later
joined (Some text) None = Some text
joined (Some text) (Some later) = Some (text ++ 32 ∷ later)

abbrev pub and_then : Heard → Heard → Heard
and_then first later = record {
  content = first.content ++ later.content;
  chosen = joined first.chosen later.chosen;
  caption = option_or first.caption later.caption;
}

abbrev pub is_option : Option Tag → Bool
is_option (Some tag.OptionTag) = true
is_option _ = false

-- an `option` that is selected
abbrev pub is_chosen : Row → Bool
is_chosen row = is_option (html_tag row) && has attribute.Selected row

-- what one tree says, given the text of its root and what the options below it say
abbrev pub alone : Option CaptionKind → Row → List ℕ → Option (List ℕ) → Heard
alone kind row text chosen = record {
  content = placed row text;
  chosen = joined (if is_chosen row then Some text else None) chosen;
  caption = if is_captioning kind row then Some text else None;
}

-- what trees say within a name, where this is above them and captions of this kind are asked for
abbrev pub heard : Asked → Above → Option CaptionKind → Trees → Heard
heard asked above kind empty = nothing_heard
heard asked above kind (tree row kids after) =
    let inner = heard asked (under above row) (caption_of row) kids in
    let told = asked.told (record { row = row; below = kids; above = above }) in
    and_then (alone kind row (said asked.node asked.hidden told how.Inner (role_at above row) row inner).text inner.chosen) (heard asked above kind after)

-- what a node says, for its own name, where it is referred to, or within a name
abbrev pub spoken : Asked → How → Sight → Name
spoken asked how s =
    said asked.node asked.hidden (asked.told s) how (role_at s.above s.row) s.row (heard asked (under s.above s.row) (caption_of s.row) s.below)

-- ---- references

-- what a node says where it is referred to in the name of another; hidden nodes count if it is hidden itself
abbrev pub referred : Trees → NodeId → NodeId → List ℕ
referred trees node m =
    option_map_or (λ s. tidy (spoken (record { node = node; hidden = not (exposed s.above s.row); told = untold }) how.Referred s).text) (sight_of trees m) []

abbrev pub all_referred : Trees → NodeId → List NodeId → List ℕ
all_referred trees node ms = spaced (map (referred trees node) ms)

-- what an element says that another follows by aria-owns, placed as a child's text is
abbrev pub followed_text : NodeId → Bool → Sight → List ℕ
followed_text node hidden s = placed s.row (spoken (record { node = node; hidden = hidden; told = untold }) how.Inner s).text

abbrev pub all_followed : Trees → NodeId → Bool → Row → List ℕ
all_followed trees node hidden row = flat_map (followed_text node hidden) (followed trees row)

-- clauses 2, 5 and 8, steps 2B, 2E and 2H: what the elements say that aria-labelledby finds, what the labels say, and
-- what the elements say that it follows by aria-owns
abbrev pub told_of : Trees → NodeId → Bool → Row → Told
told_of trees node hidden row = record {
  labelled_by = all_referred trees node (found trees (named_by aria.Labelledby row));
  labels = all_referred trees node (labels_for trees row.id);
  owned = all_followed trees node hidden row;
}

abbrev pub told_by : Trees → NodeId → Bool → Sight → Told
told_by trees node hidden s = told_of trees node hidden s.row

-- ---- the name

-- where references are open they say what they find, and else nothing
abbrev pub told_on : Trees → NodeId → Bool → Bool → Sight → Told
told_on trees node is_open hidden = if is_open then told_by trees node hidden else untold

-- what a node says in the name of another, by whether references are open, how it is come to, and whether hidden
-- nodes count; a stranger says nothing
abbrev pub says_in : Trees → NodeId → NodeId → Bool → How → Bool → Name
says_in trees node n is_open how hidden =
    option_map_or (spoken (record { node = node; hidden = hidden; told = told_on trees node is_open hidden }) how) (sight_of trees n) no_name

-- what a node says for its own name
abbrev pub own_text : Trees → NodeId → Name
own_text trees n = says_in trees n n true how.Own false

-- nothing gave a text that isn't empty
abbrev pub named : NameSource → List ℕ → Name
named source [] = no_name
named source (b ∷ text) = says source (b ∷ text)

-- the name of a number, tidied, with the clause that gave it; a stranger has none
abbrev pub name_of : Trees → NodeId → Name
name_of trees n = let own = own_text trees n in named own.source (tidy own.text)
