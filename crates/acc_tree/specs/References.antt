-- The attributes that refer to other elements by their ids.
use Rattle.std.specs.Prelude.{ℕ, List, [], ◌∷◌}
use Rattle.std.specs.List.{flat_map, filter_map}
use Rattle.aria_tables.specs.declared.attr.AriaAttr.{AriaAttr}
use Rattle.aria_tables.specs.declared.attr.AriaAttr.TheVariants as aria
use Rattle.snap_tree.specs.declared.row.NodeId.{NodeId}
use Rattle.snap_tree.specs.declared.row.Row.{Row}
use Rattle.snap_tree.specs.Labels.{first_with_id}
use Rattle.snap_tree.specs.Trees.{Trees}
use Rattle.texts.specs.Words.{words}
use Rattle.acc_tree.specs.declared.attributes.Attribute.TheVariants as attribute
use Rattle.acc_tree.specs.Seen.{text_at}

-- the elements that these words find, each the first with that id; a word that finds none is passed over
abbrev pub found : Trees → List (List ℕ) → List NodeId
found trees = filter_map (first_with_id trees)

-- the words of a reference attribute, in order
abbrev pub named_by : AriaAttr → Row → List (List ℕ)
named_by name row = words (text_at (attribute.Aria name) row)

-- the attributes whose words are looked up as ids wherever the page is looked at
abbrev pub references : List AriaAttr
references = aria.Labelledby ∷ aria.Describedby ∷ aria.Details ∷ aria.Flowto ∷ aria.Owns ∷ []

-- all words by which a row refers to other elements
abbrev pub reference_words : Row → List (List ℕ)
reference_words row = flat_map (λ name. named_by name row) references
