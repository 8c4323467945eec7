-- Where the text of a root stands, and what is kept of it.
use Rattle.std.specs.Prelude.{ℕ, List, [], ◌∷◌, ◌++◌, take, Bool, if◌then◌else◌}
use Rattle.snap_tree.specs.declared.row.Row.{Row}
use Rattle.texts.specs.Words.{blank}
use Rattle.acc_name.specs.declared.captions.Caption.{Caption}
use Rattle.acc_name.specs.declared.captions.Caption.TheVariants as caption
use Rattle.acc_name.specs.declared.placing.TextPlace.{TextPlace}
use Rattle.acc_name.specs.declared.placing.TextPlace.TheVariants as place
use Rattle.acc_name.specs.Names.{stands_apart, placed}

-- the first that captions the node above may take the place of all texts, and none follows one that did
abbrev pub place_at : Caption → Bool → TextPlace
place_at caption.Absent captions = if captions then place.Captioning else place.Among
place_at caption.Blank captions = place.Among
place_at caption.Said captions = place.Nowhere

-- the space beside the text of a node that stands apart
abbrev pub gap : Row → List ℕ
gap row = if stands_apart row.body then 32 ∷ [] else []

-- the space before it
abbrev pub gap_before : TextPlace → Row → List ℕ
gap_before place.Among row = gap row
gap_before place.Captioning row = []
gap_before place.Nowhere row = []

-- what is kept of it behind what stands in front of it, where the texts of the roots begin at the start
abbrev pub settled : TextPlace → ℕ → Row → List ℕ → List ℕ → List ℕ
settled place.Among start row front text = front ++ text ++ gap row
settled place.Captioning start row front text = if blank text then front ++ placed row text else take start front ++ text
settled place.Nowhere start row front text = front
