-- The text that an element shows.
use Rattle.std.specs.Prelude.{◌&&◌, ℕ, List, [], if◌then◌else◌}
use Rattle.std.specs.List.{flat_map}
use Rattle.snap_tree.specs.declared.row.Body.{Body}
use Rattle.snap_tree.specs.declared.row.Body.TheVariants.{Element, Words}
use Rattle.snap_tree.specs.declared.row.Row.{Row}
use Rattle.snap_tree.specs.Trees.{Trees, rows_of}
use Rattle.texts.specs.Words.{tidy}

abbrev pub text_of : Body → List ℕ
text_of (Element space tag attrs) = []
text_of (Words text) = text

-- what a row shows: a text that is rendered and visible
abbrev pub shown_of : Row → List ℕ
shown_of row = if row.facts.rendered && row.facts.visible then text_of row.body else []

-- what some trees show, in document order and with nothing between
abbrev pub all_shown : Trees → List ℕ
all_shown trees = flat_map shown_of (rows_of trees)

-- the same, tidied
abbrev pub shown_text : Trees → List ℕ
shown_text trees = tidy (all_shown trees)
