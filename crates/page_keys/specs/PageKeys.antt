-- The keys of a page: those of its nodes, and the list of language subtags that its site accepts.
use Rattle.std.specs.Prelude.{◌≡◌, ℕ, List, Bool}
use Rattle.std.specs.Bool.{Decides}
use Rattle.std.specs.Cmp.Lexicographic.{pointwise}
use Rattle.std.specs.List.{list_all}
use Rattle.std.specs.Str.{bytes_eq}
use Rattle.snap_tree.specs.Trees.{Document}
use Rattle.acc_tree.specs.Seen.{seen}
use Rattle.page_keys.specs.Keys.{Key, Value, value}
use Rattle.page_keys.specs.Same.{same}

-- what can be asked of a page: what can be asked of what is seen of its nodes, and which language subtags its site accepts
pub data PageKey : Type 0 where
  of_nodes : Key → PageKey
  langs_key : PageKey

-- of which kind a key's value is
abbrev pub PageValue : PageKey → Type 0
PageValue (of_nodes key) = Value key
PageValue langs_key = List (List ℕ)

-- the value of a key
abbrev pub page_value : Document → (key : PageKey) → PageValue key
page_value page (of_nodes key) = value (seen page.trees) key
page_value page langs_key = page.langs

-- two pages agree on a key: it has one value on both
abbrev pub PagesAgree : Document → Document → PageKey → Type 0
PagesAgree old new key = page_value old key ≡ page_value new key

-- ---- the same as a test

abbrev pub same_langs : List (List ℕ) → List (List ℕ) → Bool
same_langs old new = pointwise bytes_eq old new

abbrev pub same_in : Document → Document → PageKey → Bool
same_in old new (of_nodes key) = same (seen old.trees) (seen new.trees) key
same_in old new langs_key = same_langs old.langs new.langs

-- the pages agree on all of these keys
abbrev pub all_same_in : Document → Document → List PageKey → Bool
all_same_in old new keys = list_all (same_in old new) keys

-- the test tells whether the pages agree
abbrev pub TellsSameIn : Document → Document → PageKey → Type 0
TellsSameIn old new key = Decides (same_in old new key) (PagesAgree old new key)
