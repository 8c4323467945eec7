-- Words that are kept beyond the text that they stand in.
use Rattle.std.specs.Prelude.{◌≡◌, ◌||◌, ℕ, List, Bool, String}
use Rattle.std.specs.BTreeMap.{BTreeMap, get_by_text}
use Rattle.std.specs.List.{list_any}
use Rattle.std.specs.Option.{is_some}
use Rattle.std.specs.Str.{bytes_eq}
use Rattle.std.specs.declared.alloc.Global.{Global}

abbrev pub Kept : Type 0
Kept = BTreeMap (String Global) Bool

abbrev pub has_kept : Kept → List ℕ → Bool
has_kept kept word = is_some (get_by_text kept word)

-- these words are kept too, and no others
abbrev pub HasKept : Kept → Kept → List (List ℕ) → Type 0
HasKept old new words = (word : List ℕ) → has_kept new word ≡ (has_kept old word || list_any (bytes_eq word) words)

-- just these words are kept
abbrev pub AreKept : Kept → List (List ℕ) → Type 0
AreKept kept words = (word : List ℕ) → has_kept kept word ≡ list_any (bytes_eq word) words
