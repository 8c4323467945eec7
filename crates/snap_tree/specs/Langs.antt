-- The language subtags that a site accepts beside those of two letters: lists of the form.
use Rattle.std.specs.Prelude.{◌≡◌, ◌&&◌, ◌==◌, ◌+◌, ℕ, List, [], ◌∷◌, ◌++◌, length, Bool, not, if◌then◌else◌, Option, Some, None, nat_lt}
use Rattle.std.specs.Char.{is_ascii_lowercase}
use Rattle.std.specs.List.{list_all, list_any}
use Rattle.std.specs.Str.{bytes_eq}
use Rattle.snap_tree.specs.declared.langs.TheConstants.{MOST_LANGS}

-- three letters, each from a to z
abbrev pub is_lang : List ℕ → Bool
is_lang lang = length lang == 3 && list_all is_ascii_lowercase lang

-- an entry may stand behind these: they aren't too many, it is such a subtag, and none of them equals it
abbrev pub may_follow : List (List ℕ) → List ℕ → Bool
may_follow earlier lang = nat_lt (length earlier) MOST_LANGS && (is_lang lang && not (list_any (bytes_eq lang) earlier))

-- the place, counted from 1, of the first entry that may not stand behind those before it
abbrev pub langs_fault_behind : List (List ℕ) → List (List ℕ) → Option ℕ
langs_fault_behind earlier [] = None
langs_fault_behind earlier (lang ∷ later) =
    if may_follow earlier lang then langs_fault_behind (earlier ++ lang ∷ []) later else Some (length earlier + 1)

abbrev pub langs_fault : List (List ℕ) → Option ℕ
langs_fault langs = langs_fault_behind [] langs

-- a list of the form
abbrev pub AreLangs : List (List ℕ) → Type 0
AreLangs langs = langs_fault langs ≡ None
