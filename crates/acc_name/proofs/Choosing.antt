-- The first clause that isn't blank decides, in parts.
use Rattle.std.proofs.Common.{◌≡◌, ◌&&◌, not, ℕ, List, [], ◌∷◌, ◌++◌, Bool, true, false, Option, Some, None, IfSome, is_some, unwrap_or, refl, sym, ◌∙◌, ap, subst}
use Rattle.aria_tables.specs.declared.role.Role.{Role}
use Rattle.texts.specs.Words.{blank}
use Rattle.acc_name.specs.declared.named.How.{How}
use Rattle.acc_name.specs.declared.named.Name.{Name}
use Rattle.acc_name.specs.declared.named.NameSource.{NameSource}
use Rattle.acc_name.specs.declared.named.NameSource.TheVariants as source
use Rattle.acc_name.specs.Names.{no_name, says, first_said, asks_content, content_of}
use Rattle.acc_name.specs.Voices.{first_of}
use Rattle.acc_name.proofs.Blanks.{blank_nothing}

split_first : (names later : List Name) → first_said (names ++ later) ≡ unwrap_or (first_of names) (first_said later)
split_first [] later = refl
split_first (name ∷ names) later = by_test (blank name.text) refl (split_first names later)
  where
    by_test : (b : Bool) → blank name.text ≡ b → first_said (names ++ later) ≡ unwrap_or (first_of names) (first_said later)
        → first_said (name ∷ names ++ later) ≡ unwrap_or (first_of (name ∷ names)) (first_said later)
    by_test true e is = rw e is
    by_test false e is = rw e refl

-- the same names before those that decide alike
pub first_alike : (names later others : List Name) → first_said later ≡ first_said others → first_said (names ++ later) ≡ first_said (names ++ others)
first_alike names later others alike =
    split_first names later ∙ ap (unwrap_or (first_of names)) alike ∙ sym (split_first names others)

-- a name among the first ones decides
pub decided : (names later : List Name) (found : Option Name) → found ≡ first_of names → is_some found ≡ true → unwrap_or found no_name ≡ first_said (names ++ later)
decided names later None is some = cc
decided names later (Some name) is some = ap (λ o. unwrap_or o (first_said later)) is ∙ sym (split_first names later)

-- none of the first ones decides
pub undecided : (names later : List Name) (found : Option Name) → found ≡ first_of names → is_some found ≡ false → first_said later ≡ first_said (names ++ later)
undecided names later None is some = ap (λ o. unwrap_or o (first_said later)) is ∙ sym (split_first names later)
undecided names later (Some name) is some = cc

-- a text that isn't blank decides before all later ones
pub says_decides : (from : NameSource) (text : List ℕ) (later : List Name) → blank text ≡ false → says from text ≡ first_said (says from text ∷ later)
says_decides from text later h = rw h refl

-- a blank text leaves it to the later ones
pub says_passes : (from : NameSource) (text : List ℕ) (later : List Name) → blank text ≡ true → first_said later ≡ first_said (says from text ∷ later)
says_passes from text later h = rw h refl

-- the last ones decide
pub decided_last : (names : List Name) → unwrap_or (first_of names) no_name ≡ first_said names
decided_last [] = refl
decided_last (name ∷ names) = by_test (blank name.text) refl (decided_last names)
  where
    by_test : (b : Bool) → blank name.text ≡ b → unwrap_or (first_of names) no_name ≡ first_said names → unwrap_or (first_of (name ∷ names)) no_name ≡ first_said (name ∷ names)
    by_test true e is = rw e is
    by_test false e is = rw e refl

-- a name that is found isn't blank
speaks : (names : List Name) → IfSome (first_of names) (λ name. blank name.text ≡ false)
speaks [] = tt
speaks (name ∷ names) = by_test (blank name.text) refl (speaks names)
  where
    by_test : (b : Bool) → blank name.text ≡ b → IfSome (first_of names) (λ name. blank name.text ≡ false) → IfSome (first_of (name ∷ names)) (λ name. blank name.text ≡ false)
    by_test true e is = rw e is
    by_test false e is = rw e e

pub found_speaks : (names : List Name) (found : Option Name) → found ≡ first_of names → IfSome found (λ name. blank name.text ≡ false)
found_speaks names found is = subst (λ (o : Option Name). IfSome o (λ name. blank name.text ≡ false)) (sym is) (speaks names)

-- the children's texts decide where they are asked for and aren't blank
pub content_decides : (how : How) (role : Option Role) (content : List ℕ) (later : List Name)
    → (asks_content how role && not (blank content)) ≡ true → says source.Content content ≡ first_said (says source.Content (content_of how role content) ∷ later)
content_decides how role content later h = by_tests (asks_content how role) (blank content) refl refl h
  where
    by_tests : (asks empty : Bool) → asks_content how role ≡ asks → blank content ≡ empty → (asks && not empty) ≡ true
        → says source.Content content ≡ first_said (says source.Content (content_of how role content) ∷ later)
    by_tests true true a e t = cc
    by_tests true false a e t = rw a (rw e refl)
    by_tests false empty a e t = cc

pub content_passes : (how : How) (role : Option Role) (content : List ℕ) (later : List Name)
    → (asks_content how role && not (blank content)) ≡ false → first_said later ≡ first_said (says source.Content (content_of how role content) ∷ later)
content_passes how role content later h = by_tests (asks_content how role) (blank content) refl refl h
  where
    by_tests : (asks empty : Bool) → asks_content how role ≡ asks → blank content ≡ empty → (asks && not empty) ≡ false
        → first_said later ≡ first_said (says source.Content (content_of how role content) ∷ later)
    by_tests true true a e t = rw a (rw e refl)
    by_tests true false a e t = cc
    by_tests false empty a e t = rw a (rw blank_nothing refl)
