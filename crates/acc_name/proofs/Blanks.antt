-- Which texts are blank.
use Rattle.std.proofs.Common.{◌≡◌, ℕ, List, [], ◌∷◌, ◌++◌, ◌&&◌, Bool, true, false, if◌then◌else◌, IsUtf8, chars, sym, ◌∙◌, ap, arith, append_assoc}
use Rattle.std.proofs.Math.Bool.{and-true}
use Rattle.std.proofs.lemmas.List.{append-nil}
use Rattle.std.proofs.lemmas.List.Folds.{list_all-append}
use Rattle.std.proofs.lemmas.Str.{chars-append, chars-nil, chars-IsAscii, IsUtf8-from_ascii}
use Rattle.std.proofs.lemmas.Str.Ascii.{IsAscii-nil, IsAscii-cons}
use Rattle.std.specs.Char.{is_whitespace}
use Rattle.std.specs.List.{list_all}
use Rattle.std.specs.Str.{IsAscii}
use Rattle.snap_tree.specs.declared.row.Row.{Row}
use Rattle.texts.specs.Words.{blank}
use Rattle.acc_name.specs.Names.{stands_apart, placed}

pub blank_nothing : blank [] ≡ true
blank_nothing = ap (list_all is_whitespace) chars-nil

pub blank_both : (a b : List ℕ) → IsUtf8 a → blank (a ++ b) ≡ (blank a && blank b)
blank_both a b is = ap (list_all is_whitespace) (chars-append a b is) ∙ list_all-append is_whitespace (chars a) (chars b)

space_is_ascii : IsAscii (32 ∷ [])
space_is_ascii = IsAscii-cons 32 [] (omega arith) IsAscii-nil

blank_space : (rest : List ℕ) → blank (32 ∷ rest) ≡ blank rest
blank_space rest =
    blank_both (32 ∷ []) rest (IsUtf8-from_ascii (32 ∷ []) space_is_ascii)
    ∙ ap (λ cs. list_all is_whitespace cs && blank rest) (chars-IsAscii (32 ∷ []) space_is_ascii)

-- the spaces around a text don't count
pub blank_placed : (row : Row) (text rest : List ℕ) → IsUtf8 text → blank (placed row text ++ rest) ≡ (blank text && blank rest)
blank_placed row text rest is = by_place (stands_apart row.body)
  where
    by_place : (apart : Bool) → blank ((if apart then 32 ∷ text ++ 32 ∷ [] else text) ++ rest) ≡ (blank text && blank rest)
    by_place true =
        ap (λ bs. blank (32 ∷ bs)) (append_assoc text (32 ∷ []) rest)
        ∙ blank_space (text ++ 32 ∷ rest) ∙ blank_both text (32 ∷ rest) is ∙ ap (λ b. blank text && b) (blank_space rest)
    by_place false = blank_both text rest is

-- a text placed behind another
pub blank_behind : (row : Row) (before text : List ℕ) → IsUtf8 before → IsUtf8 text → blank (before ++ placed row text) ≡ (blank before && blank text)
blank_behind row before text before_is text_is =
    blank_both before (placed row text) before_is
    ∙ ap (λ b. blank before && b)
    (sym (ap blank (append-nil (placed row text))) ∙ blank_placed row text [] text_is ∙ ap (λ b. blank text && b) blank_nothing ∙ and-true (blank text))
