-- Words of a text. White space is Unicode's White_Space, and a text is its bytes in UTF-8.
use Rattle.std.specs.Prelude.{◌≡◌, ◌<◌, ℕ, List, [], ◌∷◌, ◌++◌, map, Bool, if◌then◌else◌, encode_utf8, encode_utf8_all, length}
use Rattle.std.specs.List.{list_all}
use Rattle.std.specs.Char.{is_whitespace, to_ascii_lowercase}
use Rattle.std.specs.Str.{chars, bytes_eq}

-- only white space, or no character
abbrev pub blank : List ℕ → Bool
blank text = list_all is_whitespace (chars text)

-- a word that has ended, if it has a character
abbrev pub ended : List ℕ → List (List ℕ)
ended [] = []
ended (b ∷ word) = (b ∷ word) ∷ []

-- the words of characters, after what has come of the first word
abbrev pub cut : List ℕ → List ℕ → List (List ℕ)
cut word [] = ended word
cut word (c ∷ cs) = if is_whitespace c then ended word ++ cut [] cs else cut (word ++ encode_utf8 c) cs

-- the parts of a text between runs of white space
abbrev pub words : List ℕ → List (List ℕ)
words text = cut [] (chars text)

-- the text's words are this one and those of the rest
pub record IsFirstWord (text word rest : List ℕ) : Type 0 where
  pub is : words text ≡ word ∷ words rest
  pub not_empty : 0 < length word
  pub shorter : length rest < length text

-- words with one space between
abbrev pub spaced : List (List ℕ) → List ℕ
spaced [] = []
spaced (word ∷ []) = word
spaced (word ∷ next ∷ rest) = word ++ 32 ∷ spaced (next ∷ rest)

-- each run of white space becomes one space, and spaces at both ends go
abbrev pub tidy : List ℕ → List ℕ
tidy text = spaced (words text)

-- ASCII letters in lower case
abbrev pub folded : List ℕ → List ℕ
folded text = map to_ascii_lowercase text

-- equal but for the case of ASCII letters
abbrev pub same_folded : List ℕ → List ℕ → Bool
same_folded a b = bytes_eq (folded a) (folded b)

-- the characters before the first white space, and those from there on
abbrev pub front : List ℕ → List ℕ
front [] = []
front (c ∷ cs) = if is_whitespace c then [] else c ∷ front cs

abbrev pub back : List ℕ → List ℕ
back [] = []
back (c ∷ cs) = if is_whitespace c then c ∷ cs else back cs

-- how many bytes stand before the first white space
abbrev pub front_len : List ℕ → ℕ
front_len text = length (encode_utf8_all (front (chars text)))
