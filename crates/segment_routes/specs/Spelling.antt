-- A table of routes as `matchit` holds it, and the tables of which its look-ups are proved.
use Rattle.std.specs.Prelude.{◌&&◌, ◌+◌, ◌==◌, ℕ, List, [], ◌∷◌, ◌++◌, length, Bool, true, false, not, cond, ltb}
use Rattle.std.specs.Str.{bytes_eq}
use Rattle.std.specs.List.{list_all}
use Rattle.matchit.specs.Rows.{RowsOf, param_token}
use Rattle.matchit.specs.Router.{RouteOf}
use Rattle.matchit.specs.Params.{part_of}
use Rattle.segment_routes.specs.Paths.{slash, is_ascii}
use Rattle.segment_routes.specs.Pieces.{Word, Name, Pieces, is_some_text}

-- the braces about a parameter's name
abbrev pub opening : ℕ
opening = 123

abbrev pub closing : ℕ
closing = 125

-- a route's text: /word/{name}
abbrev pub text_of : Pieces → List ℕ
text_of [] = []
text_of (Word word ∷ pieces) = slash ∷ (word ++ text_of pieces)
text_of (Name key ∷ pieces) = slash ∷ (opening ∷ (key ++ (closing ∷ text_of pieces)))

-- where the names of its parameters stand in the text, from this place on
abbrev pub spans : ℕ → Pieces → List (ℕ × ℕ)
spans at [] = []
spans at (Word word ∷ pieces) = spans (at + 1 + length word) pieces
spans at (Name key ∷ pieces) = (at + 2, at + 2 + length key) ∷ spans (at + 3 + length key) pieces

-- a route's pattern: a parameter is one token
abbrev pub tokens : Pieces → List ℕ
tokens [] = []
tokens (Word word ∷ pieces) = slash ∷ (word ++ tokens pieces)
tokens (Name key ∷ pieces) = slash ∷ (param_token ∷ tokens pieces)

module _ {K : Type 0} where
  -- rows by their patterns
  abbrev pub spelled : List (Pieces × K) → RowsOf K
  spelled [] = []
  spelled ((pieces, key) ∷ rows) = (tokens pieces, key) ∷ spelled rows

  abbrev pub entry : Pieces → K → RouteOf K
  entry pieces key = record { pattern = tokens pieces; text = text_of pieces; names = spans 0 pieces; value = key }

  abbrev pub entries : List (Pieces × K) → List (Pieces × RouteOf K)
  entries [] = []
  entries ((pieces, key) ∷ rows) = (pieces, entry pieces key) ∷ entries rows

module _ {K : Type 0} where
  -- the rows of a router that has this table
  abbrev pub rows_of : List (Pieces × K) → RowsOf (RouteOf K)
  rows_of rows = spelled (entries rows)

-- a byte of a word
abbrev pub is_plain : ℕ → Bool
is_plain b = ltb b 256 && not (b == slash)

abbrev pub all_plain : List ℕ → Bool
all_plain [] = true
all_plain (b ∷ rest) = is_plain b && all_plain rest

-- words that are whole segments
abbrev pub are_good : Pieces → Bool
are_good [] = true
are_good (Word word ∷ pieces) = is_some_text word && (all_plain word && are_good pieces)
are_good (Name key ∷ pieces) = are_good pieces

-- the first comes before the second, or they part at a word
abbrev pub precedes : Pieces → Pieces → Bool
precedes (Word v ∷ a) (Word w ∷ b) = cond (bytes_eq w v) (precedes a b) true
precedes (Word v ∷ a) (Name n ∷ b) = true
precedes (Name m ∷ a) (Name n ∷ b) = precedes a b
precedes (Name m ∷ a) (Word w ∷ b) = false
precedes (piece ∷ a) [] = true
precedes [] b = true

-- the names of parameters, by their places in a text
abbrev pub keys : List ℕ → List (ℕ × ℕ) → List (List ℕ)
keys text [] = []
keys text (n ∷ ns) = part_of text n.0 n.1 ∷ keys text ns

abbrev pub keys_of : Pieces → List (List ℕ)
keys_of [] = []
keys_of (Word word ∷ pieces) = keys_of pieces
keys_of (Name key ∷ pieces) = key ∷ keys_of pieces

abbrev pub same_texts : List (List ℕ) → List (List ℕ) → Bool
same_texts [] [] = true
same_texts [] (t ∷ ts) = false
same_texts (s ∷ ss) [] = false
same_texts (s ∷ ss) (t ∷ ts) = bytes_eq s t && same_texts ss ts

-- names of ASCII that stand where they should, and a pattern that isn't too long
abbrev pub is_right : Pieces → Bool
is_right pieces =
    same_texts (keys (text_of pieces) (spans 0 pieces)) (keys_of pieces)
    && (ltb (length (tokens pieces)) 2000 && list_all is_ascii (keys_of pieces))

module _ {K : Type 0} where
  abbrev pub all_before : Pieces → List (Pieces × K) → Bool
  all_before ps [] = true
  all_before ps (row ∷ rows) = precedes ps row.0 && all_before ps rows

  -- a word stands before a parameter, and a longer route before the one that it begins with
  abbrev pub is_ordered : List (Pieces × K) → Bool
  is_ordered [] = true
  is_ordered (row ∷ rows) = all_before row.0 rows && is_ordered rows

  abbrev pub is_good : List (Pieces × K) → Bool
  is_good [] = true
  is_good (row ∷ rows) = are_good row.0 && is_good rows

  abbrev pub all_right : List (Pieces × K) → Bool
  all_right [] = true
  all_right (row ∷ rows) = is_right row.0 && all_right rows

  -- a table that `matchit` looks up as `route_of` of Pieces does; for one that is written out it holds by `refl`
  abbrev pub is_table : List (Pieces × K) → Bool
  is_table rows = is_good rows && (is_ordered rows && all_right rows)
