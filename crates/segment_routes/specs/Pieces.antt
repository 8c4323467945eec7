-- Routes by their segments: which row of a table fits the segments of a path, and what its parameters are.
use Rattle.std.specs.Prelude.{◌&&◌, ℕ, List, [], ◌∷◌, Bool, true, false, if◌then◌else◌, Option, Some, None}
use Rattle.std.specs.Str.{bytes_eq}
use Rattle.segment_routes.specs.Paths.{segments}

-- a segment of a route: this word, or a parameter of this name
pub data Piece : Type 0 where
  Word : List ℕ → Piece
  Name : List ℕ → Piece

abbrev pub Pieces : Type 0
Pieces = List Piece

abbrev pub is_some_text : List ℕ → Bool
is_some_text [] = false
is_some_text (b ∷ rest) = true

-- the pieces fit the segments: a word its own bytes, a parameter any segment that isn't empty
abbrev pub fits : Pieces → List (List ℕ) → Bool
fits [] [] = true
fits [] (segment ∷ segments) = false
fits (piece ∷ pieces) [] = false
fits (Word word ∷ pieces) (segment ∷ segments) = bytes_eq word segment && fits pieces segments
fits (Name key ∷ pieces) (segment ∷ segments) = is_some_text segment && fits pieces segments

-- each parameter's name with its segment
abbrev pub parts : Pieces → List (List ℕ) → List (List ℕ × List ℕ)
parts [] segments = []
parts (piece ∷ pieces) [] = []
parts (Word word ∷ pieces) (segment ∷ segments) = parts pieces segments
parts (Name key ∷ pieces) (segment ∷ segments) = (key, segment) ∷ parts pieces segments

module _ {K : Type 0} where
  -- the first row of a table that fits
  abbrev pub find : List (Pieces × K) → List (List ℕ) → Option (Pieces × K)
  find [] segments = None
  find (row ∷ rows) segments = if fits row.0 segments then Some row else find rows segments

  -- the same for a path that begins with a slash; all others have no route
  abbrev pub routed : List (Pieces × K) → List (List ℕ) → Option (Pieces × K)
  routed rows [] = None
  routed rows ([] ∷ segments) = find rows segments
  routed rows ((b ∷ root) ∷ segments) = None

  -- what a row stands for, with the parameters that these segments give it
  abbrev pub given : List (List ℕ) → Option (Pieces × K) → Option (K × List (List ℕ × List ℕ))
  given [] row = None
  given (root ∷ segments) None = None
  given (root ∷ segments) (Some (pieces, key)) = Some (key, parts pieces segments)

  -- what the first row that fits a path stands for, with the path's parameters
  abbrev pub route_of : List (Pieces × K) → List ℕ → Option (K × List (List ℕ × List ℕ))
  route_of rows path = given (segments path) (routed rows (segments path))
