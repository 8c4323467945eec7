-- What the texts of small pages stand for.
use Rattle.std.specs.Prelude.{◌==◌, ◌<◌, ◌^◌, ◌++◌, ℕ, nat_lt, length, List, [], ◌∷◌, codes, bytes_eq, map, Bool, Option, if◌then◌else◌, ⊤}
use Rattle.std.specs.List.{slice_split, join_with_byte, before_first, after_first, position_or_len}
use Rattle.std.specs.Str.Parse.{IsNumeral, digits_value, without_leading_plus}
use Rattle.snap_tree.specs.declared.row.Space.{Space}
use Rattle.snap_tree.specs.declared.row.Space.TheVariants.{Html, Svg, Other}
use Rattle.snap_tree.specs.declared.row.Facts.{Facts}
use Rattle.snap_tree.specs.declared.row.Attr.{Attr}
use Rattle.snap_tree.specs.declared.row.Body.{Body}
use Rattle.snap_tree.specs.declared.row.Body.TheVariants as body
use Rattle.snap_tree.specs.declared.row.Row.{Row}
use Rattle.snap_tree.specs.declared.row.Raw.{Raw}
use Rattle.snap_tree.specs.declared.fault.TreeFault.{TreeFault}
use Rattle.snap_tree.specs.Opened as opened
use Rattle.fixture_pages.specs.declared.fault.PageFault.{PageFault}
use Rattle.fixture_pages.specs.declared.fault.PageFault.TheVariants.{Rows, Build}
use Rattle.fixture_pages.specs.Letters.{facts_in, named}
use Rattle.fixture_pages.specs.Sketches.{at_address}

-- ---- words

abbrev pub has_byte : ℕ → List ℕ → Bool
has_byte c text = nat_lt (position_or_len (λ b. b == c) text) (length text)

-- what stands before the first such byte, and behind it; all and nothing where there is none
abbrev pub before : ℕ → List ℕ → List ℕ
before c text = before_first (λ b. b == c) text

abbrev pub behind : ℕ → List ℕ → List ℕ
behind c text = after_first (λ b. b == c) text

-- what stands between such bytes
abbrev pub between : ℕ → List ℕ → List (List ℕ)
between c text = slice_split (λ b. b == c) text

abbrev pub number_in : List ℕ → ℕ
number_in text = digits_value 10 (without_leading_plus text)

abbrev pub IsNumber : List ℕ → Type 0
IsNumber text = IsNumeral 10 (without_leading_plus text) × (number_in text < 2 ^ 32)

-- a text with spaces (32) for its tildes (126)
abbrev pub spaced : List ℕ → List ℕ
spaced text = join_with_byte 32 (between 126 text)

-- ---- rows

abbrev pub attr_in : List ℕ → List ℕ → Attr
attr_in name value = record { name = name; value = spaced value }

-- the attribute that a part with `=` (61) says
abbrev pub named_in : List ℕ → List Attr
named_in part = if has_byte 61 part then attr_in (before 61 part) (behind 61 part) ∷ [] else []

abbrev pub named_among : List (List ℕ) → List Attr
named_among [] = []
named_among (part ∷ parts) = named_in part ++ named_among parts

abbrev pub attrs_in : List ℕ → List Attr
attrs_in text = named_among (between 32 text)

-- a tag behind a colon (58) is of the space that stands before it
abbrev pub space_in : List ℕ → Space
space_in tag = if has_byte 58 tag then (if bytes_eq (before 58 tag) (codes "svg") then Svg else Other) else Html

abbrev pub tag_in : List ℕ → List ℕ
tag_in tag = if has_byte 58 tag then behind 58 tag else tag

abbrev pub element_in : List ℕ → List ℕ → Body
element_in word attrs = body.Element (space_in word) (tag_in word) (attrs_in attrs)

-- what a row's third word and what follows it stand for: behind `#` (35) is a text
abbrev pub body_in : List ℕ → List ℕ → Body
body_in word attrs = if has_byte 35 word then body.Words (spaced (behind 35 word)) else element_in word attrs

-- the facts behind `!` (33), and else rendered and visible
abbrev pub row_facts : List ℕ → Facts
row_facts text = facts_in (if has_byte 33 text then behind 33 text else codes "rv")

abbrev pub row_of : List ℕ → Facts → Row
row_of text facts =
    record {
      id = record { 0 = number_in (before 32 text) };
      parent = named (number_in (before 32 (behind 32 text)));
      body = body_in (before 32 (behind 32 (behind 32 text))) (behind 32 (behind 32 (behind 32 text)));
      facts = facts;
    }

-- the row that a text stands for, where its first two words are numbers
abbrev pub row_in : List ℕ → Row
row_in text = row_of (before 33 text) (row_facts text)

-- ---- pages

-- the rows between semicolons (59)
abbrev pub rows_in : List ℕ → List Row
rows_in text = map row_in (between 59 text)

abbrev pub raw_in : List ℕ → Raw
raw_in text = at_address (rows_in text)

-- a refusal of rows names this fault, unless memory ran out
abbrev pub Breaks : PageFault → Option TreeFault → Type 0
Breaks (Rows f) fault = ⊤
Breaks (Build f) fault = opened.Breaks f fault
