-- A head is a block of bytes that, taken whole, is a request head of the grammar of HTTP/1.x with at most 64
-- fields. The grammar is httparse's; nothing but this file and its lemmas speaks of it.
use Rattle.std.specs.Prelude.{◌≡◌, ℕ, suc, zero, ◌≤◌, List, [], length, map, Option, Some, None}
use Rattle.httparse.specs.Grammar.{RequestHead, ReadsRequest, field_value}
use Rattle.httparse.specs.Grammar as grammar
use Rattle.http_messages.specs.declared.head.Version.{Version}
use Rattle.http_messages.specs.declared.head.Version.TheVariants.{Http10, Http11}
use Rattle.http_messages.specs.declared.head.Field.{Field}
use Rattle.http_messages.specs.declared.head.Head.{Head}
use Rattle.http_messages.specs.declared.parse.TheConstants.{MOST_FIELDS}

abbrev pub version_of : ℕ → Version
version_of zero = Http10
version_of (suc n) = Http11

-- a field, its value without the white space around it
abbrev pub seen_field : grammar.Field → Field
seen_field f = record { name = f.name; value = field_value f }

-- what is seen of a head of the grammar
unfoldable pub seen : RequestHead → Head
seen h = record { version = version_of h.minor; method = h.method; target = h.target; fields = map seen_field h.fields }

-- the block, taken whole, is this head, with at most 64 fields
pub record IsHead (block : List ℕ) (h : RequestHead) : Type 0 where
  pub reads : ReadsRequest block h []
  pub few : length h.fields ≤ MOST_FIELDS

-- the head that the block is, if it is one
abbrev pub HeadOf : List ℕ → Option Head → Type 0
HeadOf block None = (h : RequestHead) → ¬ (IsHead block h)
HeadOf block (Some head) = (h : RequestHead) × IsHead block h × (head ≡ seen h)
