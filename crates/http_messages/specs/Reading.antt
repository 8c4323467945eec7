-- What reading over a link does. The bytes still to come are those that were read and not used, which are held,
-- and then those that the link has left. So nothing here depends on the pieces in which they come.
use Rattle.std.specs.Prelude.{◌≡◌, ℕ, ◌+◌, ◌*◌, ◌<◌, ◌≤◌, Bool, true, false, List, [], ◌++◌, length, Option, Some, None, Result, Ok, Err}
use Rattle.counts.specs.Counts.{Rose}
use Rattle.links.specs.Wires.{Wire}
use Rattle.http_messages.specs.declared.blocks.TheConstants.{MOST_HEAD}
use Rattle.http_messages.specs.declared.reading.TheConstants.{PIECE}
use Rattle.http_messages.specs.declared.reading.ReadFault.{ReadFault}
use Rattle.http_messages.specs.declared.reading.ReadFault.TheVariants.{Failed, OutOfMemory}
use Rattle.http_messages.specs.declared.reading.Block.{Block}
use Rattle.http_messages.specs.declared.reading.Block.TheVariants as block
use Rattle.http_messages.specs.declared.reading.Got.{Got}
use Rattle.http_messages.specs.declared.reading.Got.TheVariants as got
use Rattle.http_messages.specs.Blocks.{block_end, window}
use Rattle.http_messages.specs.Talk.{ended, cut, Next, stops, gives, IsNext}

-- From the bytes that were still to come to those that are now, P. Nothing was written meanwhile.
abbrev pub Moves : (List ℕ → List ℕ → Type 0) → List ℕ → List ℕ → Option Wire → Option Wire → Type 0
Moves P held now_held old new =
    (w : Wire) → new ≡ Some w → (v : Wire) × (old ≡ Some v) × (v.brought ≡ w.brought) × (v.written ≡ w.written)
    × P (held ++ v.left) (now_held ++ w.left)

-- What is held after a fault is lost. Memory is wanted only where some bytes were still to come.
abbrev pub Lost : ReadFault → List ℕ → List ℕ → Type 0
Lost Failed before now = Unit {0}
Lost OutOfMemory before now = 0 < length before

abbrev pub Reads : {A : Type 0} → (A → List ℕ → List ℕ → Type 0) → List ℕ → List ℕ → Option Wire → Option Wire → Result A ReadFault → Type 0
Reads P held now_held old new (Ok a) = Moves (P a) held now_held old new
Reads P held now_held old new (Err e) = Moves (Lost e) held now_held old new

-- the same, of which no fault says anything
abbrev pub ReadsOrLoses : {A : Type 0} → (A → List ℕ → List ℕ → Type 0) → List ℕ → List ℕ → Option Wire → Option Wire → Result A ReadFault → Type 0
ReadsOrLoses P held now_held old new (Ok a) = Moves (P a) held now_held old new
ReadsOrLoses P held now_held old new (Err e) = Moves (λ before now. Unit {0}) held now_held old new

-- the count of faults is as it was, but where a read failed
abbrev pub Keeps : {A : Type 0} → ℕ → ℕ → Result A ReadFault → Type 0
Keeps before now (Err Failed) = Unit {0}
Keeps before now other = now ≡ before

-- the count of faults never falls, rose where a read failed, and is as it was in any other case
pub record Counted {A : Type 0} (before now : ℕ) (result : Result A ReadFault) : Type 0 where
  pub never_falls : before ≤ now
  pub rose : result ≡ Err Failed → Rose before now
  pub same : Keeps before now result

-- What reading uses up: each read that is still allowed may bring a piece, and each byte that is held may be
-- used.
abbrev pub weight : ℕ → List ℕ → ℕ
weight reads held = PIECE * reads + length held

-- ---- a piece, a head block, a body

-- what is still to come stays the same
abbrev pub Same : List ℕ → List ℕ → Type 0
Same before now = before ≡ now

-- nothing is left
abbrev pub IsSpent : Option Wire → Type 0
IsSpent wire = (w : Wire) → wire ≡ Some w → w.left ≡ []

-- a read gave some bytes more, and used up a read; or it found the end
abbrev pub Grows : Bool → List ℕ → List ℕ → ℕ → ℕ → Option Wire → Type 0
Grows true held now_held reads now_reads wire = (piece : List ℕ) × (now_held ≡ held ++ piece) × (now_reads < reads)
Grows false held now_held reads now_reads wire = (now_held ≡ held) × IsSpent wire

-- how the head block of the bytes ends
abbrev pub EndsBlock : Block → List ℕ → Type 0
EndsBlock block.Ended bytes = bytes ≡ []
EndsBlock block.Cut bytes = (block_end (window bytes) ≡ None) × (0 < length bytes) × (length bytes < MOST_HEAD)
EndsBlock block.TooLarge bytes = (block_end (window bytes) ≡ None) × (MOST_HEAD ≤ length bytes)
EndsBlock (block.Found n) bytes = block_end (window bytes) ≡ Some n

abbrev pub FoundBlock : Block → List ℕ → List ℕ → Type 0
FoundBlock b before now = Same before now × EndsBlock b before

-- the block is held
abbrev pub HoldsBlock : Block → List ℕ → Type 0
HoldsBlock block.Ended held = Unit {0}
HoldsBlock block.Cut held = Unit {0}
HoldsBlock block.TooLarge held = Unit {0}
HoldsBlock (block.Found n) held = (0 < n) × (n ≤ length held)

-- so many bytes are held, or the bytes end before
abbrev pub FoundBody : ℕ → Bool → List ℕ → List ℕ → Type 0
FoundBody n whole before now = Same before now × (whole ≡ false → length before < n)

-- ---- what comes next

abbrev pub next_of : Got → List ℕ → Next
next_of got.Ended now = stops ended
next_of got.Cut now = stops cut
next_of (got.Came i) now = gives i now

-- the bytes said this
abbrev pub Says : Got → List ℕ → List ℕ → Type 0
Says g before now = IsNext before (next_of g now)

-- an item after which the connection goes on used something up
abbrev pub Lightens : Got → ℕ → ℕ → Type 0
Lightens got.Ended before now = now ≤ before
Lightens got.Cut before now = now ≤ before
Lightens (got.Came i) before now = (now ≤ before) × (i.closes ≡ false → now < before)
