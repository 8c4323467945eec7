-- What the bytes of a connection say: its items, one after another, and how it ends. It is a relation on the
-- bytes alone; in which pieces they come doesn't occur in it.
use Rattle.std.specs.Prelude.{◌≡◌, ℕ, ◌⊎◌, true, false, List, [], ◌∷◌, length, take, drop, nat_lt, if◌then◌else◌, Option, Some, None, Result, Ok, Err}
use Rattle.http_messages.specs.declared.blocks.TheConstants.{MOST_HEAD}
use Rattle.http_messages.specs.declared.fault.HeadFault.{HeadFault}
use Rattle.http_messages.specs.declared.fault.HeadFault.TheVariants.{BadHead, HeadTooLarge}
use Rattle.http_messages.specs.declared.head.Head.{Head}
use Rattle.http_messages.specs.declared.item.Item.{Item}
use Rattle.http_messages.specs.Items.{refused, asked}
use Rattle.http_messages.specs.Framing.{body_length}
use Rattle.http_messages.specs.Blocks.{block_end, window, head_block}
use Rattle.http_messages.specs.Heads.{HeadOf}

-- The bytes end between two messages, or within one; or the connection is closed after an item. One that is
-- looked at midway goes on with these bytes.
pub data End : Type 0 where
  ended cut closed : End
  going : List ℕ → End

-- what comes next: the end, or an item and the bytes after it
pub data Next : Type 0 where
  stops : End → Next
  gives : Item → List ℕ → Next

-- a body of this length, if all of it is there
abbrev pub bodied : Head → List ℕ → ℕ → Next
bodied head bytes n = if nat_lt (length bytes) n then stops cut else gives (asked head (take n bytes)) (drop n bytes)

abbrev pub framed : Head → List ℕ → Result ℕ HeadFault → Next
framed head bytes (Ok n) = bodied head bytes n
framed head bytes (Err fault) = gives (refused fault) bytes

-- what a head block says that is this head, or none, with the bytes after it
abbrev pub headed : Option Head → List ℕ → Next
headed None bytes = gives (refused BadHead) bytes
headed (Some head) bytes = framed head bytes (body_length head)

-- what the bytes say by the place where their head block ends
abbrev pub blocked : Option Head → List ℕ → Option ℕ → Next
blocked head bytes None = if nat_lt (length bytes) MOST_HEAD then stops cut else gives (refused HeadTooLarge) bytes
blocked head bytes (Some n) = headed head (drop n bytes)

abbrev pub next : Option Head → List ℕ → Next
next head [] = stops ended
next head (b ∷ bytes) = blocked head (b ∷ bytes) (block_end (window (b ∷ bytes)))

-- the head that the head block is, where there is a block and it is one
abbrev pub HeadIn : Option (List ℕ) → Option Head → Type 0
HeadIn None head = head ≡ None
HeadIn (Some block) head = HeadOf block head

-- the bytes say this first
unfoldable pub IsNext : List ℕ → Next → Type 0
IsNext bytes n = (head : Option Head) × HeadIn (head_block bytes) head × (n ≡ next head bytes)

-- the bytes say these items and end so
abbrev pub Talk : List ℕ → List Item → End → Type 0
Talk bytes [] ended = IsNext bytes (stops ended)
Talk bytes [] cut = IsNext bytes (stops cut)
Talk bytes [] closed = ⊥
Talk bytes [] (going left) = bytes ≡ left
Talk bytes (i ∷ is) end =
    (rest : List ℕ) × IsNext bytes (gives i rest)
    × (((i.closes ≡ true) × (is ≡ []) × (end ≡ closed)) ⊎ ((i.closes ≡ false) × Talk rest is end))

-- an end to which nothing can be added
abbrev pub IsLast : End → Type 0
IsLast ended = Unit {0}
IsLast cut = Unit {0}
IsLast closed = Unit {0}
IsLast (going left) = ⊥

-- the bytes say nothing that comes to an end
abbrev pub HasNoTalk : List ℕ → Type 0
HasNoTalk bytes = (is : List Item) (end : End) → IsLast end → Talk bytes is end → ⊥
