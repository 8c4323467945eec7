-- No bytes are without a talk.
use Rattle.std.proofs.Common.{◌≡◌, ℕ, zero, suc, ◌<◌, ◌≤◌, inl, inr, Bool, true, false, cond, List, [], ◌∷◌, length, take, drop, nat_lt, Option, Some, None, Result, Ok, Err, refl, length-drop, arith}
use Rattle.http_messages.specs.declared.blocks.TheConstants.{MOST_HEAD}
use Rattle.http_messages.specs.declared.fault.HeadFault.{HeadFault}
use Rattle.http_messages.specs.declared.fault.HeadFault.TheVariants.{HeadTooLarge}
use Rattle.http_messages.specs.declared.head.Head.{Head}
use Rattle.http_messages.specs.Framing.{body_length}
use Rattle.http_messages.specs.Blocks.{block_end, window, head_block}
use Rattle.http_messages.specs.Heads.{seen}
use Rattle.http_messages.specs.Items.{refused, asked}
use Rattle.http_messages.specs.Talk.{ended, cut, closed, going, Next, stops, gives, bodied, framed, headed, blocked, next, HeadIn, IsNext, HasNoTalk}
use Rattle.http_messages.proofs.Marks.{block_within}

-- an end comes alone, and an item after which the connection goes on takes bytes
abbrev Shorter : List ℕ → Next → Type 0
Shorter bytes (stops ended) = Unit {0}
Shorter bytes (stops cut) = Unit {0}
Shorter bytes (stops closed) = ⊥
Shorter bytes (stops (going left)) = ⊥
Shorter bytes (gives i rest) = i.closes ≡ false → length rest < length bytes

bodied_shorter : (head : Head) (bytes rest : List ℕ) (n : ℕ) → length rest < length bytes → Shorter bytes (bodied head rest n)
bodied_shorter head bytes rest n less = of (nat_lt (length rest) n)
  where
    of : (t : Bool) → Shorter bytes (cond t (stops cut) (gives (asked head (take n rest)) (drop n rest)))
    of true = tt
    of false = λ stays. omega (arith, length-drop n rest)

closed_shorter : (a b : ℕ) → true ≡ false → a < b
closed_shorter a b stays = cc

headed_shorter : (o : Option Head) (bytes rest : List ℕ) → length rest < length bytes → Shorter bytes (headed o rest)
headed_shorter None bytes rest less = closed_shorter _ _
headed_shorter (Some head) bytes rest less = of (body_length head)
  where
    of : (r : Result ℕ HeadFault) → Shorter bytes (framed head rest r)
    of (Ok n) = bodied_shorter head bytes rest n less
    of (Err fault) = closed_shorter _ _

blocked_shorter : (o : Option Head) (bytes : List ℕ) (e : Option ℕ) → block_end (window bytes) ≡ e → Shorter bytes (blocked o bytes e)
blocked_shorter o bytes (Some n) is =
    let within = block_within bytes n is in
    headed_shorter o bytes (drop n bytes) (omega (arith, within.0, within.1, length-drop n bytes))
blocked_shorter o bytes None is = of (nat_lt (length bytes) MOST_HEAD)
  where
    of : (t : Bool) → Shorter bytes (cond t (stops cut) (gives (refused HeadTooLarge) bytes))
    of true = tt
    of false = closed_shorter _ _

next_shorter : (o : Option Head) (bytes : List ℕ) → Shorter bytes (next o bytes)
next_shorter o [] = tt
next_shorter o (b ∷ bytes) = blocked_shorter o (b ∷ bytes) (block_end (window (b ∷ bytes))) refl

-- what comes first, and the talk of what follows
from_next : (bytes : List ℕ) (n : Next) → IsNext bytes n → Shorter bytes n → ((rest : List ℕ) → length rest < length bytes → HasNoTalk rest → ⊥) → HasNoTalk bytes → ⊥
from_next bytes (stops ended) is shorter later none = none [] ended tt is
from_next bytes (stops cut) is shorter later none = none [] cut tt is
from_next bytes (stops closed) is shorter later none = shorter
from_next bytes (stops (going left)) is shorter later none = shorter
from_next bytes (gives i rest) is shorter later none = of i.closes refl
  where
    of : (t : Bool) → i.closes ≡ t → ⊥
    of true closes = none (i ∷ []) closed tt (rest, is, inl (closes, refl, refl))
    of false stays = later rest (shorter stays) (λ is' end last talk. none (i ∷ is') end last (rest, is, inr (stays, talk)))

some_next : (bytes : List ℕ) (o : Option Head) → HeadIn (head_block bytes) o → IsNext bytes (next o bytes)
unfolding IsNext
some_next bytes o head = (o, head, refl)

-- some head, or none, is what the block is
some_head : (block : Option (List ℕ)) → ((o : Option Head) → HeadIn block o → ⊥) → ⊥
some_head None none = none None refl
some_head (Some block) none = none None (λ h is. none (Some (seen h)) (h, is, refl))

step : (bytes : List ℕ) → ((rest : List ℕ) → length rest < length bytes → HasNoTalk rest → ⊥) → HasNoTalk bytes → ⊥
step bytes later none = some_head (head_block bytes) (λ o head. from_next bytes (next o bytes) (some_next bytes o head) (next_shorter o bytes) later none)

within : (fuel : ℕ) (bytes : List ℕ) → length bytes ≤ fuel → HasNoTalk bytes → ⊥
within zero bytes fits = step bytes (λ rest less none. absurd (omega arith))
within (suc fuel) bytes fits = step bytes (λ rest less none. within fuel rest (omega arith) none)

pub talk_exists : (bytes : List ℕ) → HasNoTalk bytes → ⊥
talk_exists bytes = within (length bytes) bytes (omega arith)
