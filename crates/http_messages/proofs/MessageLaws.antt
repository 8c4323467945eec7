-- What a message says, from its head block, its head and its body.
use Rattle.std.proofs.Common.{◌≡◌, ℕ, ◌<◌, ◌≤◌, cond, List, [], ◌∷◌, ◌++◌, length, take, drop, Option, Some, None, option_map, Result, Ok, Err, refl, sym, ap, ◌∙◌, subst, length-append, arith}
use Rattle.std.proofs.lemmas.Bool.{lt-ltb, le-ltb}
use Rattle.std.proofs.lemmas.List.{take-append-le, drop-append-le}
use Rattle.links.specs.Wires.{Wire}
use Rattle.http_messages.specs.declared.blocks.TheConstants.{MOST_HEAD}
use Rattle.http_messages.specs.declared.fault.HeadFault.{HeadFault}
use Rattle.http_messages.specs.declared.fault.HeadFault.TheVariants.{BadHead, HeadTooLarge}
use Rattle.http_messages.specs.declared.head.Head.{Head}
use Rattle.http_messages.specs.declared.reading.ReadFault.{ReadFault}
use Rattle.http_messages.specs.declared.reading.ReadFault.TheVariants.{Failed, OutOfMemory}
use Rattle.http_messages.specs.declared.reading.Got.{Got}
use Rattle.http_messages.specs.declared.reading.Got.TheVariants as got
use Rattle.http_messages.specs.declared.reading.Block.TheVariants as block
use Rattle.http_messages.specs.Framing.{body_length}
use Rattle.http_messages.specs.Blocks.{block_end, window, head_block}
use Rattle.http_messages.specs.Heads.{HeadOf}
use Rattle.http_messages.specs.Items.{refused}
use Rattle.http_messages.specs.Talk.{ended, cut, Next, stops, gives, framed, headed, blocked, next, HeadIn, IsNext}
use Rattle.http_messages.specs.Reading.{Moves, Lost, Reads, ReadsOrLoses, FoundBlock, Says, next_of}
use Rattle.http_messages.specs.Messages.{SaysFrom, SaysBody}
use Rattle.http_messages.proofs.Marks.{block_within}
use Rattle.http_messages.proofs.ReadingLaws.{then_moves, weaker}

-- ---- memory that was wanted

pub lost_held : (held now : List ℕ) (a : Option Wire) → 0 < length held → Moves (Lost OutOfMemory) held now a a
lost_held held now a some w is = (w, is, refl, refl, omega (arith, length-append held w.left))

pub lost_later : (e : ReadFault) (held mid now : List ℕ) (a b : Option Wire) → 0 < length held → Moves (λ before after. Unit {0}) mid now a b → Moves (Lost e) held now a b
lost_later Failed held mid now a b some moved w is = let v = moved w is in (v.0, v.1, v.2, v.3, tt)
lost_later OutOfMemory held mid now a b some moved w is = let v = moved w is in (v.0, v.1, v.2, v.3, omega (arith, length-append held v.0.left))

-- ---- what comes first

-- bytes of which there are some say what their head block does
next_blocked : (o : Option Head) (bytes : List ℕ) → 0 < length bytes → next o bytes ≡ blocked o bytes (block_end (window bytes))
next_blocked o [] some = absurd (omega arith)
next_blocked o (b ∷ bytes) some = refl

-- a head block that is found is this head, or none
says_headed : (held left block now : List ℕ) (n : ℕ) (o : Option Head) (m : Next) → n ≤ length held → block ≡ take n held → now ≡ drop n held → HeadOf block o →
    block_end (window (held ++ left)) ≡ Some n → m ≡ headed o (now ++ left) → IsNext (held ++ left) m
unfolding IsNext
says_headed held left block now n o m fits block_is now_is head end is =
    let bytes = held ++ left in
    let within = block_within bytes n end in
    let found : head_block bytes ≡ Some block =
    ap (option_map (λ k. take k bytes)) end ∙ ap Some (take-append-le n held left fits ∙ sym block_is) in
    let P : Option (List ℕ) → Type 0 = λ b. HeadIn b o in
    let rest : drop n bytes ≡ now ++ left = drop-append-le n held left fits ∙ ap (λ l. l ++ left) (sym now_is) in
    (o, subst P (sym found) head, is ∙ ap (headed o) (sym rest) ∙ sym (next_blocked o bytes (omega (arith, within.0, within.1)) ∙ ap (blocked o bytes) end))

-- the block is no head
pub bad_head : (held block now : List ℕ) (n : ℕ) (a : Option Wire) → n ≤ length held → block ≡ take n held → now ≡ drop n held → HeadOf block None → Moves (SaysFrom n (got.Came (refused BadHead))) held now a a
bad_head held block now n a fits block_is now_is head w is =
    (w, is, refl, refl, λ end. says_headed held w.left block now n None (gives (refused BadHead) (now ++ w.left)) fits block_is now_is head end refl)

-- the head is refused
pub bad_length : (held block now : List ℕ) (n : ℕ) (a : Option Wire) (head : Head) (fault : HeadFault) → n ≤ length held → block ≡ take n held → now ≡ drop n held → HeadOf block (Some head) →
    Err fault ≡ body_length head → Moves (SaysFrom n (got.Came (refused fault))) held now a a
bad_length held block now n a head fault fits block_is now_is is_head length_is w is =
    (w, is, refl, refl, λ end. says_headed held w.left block now n (Some head) (gives (refused fault) (now ++ w.left)) fits block_is now_is is_head end (ap (framed head (now ++ w.left)) length_is))

-- the head has a body
pub with_body : (held block mid now : List ℕ) (n size : ℕ) (a b : Option Wire) (head : Head) (r : Result Got ReadFault) → 0 < n → n ≤ length held → block ≡ take n held → mid ≡ drop n held → HeadOf block (Some head) → Ok size ≡ body_length head →
    ReadsOrLoses (SaysBody head size) mid now a b r → Reads (SaysFrom n) held now a b r
with_body held block mid now n size a b head (Ok g) some fits block_is mid_is is_head length_is moved =
    λ w is. let v = moved w is in
    (v.0, v.1, v.2, v.3, λ end. says_headed held v.0.left block mid n (Some head) (next_of g (now ++ w.left)) fits block_is mid_is is_head end (v.4 ∙ ap (framed head (mid ++ v.0.left)) length_is))
with_body held block mid now n size a b head (Err e) some fits block_is mid_is is_head length_is moved = lost_later e held mid now a b (omega arith) moved

-- ---- what a head block that isn't there says

unfold_none : (o : Option ℕ) (bytes : List ℕ) → o ≡ None → option_map (λ k. take k bytes) o ≡ None
unfold_none o bytes is = ap (option_map (λ k. take k bytes)) is

says_none : (bytes : List ℕ) (m : Next) → 0 < length bytes → block_end (window bytes) ≡ None → m ≡ blocked None bytes None → IsNext bytes m
unfolding IsNext
says_none bytes m some none is =
    let P : Option (List ℕ) → Type 0 = λ b. HeadIn b None in
    (None, subst P (sym (unfold_none (block_end (window bytes)) bytes none)) refl, is ∙ sym (next_blocked None bytes some ∙ ap (blocked None bytes) none))

says_ended : IsNext [] (stops ended)
unfolding IsNext window
says_ended = (None, refl, refl)

pub ended_block : (held now : List ℕ) (a b : Option Wire) → Moves (FoundBlock block.Ended) held now a b → Moves (Says got.Ended) held now a b
ended_block = weaker (FoundBlock block.Ended) (Says got.Ended) (λ x y found. let P : List ℕ → Type 0 = λ l. IsNext l (stops ended) in subst P (sym found.1) says_ended)

pub cut_block : (held now : List ℕ) (a b : Option Wire) → Moves (FoundBlock block.Cut) held now a b → Moves (Says got.Cut) held now a b
cut_block = weaker (FoundBlock block.Cut) (Says got.Cut) (λ x y found.
    says_none x (stops cut) found.1.1 found.1.0 (sym (ap (λ t. cond t (stops cut) (gives (refused HeadTooLarge) x)) (lt-ltb (length x) MOST_HEAD found.1.2))))

pub too_large : (held now : List ℕ) (a b : Option Wire) → Moves (FoundBlock block.TooLarge) held now a b → Moves (Says (got.Came (refused HeadTooLarge))) held now a b
too_large = weaker (FoundBlock block.TooLarge) (Says (got.Came (refused HeadTooLarge))) (λ x y found.
    says_none x (gives (refused HeadTooLarge) y) (omega (arith, found.1.1)) found.1.0
    (ap (gives (refused HeadTooLarge)) (sym found.0) ∙ sym (ap (λ t. cond t (stops cut) (gives (refused HeadTooLarge) x)) (le-ltb (length x) MOST_HEAD found.1.1))))

-- a message whose head block was found
pub from_block : (n : ℕ) (held mid now : List ℕ) (a b c : Option Wire) (r : Result Got ReadFault) → Moves (FoundBlock (block.Found n)) held mid a b → Reads (SaysFrom n) mid now b c r → Reads Says held now a c r
from_block n held mid now a b c (Ok g) found moved =
    then_moves (FoundBlock (block.Found n)) (SaysFrom n g) (Says g) (λ x y z f s.
    let P : List ℕ → Type 0 = λ l. Says g l z in
    subst P (sym f.0) (s (ap (λ l. block_end (window l)) (sym f.0) ∙ f.1))) held mid now a b c found moved
from_block n held mid now a b c (Err e) found moved =
    then_moves (FoundBlock (block.Found n)) (Lost e) (Lost e) (λ x y z f s. let P : List ℕ → Type 0 = λ l. Lost e l z in subst P (sym f.0) s) held mid now a b c found moved
