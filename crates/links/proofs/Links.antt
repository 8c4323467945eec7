-- What reads and writes do to a wire.
use Rattle.std.proofs.Common.{◌≡◌, ℕ, ◌+◌, ◌<◌, List, [], ◌++◌, length, take, drop, Option, Ok, ap, ◌∙◌, subst, append-nil, append_assoc}
use Rattle.streams.specs.Memory.{gives_of}
use Rattle.streams.specs.Streams.{Read, Wrote, WroteFront}
use Rattle.streams.proofs.Fronts.{front_left, none_left, read_told}
use Rattle.streams.proofs.Told.{wrote_none, wrote_more}
use Rattle.links.specs.Wires.{Wire, unread, left_of, extended}
use Rattle.links.specs.Memory.{LinkState, wire, IsUntouchedLink}
use Rattle.links.specs.Ends.{told}

-- a read in memory gives the front of what is left
pub link_read : (s : LinkState) (buf : List ℕ) (room n reads calls : ℕ) → 0 < room → n ≡ gives_of s.piece (drop s.at s.brought) room →
    take n buf ≡ take n (drop s.at s.brought) → Read unread left_of buf (wire s) (wire (record s { at = s.at + n; reads = reads; calls = calls })) (Ok n)
link_read s buf room n reads calls some count same =
    let old : Wire = record { brought = s.brought; left = drop s.at s.brought; written = s.written } in
    let new : Wire = record { brought = s.brought; left = drop (s.at + n) s.brought; written = s.written } in
    read_told unread left_of old new buf n (ap (λ l. record { brought = s.brought; left = l; written = s.written }) (front_left s.brought buf s.at n same))
    (none_left s.brought s.at room s.piece n some count)

-- nothing is read or written of a new link
pub untouched : (s : LinkState) → s.at ≡ 0 → s.written ≡ [] → s.faults ≡ 0 → IsUntouchedLink s
untouched s at written faults =
    let P : Wire → Type 0 = λ w. w.left ≡ w.brought in
    let Q : Wire → Type 0 = λ w. w.written ≡ [] in
    record {
      none_read = λ w is. subst P (told _ w is) (ap (λ k. drop k s.brought) at);
      none_written = λ w is. subst Q (told _ w is) written;
      no_fault = faults;
    }

-- ---- writes one after another

-- nothing was written yet
pub wire_same : (a : Option Wire) → Wrote extended [] a a
wire_same a = wrote_none extended (λ w. ap (λ l. record { brought = w.brought; left = w.left; written = l }) (append-nil w.written)) a

-- a write after another
pub wire_more : (a b c : Option Wire) (bytes rest : List ℕ) (at n : ℕ) → Wrote extended (take at bytes) a b → rest ≡ drop at bytes → Wrote extended (take n rest) b c → Wrote extended (take (at + n) bytes) a c
wire_more = wrote_more extended (λ w x y. ap (λ l. record { brought = w.brought; left = w.left; written = l }) (append_assoc w.written x y))

-- a write that failed after a front was written
pub wire_front : (a b c : Option Wire) (bytes : List ℕ) (at : ℕ) → Wrote extended (take at bytes) a b → at < length bytes → c ≡ b → WroteFront extended bytes a c
wire_front a b c bytes at before more same = (at, more, same ∙ before)
