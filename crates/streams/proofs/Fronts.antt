-- A read in memory gives the front of what is left.
use Rattle.std.proofs.Common.{◌≡◌, ℕ, ◌+◌, ◌<◌, List, [], ◌++◌, take, drop, Some, Ok, sym, ap, ◌∙◌, subst, arith, length-drop}
use Rattle.std.proofs.lemmas.List.{take-append-drop, drop-drop, nil_from_length}
use Rattle.std.proofs.lemmas.Option.{same_Some}
use Rattle.streams.specs.Memory.{gives_of}
use Rattle.streams.specs.Streams.{Read}

-- what was left is what was copied into the buffer and what is left
pub front_left : (bytes buf : List ℕ) (at n : ℕ) → take n buf ≡ take n (drop at bytes) → drop at bytes ≡ take n buf ++ drop (at + n) bytes
front_left bytes buf at n same =
    sym (take-append-drop n (drop at bytes)) ∙ ap (λ front. front ++ drop n (drop at bytes)) (sym same) ∙ ap (λ rest. take n buf ++ rest) (drop-drop n at bytes)

-- nothing is given only where nothing is left
pub none_left : (bytes : List ℕ) (at room piece n : ℕ) → 0 < room → n ≡ gives_of piece (drop at bytes) room → n ≡ 0 → drop (at + n) bytes ≡ []
none_left bytes at room piece n some count none = nil_from_length (drop (at + n) bytes) (omega (arith, length-drop (at + n) bytes, length-drop at bytes))

-- a read of what is told
pub read_told : {A : Type 0} (unread : List ℕ → A → A) (left : A → List ℕ) (old new : A) (buf : List ℕ) (n : ℕ) → old ≡ unread (take n buf) new → (n ≡ 0 → left new ≡ []) → Read unread left buf (Some old) (Some new) (Ok n)
read_told unread left old new buf n front end =
    (ap Some front, λ none t is. subst (λ x. left x ≡ []) (same_Some new t is) (end none))
