-- What reading does to the bytes still to come, one read after another.
use Rattle.std.proofs.Common.{◌≡◌, ℕ, ◌≤◌, ◌≢◌, List, ◌++◌, length, take, Option, Ok, refl, sym, ap, ◌∙◌, subst, append-nil, append_assoc, length-append, length-take, arith}
use Rattle.streams.specs.Streams.{Read}
use Rattle.streams.proofs.Told.{was_read}
use Rattle.links.specs.Wires.{Wire, unread, left_of}
use Rattle.http_messages.specs.declared.reading.ReadFault.TheVariants.{Failed, OutOfMemory}
use Rattle.http_messages.specs.Reading.{Moves, Lost, Same, IsSpent}

-- ---- one read

pub read_none : (a b : Option Wire) (held buf : List ℕ) (n : ℕ) → Read unread left_of buf a b (Ok n) → n ≡ 0 → Moves Same held held a b
read_none a b held buf n read none w is =
    (unread (take n buf) w, was_read unread (take n buf) a b w read.0 is, refl, refl, ap (λ k. held ++ (take k buf ++ w.left)) none)

pub read_some : (a b : Option Wire) (held now buf piece : List ℕ) (n : ℕ) → Read unread left_of buf a b (Ok n) → now ≡ held ++ piece → piece ≡ take n buf → Moves Same held now a b
read_some a b held now buf piece n read grown same w is =
    let whole : held ++ take n buf ≡ now = ap (λ l. held ++ l) (sym same) ∙ sym grown in
    (unread (take n buf) w, was_read unread (take n buf) a b w read.0 is, refl, refl, sym (append_assoc held (take n buf) w.left) ∙ ap (λ l. l ++ w.left) whole)

-- a read that failed
pub read_failed : (a b : Option Wire) (held now : List ℕ) → b ≡ a → Moves (Lost Failed) held now a b
read_failed a b held now same w is = (w, sym same ∙ is, refl, refl, tt)

-- memory for what a read gave
pub read_lost : (a b : Option Wire) (held now buf : List ℕ) (n : ℕ) → Read unread left_of buf a b (Ok n) → n ≢ 0 → n ≤ length buf → Moves (Lost OutOfMemory) held now a b
read_lost a b held now buf n read some fits w is =
    (unread (take n buf) w, was_read unread (take n buf) a b w read.0 is, refl, refl, omega (arith, length-append held (take n buf ++ w.left), length-append (take n buf) w.left, length-take n buf))

-- ---- one read after another

pub weaker : (P Q : List ℕ → List ℕ → Type 0) → ((x y : List ℕ) → P x y → Q x y) → (held now : List ℕ) (a b : Option Wire) → Moves P held now a b → Moves Q held now a b
weaker P Q more held now a b moved w is = let v = moved w is in (v.0, v.1, v.2, v.3, more _ _ v.4)

-- one after another
pub then_moves : (P Q R : List ℕ → List ℕ → Type 0) → ((x y z : List ℕ) → P x y → Q y z → R x z) → (held mid now : List ℕ) (a b c : Option Wire) → Moves P held mid a b → Moves Q mid now b c → Moves R held now a c
then_moves P Q R join held mid now a b c before later w is =
    let v = later w is in
    let u = before v.0 v.1 in
    (u.0, u.1, u.2 ∙ v.2, u.3 ∙ v.3, join _ _ _ u.4 v.4)

-- nothing was read yet
pub stayed : (held : List ℕ) (a : Option Wire) → Moves Same held held a a
stayed held a w is = (w, is, refl, refl, refl)

-- reads before which what was to come stayed the same
pub after_same : (Q : List ℕ → List ℕ → Type 0) (held mid now : List ℕ) (a b c : Option Wire) → Moves Same held mid a b → Moves Q mid now b c → Moves Q held now a c
after_same Q = then_moves Same Q Q (λ x y z same q. let P : List ℕ → Type 0 = λ k. Q k z in subst P (sym same) q)

-- what holds of the bytes held and any others holds of what was to come
pub with_rest : (Q : List ℕ → Type 0) (held now : List ℕ) (a b : Option Wire) → Moves Same held now a b → ((left : List ℕ) → Q (now ++ left)) → Moves (λ before after. Same before after × Q before) held now a b
with_rest Q held now a b moved holds w is =
    let v = moved w is in
    (v.0, v.1, v.2, v.3, (v.4, subst Q (sym v.4) (holds w.left)))

-- what holds of the bytes held holds of what was to come, where nothing is left
pub at_end : (Q : List ℕ → Type 0) (held now : List ℕ) (a b : Option Wire) → Moves Same held now a b → IsSpent b → Q now → Moves (λ before after. Same before after × Q before) held now a b
at_end Q held now a b moved spent holds w is =
    let v = moved w is in
    let all : held ++ v.0.left ≡ now = v.4 ∙ ap (λ l. now ++ l) (spent w is) ∙ append-nil now in
    (v.0, v.1, v.2, v.3, (v.4, subst Q (sym all) holds))
