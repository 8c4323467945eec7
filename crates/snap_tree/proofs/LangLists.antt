-- How the entries before a place grow by one.
use Rattle.std.proofs.Common.{◌≡◌, ℕ, ◌+◌, ◌<◌, ◌≤◌, List, [], ◌∷◌, ◌++◌, length, take, true, false, if◌then◌else◌, Some, None, refl, sym, ◌∙◌, ap, subst, append_assoc, length-append, arith, nat_lt}
use Rattle.std.proofs.Math.Seq.{take-append-add}
use Rattle.std.specs.Cmp.{first_so}
use Rattle.snap_tree.specs.declared.langs.TheConstants.{MOST_LANGS}
use Rattle.snap_tree.specs.Langs.{may_follow, langs_fault_behind}

-- the entries before the next place are those before this one, and the one that stands here
one_more : {A : Type 0} (earlier later list : List A) (x : A) (place : ℕ) → length earlier ≡ place → earlier ++ x ∷ later ≡ list → take (place + 1) list ≡ earlier ++ x ∷ []
one_more earlier later list x place long is = subst (λ n. take (n + 1) list ≡ earlier ++ x ∷ []) long (ap (take (length earlier + 1)) (sym is) ∙ take-append-add earlier (x ∷ later) 1)

-- what is known before a place: so many entries may stand where they stand
pub record IsSoFar (list : List (List ℕ)) (rest : List (List ℕ)) (place : ℕ) : Type 0 where
  pub few : place ≤ MOST_LANGS
  pub parts : take place list ++ rest ≡ list
  pub at : length (take place list) ≡ place
  pub fault : langs_fault_behind (take place list) rest ≡ langs_fault_behind [] list

pub stepped : (list later : List (List ℕ)) (lang : List ℕ) (place : ℕ) → IsSoFar list (lang ∷ later) place → may_follow (take place list) lang ≡ true → IsSoFar list later (place + 1)
stepped list later lang place so may =
    let before = take place list in
    let more = one_more before later list lang place so.at so.parts in
    let few : nat_lt (length before) MOST_LANGS ≡ true = first_so (nat_lt (length before) MOST_LANGS) _ may in
    record {
      few = let less : length before < MOST_LANGS = grind (arith, few) in omega (arith, less, so.at);
      parts = rw (more, append_assoc before (lang ∷ []) later) so.parts;
      at = rw (more, length-append before (lang ∷ []), so.at) refl;
      fault = rw more (ap (λ b. if b then langs_fault_behind (before ++ lang ∷ []) later else Some (length before + 1)) (sym may) ∙ so.fault);
    }

-- an entry that may not stand at its place is the first such
pub found : (list later : List (List ℕ)) (lang : List ℕ) (place : ℕ) → IsSoFar list (lang ∷ later) place → may_follow (take place list) lang ≡ false → langs_fault_behind [] list ≡ Some (place + 1)
found list later lang place so is =
    let before = take place list in
    sym so.fault ∙ ap (λ b. if b then langs_fault_behind (before ++ lang ∷ []) later else Some (length before + 1)) is ∙ ap (λ n. Some (n + 1)) so.at

pub none_found : (list : List (List ℕ)) (place : ℕ) → IsSoFar list [] place → langs_fault_behind [] list ≡ None
none_found list place so = sym so.fault

pub first : (list : List (List ℕ)) → IsSoFar list list 0
first list = record { few = grind arith; parts = refl; at = refl; fault = refl }
