-- A reason's word is read as that reason, and no other text is.
use Rattle.std.proofs.Common.{◌≡◌, ℕ, Bool, true, false, cond, List, [], ◌∷◌, Option, Some, refl, sym, ap, ◌∙◌}
use Rattle.std.specs.List.{find}
use Rattle.std.specs.Str.{bytes_eq}
use Rattle.std.proofs.lemmas.Slice.Eq.{bytes_eq-Decides}
use Rattle.rule_core.specs.declared.reason.Reason.{Reason}
use Rattle.rule_core.specs.declared.reason.Reason.TheVariants.{Met}
use Rattle.rule_core.specs.declared.reason.TheConstants.{REASONS}
use Rattle.rule_core.specs.Words.{word_of, reason_of}

pub read_back : (reason : Reason) → reason_of (word_of reason) ≡ Some reason
read_back Met = refl
read_back other = refl

-- what is found passes the test
found_at : {X : Type 0} (test : X → Bool) (x : X) (passes : Bool) (later : Option X) (y : X) → test x ≡ passes → (later ≡ Some y → test y ≡ true) → cond passes (Some x) later ≡ Some y → test y ≡ true
found_at test x true later y here next e = let same : x ≡ y = cc in ap test (sym same) ∙ here
found_at test x false later y here next e = next e

found : {X : Type 0} (test : X → Bool) (xs : List X) (y : X) → find test xs ≡ Some y → test y ≡ true
found test [] y e = absurd cc
found test (x ∷ xs) y e = found_at test x (test x) (find test xs) y refl (found test xs y) e

pub known : (word : List ℕ) (reason : Reason) → reason_of word ≡ Some reason → word ≡ word_of reason
known word reason e =
    sym ((bytes_eq-Decides (word_of reason) word).0 (found (λ r. bytes_eq (word_of r) word) REASONS reason e))

pub differ : (one other : Reason) → word_of one ≡ word_of other → one ≡ other
differ one other e =
    let both : Some one ≡ Some other = sym (read_back one) ∙ ap reason_of e ∙ read_back other in cc
