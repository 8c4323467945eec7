-- The words of roles: each is found by its own, and among those of its length already.
use Rattle.std.proofs.Common.{◌≡◌, ℕ, true, false, eqb, List, [], ◌∷◌, length, filter, Some, refl, sym, ap, ◌∙◌}
use denote.Enum.Bare.{sameb, same_true, true_same}
use Rattle.std.proofs.lemmas.Option.{same_Some}
use Rattle.std.proofs.lemmas.Slice.Eq.{bytes_eq-Decides}
use Rattle.std.specs.Cmp.{both_ways}
use Rattle.std.specs.List.{find}
use Rattle.texts.specs.Words.{same_folded}
use Rattle.aria_tables.specs.declared.role.Role.{Role}
use Rattle.aria_tables.specs.declared.role.Role.TheVariants.{Alert}
use Rattle.aria_tables.specs.contracts.role.Role.{the_type}
use Rattle.aria_tables.specs.Roles.{word_of, roles, role_of, same_role}
use Rattle.aria_tables.proofs.Lengths.{find-filter, same_folded-length, filter_nothing, is_length, unknown_length}

pub role_of_word : (role : Role) → role_of (word_of role) ≡ Some role
unfolding role_of roles
role_of_word Alert = refl
role_of_word _ = refl

pub roles_at : (n k : ℕ) → n ≡ k → filter (λ role. eqb (length (word_of role)) k) roles ≡ filter (λ role. eqb (length (word_of role)) n) roles
roles_at n k e = ap (λ m. filter (λ role. eqb (length (word_of role)) m) roles) (sym e)

abbrev pub role_lengths : List ℕ
role_lengths = 3 ∷ 4 ∷ 5 ∷ 6 ∷ 7 ∷ 8 ∷ 9 ∷ 10 ∷ 11 ∷ 12 ∷ 13 ∷ 16 ∷ []

role_length : (role : Role) → is_length role_lengths (length (word_of role)) ≡ true
role_length Alert = refl
role_length _ = refl

pub no_role_at : (n : ℕ) → is_length role_lengths n ≡ false → [] ≡ filter (λ role. eqb (length (word_of role)) n) roles
no_role_at n h = filter_nothing _ (λ role. unknown_length role_lengths n _ (role_length role) h _ refl) roles

pub role_by_length : (text : List ℕ) → find (λ role. same_folded text (word_of role)) (filter (λ role. eqb (length (word_of role)) (length text)) roles) ≡ role_of text
unfolding role_of
role_by_length text = find-filter _ _ (λ role. same_folded-length text (word_of role)) roles

-- roles of one word are one
pub one_word : (a b : Role) → word_of a ≡ word_of b → a ≡ b
one_word a b e = same_Some a b (sym (role_of_word a) ∙ ap role_of e ∙ role_of_word b)

-- the test of `==`
pub same_role-eq : (a b : Role) → sameb the_type a b ≡ same_role a b
unfolding same_role
same_role-eq a b =
    let by_words = bytes_eq-Decides (word_of a) (word_of b) in
    both_ways _ _ (λ t. by_words.1 (ap word_of (same_true the_type tt a b t))) (λ t. true_same the_type a b (one_word a b (by_words.0 t)))
