-- A site has an owner still where an owner sets the role of another.
use Rattle.std.proofs.Common.{◌≡◌, ℕ, List, [], ◌∷◌, Bool, true, false, not, ◌||◌, Option, Some, None, option_map, if◌then◌else◌, refl, sym, ap, ◌∙◌}
use Rattle.std.specs.declared.cmp.Ordering.{Ordering}
use Rattle.std.specs.declared.cmp.Ordering.TheVariants.{Less, Equal, Greater}
use Rattle.std.specs.Ordering.{match_ordering}
use Rattle.std.specs.List.{find}
use Rattle.std.specs.Str.{bytes_eq}
use Rattle.named_rows.specs.ByName.{names_cmp, put_row, take_row}
use Rattle.named_rows.proofs.Names.{same_name}
use Rattle.keep_core.specs.declared.member.Member.{Member}
use Rattle.keep_core.specs.declared.member.MemberRole.{MemberRole}
use Rattle.desk_core.specs.declared.refusal.Needed.TheVariants as needed
use Rattle.desk_core.specs.Rights.{role_of, is_owner, may}
use Rattle.desk_core.specs.Members.{user_of, members_with}
use Rattle.desk_core.specs.Soundness.{has_owner}

or_first : (a b : Bool) → a ≡ true → (a || b) ≡ true
or_first a b is = ap (λ c. c || b) is

or_second : (a b : Bool) → b ≡ true → (a || b) ≡ true
or_second true b is = refl
or_second false b is = is

-- the user owns
abbrev pub Owns : List ℕ → List Member → Type 0
Owns user members = may needed.Owner (role_of user members) ≡ true

module _ (user : List ℕ) where
  -- the user's row stands first, or the user owns by the rest
  first_owns : (m : Member) (ms : List Member) (b : Bool) → bytes_eq m.user user ≡ b → Owns user (m ∷ ms) → (P : Type 0)
      → (bytes_eq m.user user ≡ true → is_owner m.role ≡ true → P) → (Owns user ms → P) → P
  first_owns m ms true is owns P here later =
      here is (ap (λ b. may needed.Owner (option_map (λ (m : Member). m.role) (if b then Some m else find (λ (m : Member). bytes_eq m.user user) ms))) (sym is) ∙ owns)
  first_owns m ms false is owns P here later =
      later (ap (λ b. may needed.Owner (option_map (λ (m : Member). m.role) (if b then Some m else find (λ (m : Member). bytes_eq m.user user) ms))) (sym is) ∙ owns)

  pub owner_there : (members : List Member) → Owns user members → has_owner members ≡ true
  owner_there [] owns = owns
  owner_there (m ∷ ms) owns =
      first_owns m ms (bytes_eq m.user user) refl owns (has_owner (m ∷ ms) ≡ true)
      (λ _ owner. or_first (is_owner m.role) (has_owner ms) owner) (λ rest. or_second (is_owner m.role) (has_owner ms) (owner_there ms rest))

  module _ (other : List ℕ) (apart : not (bytes_eq other user) ≡ true) where
    -- the user's row isn't the other's
    not_same : (m : Member) → bytes_eq m.user user ≡ true → other ≡ m.user → ⊥
    not_same m is same =
        let yes : bytes_eq other user ≡ true = ap (λ n. bytes_eq n user) same ∙ is in
        let no : false ≡ true = ap not (sym yes) ∙ apart in
        cc

    put_by : (row m : Member) (ms : List Member) (o : Ordering) → row.user ≡ other → names_cmp row.user m.user ≡ o → Owns user (m ∷ ms) → (Owns user ms → has_owner (put_row user_of row ms) ≡ true)
        → has_owner (match_ordering o (row ∷ m ∷ ms) (row ∷ ms) (m ∷ put_row user_of row ms)) ≡ true
    put_by row m ms Less named is owns below = or_second (is_owner row.role) (has_owner (m ∷ ms)) (owner_there (m ∷ ms) owns)
    put_by row m ms Equal named is owns below =
        or_second (is_owner row.role) (has_owner ms)
        (first_owns m ms (bytes_eq m.user user) refl owns (has_owner ms ≡ true) (λ its _. absurd (not_same m its (sym named ∙ same_name row.user m.user is))) (owner_there ms))
    put_by row m ms Greater named is owns below =
        first_owns m ms (bytes_eq m.user user) refl owns (has_owner (m ∷ put_row user_of row ms) ≡ true)
        (λ _ owner. or_first (is_owner m.role) (has_owner (put_row user_of row ms)) owner) (λ rest. or_second (is_owner m.role) (has_owner (put_row user_of row ms)) (below rest))

    owner_put : (row : Member) (members : List Member) → row.user ≡ other → Owns user members → has_owner (put_row user_of row members) ≡ true
    owner_put row [] named owns = let no : false ≡ true = owns in cc
    owner_put row (m ∷ ms) named owns = put_by row m ms (names_cmp row.user m.user) named refl owns (owner_put row ms named)

    take_by : (m : Member) (ms : List Member) (o : Ordering) → names_cmp other m.user ≡ o → Owns user (m ∷ ms) → (Owns user ms → has_owner (take_row user_of other ms) ≡ true)
        → has_owner (match_ordering o (m ∷ ms) ms (m ∷ take_row user_of other ms)) ≡ true
    take_by m ms Less is owns below = owner_there (m ∷ ms) owns
    take_by m ms Equal is owns below =
        first_owns m ms (bytes_eq m.user user) refl owns (has_owner ms ≡ true) (λ its _. absurd (not_same m its (same_name other m.user is))) (owner_there ms)
    take_by m ms Greater is owns below =
        first_owns m ms (bytes_eq m.user user) refl owns (has_owner (m ∷ take_row user_of other ms) ≡ true)
        (λ _ owner. or_first (is_owner m.role) (has_owner (take_row user_of other ms)) owner) (λ rest. or_second (is_owner m.role) (has_owner (take_row user_of other ms)) (below rest))

    owner_take : (members : List Member) → Owns user members → has_owner (take_row user_of other members) ≡ true
    owner_take [] owns = owns
    owner_take (m ∷ ms) owns = take_by m ms (names_cmp other m.user) refl owns (owner_take ms)

    pub owner_stays : (held : Option MemberRole) (members : List Member) → Owns user members → has_owner (members_with other held members) ≡ true
    owner_stays None members owns = owner_take members owns
    owner_stays (Some held) members owns = owner_put _ members refl owns
