-- What the text on a user's memberships shows of tables that are told: of each site in order, the user's row among those of its members.
use Rattle.std.proofs.Common.{◌≡◌, ℕ, List, [], ◌∷◌, map, filter, get_or, Bool, true, false, ◌&&◌, cond, Option, Some, None, option_map, is_some, IfSome, refl, sym, ap, ap₂, ◌∙◌, All}
use Rattle.std.specs.declared.cmp.Ordering.{Ordering}
use Rattle.std.specs.declared.cmp.Ordering.TheVariants.{Less, Equal, Greater}
use Rattle.std.specs.Ordering.{match_ordering, is_eq, ordering_reverse}
use Rattle.std.specs.List.{find, filter_map, cons_option}
use Rattle.std.specs.Str.{bytes_eq}
use Rattle.std.proofs.lemmas.List.Elements.{All-cons, All-nil, All-head, All-tail}
use Rattle.std.proofs.lemmas.Map.Text.{is_eq-slice_cmp}
use Rattle.sqlite_value.specs.Order.{Row, column}
use Rattle.sqlite_rules.specs.Lists.{Has}
use Rattle.named_rows.specs.ByName.{names_cmp, at, IsInOrder}
use Rattle.named_rows.proofs.Names.{same_name as same_name_is, turned, below_chain}
use Rattle.named_rows.proofs.Lookups.{not_reached, here, later, at_named}
use Rattle.named_rows.proofs.Order.{IsBelow, in_order_cons, in_order_first, in_order_rest, in_order_none, none_below, at_each}
use Rattle.sql_rows.specs.Tables.{name_at, same_name, leads}
use Rattle.sql_rows.proofs.Canon.{is_named, last_or, at_in_order, is_in_order, same_rows}
use Rattle.sql_rows.proofs.Raw.{alike, twice}
use Rattle.sql_rows.proofs.Sorting.{all_had}
use Rattle.keep_core.specs.declared.member.Member.{Member}
use Rattle.keep_core.specs.declared.member.MemberRole.{MemberRole}
use Rattle.keep_core.specs.declared.member.Membership.{Membership}
use Rattle.keep_core.specs.declared.tables.KeptSite.{KeptSite}
use Rattle.keep_core.specs.declared.tables.Tables.{Tables}
use Rattle.keep_core.specs.Members.{role_of, held_in, membership}
use Rattle.keep_core.specs.Tables.{site_name}
use Rattle.keep_core.specs.Tables as keep
use Rattle.store_statements.specs.Stored.{Stored, sites_in, members_of, members_at, memberships_of, memberships_at}
use Rattle.store_tables.specs.Reading.{◌>>=◌, read_each, read_found}
use Rattle.store_tables.specs.Cells.{named, role_in}
use Rattle.store_tables.specs.Members.{member_from, membership_from, memberships_shown}
use Rattle.store_tables.specs.Told.{of_site, read_site, sites_told, tables_in}
use Rattle.store_tables.proofs.Steps.{some_same, none_some, both_read, found_reads}
use Rattle.store_tables.proofs.Each.{all_read, reads_at, reads_in_order}
use Rattle.store_tables.proofs.Named.{named_same, site_reads, site_row_named}
use Rattle.store_tables.proofs.Housing.{told_parts, none_of_site, sites_in_order}
use Rattle.store_tables.proofs.Siting.{site_parts, shown_member}
use Rattle.store_tables.proofs.Telling.{read_row, row_named, told_site}
use Rattle.store_tables.proofs.TablesTold.{table_parts}

-- ---- items in order, and what some of them give

module _ {X Y : Type 0} (name : X → List ℕ) (called : Y → List ℕ) (give : X → Option Y) (same : (x : X) (y : Y) → give x ≡ Some y → called y ≡ name x) where
  above : (x : X) (y : Y) → called y ≡ name x → (xs : List X) → All (IsBelow name x) xs → All (IsBelow called y) (filter_map give xs)
  above x y e [] all = All-nil (IsBelow called y)
  above x y e (z ∷ zs) all = by (give z) refl (above x y e zs (All-tail (IsBelow name x) z zs all))
    where
      by : (g : Option Y) → give z ≡ g → All (IsBelow called y) (filter_map give zs) → All (IsBelow called y) (cons_option g (filter_map give zs))
      by None is below = below
      by (Some w) is below = All-cons (IsBelow called y) w (filter_map give zs) (ap₂ names_cmp e (same z w is) ∙ All-head (IsBelow name x) z zs all) below

  gives_in_order : (xs : List X) → IsInOrder name xs → IsInOrder called (filter_map give xs)
  gives_in_order [] up = in_order_none called
  gives_in_order (x ∷ xs) up = by (give x) refl (gives_in_order xs (in_order_rest name x xs up))
    where
      by : (g : Option Y) → give x ≡ g → IsInOrder called (filter_map give xs) → IsInOrder called (cons_option g (filter_map give xs))
      by None is below = below
      by (Some y) is below = in_order_cons called y (filter_map give xs) (above x y (same x y is) xs (in_order_first name x xs up)) below

-- no item behind the first has a name below its own, nor its own
none_behind : {X : Type 0} (name : X → List ℕ) (n : List ℕ) (x : X) (xs : List X) (o : Ordering) → names_cmp n (name x) ≡ o → (o ≡ Greater → ⊥) → IsInOrder name (x ∷ xs) → at name n xs ≡ None
none_behind name n x xs Less is under up = none_below name n xs (λ k d within. below_chain n (name x) (name (get_or xs k d)) is (in_order_first name x xs up k d within))
none_behind name n x xs Equal is under up = none_below name n xs (λ k d within. ap (λ m. names_cmp m (name (get_or xs k d))) (same_name_is n (name x) is) ∙ in_order_first name x xs up k d within)
none_behind name n x xs Greater is under up = absurd (under refl)

module _ {X Y : Type 0} (name : X → List ℕ) (called : Y → List ℕ) (give : X → Option Y) (same : (x : X) (y : Y) → give x ≡ Some y → called y ≡ name x) where
  -- what is found by a name is what the item of that name gives
  gives_at : (n : List ℕ) (xs : List X) → IsInOrder name xs → at called n (filter_map give xs) ≡ (at name n xs >>= give)
  gives_at n [] up = refl
  gives_at n (x ∷ xs) up = by (give x) refl (names_cmp n (name x)) refl (gives_at n xs (in_order_rest name x xs up))
    where
      by : (g : Option Y) → give x ≡ g → (o : Ordering) → names_cmp n (name x) ≡ o → at called n (filter_map give xs) ≡ (at name n xs >>= give)
          → at called n (cons_option g (filter_map give xs)) ≡ (match_ordering o None (Some x) (at name n xs) >>= give)
      by (Some y) is Less cmp below = not_reached called n y (filter_map give xs) (ap (names_cmp n) (same x y is) ∙ cmp)
      by (Some y) is Equal cmp below = here called n y (filter_map give xs) (ap (names_cmp n) (same x y is) ∙ cmp) ∙ sym is
      by (Some y) is Greater cmp below = later called n y (filter_map give xs) (ap (names_cmp n) (same x y is) ∙ cmp) ∙ below
      by None is Less cmp below = below ∙ ap (λ o. o >>= give) (none_behind name n x xs Less cmp (λ no. cc) up)
      by None is Equal cmp below = below ∙ ap (λ o. o >>= give) (none_behind name n x xs Equal cmp (λ no. cc) up) ∙ sym is
      by None is Greater cmp below = below

-- the first item of a name, of items in order, is what is found by it
first_named : {X : Type 0} (name : X → List ℕ) (n : List ℕ) (xs : List X) → IsInOrder name xs → find (λ x. bytes_eq (name x) n) xs ≡ at name n xs
first_named name n [] up = refl
first_named {X} name n (x ∷ xs) up = by (names_cmp n (name x)) refl (first_named name n xs (in_order_rest name x xs up))
  where
    tells : (o : Ordering) → names_cmp n (name x) ≡ o → bytes_eq (name x) n ≡ is_eq (ordering_reverse o)
    tells o is = sym (is_eq-slice_cmp (name x) n) ∙ ap is_eq (turned n (name x) o is)

    by : (o : Ordering) → names_cmp n (name x) ≡ o → find (λ y. bytes_eq (name y) n) xs ≡ at name n xs
        → cond (bytes_eq (name x) n) (Some x) (find (λ y. bytes_eq (name y) n) xs) ≡ match_ordering o None (Some x) (at name n xs)
    by Less is below = ap (λ b. cond b (Some x) (find (λ y. bytes_eq (name y) n) xs)) (tells Less is) ∙ below ∙ none_behind name n x xs Less is (λ no. cc) up
    by Equal is below = ap (λ b. cond b (Some x) (find (λ y. bytes_eq (name y) n) xs)) (tells Equal is)
    by Greater is below = ap (λ b. cond b (Some x) (find (λ y. bytes_eq (name y) n) xs)) (tells Greater is) ∙ below

-- ---- the parts that a member and a membership are read from

read_map : {X : Type 0} (read : Row → Option X) (shown : Row → Row) (rs : List Row) → read_each read (map shown rs) ≡ read_each (λ r. read (shown r)) rs
read_map read shown [] = refl
read_map {X} read shown (r ∷ rs) = ap (λ (rest : Option (List X)). read (shown r) >>= (λ first. rest >>= (λ more. Some (first ∷ more)))) (read_map read shown rs)

member_parts : (c : Row) (m : Member) → member_from c ≡ Some m → (m.user ≡ name_at 0 c) × (role_in (column c 1) ≡ Some m.role)
unfolding member_from
member_parts c m is =
    let a = both_read {B = Member} (named (name_at 0 c)) (λ user. role_in (column c 1) >>= (λ role. Some (record { user = user; role = role }))) m is in
    let b = both_read {B = Member} (role_in (column c 1)) (λ role. Some (record { user = a.0; role = role })) m a.2 in
    let same : record { user = a.0; role = b.0 } ≡ m = some_same {A = Member} (record { user = a.0; role = b.0 }) m b.2 in
    (ap (λ (k : Member). k.user) (sym same) ∙ named_same (name_at 0 c) a.0 a.1, b.1 ∙ ap (λ (k : Member). Some k.role) same)

membership_named : (c : Row) (m : Membership) → membership_from c ≡ Some m → m.site ≡ name_at 0 c
unfolding membership_from
membership_named c m is =
    let a = both_read {B = Membership} (named (name_at 0 c)) (λ site. role_in (column c 1) >>= (λ role. Some (record { site = site; role = role }))) m is in
    let b = both_read {B = Membership} (role_in (column c 1)) (λ role. Some (record { site = a.0; role = role })) m a.2 in
    let same : record { site = a.0; role = b.0 } ≡ m = some_same {A = Membership} (record { site = a.0; role = b.0 }) m b.2 in
    ap (λ (k : Membership). k.site) (sym same) ∙ named_same (name_at 0 c) a.0 a.1

membership_read : (c : Row) (site : List ℕ) (role : MemberRole) → named (name_at 0 c) ≡ Some site → role_in (column c 1) ≡ Some role → membership_from c ≡ Some (record { site = site; role = role })
unfolding membership_from
membership_read c site role site_is role_is = rw (site_is, role_is) refl

held_named : (name : List ℕ) (held : Option MemberRole) (m : Membership) → held_in name held ≡ Some m → m.site ≡ name
held_named name None m is = absurd (none_some m is)
held_named name (Some role) m is = ap (λ (k : Membership). k.site) (sym (some_same {A = Membership} (record { site = name; role = role }) m is))

both_ways : (a b : Bool) → ((a && true) && b) ≡ ((b && true) && a)
both_ways true true = refl
both_ways true false = refl
both_ways false true = refl
both_ways false false = refl

abbrev shown_membership : Row → Row
shown_membership r = column r 0 ∷ column r 2 ∷ []

abbrev user_of : Member → List ℕ
user_of m = m.user

module _ (s : Stored) (t : Tables) (told : tables_in s ≡ Some t) (user : List ℕ) where
  sites : sites_told s ≡ Some t.sites
  sites = (table_parts s t told).1

  abbrev rows : List Row
  rows = memberships_of user s

  abbrev read : Row → Option Membership
  read r = membership_from (shown_membership r)

  abbrev give : KeptSite → Option Membership
  give k = membership user k.site

  -- the user's row of a site is the site's row of the user
  row_same : (n : List ℕ) → at (name_at 0) n rows ≡ at (name_at 1) user (members_of n s)
  row_same n =
      at_in_order (name_at 0) n (filter (leads 1 (user ∷ [])) s.members)
      ∙ ap (last_or None) (twice (is_named (name_at 0) n) (leads 1 (user ∷ [])) s.members
      ∙ alike (λ r. leads 1 (user ∷ []) r && is_named (name_at 0) n r) (λ r. leads 0 (n ∷ []) r && is_named (name_at 1) user r) s.members (λ r _. both_ways (same_name user (name_at 1 r)) (same_name n (name_at 0 r)))
      ∙ sym (twice (is_named (name_at 1) user) (leads 0 (n ∷ [])) s.members))
      ∙ sym (at_in_order (name_at 1) user (filter (leads 0 (n ∷ [])) s.members))

  module _ (n : List ℕ) (k : KeptSite) (site_is : named n ≡ Some (site_name k)) (members : read_each member_from (members_at n s) ≡ Some k.site.members) where
    abbrev read_member : Row → Option Member
    read_member r = member_from (shown_member r)

    abbrev of_user : Option Member
    of_user = at user_of user k.site.members

    each_member : read_each read_member (members_of n s) ≡ Some k.site.members
    each_member = sym (read_map member_from shown_member (members_of n s)) ∙ members

    member_named : (r : Row) (m : Member) → read_member r ≡ Some m → user_of m ≡ name_at 1 r
    member_named r m is = (member_parts (shown_member r) m is).0

    members_up : IsInOrder user_of k.site.members
    members_up = reads_in_order read_member (name_at 1) user_of member_named (members_of n s) k.site.members (is_in_order (name_at 1) (filter (leads 0 (n ∷ [])) s.members)) each_member

    gives_role : give k ≡ held_in (site_name k) (option_map (λ m. m.role) of_user)
    gives_role = ap (λ o. held_in (site_name k) (option_map (λ m. m.role) o)) (first_named user_of user k.site.members members_up)

    -- a kept site's row of the user is read as what the site gives
    site_gives : read_found read (at (name_at 0) n rows) ≡ Some (give k)
    site_gives =
        by (at (name_at 0) n rows) (at_named (name_at 0) n rows)
        (ap (read_found read_member) (row_same n) ∙ reads_at read_member (name_at 1) user_of member_named (members_of n s) k.site.members each_member user)
        ∙ ap Some (sym gives_role)
      where
        by : (o : Option Row) → IfSome o (λ r. name_at 0 r ≡ n) → read_found read_member o ≡ Some of_user → read_found read o ≡ Some (held_in (site_name k) (option_map (λ m. m.role) of_user))
        by None here is = ap (λ (m : Option Member). Some (held_in (site_name k) (option_map (λ m. m.role) m))) (some_same None of_user is)
        by (Some r) here is =
            let f = found_reads (read_member r) of_user is in
            ap (option_map Some) (membership_read (shown_membership r) (site_name k) f.0.role (ap named here ∙ site_is) (member_parts (shown_member r) f.0 f.1).1)
            ∙ ap (λ (m : Option Member). Some (held_in (site_name k) (option_map (λ m. m.role) m))) (sym f.2)

  reads_in : (n : List ℕ) → read_found read (at (name_at 0) n rows) ≡ Some (at site_name n t.sites >>= give)
  reads_in n = by (at (name_at 0) n (sites_in s)) refl (at_named (name_at 0) n (sites_in s)) (told_site s t.sites sites n).reads
    where
      by : (o : Option Row) → at (name_at 0) n (sites_in s) ≡ o → IfSome o (λ r. name_at 0 r ≡ n) → read_found (read_site (of_site n s)) o ≡ Some (at site_name n t.sites)
          → read_found read (at (name_at 0) n rows) ≡ Some (at site_name n t.sites >>= give)
      by None none here is =
          ap (read_found read) (row_same n ∙ ap (at (name_at 1) user) (none_of_site s s.members (told_parts s t.sites sites).members n (ap is_some none)))
          ∙ ap (λ (k : Option KeptSite). Some (k >>= give)) (some_same None (at site_name n t.sites) is)
      by (Some r) there here is =
          let f = found_reads (read_site (of_site n s) r) (at site_name n t.sites) is in
          let parts = site_parts (name_at 0 r) (column r 1) (members_at n s) (of_site n s).languages f.0.site (site_reads (of_site n s) r f.0 f.1).site in
          site_gives n f.0 (ap named (sym here) ∙ site_row_named (of_site n s) r f.0 f.1) parts.1 ∙ ap (λ (k : Option KeptSite). Some (k >>= give)) (sym f.2)

  sites_up : IsInOrder site_name t.sites
  sites_up = reads_in_order (read_row s) (name_at 0) site_name (row_named s) (sites_in s) t.sites (sites_in_order s) (told_parts s t.sites sites).reads

  rows_up : IsInOrder (name_at 0) rows
  rows_up = is_in_order (name_at 0) (filter (leads 1 (user ∷ [])) s.members)

  row_reads : (r : Row) → Has rows r → (m : Membership) × (read r ≡ Some m)
  row_reads r there =
      let at_its_name = all_had (λ c. at (name_at 0) (name_at 0 c) rows ≡ Some c) rows r (at_each (name_at 0) rows rows_up) there in
      let f = found_reads (read r) (at site_name (name_at 0 r) t.sites >>= give) (ap (read_found read) (sym at_its_name) ∙ reads_in (name_at 0 r)) in
      (f.0, f.1)

  read_named : (r : Row) (m : Membership) → read r ≡ Some m → m.site ≡ name_at 0 r
  read_named r m is = membership_named (shown_membership r) m is

  give_named : (k : KeptSite) (m : Membership) → give k ≡ Some m → m.site ≡ site_name k
  give_named k m is = held_named (site_name k) (role_of user k.site.members) m is

  pub memberships_told : memberships_shown (memberships_at user s) ≡ Some (keep.memberships_of user t)
  memberships_told =
      let all = all_read read rows row_reads in
      read_map membership_from shown_membership rows ∙ all.1
      ∙ ap Some (same_rows (λ (m : Membership). m.site) all.0 (filter_map give t.sites) (reads_in_order read (name_at 0) (λ m. m.site) read_named rows all.0 rows_up all.1)
      (gives_in_order site_name (λ m. m.site) give give_named t.sites sites_up)
      (λ n. some_same (at (λ m. m.site) n all.0) (at site_name n t.sites >>= give) (sym (reads_at read (name_at 0) (λ m. m.site) read_named rows all.0 all.1 n) ∙ reads_in n) ∙ sym (gives_at site_name (λ m. m.site) give give_named n t.sites sites_up)))
