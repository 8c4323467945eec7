-- The texts on members.
use Rattle.std.proofs.Common.{◌≡◌, inl, inr, ℕ, ℤ, List, [], ◌∷◌, codes, Ok, refl, false}
use Rattle.sqlite_value.specs.declared.value.Value.TheVariants.{Null, Int, Text}
use Rattle.sqlite_value.specs.Order.{Row}
use Rattle.sqlite_sql.specs.Term.{Term, lit, col}
use Rattle.sqlite_schema.specs.declared.command.Command.TheVariants.{Insert, Delete, Select}
use Rattle.sqlite_schema.specs.declared.command.Source.TheVariants.{Values}
use Rattle.sqlite.specs.Listing.{understood, reads_listing}
use Rattle.sqlite.specs.State.{State, ExecutesInside, Shown, IsUnchanged}
use Rattle.sqlite.proofs.Callers.{IsPlain, command_of}
use Rattle.sqlite_tied.specs.Compute.{everything}
use Rattle.sql_rows.specs.Keyed.{KeyKind, IsKeyed, text}
use Rattle.sql_rows.specs.Queries.{simple, wheres, shows, sorts}
use Rattle.sql_rows.proofs.Canon.{name_same}
use Rattle.sql_rows.proofs.Reading.{shows_group}
use Rattle.sql_rows.proofs.Writing.{puts_more, drops}
use Rattle.store_statements.specs.Schema.{the_schema, key_index, members_table}
use Rattle.store_statements.specs.Stored.{stored, members_at, memberships_at}
use Rattle.store_statements.specs.Changes.{IsReady, Makes, DropsMembers, AddsMember}
use Rattle.store_statements.proofs.StoreLemmas.{made_members}
use Rattle.store_statements.proofs.SecondNames.{shows_second}

abbrev kinds : List KeyKind
kinds = text ∷ text ∷ []

keyed : IsKeyed the_schema members_table kinds
keyed = record {
  listed = inr (inl refl);
  keyless = refl;
  columns = ((_, refl, (refl, refl, refl)), ((_, refl, (refl, refl, refl)), tt));
  index = key_index members_table;
  indexed = inr (inl refl);
  guarded = refl;
  order = refl;
  places = refl;
  conflicting = λ new row. refl;
  quiet = λ keys olds news. refl;
}

abbrev site_members_text : List ℕ
site_members_text = codes "SELECT user, role FROM members WHERE site = ?1 ORDER BY site, user"

site_members_is : (site : List ℕ) → (command_of (understood the_schema site_members_text) ≡ Select (record { lets = []; body = simple 2 (wheres 1 0 (site ∷ [])) (shows (1 ∷ 2 ∷ [])) (sorts 1 kinds) }) (codes "user" ∷ codes "role" ∷ [])) × (reads_listing the_schema site_members_text ≡ false)
unfolding understood everything
site_members_is site = (refl, refl)

site_members_plain : IsPlain (understood the_schema site_members_text)
unfolding understood everything
site_members_plain = (refl, refl)

abbrev user_sites_text : List ℕ
user_sites_text = codes "SELECT site, role FROM members WHERE user = ?1 ORDER BY site"

user_sites_is : (user : List ℕ) → (command_of (understood the_schema user_sites_text) ≡ Select (record { lets = []; body = simple 2 (wheres 2 0 (user ∷ [])) (shows (0 ∷ 2 ∷ [])) (sorts 1 (text ∷ [])) }) (codes "site" ∷ codes "role" ∷ [])) × (reads_listing the_schema user_sites_text ≡ false)
unfolding understood everything
user_sites_is user = (refl, refl)

user_sites_plain : IsPlain (understood the_schema user_sites_text)
unfolding understood everything
user_sites_plain = (refl, refl)

abbrev drop_members_text : List ℕ
drop_members_text = codes "DELETE FROM members WHERE site = ?1"

drop_members_is : (site : List ℕ) → command_of (understood the_schema drop_members_text) ≡ Delete 1 (record { lets = []; body = simple 2 (wheres 1 0 (site ∷ [])) (col 1 0 ∷ []) [] })
unfolding understood everything
drop_members_is site = refl

drop_members_plain : IsPlain (understood the_schema drop_members_text)
unfolding understood everything
drop_members_plain = (refl, refl)

abbrev add_member_text : List ℕ
add_member_text = codes "INSERT INTO members (site, user, role) VALUES (?1, ?2, ?3)"

abbrev add_member_terms : List Term
add_member_terms = lit Null ∷ col 0 0 ∷ col 0 1 ∷ col 0 2 ∷ []

add_member_is : command_of (understood the_schema add_member_text) ≡ Insert 1 (Values add_member_terms 4)
unfolding understood everything
add_member_is = refl

add_member_plain : IsPlain (understood the_schema add_member_text)
unfolding understood everything
add_member_plain = (refl, refl)

module _ (old new : State) (ready : IsReady old) where
  pub shows_site_members : (site : List ℕ) → (rows : List Row) → Shown site_members_text (Text site ∷ []) old new rows → (rows ≡ members_at site (stored old.now.trees)) × IsUnchanged old new
  shows_site_members site rows h =
      shows_group the_schema members_table kinds keyed old new ready.store site_members_text (codes "user" ∷ codes "role" ∷ []) (Text site ∷ []) site_members_plain (site_members_is site).1 refl rows (site ∷ []) (1 ∷ 2 ∷ []) tt (refl, tt) (refl, tt) (site_members_is site).0 h

  pub shows_user_sites : (user : List ℕ) → (rows : List Row) → Shown user_sites_text (Text user ∷ []) old new rows → (rows ≡ memberships_at user (stored old.now.trees)) × IsUnchanged old new
  shows_user_sites user rows h =
      shows_second the_schema members_table keyed old new ready.store user_sites_text (codes "site" ∷ codes "role" ∷ []) (Text user ∷ []) user_sites_plain (user_sites_is user).1 refl rows user (0 ∷ 2 ∷ []) (refl, tt) (user_sites_is user).0 h

  pub drops_members : (site : List ℕ) → (count : ℕ) → ExecutesInside 0 drop_members_text (Text site ∷ []) old new (Ok count) → Makes (DropsMembers site) old new
  drops_members site count h =
      made_members site _ old new (drops the_schema members_table kinds keyed old new ready (site ∷ []) (Text site ∷ []) (refl, tt) (refl, tt) drop_members_text count 1 refl (drop_members_is site) drop_members_plain refl h)

  pub adds_member : (site user : List ℕ) (role : ℤ) (count : ℕ) → ExecutesInside 0 add_member_text (Text site ∷ Text user ∷ Int role ∷ []) old new (Ok count) → Makes (AddsMember site user role) old new
  adds_member site user role count h =
      made_members site _ old new (puts_more the_schema members_table kinds keyed old new ready (Text site ∷ Text user ∷ Int role ∷ []) (site ∷ []) (rw (name_same site site refl) refl) add_member_text (Text site ∷ Text user ∷ Int role ∷ []) count 1 4 add_member_terms refl add_member_is add_member_plain refl refl h)
