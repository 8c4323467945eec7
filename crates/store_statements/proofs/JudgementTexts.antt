-- The texts on judgements.
use Rattle.std.proofs.Common.{◌≡◌, inl, inr, ℕ, List, [], ◌∷◌, codes, Ok, refl, false}
use Rattle.sqlite_value.specs.declared.value.Value.TheVariants.{Null, Text}
use Rattle.sqlite_value.specs.Order.{Row}
use Rattle.sqlite_sql.specs.Term.{Term, lit, col}
use Rattle.sqlite_schema.specs.declared.command.Command.TheVariants.{Insert, Delete, Select}
use Rattle.sqlite_schema.specs.declared.command.Source.TheVariants.{Values}
use Rattle.sqlite.specs.Listing.{understood, reads_listing}
use Rattle.sqlite.specs.State.{State, ExecutesInside, Shown, IsUnchanged}
use Rattle.sqlite.proofs.Callers.{IsPlain, command_of}
use Rattle.sqlite_tied.specs.Compute.{everything}
use Rattle.sql_rows.specs.Keyed.{KeyKind, IsKeyed, text, number}
use Rattle.sql_rows.specs.Queries.{simple, wheres, shows, sorts}
use Rattle.sql_rows.proofs.Canon.{name_same}
use Rattle.sql_rows.proofs.Reading.{shows_group}
use Rattle.sql_rows.proofs.Writing.{puts_more, drops}
use Rattle.store_statements.specs.Schema.{the_schema, key_index, judgements_table}
use Rattle.store_statements.specs.Stored.{stored, judgements_at}
use Rattle.store_statements.specs.Changes.{IsReady, Makes, DropsJudgements, AddsJudgement, judgement_cells}
use Rattle.store_statements.proofs.StoreLemmas.{made_judgements}
use Rattle.store_statements.specs.declared.judgements.JudgementRow.{JudgementRow}

abbrev kinds : List KeyKind
kinds = text ∷ text ∷ number ∷ []

keyed : IsKeyed the_schema judgements_table kinds
keyed = record {
  listed = inr (inr (inr (inl refl)));
  keyless = refl;
  columns = ((_, refl, (refl, refl, refl)), ((_, refl, (refl, refl, refl)), ((_, refl, (refl, refl, refl)), tt)));
  index = key_index judgements_table;
  indexed = inr (inr (inr (inl refl)));
  guarded = refl;
  order = refl;
  places = refl;
  conflicting = λ new row. refl;
  quiet = λ keys olds news. refl;
}

abbrev page_judgements_text : List ℕ
page_judgements_text = codes "SELECT seq, rule, node, verdict, hand, note, evidence FROM judgements WHERE site = ?1 AND page = ?2 ORDER BY site, page, seq"

page_judgements_is : (site page : List ℕ) → (command_of (understood the_schema page_judgements_text) ≡ Select (record { lets = []; body = simple 6 (wheres 1 0 (site ∷ page ∷ [])) (shows (2 ∷ 3 ∷ 4 ∷ 5 ∷ 6 ∷ 7 ∷ 8 ∷ [])) (sorts 1 kinds) }) (codes "seq" ∷ codes "rule" ∷ codes "node" ∷ codes "verdict" ∷ codes "hand" ∷ codes "note" ∷ codes "evidence" ∷ [])) × (reads_listing the_schema page_judgements_text ≡ false)
unfolding understood everything
page_judgements_is site page = (refl, refl)

page_judgements_plain : IsPlain (understood the_schema page_judgements_text)
unfolding understood everything
page_judgements_plain = (refl, refl)

abbrev drop_judgements_text : List ℕ
drop_judgements_text = codes "DELETE FROM judgements WHERE site = ?1 AND page = ?2"

drop_judgements_is : (site page : List ℕ) → command_of (understood the_schema drop_judgements_text) ≡ Delete 3 (record { lets = []; body = simple 6 (wheres 1 0 (site ∷ page ∷ [])) (col 1 0 ∷ []) [] })
unfolding understood everything
drop_judgements_is site page = refl

drop_judgements_plain : IsPlain (understood the_schema drop_judgements_text)
unfolding understood everything
drop_judgements_plain = (refl, refl)

abbrev add_judgement_text : List ℕ
add_judgement_text = codes "INSERT INTO judgements (site, page, seq, rule, node, verdict, hand, note, evidence) VALUES (?1, ?2, ?3, ?4, ?5, ?6, ?7, ?8, ?9)"

abbrev add_judgement_terms : List Term
add_judgement_terms = lit Null ∷ col 0 0 ∷ col 0 1 ∷ col 0 2 ∷ col 0 3 ∷ col 0 4 ∷ col 0 5 ∷ col 0 6 ∷ col 0 7 ∷ col 0 8 ∷ []

add_judgement_is : command_of (understood the_schema add_judgement_text) ≡ Insert 3 (Values add_judgement_terms 10)
unfolding understood everything
add_judgement_is = refl

add_judgement_plain : IsPlain (understood the_schema add_judgement_text)
unfolding understood everything
add_judgement_plain = (refl, refl)

module _ (old new : State) (ready : IsReady old) where
  pub shows_page_judgements : (site page : List ℕ) → (rows : List Row) → Shown page_judgements_text (Text site ∷ Text page ∷ []) old new rows → (rows ≡ judgements_at site page (stored old.now.trees)) × IsUnchanged old new
  shows_page_judgements site page rows h =
      shows_group the_schema judgements_table kinds keyed old new ready.store page_judgements_text (codes "seq" ∷ codes "rule" ∷ codes "node" ∷ codes "verdict" ∷ codes "hand" ∷ codes "note" ∷ codes "evidence" ∷ []) (Text site ∷ Text page ∷ []) page_judgements_plain (page_judgements_is site page).1 refl rows (site ∷ page ∷ []) (2 ∷ 3 ∷ 4 ∷ 5 ∷ 6 ∷ 7 ∷ 8 ∷ []) tt (refl, (refl, tt)) (refl, (refl, tt)) (page_judgements_is site page).0 h

  pub drops_judgements : (site page : List ℕ) → (count : ℕ) → ExecutesInside 0 drop_judgements_text (Text site ∷ Text page ∷ []) old new (Ok count) → Makes (DropsJudgements site page) old new
  drops_judgements site page count h =
      made_judgements site page _ old new (drops the_schema judgements_table kinds keyed old new ready (site ∷ page ∷ []) (Text site ∷ Text page ∷ []) (refl, (refl, tt)) (refl, (refl, tt)) drop_judgements_text count 3 refl (drop_judgements_is site page) drop_judgements_plain refl h)

  pub adds_judgement : (site page : List ℕ) (row : JudgementRow) (count : ℕ) → ExecutesInside 0 add_judgement_text (judgement_cells site page row) old new (Ok count) → Makes (AddsJudgement site page row) old new
  adds_judgement site page row count h =
      made_judgements site page _ old new (puts_more the_schema judgements_table kinds keyed old new ready (judgement_cells site page row) (site ∷ page ∷ []) (rw (name_same site site refl, name_same page page refl) refl) add_judgement_text (judgement_cells site page row) count 3 10 add_judgement_terms refl add_judgement_is add_judgement_plain refl refl h)
