-- The book of all rules is local: each atomic rule of it is.
use Rattle.std.proofs.Common.{List, [], ◌∷◌, refl}
use Rattle.std.specs.List.{AllByRecursion}
use Rattle.rule_core.specs.Books.{Entry, book_of}
use Rattle.rule_core.specs.Local.{IsLocal, IsLocalBook}
use Rattle.rule_sights.specs.Tables.{IsLocalEntry}
use Rattle.rule_sights.proofs.Tables.{table_local}
use Rattle.rules_page.proofs.Local.{title_local, descriptive_local as title_descriptive_local, language_local, known_local, parts_local, viewport_local, delay_local}
use Rattle.rules_bypass.proofs.Local.{heading_local as heading_to_start_local, landmark_local, skip_link_local, collapse_local}
use Rattle.rules_names.proofs.Local.{button_local, link_local, image_local, image_button_local, form_field_local, iframe_local, heading_local, svg_image_local, descriptive_local}
use Rattle.rules_aria.proofs.Local.{autocomplete_local, role_local, attribute_local, value_local, states_local, owned_local, hidden_local}
use Rattle.rules_tables.proofs.Local.{references_local, headers_local}
use Rattle.rule_book.specs.Book.{thirty}

-- a table whose atomic rules are local: none, or a rule that is local, and then such a table
pub record AreLocal (entries : List Entry) : Type 0 where
  pub each : AllByRecursion IsLocalEntry entries

pub none : AreLocal []
none = record { each = tt }

infixr 5 ◌then◌
pub ◌then◌ : {e : Entry} {later : List Entry} → IsLocal e.info e.says → AreLocal later → AreLocal (e ∷ later)
◌then◌ local others = record { each = (λ is. local, others.each) }

pub each_local : AreLocal thirty
each_local =
    title_local
    then title_descriptive_local
    then language_local
    then known_local
    then parts_local
    then viewport_local
    then delay_local
    then button_local
    then link_local
    then image_local
    then image_button_local
    then form_field_local
    then iframe_local
    then heading_local
    then svg_image_local
    then descriptive_local
    then autocomplete_local
    then role_local
    then attribute_local
    then value_local
    then states_local
    then owned_local
    then hidden_local
    then references_local
    then headers_local
    then heading_to_start_local
    then landmark_local
    then skip_link_local
    then collapse_local
    then (λ old new n versions k. refl)
    then none

pub thirty_local : IsLocalBook (book_of thirty)
thirty_local = table_local thirty refl each_local.each
