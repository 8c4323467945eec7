-- The book of forty is local: each atomic rule of it is.
use Rattle.std.proofs.Common.{List, [], ◌∷◌, ◌++◌, refl}
use Rattle.std.specs.List.{AllByRecursion}
use Rattle.rule_core.specs.Books.{Entry, book_of}
use Rattle.rule_core.specs.Local.{IsLocalBook}
use Rattle.rule_sights.specs.Tables.{IsLocalEntry}
use Rattle.rule_sights.proofs.Tables.{table_local}
use Rattle.rule_book.specs.Book.{thirty}
use Rattle.rule_book.specs.Local.{AreLocal, none, ◌then◌, each_local}
use Rattle.rules_more.proofs.Local.{languages_local, delay_local, label_local, image_local, menuitem_local, permitted_local, context_local, decorative_local, presentational_local, label_in_name_local}
use Rattle.book_forty.specs.Book.{further, forty}

further_local : AreLocal further
further_local =
    languages_local
    then delay_local
    then label_local
    then image_local
    then menuitem_local
    then permitted_local
    then context_local
    then decorative_local
    then presentational_local
    then label_in_name_local
    then none

-- two tables of rules that are local, one behind the other
both_local : (entries more : List Entry) → AllByRecursion IsLocalEntry entries → AllByRecursion IsLocalEntry more → AllByRecursion IsLocalEntry (entries ++ more)
both_local [] more all others = others
both_local (e ∷ entries) more all others = (all.0, both_local entries more all.1 others)

pub forty_local : IsLocalBook (book_of forty)
forty_local = table_local forty refl (both_local thirty further each_local.each further_local.each)
