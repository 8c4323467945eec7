-- The law of locality of a book that is a table of its rules.
use Rattle.std.specs.Prelude.{◌≡◌, List, true, IsTrue}
use Rattle.std.specs.List.{AllByRecursion}
use Rattle.rule_core.specs.Books.{Entry, infos_of, book_of}
use Rattle.rule_core.specs.Infos.{is_atomic, is_orderly}
use Rattle.rule_core.specs.Local.{IsLocal, IsLocalBook}

-- an atomic rule is local
abbrev pub IsLocalEntry : Entry → Type 0
IsLocalEntry e = is_atomic e.info ≡ true → IsLocal e.info e.says

-- where the infos are orderly and each atomic rule is local, so is the book of the table
abbrev pub IsLocalTable : List Entry → Type 0
IsLocalTable entries = IsTrue (is_orderly (infos_of entries)) → AllByRecursion IsLocalEntry entries → IsLocalBook (book_of entries)
