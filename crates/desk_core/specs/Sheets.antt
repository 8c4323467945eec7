-- A site's pages as they are kept: what is owed on the way to its sheet.
use Rattle.std.specs.Prelude.{◌≡◌, ℕ, List, Some, Result}
use Rattle.rule_core.specs.Books.{Book}
use Rattle.keep_core.specs.declared.tables.Tables.{Tables}
use Rattle.desk_core.specs.declared.command.Command.{Command}
use Rattle.desk_core.specs.declared.command.Command.TheVariants as command
use Rattle.desk_core.specs.declared.refusal.Refusal.{Refusal}
use Rattle.desk_core.specs.declared.reply.Reply.{Reply}
use Rattle.desk_core.specs.declared.reply.Reply.TheVariants as reply
use Rattle.desk_core.specs.declared.reply.Sheet.{Sheet}
use Rattle.desk_core.specs.declared.sheets.SheetForm.{SheetForm}
use Rattle.desk_core.specs.declared.sheets.SheetForm.TheVariants as form
use Rattle.desk_core.specs.State.{state_of, site_at}
use Rattle.desk_core.specs.Steps.{read_site}
use Rattle.desk_core.specs.Reading.{sheet}
use Rattle.desk_core.specs.Soundness.{IsSound}
use Rattle.desk_core.specs.Told.{Told}
use Rattle.desk_core.specs.Serving.{OnlyReads, Shows}

-- the command that asks for a sheet, and the reply that has it
abbrev pub sheet_asked : SheetForm → List ℕ → Command
sheet_asked form.Report site = command.SiteReport site
sheet_asked form.Earl site = command.SiteEarl site
sheet_asked form.Csv site = command.SiteCsv site

abbrev pub sheet_reply : SheetForm → Sheet → Reply
sheet_reply form.Report shown = reply.SiteReport shown
sheet_reply form.Earl shown = reply.SiteEarl shown
sheet_reply form.Csv shown = reply.SiteCsv shown

-- a site's sheet is read, by any member
pub record ReadsSheet (book : Book) (caller site : List ℕ) (old new : Told) (result : Result Sheet Refusal) : Type 0 where
  pub reads : OnlyReads old new result
  pub shows :
      (t : Tables) → new.tables ≡ Some t → IsSound book t
      → Shows (λ reply. read_site caller (site_at site (state_of t)) (λ s. reply (sheet book site s))) result
