-- How many judgings a request costs, in the arm of its command and after its change.
use Rattle.std.proofs.Common.{◌≡◌, ℕ, ◌+◌, ◌≤◌, List, Option, Some, sym, subst, ◌∙◌, arith}
use Rattle.snap_edit.specs.declared.edit.Edit.{Edit}
use Rattle.snap_tree.specs.declared.row.Raw.{Raw}
use Rattle.rule_core.specs.Books.{Book}
use Rattle.keep_core.specs.declared.tables.Tables.{Tables}
use Rattle.keep_core.specs.Keeping.{Stays}
use Rattle.desk_core.specs.declared.command.Entry.{Entry}
use Rattle.desk_core.specs.declared.command.Command.{Command}
use Rattle.desk_core.specs.declared.command.Command.TheVariants as command
use Rattle.desk_core.specs.declared.decided.Decided.{Decided}
use Rattle.desk_core.specs.declared.reply.Reply.{Reply}
use Rattle.desk_core.specs.State.{state_of, site_at}
use Rattle.desk_core.specs.Costs.{put_judgings, import_judgings, command_judgings, most_judgings, Costs}
use Rattle.desk_core.specs.Told.{Told}
use Rattle.desk_core.specs.Serving.{Commits}
use Rattle.desk_core.specs.Soundness.{IsSound}
use Rattle.desk_core.proofs.Served.{told_before}

-- a request that judges nothing
pub costs_nothing : (book : Book) (q : Command) (old new : Option Tables) (from : ℕ) → Costs book q old new from from
costs_nothing book q old new from = record { told = λ s t was is sound. omega arith; most = λ s t was is. omega arith; untold = λ not_edit. omega arith }

-- putting a page
pub costs_put : (book : Book) (site page : List ℕ) (rev : ℕ) (raw : Raw) (old new : Option Tables) (from to : ℕ) → to ≤ from + put_judgings book raw
    → Costs book (command.PutPage site page rev raw) old new from to
costs_put book site page rev raw old new from to counted = record { told = λ s t was is sound. counted; most = λ s t was is. counted; untold = λ not_edit. counted }

-- importing pages
pub costs_import : (book : Book) (site : List ℕ) (entries : List Entry) (old new : Option Tables) (from to : ℕ) → to ≤ from + import_judgings book entries
    → Costs book (command.Import site entries) old new from to
costs_import book site entries old new from to counted = record { told = λ s t was is sound. counted; most = λ s t was is. counted; untold = λ not_edit. counted }

-- editing one that is read from tables that stay
pub costs_edit : (book : Book) (site page : List ℕ) (rev : ℕ) (edits : List Edit) (old new : Option Tables) (from to : ℕ) → Stays old new
    → ((t : Tables) → new ≡ Some t → IsSound book t → to ≤ from + command_judgings book (command.EditPage site page rev edits) (site_at site (state_of t)))
    → ((t : Tables) → new ≡ Some t → to ≤ from + most_judgings book (command.EditPage site page rev edits) (site_at site (state_of t)))
    → Costs book (command.EditPage site page rev edits) old new from to
costs_edit book site page rev edits old new from to stays counted most = record {
  told = λ s t was is sound.
      let both : Some s ≡ Some t = sym was ∙ stays t is in
      let same : t ≡ s = cc in
      subst (λ (t : Tables). to ≤ from + command_judgings book (command.EditPage site page rev edits) (site_at site (state_of t))) same
      (counted t is (subst (IsSound book) (sym same) sound));
  most = λ s t was is.
      let both : Some s ≡ Some t = sym was ∙ stays t is in
      let same : t ≡ s = cc in
      subst (λ (t : Tables). to ≤ from + most_judgings book (command.EditPage site page rev edits) (site_at site (state_of t))) same (most t is);
  untold = λ not_edit. absurd (not_edit tt);
}

-- what is made of the tables later costs nothing
pub costs_later : (book : Book) (q : Command) (d : Decided) (old : Option Tables) (mid new : Told) (reply : Reply) (from to : ℕ)
    → Commits d mid new reply → Costs book q old mid.tables from to → Costs book q old new.tables from to
costs_later book q d old mid new reply from to commits costs = record {
  told = λ s t was is. let m = told_before d mid new reply commits t is in costs.told s m.0 was m.1;
  most = λ s t was is. let m = told_before d mid new reply commits t is in costs.most s m.0 was m.1;
  untold = costs.untold;
}
