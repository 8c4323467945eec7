-- A site that is shown once what is kept was refreshed, and why it ends so.
use Rattle.std.proofs.Common.{◌≡◌, ℕ, List, Option, Some, None, Result, Ok, Err, length, inl, inr, refl, sym, ap, subst}
use Rattle.counts.proofs.CountLaws.{rose_after}
use Rattle.rule_core.specs.Books.{Book}
use Rattle.keep_core.specs.declared.fault.KeepFault.{KeepFault}
use Rattle.keep_core.specs.declared.fault.KeepFault.TheVariants.{Failed, OutOfMemory}
use Rattle.keep_core.specs.Keeping.{Reads, CountsFaults}
use Rattle.desk_words.specs.declared.command.Showing.{Showing}
use Rattle.audit_run.specs.declared.status.Status.TheVariants.{Done, UsageFault, StoreFault, NoMemory}
use Rattle.audit_run.specs.Status.{status_line}
use Rattle.audit_run.specs.Telling.{output_alone, line_alone}
use Rattle.desk_http.specs.Desk.{Moment}
use Rattle.desk_run.specs.Refreshed.{Refreshed}
use Rattle.desk_run.specs.Show.{shown_in, OnlyRead, ShowCause, ShowsFresh}

module _ (book : Book) (s : Showing) (old new : Moment) where
  -- all books refreshed it
  pub by_all : {A : Type 0} (n : ℕ) (r : Result A KeepFault) → n ≡ length old.calls → Refreshed book n r old new → Refreshed book (length old.calls) r old new
  by_all n r all refreshed = subst (λ k. Refreshed book k r old new) all refreshed

  -- it couldn't be refreshed
  pub ends_early : (fault : KeepFault) → Refreshed {A = Unit {0}} book (length old.calls) (Err fault) old new → ShowsFresh book s old new (Err fault)
  ends_early fault refreshed = record {
    shown = tt;
    refused = inl refreshed;
    failed = λ is. let same : fault ≡ Failed = cc in refreshed.faults.failed (ap (λ (f : KeepFault). let r : Result (Unit {0}) KeepFault = Err f in r) same);
  }

  -- ---- why it ends

  pub ends_done : (output : List ℕ) → ShowsFresh book s old new (Ok (Some output)) → ShowCause book s old new Done (output_alone output)
  ends_done output fresh = (fresh.shown.0, record { output = λ t told. sym (fresh.shown.1 t told); line = refl })

  pub ends_strange : ShowsFresh book s old new (Ok None) → ShowCause book s old new UsageFault (line_alone (status_line UsageFault))
  ends_strange fresh = (fresh.shown.0, record { none = λ t told. sym (fresh.shown.1 t told); writes = refl })

  pub ends_failed : ShowsFresh book s old new (Err Failed) → ShowCause book s old new StoreFault (line_alone (status_line StoreFault))
  ends_failed fresh = (fresh.refused, fresh.failed refl, refl)

  pub ends_unheld : ShowsFresh book s old new (Err OutOfMemory) → ShowCause book s old new NoMemory (line_alone (status_line NoMemory))
  ends_unheld fresh = (fresh.refused, refl)

-- the tables alone were read once it was
module _ (book : Book) (s : Showing) (old begun new : Moment) (refreshed : Refreshed {A = Unit {0}} book (length old.calls) (Ok tt) old begun) where
  only_read : (r : Result (Option (List ℕ)) KeepFault) → Reads (shown_in book s) begun.tables new.tables r → CountsFaults begun.faults new.faults r → new.calls ≡ begun.calls → OnlyRead book old new
  only_read r reads counts same = record { begun = begun; refreshed = refreshed; tables = reads.stays; never_falls = counts.never_falls; calls = same }

  pub shows : (r : Result (Option (List ℕ)) KeepFault) → Reads (shown_in book s) begun.tables new.tables r → CountsFaults begun.faults new.faults r → new.calls ≡ begun.calls → ShowsFresh book s old new r
  shows (Ok output) reads counts same = record { shown = (only_read (Ok output) reads counts same, reads.answers); refused = tt; failed = λ is. cc }
  shows (Err fault) reads counts same = record {
    shown = tt;
    refused = inr (only_read (Err fault) reads counts same);
    failed = λ is. rose_after old.faults begun.faults new.faults refreshed.faults.never_falls (counts.failed is);
  }
