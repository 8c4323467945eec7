use Rattle.std.proofs.Common.{◌≡◌}
use Rattle.named_rows.specs.ByName.{IsInOrder}
use Rattle.keep_core.specs.Tables.{page_name}
use Rattle.keep_core.specs.Changes.{with_outcomes}
use Rattle.keep_core.proofs.edits.refresh_pages.Given as goal

-- the outcomes so far are given
abbrev pub invariant-loop-one : goal.invariant-loop-one
invariant-loop-one l = (l.pages ≡ with_outcomes l.yielded l.fn.pages) × IsInOrder page_name l.pages
