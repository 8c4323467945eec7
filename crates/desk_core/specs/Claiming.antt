-- Claims of another tool: what is decided on them.
use Rattle.std.specs.Prelude.{ℕ, ◌==◌, List, length, not, if◌then◌else◌, Option, Some, None, Ok}
use Rattle.std.specs.Str.{bytes_eq}
use Rattle.rule_core.specs.Books.{Book}
use Rattle.judge_core.specs.declared.judgement.Judgement.{Judgement}
use Rattle.judge_core.specs.Outcomes.{outcomes}
use Rattle.keep_core.specs.declared.change.Change.{Change}
use Rattle.earl_in.specs.declared.claim.Claim.{Claim}
use Rattle.earl_in.specs.declared.taking.Taken.{Taken}
use Rattle.earl_in.specs.Taking.{taken_of}
use Rattle.desk_core.specs.declared.refusal.Refusal.TheVariants as refusal
use Rattle.desk_core.specs.declared.reply.Reply.TheVariants as reply
use Rattle.desk_core.specs.Refusals.{Decision, unless}
use Rattle.desk_core.specs.State.{PageState}
use Rattle.desk_core.specs.Judging.{addition}

-- all that are added go to the end of the page's list at once; where none is, nothing changes
abbrev pub additions : Book → List ℕ → List ℕ → List Judgement → PageState → Option Change
additions book site page more kept = if length more == 0 then None else Some (addition book site page more kept)

abbrev pub added_all : Book → List ℕ → List ℕ → Taken → PageState → Decision
added_all book site page t kept = Ok (record {
  change = additions book site page t.added kept;
  reply = reply.Taken (length t.added) t.known t.skipped;
})

-- what is taken of claims on a page, by its outcomes and its judgements
abbrev pub taken_on : Book → List ℕ → List (Option Claim) → PageState → Taken
taken_on book caller claims kept = taken_of kept.page.tree.address (outcomes book kept.page.tree kept.judgements) kept.judgements caller claims

-- of a page that another sent
abbrev pub take_earl : Book → List ℕ → List ℕ → List ℕ → List (Option Claim) → PageState → Decision
take_earl book site caller page claims kept =
    unless (not (bytes_eq caller kept.page.head.hand)) refusal.SameHand (added_all book site page (taken_on book caller claims kept) kept)
