-- What taking claims on a page comes to: each entry is skipped, known, or added as a judgement.
use Rattle.std.specs.Prelude.{ℕ, ◌+◌, List, [], ◌∷◌, ◌++◌, bytes_eq, Bool, ◌&&◌, if◌then◌else◌, Option, Some, None, option_and_then, map}
use Rattle.std.specs.List.{list_any, fold}
use Rattle.rule_core.specs.Brief.{digest}
use Rattle.judge_core.specs.declared.judgement.Judgement.{Judgement}
use Rattle.judge_core.specs.declared.outcomes.OutRow.{OutRow}
use Rattle.judge_core.specs.Composites.{is_open}
use Rattle.judge_core.specs.Equality.{same_judgement}
use Rattle.judge_core.specs.RowLookups.{row_at}
use Rattle.earl_in.specs.declared.claim.Claim.{Claim}
use Rattle.earl_in.specs.declared.taking.Taken.{Taken}

-- the judgement of a row that a claim is by this hand: of an open row, whose evidence the person saw
abbrev pub judged : List ℕ → Claim → OutRow → Option Judgement
judged hand c row =
    if is_open row.auto && bytes_eq c.digest (digest row.evidence)
    then Some (record { rule = c.rule; node = c.node; verdict = c.verdict; hand = hand; note = c.note; evidence = row.evidence })
    else None

-- the judgement that an entry is, on the page at this address with these outcomes; none where the entry is skipped
abbrev pub judgement_of : List ℕ → List OutRow → List ℕ → Option Claim → Option Judgement
judgement_of address rows hand None = None
judgement_of address rows hand (Some c) =
    if bytes_eq c.subject address then option_and_then (judged hand c) (row_at c.rule c.node rows) else None

-- the same judgement is in the list
abbrev pub stands : Judgement → List Judgement → Bool
stands j js = list_any (same_judgement j) js

-- one entry more, of which the page had these judgements before: skipped, known, or added at the end
abbrev pub with_entry : List Judgement → Taken → Option Judgement → Taken
with_entry js taken None = record taken { skipped = taken.skipped + 1 }
with_entry js taken (Some j) =
    if stands j (js ++ taken.added) then record taken { known = taken.known + 1 } else record taken { added = taken.added ++ j ∷ [] }

abbrev pub nothing : Taken
nothing = record { added = []; known = 0; skipped = 0 }

-- the entries are taken in their order
abbrev pub taken_of : List ℕ → List OutRow → List Judgement → List ℕ → List (Option Claim) → Taken
taken_of address rows js hand claims = fold (with_entry js) nothing (map (judgement_of address rows hand) claims)
