-- Judgements: what is decided on one.
use Rattle.std.specs.Prelude.{◌≡◌, ℕ, List, [], ◌∷◌, ◌++◌, Bool, not, false, if◌then◌else◌, Some, None, Ok, reverse}
use Rattle.std.specs.Option.{option_map_or}
use Rattle.std.specs.List.{find}
use Rattle.std.specs.Str.{bytes_eq}
use Rattle.snap_tree.specs.declared.row.NodeId.{NodeId}
use Rattle.rule_core.specs.declared.info.RuleNo.{RuleNo}
use Rattle.rule_core.specs.declared.verdict.Auto.{Auto}
use Rattle.rule_core.specs.Brief.{digest}
use Rattle.rule_core.specs.Books.{Book}
use Rattle.judge_core.specs.declared.judgement.Judgement.{Judgement}
use Rattle.judge_core.specs.declared.outcomes.OutRow.{OutRow}
use Rattle.judge_core.specs.Composites.{is_open}
use Rattle.judge_core.specs.Equality.{same_judgement}
use Rattle.judge_core.specs.Judgements.{is_on}
use Rattle.judge_core.specs.Outcomes.{outcomes}
use Rattle.judge_core.specs.RowLookups.{row_at}
use Rattle.keep_core.specs.declared.change.Change.{Change}
use Rattle.keep_core.specs.declared.change.Change.TheVariants.{PutSite, PutPages, DropPage, AddJudgements, PutLanguages, Refresh, SetEdition}
use Rattle.desk_core.specs.declared.refusal.Refusal.TheVariants as refusal
use Rattle.desk_core.specs.declared.reply.Reply.TheVariants as reply
use Rattle.desk_core.specs.Refusals.{Decision, unless, on}
use Rattle.desk_core.specs.State.{PageState}

-- the latest judgement in the list that is of its rule and node is the same already
abbrev pub is_latest : Judgement → List Judgement → Bool
is_latest j js = option_map_or (λ latest. same_judgement latest j) (find (is_on j.rule j.node) (reverse js)) false

-- judgements go to the end of the page's list, with its outcomes under them
abbrev pub addition : Book → List ℕ → List ℕ → List Judgement → PageState → Change
addition book site page more kept = AddJudgements site page more (record { rows = outcomes book kept.page.tree (kept.judgements ++ more) })

-- a judgement is added, unless it stands there already
abbrev pub added : Book → List ℕ → List ℕ → Judgement → PageState → Decision
added book site page j kept =
    let answer = reply.Judged j.rule j.node j.verdict
    in
    if is_latest j kept.judgements then Ok (record { change = None; reply = answer })
    else Ok (record { change = Some (addition book site page (j ∷ []) kept); reply = answer })

-- what follows with the row that is judged: an open one whose evidence the judge saw, of a page that another sent
abbrev pub judged_row : List OutRow → List ℕ → List ℕ → RuleNo → NodeId → List ℕ → (OutRow → Decision) → Decision
judged_row rows hand caller rule node seen next =
    on (row_at rule node rows) refusal.NoTarget (λ row.
    unless (is_open row.auto) (refusal.NotOpen row.auto) (
    unless (not (bytes_eq caller hand)) refusal.SameHand (
    unless (bytes_eq seen (digest row.evidence)) (refusal.EvidenceMoved (digest row.evidence)) (next row))))

-- the evidence that is judged is that of the outcome now
abbrev pub judge : Book → List ℕ → List ℕ → List ℕ → RuleNo → NodeId → Auto → List ℕ → List ℕ → PageState → Decision
judge book site caller page rule node verdict seen note kept =
    judged_row (outcomes book kept.page.tree kept.judgements) kept.page.head.hand caller rule node seen (λ row.
    added book site page (record { rule = rule; node = node; verdict = verdict; hand = caller; note = note; evidence = row.evidence }) kept)

-- a change adds judgements to this page
abbrev pub AddsTo : List ℕ → List ℕ → Change → Type 0
AddsTo site page (PutSite s) = ⊥
AddsTo site page (PutPages s counter pages) = ⊥
AddsTo site page (DropPage s p) = ⊥
AddsTo site page (AddJudgements s p js outcomes) = (s ≡ site) × (p ≡ page)
AddsTo site page (PutLanguages s langs new) = ⊥
AddsTo site page (Refresh s new) = ⊥
AddsTo site page (SetEdition number) = ⊥
