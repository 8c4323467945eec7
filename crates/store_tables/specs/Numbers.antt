-- Changes whose numbers are within what a row of them is read as.
use Rattle.std.specs.Prelude.{ℕ, ◌≤◌}
use Rattle.std.specs.List.{All}
use Rattle.judge_core.specs.declared.outcomes.OutRow.{OutRow}
use Rattle.keep_core.specs.declared.page.PagePut.{PagePut}
use Rattle.keep_core.specs.declared.page.PageOutcomes.{PageOutcomes}
use Rattle.judge_core.specs.declared.judgement.Judgement.{Judgement}
use Rattle.keep_core.specs.declared.change.Change.{Change}
use Rattle.keep_core.specs.declared.change.Change.TheVariants.{PutSite, PutPages, DropPage, AddJudgements, PutLanguages, Refresh, SetEdition}

-- the numbers of a rule and of a node
pub record AreNumbers (r n : ℕ) : Type 0 where
  pub rule : r ≤ 65535
  pub node : n ≤ 4294967295

abbrev pub HasNumbers : OutRow → Type 0
HasNumbers o = AreNumbers o.rule.0 o.node.0

abbrev pub IsNumbered : Change → Type 0
IsNumbered (PutSite site) = Unit {0}
IsNumbered (PutPages site counter puts) = All (λ (p : PagePut). All HasNumbers p.outcomes.rows) puts
IsNumbered (DropPage site page) = Unit {0}
IsNumbered (AddJudgements site page js outcomes) = All (λ (j : Judgement). AreNumbers j.rule.0 j.node.0) js × All HasNumbers outcomes.rows
IsNumbered (PutLanguages site langs os) = All (λ (o : PageOutcomes). All HasNumbers o.outcomes.rows) os
IsNumbered (Refresh site os) = All (λ (o : PageOutcomes). All HasNumbers o.outcomes.rows) os
IsNumbered (SetEdition number) = Unit {0}
