use Rattle.std.proofs.Common.{sym, ◌∙◌}
use Rattle.snap_json.proofs.TokenValues.{facts_takes}
use Rattle.snap_json.proofs.tokens.facts.Goals as goal

pub returns-in-Some : goal.returns-in-Some
returns-in-Some c =
    facts_takes c.args.reader.now c.lent.new.reader c.in_ok-lent.field-0.now c.in-Some.facts c.in_ok-lent.ensures (sym c.facts_named.ensures ∙ c.in-Some.is)
