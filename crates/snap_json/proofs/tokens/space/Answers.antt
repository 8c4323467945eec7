use Rattle.std.proofs.Common.{sym, ◌∙◌}
use Rattle.snap_json.proofs.TokenValues.{space_takes}
use Rattle.snap_json.proofs.tokens.space.Goals as goal

pub returns-in-Some : goal.returns-in-Some
returns-in-Some c =
    space_takes c.args.reader.now c.lent.new.reader c.in_ok-lent.field-0.now c.in-Some.space c.in_ok-lent.ensures (sym c.space_named.ensures ∙ c.in-Some.is)
