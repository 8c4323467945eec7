use Rattle.std.proofs.Common.{ap, ◌∙◌, ◌∷◌}
use Rattle.json.specs.Reads.{token_of}
use Rattle.snap_json.proofs.TokenValues.{number_takes}
use Rattle.snap_json.proofs.tokens.number.Goals as goal

pub returns-in-Some : goal.returns-in-Some
returns-in-Some c =
    number_takes c.args.reader.now c.token.new.reader c.in-Number.text.now c.in-Some.id (c.in_ok-front.ensures ∙ ap (λ k. token_of k ∷ c.token.new.reader) c.in-Number.is) c.in-Some.ensures
