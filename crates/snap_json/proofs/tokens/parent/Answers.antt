use Rattle.std.proofs.Common.{ap, ◌∙◌, ◌∷◌}
use Rattle.json.specs.Reads.{token_of}
use Rattle.snap_json.proofs.TokenValues.{parent_takes, root_takes}
use Rattle.snap_json.proofs.tokens.parent.Goals as goal

pub returns-in-Null : goal.returns-in-Null
returns-in-Null c = root_takes c.args.reader.now c.token.new.reader (c.in_ok-front.ensures ∙ ap (λ k. token_of k ∷ c.token.new.reader) c.in-Null.is)

pub returns-in-Some : goal.returns-in-Some
returns-in-Some c =
    parent_takes c.args.reader.now c.token.new.reader c.in-Number.text.now c.in-Some.id (c.in_ok-front.ensures ∙ ap (λ k. token_of k ∷ c.token.new.reader) c.in-Number.is) c.in-Some.ensures
