use Rattle.std.proofs.Common.{sym, ◌∙◌}
use Rattle.earl_in.proofs.Rows.{kept, added}
use Rattle.earl_in.proofs.places.put.Goals as goal

pub returns-then-contains_key : goal.returns-then-contains_key
returns-then-contains_key c = kept c.args.places.now c.args.row.now (sym c.contains_key.ensures ∙ c.if-contains_key.true)

pub returns : goal.returns
returns c = added c.args.places.now c.insert.new.self c.args.row (sym c.contains_key.ensures ∙ c.if-contains_key.false) c.in_ok-insert.ensures.updates
