use Rattle.std.proofs.Common.{◌∷◌, sym, ap, ◌∙◌, subst}
use Rattle.json.specs.Reads.{token_of}
use Rattle.snap_json.specs.Straight.{ReadsAny}
use Rattle.snap_json.proofs.StraightRows.{items_read}
use Rattle.snap_json.proofs.tokens.unasked.Goals as goal

pub returns-in_ok-plain_items-in-BeginArray : goal.returns-in_ok-plain_items-in-BeginArray
returns-in_ok-plain_items-in-BeginArray c =
    items_read c.args.reader.now c.token.new.reader c.plain_items.new.reader (c.in_ok-front.ensures ∙ ap (λ t. token_of t ∷ c.token.new.reader) c.in-BeginArray.is) c.in_ok-plain_items-in-BeginArray.ensures

pub returns-then-is_plain : goal.returns-then-is_plain
returns-then-is_plain c =
    subst (λ ts. ReadsAny 124 ts c.token.new.reader) (sym c.in_ok-front.ensures) (c.is_plain.ensures c.if-is_plain.true 124 c.token.new.reader)
