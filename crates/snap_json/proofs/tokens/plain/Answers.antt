use Rattle.std.proofs.Common.{sym, subst}
use Rattle.snap_json.specs.Straight.{ReadsAny}
use Rattle.snap_json.proofs.tokens.plain.Goals as goal

pub returns-then-is_plain : goal.returns-then-is_plain
returns-then-is_plain c depth =
    subst (λ ts. ReadsAny depth ts c.token.new.reader) (sym c.in_ok-front.ensures) (c.is_plain.ensures c.if-is_plain.true depth c.token.new.reader)
