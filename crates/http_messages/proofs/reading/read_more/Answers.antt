use Rattle.std.proofs.Common.{arith}
use Rattle.http_messages.proofs.ReadingLaws.{read_none, read_some, read_lost}
use Rattle.http_messages.proofs.reading.read_more.Goals as goal

pub returns-then-n-eq0-clause-same : goal.returns-then-n-eq0-clause-same
returns-then-n-eq0-clause-same g c = read_none _ _ c.args.held.now.items c.read.new.buf c.in_ok-n.n c.in_ok-n.ensures.read c.if-n-eq0.true

pub returns-in-Err-clause-same : goal.returns-in-Err-clause-same
returns-in-Err-clause-same g c =
    read_lost _ _ c.args.held.now.items c.extend_from_slice.new.self.items c.read.new.buf c.in_ok-n.n c.in_ok-n.ensures.read c.if-n-eq0.false (omega (arith, c.in_ok-n.ensures.within))

pub returns-in-Ok-clause-same : goal.returns-in-Ok-clause-same
returns-in-Ok-clause-same g c =
    read_some _ _ c.args.held.now.items c.extend_from_slice.new.self.items c.read.new.buf c.split_at.result.0.now c.in_ok-n.n c.in_ok-n.ensures.read c.in-Ok.ensures.items c.split_at.ensures.front
