use Rattle.std.proofs.Common.{arith}
use Rattle.streams.proofs.Known.{took_none, took_more}
use Rattle.streams.proofs.writing.write_all.Goals as goal

pub loop-at-init : goal.loop-at-init
loop-at-init g c = (omega arith, took_none (g.O.Sink.told c.args.out.now))

pub loop-at-preserved : goal.loop-at-preserved
loop-at-preserved g c =
    let now = c.in_ok-n.ensures in
    let i = c.loop-at.invariant in (
      omega (arith, now.within, c.split_at.ensures.back_len),
      took_more _ _ _ c.args.bytes.now _ c.loop-at.at c.in_ok-n.n i.1 c.split_at.ensures.back now.written now.counts.same,
    )
