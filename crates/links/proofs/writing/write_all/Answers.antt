use Rattle.std.proofs.Common.{refl, ◌∙◌, arith}
use Rattle.links.proofs.Links.{wire_same, wire_more}
use Rattle.links.proofs.writing.write_all.Goals as goal

pub loop-at-init : goal.loop-at-init
loop-at-init g c = record { within = omega arith; wrote = wire_same (g.L.Link.wire c.args.link.now); kept = refl; same = refl }

pub loop-at-preserved : goal.loop-at-preserved
loop-at-preserved g c =
    let i = c.loop-at.invariant in
    let now = c.in_ok-n.ensures in
    record {
      within = omega (arith, now.within, c.split_at.ensures.back_len);
      wrote = wire_more _ _ _ c.args.bytes.now _ c.loop-at.at c.in_ok-n.n i.wrote c.split_at.ensures.back now.written;
      kept = now.kept ∙ i.kept;
      same = now.counts.same ∙ i.same;
    }
