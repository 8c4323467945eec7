use Rattle.std.proofs.Common.{arith, ap, ◌∙◌, take, drop, length, List, ℕ}
use Rattle.streams.proofs.Known.{gave_more, read_to_end, read_within, whole}
use Rattle.streams.proofs.reading.read_all.Goals as goal

pub returns-then-n-eq0-clause-bytes : goal.returns-then-n-eq0-clause-bytes
returns-then-n-eq0-clause-bytes g c =
    let i = c.loop-buf.invariant in
    read_to_end (g.I.Source.told c.args.input.now) (g.I.Source.told c.read.new.self) _ c.loop-buf.bytes.items _ c.args.limit c.in-Ok.n (omega (arith, i.within)) i.front c.in-Ok.ensures.read c.if-n-eq0.true

pub loop-buf-preserved : goal.loop-buf-preserved
loop-buf-preserved g c =
    let i = c.loop-buf.invariant in
    let now = c.in-Ok.ensures in
    let size = c.truncate.new.self.len in
    let rest : List ℕ = drop (length c.read.new.buf) c.truncate.new.self.items in
    let filled = whole c.read.new.buf rest size (omega (arith, c.truncate.ensures.len, c.as_mut_slice.ensures.len)) in
    record {
      within = omega (arith, c.in_ok-extend_from_slice.ensures.len, c.split_at.ensures.front_len, now.within, c.truncate.ensures.len, c.as_mut_slice.ensures.len);
      room = omega (arith, c.truncate.ensures.len);
      front = gave_more _ _ _ c.loop-buf.bytes.items _ _ c.read.new.buf c.in-Ok.n i.front c.in_ok-extend_from_slice.ensures.items (c.split_at.ensures.front ∙ ap (λ l. take c.in-Ok.n l) (c.as_slice.ensures.value ∙ filled)) now.read.0;
      never_falls = omega (arith, i.never_falls, now.counts.never_falls);
    }

pub returns-in_err-extend_from_slice-clause-stops : goal.returns-in_err-extend_from_slice-clause-stops
returns-in_err-extend_from_slice-clause-stops g c =
    let i = c.loop-buf.invariant in
    let now = c.in-Ok.ensures in
    read_within _ _ _ c.loop-buf.bytes.items c.read.new.buf c.args.limit c.in-Ok.n (omega (arith, now.within, c.truncate.ensures.len, c.as_mut_slice.ensures.len)) (omega (arith, now.within)) i.front now.read.0
