use Rattle.std.proofs.Common.{◌<◌, length, sym, arith}
use Rattle.std.proofs.lemmas.Bool.{false_from_ne_true, lt-ltb, ltb-true}
use Rattle.std.proofs.lemmas.Iterator.{YieldsList-from_chars}
use Rattle.std.proofs.lemmas.Iterator.Consumers.{YieldsList-turn, YieldsList-end}
use Rattle.std.proofs.lemmas.List.{length_push}
use Rattle.std.specs.Str.{chars}
use Rattle.rules_more.proofs.label_said.is_more_than_one.Goals as goal

pub returns-then-count-eq1 : goal.returns-then-count-eq1
returns-then-count-eq1 c =
    let t = YieldsList-turn (YieldsList-from_chars c.args.shown.now c.utf8.shown cc) c.loop-c.yielded _ c.loop-c.yielded_by _ _ c.in-Some.c c.in-Some.is c.next.ensures.steps in
    sym (lt-ltb 1 (length (chars c.args.shown.now)) (omega (arith, c.loop-c.invariant.0, c.if-count-eq1.true, t.0)))

pub loop-c-preserved : goal.loop-c-preserved
loop-c-preserved c =
    let n = length_push c.loop-c.yielded c.in-Some.c in
    (omega (arith, c.loop-c.invariant.0, n), omega (arith, c.loop-c.invariant.1, c.if-count-eq1.false))

pub returns : goal.returns
returns c =
    let t = YieldsList-end (YieldsList-from_chars c.args.shown.now c.utf8.shown cc) c.loop-c.yielded _ c.loop-c.yielded_by _ _ c.in-None.is c.next.ensures.steps in
    sym (false_from_ne_true _ (λ e. let more : 1 < length (chars c.args.shown.now) = ltb-true 1 (length (chars c.args.shown.now)) e in omega (arith, more, c.loop-c.invariant.0, c.loop-c.invariant.1, t.1)))
