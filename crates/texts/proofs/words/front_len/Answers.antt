use Rattle.std.proofs.Common.{true, false, length, sym, arith}
use Rattle.std.proofs.lemmas.Iterator.{YieldsList-from_chars}
use Rattle.std.proofs.lemmas.List.{at_drop_all, length_push}
use Rattle.std.proofs.lemmas.Iterator.Consumers.{YieldsList-turn, YieldsList-end}
use Rattle.std.specs.Prelude.{encode_utf8_all}
use Rattle.std.specs.Str.{chars}
use Rattle.texts.specs.Words.{front}
use Rattle.texts.proofs.Wording.{front_bytes-turn, front_bytes-le}
use Rattle.texts.proofs.words.front_len.Goals as goal

pub returns-then-is_whitespace : goal.returns-then-is_whitespace
returns-then-is_whitespace c =
    let t = YieldsList-turn (YieldsList-from_chars c.args.text.now c.utf8.text cc) c.loop-c.yielded _ c.loop-c.yielded_by _ _ c.in-Some.c c.in-Some.is c.next.ensures.steps in
    omega (arith, c.loop-c.invariant, front_bytes-turn _ _ _ t true (sym c.if-is_whitespace.ensures))

pub overflow_add-len : goal.overflow_add-len
overflow_add-len c =
    let t = YieldsList-turn (YieldsList-from_chars c.args.text.now c.utf8.text cc) c.loop-c.yielded _ c.loop-c.yielded_by _ _ c.in-Some.c c.in-Some.is c.next.ensures.steps in
    omega (arith, c.loop-c.invariant, front_bytes-turn _ _ _ t false (sym c.if-is_whitespace.ensures), front_bytes-le c.args.text.now c.utf8.text)

pub loop-c-preserved : goal.loop-c-preserved
loop-c-preserved c =
    let t = YieldsList-turn (YieldsList-from_chars c.args.text.now c.utf8.text cc) c.loop-c.yielded _ c.loop-c.yielded_by _ _ c.in-Some.c c.in-Some.is c.next.ensures.steps in
    let n = length_push c.loop-c.yielded c.in-Some.c in
    let e = front_bytes-turn _ _ _ t false (sym c.if-is_whitespace.ensures) in
    rw n (omega (arith, c.loop-c.invariant, e, c.len_utf8-len.ensures.value))

pub returns : goal.returns
returns c =
    let t = YieldsList-end (YieldsList-from_chars c.args.text.now c.utf8.text cc) c.loop-c.yielded _ c.loop-c.yielded_by _ _ c.in-None.is c.next.ensures.steps in
    omega (arith, c.loop-c.invariant, at_drop_all (λ cs. length (encode_utf8_all (front cs))) (chars c.args.text.now) (length c.loop-c.yielded) (omega (arith, t.1)))
