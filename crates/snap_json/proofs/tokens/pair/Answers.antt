use Rattle.std.proofs.Common.{◌<◌, length, sym, subst, arith}
use Rattle.snap_json.specs.Straight.{TakesPair}
use Rattle.snap_json.proofs.TokenValues.{pair_takes}
use Rattle.snap_json.proofs.tokens.pair.Goals as goal

pub returns : goal.returns
returns c =
    let all = c.args.reader.now in
    let new = c.take_end_array.new.self in
    let name = c.in_ok-name.name.now in
    let text = c.in_ok-value.value.now in
    let filled : 0 < length name = grind arith in
    let taken = pair_takes all c.begin_array.new.reader c.lent.new.reader c.lent-2.new.reader new name text (grind arith) c.in_ok-name.ensures c.in_ok-value.ensures (grind arith) filled in
    subst (λ v. TakesPair all (record { name = c.in_ok-from_str.field-0; value = v }) new) (sym c.in_ok-from_str-2.ensures)
    (subst (λ n. TakesPair all (record { name = n; value = text }) new) (sym c.in_ok-from_str.ensures) taken)
