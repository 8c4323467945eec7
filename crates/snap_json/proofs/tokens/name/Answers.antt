use Rattle.std.proofs.Common.{◌<◌, length, sym, subst, arith}
use Rattle.snap_json.specs.Fields.{name_of}
use Rattle.snap_json.specs.Straight.{Takes}
use Rattle.snap_json.proofs.TokenValues.{name_takes}
use Rattle.snap_json.proofs.tokens.name.Goals as goal

pub returns : goal.returns
returns c =
    let filled : 0 < length c.in_ok-text.text.now = grind arith in
    subst (λ t. Takes name_of c.args.reader.now t c.lent.new.reader) (sym c.in_ok-from_str.ensures) (name_takes c.args.reader.now c.lent.new.reader c.in_ok-text.text.now c.in_ok-text.ensures filled)
