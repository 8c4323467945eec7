use Rattle.std.proofs.Common.{arith}
use Rattle.snap_json.proofs.StraightRows.{attrs_takes}
use Rattle.snap_json.proofs.tokens.attrs.Goals as goal

pub returns : goal.returns
returns c = attrs_takes c.args.reader.now c.begin_array.new.reader c.pairs.new.reader c.in_ok-found.found (grind arith) c.in_ok-found.ensures
