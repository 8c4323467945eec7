use Rattle.std.proofs.Common.{sym, subst}
use Rattle.snap_json.specs.Fields.{text_of}
use Rattle.snap_json.specs.Straight.{Takes}
use Rattle.snap_json.proofs.TokenValues.{text_takes}
use Rattle.snap_json.proofs.tokens.text.Goals as goal

pub returns : goal.returns
returns c =
    subst (λ t. Takes text_of c.args.reader.now t c.lent.new.reader) (sym c.in_ok-from_str.ensures) (text_takes c.args.reader.now c.lent.new.reader c.in_ok-text.text.now c.in_ok-text.ensures)
