use Rattle.std.proofs.Common.{sym, ◌∙◌}
use Rattle.acc_tree.proofs.Digits.{read_greatest}
use Rattle.acc_tree.proofs.numbers.whole_number.Goals as goal

pub returns-in-Err : goal.returns-in-Err
returns-in-Err c =
    read_greatest c.args.text.now c.in-Err.field-0 (rw c.in-Err.is at c.parse.ensures.value.0) (sym c.is_digits.ensures ∙ c.if-not-is_digits.false)
