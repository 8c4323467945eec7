use Rattle.std.proofs.Common.{sym, ap, ◌∙◌}
use Rattle.earl_in.specs.Words.{is_number}
use Rattle.earl_in.proofs.Digits.{unread}
use Rattle.earl_in.proofs.words.node_numbered.Goals as goal

pub returns-in-Err : goal.returns-in-Err
returns-in-Err c =
    unread c.args.digits.now c.in-Err.field-0 (rw c.in-Err.is at c.parse.ensures.value.0)
    (ap is_number (sym c.as_bytes.ensures.value) ∙ sym c.is_number.ensures ∙ c.if-not-is_number.false)
