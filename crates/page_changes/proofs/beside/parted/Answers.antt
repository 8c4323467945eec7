use Rattle.std.proofs.Common.{◌∙◌, sym}
use Rattle.page_changes.proofs.Twins.{above_is}
use Rattle.page_changes.proofs.beside.parted.Goals as goal

pub returns-then-same_aboves : goal.returns-then-same_aboves
returns-then-same_aboves c = sym c.under-above.ensures ∙ above_is _ _ (sym c.same_aboves.ensures ∙ c.if-same_aboves.true) ∙ c.under-other.ensures

pub returns-else-same_aboves : goal.returns-else-same_aboves
returns-else-same_aboves c = (c.under-above.ensures, c.under-other.ensures)
