use Rattle.std.proofs.Common.{refl, sym, ◌∙◌}
use Rattle.rules_tables.specs.Survey.{seen_placed}
use Rattle.rules_tables.proofs.Asking.{other_more}
use Rattle.rules_tables.proofs.heads.Cells.add.Goals as goal

pub returns-else-is_data : goal.returns-else-is_data
returns-else-is_data c =
    λ before k. other_more c.args.self.now _ before (seen_placed c.args.placed.now) k c.in_ok-push.ensures.items refl refl (sym c.is_data.ensures ∙ c.if-is_data.false)
