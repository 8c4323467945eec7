use Rattle.std.proofs.Common.{map, refl, subst, arith}
use Rattle.rules_tables.specs.Heads.{Keeps}
use Rattle.rules_tables.specs.Survey.{noted, seen_placed}
use Rattle.rules_tables.proofs.Deciding.{is_of}
use Rattle.rules_tables.proofs.heads.Heads.of.Goals as goal

pub returns-clause-is : goal.returns-clause-is
returns-clause-is c =
    is_of c.args.inside.now (noted c.in_ok-survey.survey) _ c.in_ok-survey.ensures (omega (arith, c.len-most.type_inv)) refl refl
    (subst (λ ps. Keeps c.in_ok-of.field-0 (map seen_placed ps)) c.as_slice.ensures.value c.in_ok-of.ensures)
