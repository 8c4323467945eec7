use Rattle.std.proofs.Common.{◌++◌, subst}
use Rattle.desk_core.specs.Building.{Builds}
use Rattle.desk_core.proofs.BuiltParts.{refused_first, refused_later, builds_both}
use Rattle.desk_core.proofs.Onward.{refused_so}
use Rattle.desk_core.proofs.building.joined.Goals as goal

pub returns : goal.returns
returns c ones others first later =
    builds_both ones others c.in_ok-all.all c.in_ok-others.others c.append.new.self (subst (Builds ones) c.in_ok-all.was first) (subst (Builds others) c.in_ok-others.was later)
    c.in_ok-append.ensures.items

pub returns-in_err-others : goal.returns-in_err-others
returns-in_err-others c ones others first later =
    refused_so (Builds (ones ++ others)) _ c.in_err-others.field-0.0 c.from_residual-in_err-others.ensures.1
    (refused_later ones others _ c.in_err-others.field-0.0 (subst (Builds ones) c.in_ok-all.was first) (subst (Builds others) c.in_err-others.was later))

pub returns-in_err-all : goal.returns-in_err-all
returns-in_err-all c ones others first later =
    refused_so (Builds (ones ++ others)) _ c.in_err-all.field-0.0 c.from_residual.ensures.1
    (refused_first ones others c.in_err-all.field-0.0 (subst (Builds ones) c.in_err-all.was first))
