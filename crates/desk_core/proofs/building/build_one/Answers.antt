use Rattle.std.proofs.Common.{List, ◌∷◌, IfErr}
use Rattle.desk_core.specs.declared.command.Entry.{Entry}
use Rattle.desk_core.specs.Refusals.{Decision, unless_refused}
use Rattle.desk_core.specs.Imports.{first_fault}
use Rattle.desk_core.specs.Serving.{Stands}
use Rattle.desk_core.proofs.ImportLaws.{fault_here}
use Rattle.desk_core.proofs.Onward.{refused_so}
use Rattle.desk_core.proofs.building.build_one.Goals as goal

pub returns-in_err-tree-clause-refused : goal.returns-in_err-tree-clause-refused
returns-in_err-tree-clause-refused c =
    refused_so (λ r. IfErr r (λ s. (others : List Entry) (next : Decision) → Stands ⊥ s (unless_refused (first_fault (c.args.first.entry ∷ others)) next))) _ _ c.from_residual.ensures.1
    (fault_here c.args.first.entry c.in_err-tree.field-0.0 c.in_err-tree.ensures.refused)
