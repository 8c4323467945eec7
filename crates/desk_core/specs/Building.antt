-- The pages of an import, as they are built by many threads.
use Rattle.std.specs.Prelude.{◌≡◌, List, map, None, Result, Vec, IfOk, IfErr, OnOk}
use Rattle.std.specs.declared.alloc.Global.{Global}
use Rattle.audit.specs.declared.pages.PageWork.{PageWork}
use Rattle.desk_core.specs.declared.placed.Placed.{Placed}
use Rattle.desk_core.specs.declared.refusal.Refusal.{Refusal}
use Rattle.desk_core.specs.Refusals.{Decision, unless_refused}
use Rattle.desk_core.specs.Imports.{first_fault}
use Rattle.desk_core.specs.Placing.{entries_of, work_of}
use Rattle.desk_core.specs.Serving.{Stands}

-- the pages that entries make, in their order, and else the first fault of their rows
pub record Builds (placed : List Placed) (result : Result (Vec PageWork Global) Refusal) : Type 0 where
  pub works : IfOk result (λ works. works.items ≡ map work_of placed)
  pub whole : OnOk result (first_fault (entries_of placed) ≡ None)
  pub refused : IfErr result (λ r. (next : Decision) → Stands ⊥ r (unless_refused (first_fault (entries_of placed)) next))
