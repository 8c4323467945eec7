-- The pages of cases as they are audited.
use Rattle.std.specs.Prelude.{[]}
use Rattle.audit.specs.declared.pages.PageWork.{PageWork}
use Rattle.case_run.specs.declared.case.Case.{Case}

-- the page of a case, without judgements
abbrev pub work_of : Case → PageWork
work_of c = record { tree = c.tree; judgements = [] }
