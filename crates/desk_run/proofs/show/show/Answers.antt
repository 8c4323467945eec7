use Rattle.desk_run.proofs.Shown.{ends_done, ends_strange, ends_failed, ends_unheld}
use Rattle.desk_run.proofs.show.show.Goals as goal

pub returns-in-Ok-Some : goal.returns-in-Ok-Some
returns-in-Ok-Some g c = ends_done _ _ _ _ _ (rw c.in-Ok-Some.field-0-is at c.in-Ok-Some.ensures)

pub returns-in-Ok-None : goal.returns-in-Ok-None
returns-in-Ok-None g c = ends_strange _ _ _ _ (rw c.in-Ok-None.field-0-is at c.in-Ok-None.ensures)

pub returns-in-Err-Failed : goal.returns-in-Err-Failed
returns-in-Err-Failed g c = ends_failed _ _ _ _ (rw c.in-Err-Failed.field-0-is at c.in-Err-Failed.ensures)

pub returns-in-Err-OutOfMemory : goal.returns-in-Err-OutOfMemory
returns-in-Err-OutOfMemory g c = ends_unheld _ _ _ _ (rw c.in-Err-OutOfMemory.field-0-is at c.in-Err-OutOfMemory.ensures)
