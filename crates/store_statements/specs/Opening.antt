-- A connection whose store was taken out and opened again.
use Rattle.std.specs.Prelude.{◌≡◌, ◌≤◌, IsTrue}
use Rattle.sqlite_trees.specs.Tree.{Trees}
use Rattle.sqlite_trees.specs.View.{doubt}
use Rattle.sqlite.specs.State.{State, HasCleanDisk}

-- it was open, it has what was committed, and a crash leaves what it could leave before
pub record OpensAgain (old new : State) : Type 0 where
  pub clean : doubt old.is_clean ≤ doubt new.is_clean
  pub was_open : HasCleanDisk new → IsTrue old.is_open
  pub rows : HasCleanDisk new → new.now.trees ≡ old.committed.trees
  pub crash : HasCleanDisk new → (db : Trees) → new.may_leave db → old.may_leave db
