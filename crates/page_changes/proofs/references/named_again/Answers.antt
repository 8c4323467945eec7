use Rattle.acc_tree.specs.Seen.{seen}
use Rattle.page_changes.proofs.Remembering.{remembered_right, still_right}
use Rattle.page_changes.proofs.references.named_again.Goals as goal

pub returns-in-Some-clause-same : goal.returns-in-Some-clause-same
returns-in-Some-clause-same c = remembered_right _ _ _ c.in-Some.ensures (c.requires.memory c.args.id.now)

pub returns-clause-memory : goal.returns-clause-memory
returns-clause-memory c =
    still_right (seen c.args.pages.now.old.now.trees) (seen c.args.pages.now.new.now.trees) c.args.memory.now c.remember.new.memory _ _ _ c.requires.memory c.in_ok-remember.ensures c.in_ok-from_str.ensures.ok c.named_same-same.ensures
