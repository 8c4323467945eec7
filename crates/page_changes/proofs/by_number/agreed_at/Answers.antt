use Rattle.std.proofs.Common.{◌∙◌, ap}
use Rattle.acc_tree.specs.Seen.{seen}
use Rattle.page_changes.specs.ByNumber.{strange}
use Rattle.page_changes.proofs.Strangers.{marks_found, marks_lost}
use Rattle.page_changes.proofs.by_number.agreed_at.Goals as goal

pub returns-in-Some : goal.returns-in-Some
returns-in-Some c = marks_found (seen c.args.old.now.trees) (seen c.args.new.now.trees) c.args.n c.in-Some.agreed (c.in-Some.ensures ∙ c.requires c.args.n)

pub returns-in-None : goal.returns-in-None
returns-in-None c =
    c.strange.ensures ∙ ap strange c.is_lost.ensures ∙ marks_lost (seen c.args.old.now.trees) (seen c.args.new.now.trees) c.args.n (c.in-None.ensures ∙ c.requires c.args.n)
