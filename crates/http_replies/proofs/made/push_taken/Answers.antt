use Rattle.http_replies.proofs.MadeBodies.{taken_printed}
use Rattle.http_replies.proofs.made.push_taken.Goals as goal

pub returns-clause-pushed : goal.returns-clause-pushed
returns-clause-pushed c =
    let printed = taken_printed c.args.out.now.items c.push_count.new.out.items c.push_count-2.new.out.items c.push_count-3.new.out.items c.push.new.out.items c.from.result c.from-2.result c.from-3.result
    c.in_ok-push_count.ensures.pushed c.in_ok-push_count-2.ensures.pushed c.in_ok-push_count-3.ensures.pushed c.in_ok-push.ensures.pushed in
    cc
