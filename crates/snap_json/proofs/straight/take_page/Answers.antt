use Rattle.std.proofs.Common.{ap, arith}
use Rattle.std.specs.Prelude.{option_map}
use Rattle.snap_json.proofs.StraightRows.{page_takes}
use Rattle.snap_json.proofs.straight.take_page.Goals as goal

pub returns-in-Ok-clause-exact : goal.returns-in-Ok-clause-exact
returns-in-Ok-clause-exact c =
    page_takes c.args.limits c.args.reader.now c.begin_object.new.reader c.take_page_members.new.reader c.in_ok-found.found c.in-Some-Some.url.now c.in-Ok.address c.in-Some-Some.rows (grind arith)
    c.in_ok-found.ensures (ap (option_map (λ url. url.now)) c.in-Some-Some.is-0) c.in-Some-Some.is-1 c.in-Ok.ensures.exact
