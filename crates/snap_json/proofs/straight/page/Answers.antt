use Rattle.std.proofs.Common.{◌≡◌, [], rules}
use Rattle.snap_json.proofs.StraightRows.{page_read}
use Rattle.snap_json.proofs.straight.page.Goals as goal

pub returns-clause-exact : goal.returns-clause-exact
returns-clause-exact c =
    let none : c.take_page.new.reader ≡ [] = search rules in
    page_read c.args.limits c.args.bytes.now c.in-Ok.text.now c.in_ok-reader.reader c.take_page.new.reader c.in_ok-page.page c.in-Ok.ensures.cases.0 c.in-Ok.ensures.cases.1 c.in_ok-reader.ensures.ok c.in_ok-page.ensures.exact none
