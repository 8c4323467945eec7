use Rattle.std.proofs.Common.{◌≡◌, false, length, eqb, tests, rules}
use Rattle.snap_tree.proofs.Tagging.{no_tag_of}
use Rattle.snap_tree.proofs.labels.is_labelable_by.Goals as goal

pub returns-in_default : goal.returns-in_default
returns-in_default c =
    let tag = c.args.tag.now in
    let five : eqb (length tag) 5 ≡ false = search (tests, rules) in
    let six : eqb (length tag) 6 ≡ false = search (tests, rules) in
    let eight : eqb (length tag) 8 ≡ false = search (tests, rules) in
    no_tag_of c.args.row.now tag five six eight
