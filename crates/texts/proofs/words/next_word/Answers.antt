use Rattle.std.proofs.Common.{◌≡◌, ◌<◌, length, arith}
use Rattle.std.proofs.lemmas.Bool.Decides.{nat_tests}
use Rattle.texts.proofs.Wording.{first_word}
use Rattle.texts.proofs.words.next_word.Goals as goal

pub returns-then-is_empty : goal.returns-then-is_empty
returns-then-is_empty c =
    let at = first_word c.args.text.now _ c.utf8.text c.trim_start-start.ensures.trim in
    let test = c.if-is_empty.ensures in
    let none : length c.trim_start-start.result.now ≡ 0 = grind (arith, nat_tests) in
    at.none none

pub split_at-requires : goal.split_at-requires
split_at-requires c =
    let at = first_word c.args.text.now _ c.utf8.text c.trim_start-start.ensures.trim in
    rw c.front_len.ensures at.boundary

pub returns : goal.returns
returns c =
    let at = first_word c.args.text.now _ c.utf8.text c.trim_start-start.ensures.trim in
    let test = c.if-is_empty.ensures in
    let some : 0 < length c.trim_start-start.result.now = grind (arith, nat_tests) in
    rw (c.split_at.ensures.front, c.split_at.ensures.back, c.front_len.ensures)
    (record { is = at.words_are some; not_empty = at.not_empty some; shorter = at.shorter some })
