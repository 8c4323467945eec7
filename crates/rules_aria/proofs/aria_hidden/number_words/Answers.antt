use Rattle.std.proofs.Common.{◌+◌, decimal, drop, map, get_or}
use Rattle.std.proofs.lemmas.List.{at_drop_more}
use Rattle.std.specs.String.{string_bytes}
use Rattle.rules_aria.proofs.Joining.{joined_on, number_joined}
use Rattle.rules_aria.proofs.aria_hidden.number_words.Goals as goal

pub loop-n-preserved : goal.loop-n-preserved
loop-n-preserved c =
    let text = string_bytes c.loop-n.words in
    let nodes = c.args.nodes.now in
    let n = get_or nodes c.loop-n.n-index (record { 0 = 0 }) in
    let next = at_drop_more (λ rest. joined_on 32 text (map (λ m. decimal m.0) rest)) nodes c.loop-n.n-index (record { 0 = 0 }) c.loop-n-test.true in
    let put = number_joined text n.0 (map (λ m. decimal m.0) (drop (c.loop-n.n-index + 1) nodes)) c.number_word.ensures.small in
    cc (c.in_ok-add_word.ensures, c.as_str.ensures, c.in_ok-word.ensures.word, c.loop-n.invariant, next, put)
