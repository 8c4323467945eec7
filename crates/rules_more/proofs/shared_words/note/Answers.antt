use Rattle.std.proofs.lemmas.Map.Text.{btree_map_updates_str}
use Rattle.rules_more.proofs.Sharing.{one_more, value_of}
use Rattle.rules_more.proofs.shared_words.note.Goals as goal

pub returns : goal.returns
returns c =
    let word = c.args.word.now in
    one_more (value_of c.args.noted.now) (value_of c.insert.new.self) word
    (λ w. btree_map_updates_str word c.args.noted.now c.insert.new.self _ c.in_ok-insert.ensures.updates w)
