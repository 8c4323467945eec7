use Rattle.std.proofs.lemmas.Map.Text.{btree_map_updates_text}
use Rattle.std.specs.BTreeMap.{get_by_text}
use Rattle.std.specs.String.{string_bytes}
use Rattle.rules_more.proofs.Sharing.{one_more}
use Rattle.rules_more.proofs.kept_words.keep.Goals as goal

pub returns : goal.returns
returns c =
    let word = string_bytes c.args.word in
    one_more (get_by_text c.args.kept.now) (get_by_text c.insert.new.self) word
    (λ w. btree_map_updates_text word c.args.kept.now c.insert.new.self _ c.in_ok-insert.ensures.updates w)
