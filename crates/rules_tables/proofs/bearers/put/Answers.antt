use Rattle.std.proofs.Common.{Some, ap, ◌∙◌}
use Rattle.std.proofs.lemmas.Map.Text.{btree_map_updates_str}
use Rattle.std.specs.Map.{update}
use Rattle.std.specs.Str.{bytes_eq}
use Rattle.rules_tables.specs.Bearers.{bearer_of, with_node}
use Rattle.rules_tables.proofs.Bearing.{put_more}
use Rattle.rules_tables.proofs.bearers.put.Goals as goal

pub returns-in_ok-insert : goal.returns-in_ok-insert
returns-in_ok-insert c =
    let word = c.args.word.now in
    put_more c.args.bearers.now c.insert.new.self word c.args.n
    (λ w. btree_map_updates_str word c.args.bearers.now c.insert.new.self _ c.in_ok-insert.ensures.updates w
    ∙ ap (λ b. update bytes_eq (bearer_of c.args.bearers.now) word (Some b) w) (c.with_node-now.ensures ∙ ap (λ o. with_node o c.args.n) c.bearer_of-before.ensures))
