use Rattle.std.proofs.Common.{sym, subst}
use Rattle.http_messages.specs.declared.item.Item.{Item}
use Rattle.http_messages.specs.declared.reading.Block.{Block}
use Rattle.http_messages.specs.declared.reading.Got.TheVariants as got
use Rattle.http_messages.specs.Reading.{Moves, FoundBlock, HoldsBlock, Says}
use Rattle.http_messages.proofs.MessageLaws.{ended_block, cut_block, too_large}
use Rattle.http_messages.proofs.reading.read_item.Goals as goal

pub read_message-requires-clause-some : goal.read_message-requires-clause-some
read_message-requires-clause-some g c = let P : Block → Type 0 = λ b. HoldsBlock b c.read_block.new.held.items in (subst P c.in-Found.is c.in_ok-read_block.ensures.holds).0

pub returns-in-Ended-clause-says : goal.returns-in-Ended-clause-says
returns-in-Ended-clause-says g c =
    let P : Block → Type 0 = λ b. Moves (FoundBlock b) c.args.held.now.items c.read_block.new.held.items (g.L.Link.wire c.args.link.now) (g.L.Link.wire c.read_block.new.link) in
    ended_block _ _ _ _ (subst P c.in-Ended.is c.in_ok-read_block.ensures.found)

pub returns-in-Cut-clause-says : goal.returns-in-Cut-clause-says
returns-in-Cut-clause-says g c =
    let P : Block → Type 0 = λ b. Moves (FoundBlock b) c.args.held.now.items c.read_block.new.held.items (g.L.Link.wire c.args.link.now) (g.L.Link.wire c.read_block.new.link) in
    cut_block _ _ _ _ (subst P c.in-Cut.is c.in_ok-read_block.ensures.found)

pub returns-in-TooLarge-clause-says : goal.returns-in-TooLarge-clause-says
returns-in-TooLarge-clause-says g c =
    let P : Block → Type 0 = λ b. Moves (FoundBlock b) c.args.held.now.items c.read_block.new.held.items (g.L.Link.wire c.args.link.now) (g.L.Link.wire c.read_block.new.link) in
    let Q : Item → Type 0 = λ i. Moves (Says (got.Came i)) c.args.held.now.items c.read_block.new.held.items (g.L.Link.wire c.args.link.now) (g.L.Link.wire c.read_block.new.link) in
    subst Q (sym c.refused.ensures) (too_large _ _ _ _ (subst P c.in-TooLarge.is c.in_ok-read_block.ensures.found))
