use Rattle.std.proofs.Common.{Option, sym, ◌∙◌, subst}
use Rattle.http_messages.specs.declared.head.Head.{Head}
use Rattle.http_messages.specs.declared.item.Item.{Item}
use Rattle.http_messages.specs.declared.reading.Got.TheVariants as got
use Rattle.http_messages.specs.Heads.{HeadOf}
use Rattle.http_messages.specs.Reading.{Moves}
use Rattle.http_messages.specs.Messages.{SaysFrom}
use Rattle.http_messages.proofs.MessageLaws.{bad_head, bad_length, with_body}
use Rattle.http_messages.proofs.message.read_message.Goals as goal

pub returns-in_default-clause-says : goal.returns-in_default-clause-says
returns-in_default-clause-says g c =
    let held = c.args.held.now.items in
    let now = c.take_front.new.held.items in
    let wire = g.L.Link.wire c.args.link.now in
    let P : Item → Type 0 = λ i. Moves (SaysFrom c.args.n (got.Came i)) held now wire wire in
    let Q : Option Head → Type 0 = λ o. HeadOf c.as_slice.result.now o in
    subst P (sym c.refused.ensures)
    (bad_head held c.as_slice.result.now now c.args.n wire c.requires.held (c.as_slice.ensures.value ∙ c.in_ok-block.ensures.front) c.in_ok-block.ensures.rest (subst Q c.in_default.is c.in_ok-head.ensures))

pub returns-in-Ok-clause-says : goal.returns-in-Ok-clause-says
returns-in-Ok-clause-says g c =
    let held = c.args.held.now.items in
    let Q : Option Head → Type 0 = λ o. HeadOf c.as_slice.result.now o in
    with_body held c.as_slice.result.now c.take_front.new.held.items c.read_whole.new.held.items c.args.n c.in-Ok.length _ _ c.in-Some.head c.read_whole.result c.requires.some c.requires.held
    (c.as_slice.ensures.value ∙ c.in_ok-block.ensures.front) c.in_ok-block.ensures.rest (subst Q c.in-Some.is c.in_ok-head.ensures) c.in-Ok.ensures c.read_whole.ensures.says

pub returns-clause-says : goal.returns-clause-says
returns-clause-says g c =
    let held = c.args.held.now.items in
    let now = c.take_front.new.held.items in
    let wire = g.L.Link.wire c.args.link.now in
    let P : Item → Type 0 = λ i. Moves (SaysFrom c.args.n (got.Came i)) held now wire wire in
    let Q : Option Head → Type 0 = λ o. HeadOf c.as_slice.result.now o in
    subst P (sym c.refused-in-Err.ensures)
    (bad_length held c.as_slice.result.now now c.args.n wire c.in-Some.head c.in-Err.fault c.requires.held (c.as_slice.ensures.value ∙ c.in_ok-block.ensures.front) c.in_ok-block.ensures.rest (subst Q c.in-Some.is c.in_ok-head.ensures) c.in-Err.ensures)
