-- What comes over a connection, one thing after another.
use Rattle.std.specs.Prelude.{ℕ, List, true}
use Rattle.http_messages.specs.declared.fault.HeadFault.{HeadFault}
use Rattle.http_messages.specs.declared.head.Head.{Head}
use Rattle.http_messages.specs.declared.item.Sent.TheVariants.{Asked, Refused}
use Rattle.http_messages.specs.declared.item.Item.{Item}
use Rattle.http_messages.specs.Framing.{closes}

-- a refused head, after which the connection is closed
abbrev pub refused : HeadFault → Item
refused fault = record { sent = Refused fault; closes = true }

-- a message with this head and body
abbrev pub asked : Head → List ℕ → Item
asked head body = record { sent = Asked (record { head = head; body = body }); closes = closes head }
