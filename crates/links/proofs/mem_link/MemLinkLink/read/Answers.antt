use Rattle.std.proofs.Common.{◌+◌, length, Ok, subst}
use Rattle.streams.specs.Streams.{Read}
use Rattle.links.specs.Wires.{unread, left_of}
use Rattle.links.specs.Memory.{LinkState, wire}
use Rattle.links.proofs.Links.{link_read}
use Rattle.links.proofs.mem_link.MemLinkLink.read.Goals as goal

pub returns-clause-read : goal.returns-clause-read
returns-clause-read c =
    let s = c.self.inside in
    let n = c.copy_front-n.result in
    let buf = c.copy_front-n.new.buf in
    let seen : LinkState = record { brought = s.bytes; at = s.at; piece = s.piece; written = s.written.items; room = s.room; reads = s.reads; fails = s.fails; calls = s.calls; faults = s.faults } in
    let after : LinkState = record seen { at = s.at + n; reads = c.allowed_after-self-inside.result; calls = c.next-self-inside.result } in
    let P : LinkState → Type 0 = λ link. Read unread left_of buf (wire link) (wire after) (Ok n) in
    subst P c.self.view_is (link_read seen buf (length c.args.buf.now) n after.reads after.calls c.requires (cc) (cc))
