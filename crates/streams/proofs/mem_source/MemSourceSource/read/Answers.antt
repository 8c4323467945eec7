use Rattle.std.proofs.Common.{length, drop, ◌+◌, Some, Ok, subst}
use Rattle.streams.specs.Memory.{Given}
use Rattle.streams.specs.Streams.{Read, before_left, left_is}
use Rattle.streams.proofs.Fronts.{front_left, none_left, read_told}
use Rattle.streams.proofs.mem_source.MemSourceSource.read.Goals as goal

pub returns-clause-read : goal.returns-clause-read
returns-clause-read c =
    let s = c.self.inside in
    let n = c.copy_front-n.result in
    let buf = c.copy_front-n.new.buf in
    let P : Given → Type 0 = λ source. Read before_left left_is buf (Some source.left) (Some (drop (s.at + n) s.bytes)) (Ok n) in
    subst P c.self.view_is
    (read_told before_left left_is (drop s.at s.bytes) (drop (s.at + n) s.bytes) buf n (front_left s.bytes buf s.at n (cc))
    (none_left s.bytes s.at (length c.args.buf.now) s.piece n c.requires (cc)))
