use Rattle.std.proofs.Common.{take}
use Rattle.judged_rows.specs.ByNode.{IsByNode}
use Rattle.judged_rows.proofs.on_node.by_node.Given as goal

abbrev pub invariant-loop-judgement : goal.invariant-loop-judgement
invariant-loop-judgement l = IsByNode (take l.judgement-index l.js) l.by_node
