use Rattle.std.proofs.Common.{◌≡◌, ◌++◌, drop}
use Rattle.fixture_pages.specs.Sketches.{numbered}
use Rattle.fixture_pages.proofs.pages.raw.Given as goal

abbrev pub invariant-loop-node : goal.invariant-loop-node
invariant-loop-node l = l.rows.items ++ numbered l.last (drop l.node-index l.nodes) ≡ numbered 0 l.nodes
