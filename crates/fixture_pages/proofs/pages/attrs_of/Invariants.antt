use Rattle.std.proofs.Common.{◌≡◌, map, take}
use Rattle.fixture_pages.specs.Sketches.{attr_of}
use Rattle.fixture_pages.proofs.pages.attrs_of.Given as goal

abbrev pub invariant-loop-name : goal.invariant-loop-name
invariant-loop-name l = l.list.items ≡ map attr_of (take l.name-index l.attrs)
