use Rattle.std.proofs.Common.{◌≡◌, [], ◌∷◌}
use Rattle.std.specs.List.{slice_get}
use Rattle.fixture_rules.proofs.marks.MarksRuleBook.info.Goals as goal

-- each info of the array is that of its rule
pub returns : goal.returns
returns c =
    let found : c.info_at.result ≡ slice_get (c.composite.result ∷ c.atomic.result ∷ c.atomic-2.result ∷ c.atomic-3.result ∷ c.composite-2.result ∷ []) c.args.place = rw c.as_slice.ensures at c.info_at.ensures in
    rw (c.composite.ensures, c.atomic.ensures, c.atomic-2.ensures, c.atomic-3.ensures, c.composite-2.ensures) at found
