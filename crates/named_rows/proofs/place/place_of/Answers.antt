use Rattle.std.proofs.Common.{rules}
use Rattle.std.proofs.lemmas.Fn.{always_returns_same}
use Rattle.named_rows.specs.ByName.{names_cmp}
use Rattle.named_rows.proofs.Places.{searched}
use Rattle.named_rows.proofs.place.place_of.Goals as goal

-- the closure compares a row's name with the one that is looked for
pub returns-in-Ok : goal.returns-in-Ok
returns-in-Ok g c =
    let facts = c.binary_search_by.ensures in
    let compares = facts.position (λ row. names_cmp (g.T.Named.name row) c.args.name.now) (always_returns_same _ _ _ (λ a r q called. search rules)) in
    (rw c.in-Ok.is at (searched g.T.Named.name c.args.name.now c.args.rows.now c.binary_search_by.result c.requires facts.bound compares)).found

pub returns-in-Err : goal.returns-in-Err
returns-in-Err g c =
    let facts = c.binary_search_by.ensures in
    let compares = facts.position (λ row. names_cmp (g.T.Named.name row) c.args.name.now) (always_returns_same _ _ _ (λ a r q called. search rules)) in
    (rw c.in-Err.is at (searched g.T.Named.name c.args.name.now c.args.rows.now c.binary_search_by.result c.requires facts.bound compares)).vacant
