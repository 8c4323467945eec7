use Rattle.std.proofs.Common.{refl}
use Rattle.store_statements.proofs.making.make_last.Goals as goal

pub returns-clause-makes : goal.returns-clause-makes
returns-clause-makes g c clean was =
    let made = c.in_ok-make_languages.ensures.makes clean was in
    (made.ready, rw (made.others.0, made.others.1.0, made.others.1.1.0, made.others.1.1.1.0, made.others.1.1.1.1.0, made.others.1.1.1.1.1.0, made.empty) refl)
