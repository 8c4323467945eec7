use Rattle.std.proofs.Common.{◌∙◌}
use Rattle.std.proofs.lemmas.Bool.{and_parts}
use Rattle.clap.specs.Words.{app_of, found_of, rows_of}
use Rattle.desk_words.proofs.Refused.{taken_so, not_taken}
use Rattle.desk_words.proofs.Taken.{taken}
use Rattle.desk_words.proofs.parsing.parsed.Goals as goal

pub returns-in-Ok : goal.returns-in-Ok
returns-in-Ok c =
    let parts = and_parts _ _ c.requires.simple in
    let free = and_parts _ _ parts.1 in
    taken_so (app_of c.args.command) _ _ (taken (app_of c.args.command) _ parts.0 c.requires.subs c.requires.defaults free.0 (c.in-Ok.ensures.kinds c.requires.simple)) (c.in-Ok.ensures.matches parts.0).0

pub returns-in-Err : goal.returns-in-Err
returns-in-Err c =
    not_taken (λ m. rows_of (found_of m)) (app_of c.args.command) _ c.not_taken.result c.kind.result c.not_taken.ensures.none c.not_taken.ensures.kind (λ t. c.kind.ensures ∙ c.in-Err.ensures.passes t)
