use Rattle.std.proofs.Common.{◌∙◌, ℕ, List, ap, sym, map, option_map, Bor}
use Rattle.clap.specs.Words.{found_of, rows_of}
use Rattle.desk_words.specs.Words.{generate_app, generating_of}
use Rattle.desk_words.specs.declared.command.ProgramCommand.TheVariants.{Generate}
use Rattle.desk_words.proofs.Refused.{makes}
use Rattle.desk_words.proofs.words.generate_in.Goals as goal

pub returns-in-Some-clause-exact : goal.returns-in-Some-clause-exact
returns-in-Some-clause-exact c =
    makes (λ rows. Generate (generating_of rows)) _ generate_app _ c.args.words.now (rows_of (found_of c.in-Some.matches)) _ c.in_ok-generate_command.ensures
    (ap (λ (l : List (Bor (List ℕ))). map (λ text. text.now) l) c.as_slice.ensures.value ∙ c.in_ok-texts.ensures)
    (ap (λ o. option_map (λ m. rows_of (found_of m)) o) (sym c.in-Some.is) ∙ c.in_ok-matches.ensures) (ap Generate c.in_ok-generating_of-in-Some.ensures)
