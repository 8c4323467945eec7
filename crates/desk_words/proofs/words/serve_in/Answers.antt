use Rattle.std.proofs.Common.{◌∙◌, ℕ, List, ap, sym, map, option_map, Bor}
use Rattle.clap.specs.Words.{found_of, rows_of}
use Rattle.desk_words.specs.Words.{serve_app, serving_of}
use Rattle.desk_words.specs.declared.command.ProgramCommand.TheVariants.{Serve}
use Rattle.desk_words.proofs.Refused.{makes}
use Rattle.desk_words.proofs.words.serve_in.Goals as goal

pub returns-in-Some-clause-exact : goal.returns-in-Some-clause-exact
returns-in-Some-clause-exact c =
    makes (λ rows. Serve (serving_of rows)) _ serve_app _ c.args.words.now (rows_of (found_of c.in-Some.matches)) _ c.in_ok-serve_command.ensures
    (ap (λ (l : List (Bor (List ℕ))). map (λ text. text.now) l) c.as_slice.ensures.value ∙ c.in_ok-texts.ensures)
    (ap (λ o. option_map (λ m. rows_of (found_of m)) o) (sym c.in-Some.is) ∙ c.in_ok-matches.ensures) (ap Serve c.in_ok-serving_of-in-Some.ensures.exact)
