use Rattle.std.proofs.Common.{◌∙◌, ℕ, List, Option, ap}
use Rattle.std.specs.Option.{option_map_or}
use Rattle.std.specs.Str.Parse.{ParsesUnsigned, ExplainsUnsignedError, HasUnsignedDigitsIfOk, digits_value, without_leading_plus}
use Rattle.clap.specs.Words.{found_of, one_text}
use Rattle.clap.proofs.WalkLemmas.{one_text-rows}
use Rattle.desk_words.proofs.Numbers.{number_read}
use Rattle.desk_words.proofs.reading.number.Goals as goal

pub returns-in-Some : goal.returns-in-Some
returns-in-Some c =
    let found = found_of c.args.matches.now in
    let id = c.args.id.now in
    number_read _ (λ bs r. ParsesUnsigned 64 10 bs r × ExplainsUnsignedError 10 bs r × HasUnsignedDigitsIfOk bs r) (one_text found id) c.get_one.result c.in-Some.n c.get_one.ensures.none c.get_one.ensures.value
    (λ t r g. g.0) c.in-Some.is
    ∙ ap (λ (o : Option (List ℕ)). option_map_or (λ t. digits_value 10 (without_leading_plus t)) o 0) (one_text-rows found id)
