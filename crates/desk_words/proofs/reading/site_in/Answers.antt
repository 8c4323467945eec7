use Rattle.std.proofs.Common.{◌∙◌, ℕ, List, [], Bor, codes, Option, option_map, sym, ap}
use Rattle.std.specs.Option.{option_map_or}
use Rattle.clap.specs.Words.{found_of}
use Rattle.clap.proofs.WalkLemmas.{first_value-rows}
use Rattle.desk_words.proofs.reading.site_in.Goals as goal

pub returns-in-Some : goal.returns-in-Some
returns-in-Some c =
    ap (λ (o : Option (List ℕ)). option_map_or (λ text. text) o [])
    (ap (λ (o : Option (Bor (List ℕ))). option_map (λ site. site.now) o) (sym c.in-Some.is) ∙ c.get_str.ensures ∙ first_value-rows (found_of c.args.matches.now) (codes "site"))
