use Rattle.std.proofs.Common.{◌≡◌, ℕ, List, [], not, Bool, IfOk, ◌∙◌, ap, subst}
use Rattle.std.specs.Option.{option_map_or}
use Rattle.texts.specs.Words.{tidy}
use Rattle.acc_tree.specs.Inclusion.{exposed}
use Rattle.acc_tree.specs.Seen.{seen}
use Rattle.acc_tree.specs.Sights.{Sight, seen_sight}
use Rattle.acc_name.specs.declared.named.How.TheVariants as how
use Rattle.acc_name.specs.Names.{Asked, untold, spoken, referred}
use Rattle.acc_name.proofs.following.referred.Goals as goal

pub returns : goal.returns
returns c =
    let asked : Bool → Asked = λ shown. record { node = c.args.node; hidden = not shown; told = untold } in
    let says : Sight → List ℕ = λ s. tidy (spoken (asked (exposed s.above s.row)) how.Referred s).text in
    let name_is = c.in_ok-name.ensures ∙ ap (λ shown. spoken (asked shown) how.Referred (seen_sight c.in-Some.sight)) c.exposed_at-hidden.ensures in
    let text_is : tidy c.in_ok-name.name.text ≡ referred (seen c.args.tree.now.trees) c.args.node c.args.m =
    ap (λ name. tidy name.text) name_is ∙ ap (λ s. option_map_or says s []) c.in-Some.ensures in
    subst (λ (text : List ℕ). IfOk c.tidied.result (λ t. t ≡ text)) text_is c.tidied.ensures
