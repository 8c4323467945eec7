use Rattle.std.proofs.Common.{Bool, sym, ap, subst, ◌∙◌}
use Rattle.std.specs.Prelude.{IsTrue, ◌↔◌, option_map, bytes_eq, string_bytes}
use Rattle.web_address.specs.Address.{IsWebAddress}
use Rattle.web_address.proofs.Standing.{decided}
use Rattle.web_address.proofs.is_web_address.Goals as goal

pub returns-in-Some : goal.returns-in-Some
returns-in-Some c =
    let text = c.args.text.now in
    let P : Bool → Type 0 = λ b. IsTrue b ↔ IsWebAddress text in
    let same = c.eq.ensures ∙ ap (λ b. bytes_eq b text) c.as_str.ensures.value in
    let stands = ap (option_map string_bytes) (sym c.in-Some.is) ∙ c.in_ok-address.ensures.value in
    subst P (sym same) (decided text (string_bytes c.in-Some.address) (rw c.in-Some.is at c.in_ok-address.ensures.web) stands)
