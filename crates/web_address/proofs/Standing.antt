-- A web address is what stands for itself, and what a text stands for is a web address.
use Rattle.std.proofs.Common.{◌≡◌, ℕ, true, cond, List, Some, None, Ok, refl, sym, ap, subst, ◌∙◌}
use Rattle.std.specs.Prelude.{bytes_eq, IsTrue, ◌↔◌}
use Rattle.std.proofs.lemmas.Slice.Eq.{bytes_eq-Decides}
use Rattle.url.specs.Parts.{Parts, serialize, IsValid}
use Rattle.url.specs.Parser.{parse_url}
use Rattle.url.proofs.Theorems.{parse_url_idempotent}
use Rattle.web_address.specs.Address.{is_web, web_text, address_of, IsWebAddress}

pub web_address : (text : List ℕ) (url : Parts) → IsValid url → parse_url None text ≡ Ok url → is_web url ≡ true → IsWebAddress (serialize url)
web_address text url valid parsed web =
    record { url = url; parsed = parse_url_idempotent None None text url tt valid parsed; web = web; same = refl }

pub stands_for_itself : (text : List ℕ) → IsWebAddress text → address_of text ≡ Some text
unfolding address_of
stands_for_itself text web =
    ap web_text web.parsed ∙ ap (λ b. cond b (Some (serialize web.url)) None) web.web ∙ ap Some (sym web.same)

-- a text is a web address exactly where it equals the web address that it stands for
pub decided : (text address : List ℕ) → IsWebAddress address → Some address ≡ address_of text → IsTrue (bytes_eq address text) ↔ IsWebAddress text
decided text address web stands =
    let same = bytes_eq-Decides address text in (
      λ e. subst IsWebAddress (same.0 e) web,
      λ w. let e : Some address ≡ Some text = stands ∙ stands_for_itself text w in same.1 cc,
    )
