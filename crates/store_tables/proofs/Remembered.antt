-- The address of a page that is remembered.
use Rattle.std.proofs.Common.{◌≡◌, ℕ, List, Bool, true, false, cond, Some, None, Result, Ok, Err, refl, sym}
use Rattle.url.specs.Parts.{Parts, serialize}
use Rattle.url.specs.Parser.{parse_url}
use Rattle.url.specs.declared.error.ParseError.{ParseError}
use Rattle.web_address.specs.Address.{is_web, web_text, address_of, IsWebAddress}
use Rattle.store_tables.proofs.Steps.{some_same, none_some}

-- what stands for itself is a web address
pub is_web_address : (text : List ℕ) → address_of text ≡ Some text → IsWebAddress text
unfolding address_of
is_web_address text is = by (parse_url None text) refl is
  where
    where_web : (url : Parts) → parse_url None text ≡ Ok url → (b : Bool) → is_web url ≡ b → cond b (Some (serialize url)) None ≡ Some text → IsWebAddress text
    where_web url parsed false web is = absurd (none_some text is)
    where_web url parsed true web is = record { url = url; parsed = parsed; web = web; same = sym (some_same (serialize url) text is) }

    by : (r : Result Parts ParseError) → parse_url None text ≡ r → web_text r ≡ Some text → IsWebAddress text
    by (Err e) parsed is = absurd (none_some text is)
    by (Ok url) parsed is = where_web url parsed (is_web url) refl is
