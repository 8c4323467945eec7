-- Web addresses: URLs of the scheme http or https, as the URL Standard's parser reads and writes them.
use Rattle.std.specs.Prelude.{◌≡◌, ℕ, List, codes, bytes_eq, Bool, ◌||◌, if◌then◌else◌, IsTrue, Option, Some, None, Result, Ok, Err}
use Rattle.url.specs.Parts.{Parts, serialize}
use Rattle.url.specs.Parser.{parse_url}
use Rattle.url.specs.declared.error.ParseError.{ParseError}

-- the scheme is http or https
abbrev pub is_web : Parts → Bool
is_web url = bytes_eq url.scheme (codes "http") || bytes_eq url.scheme (codes "https")

-- the text of a URL that was parsed, where it is a web address
abbrev pub web_text : Result Parts ParseError → Option (List ℕ)
web_text (Ok url) = if is_web url then Some (serialize url) else None
web_text (Err e) = None

-- the web address that a text stands for: the parsed URL's text
unfoldable pub address_of : List ℕ → Option (List ℕ)
address_of text = web_text (parse_url None text)

-- a text that is parsed as a URL of the scheme http or https, and is that URL's text
pub record IsWebAddress (text : List ℕ) : Type 0 where
  pub url : Parts
  pub parsed : parse_url None text ≡ Ok url
  pub web : IsTrue (is_web url)
  pub same : text ≡ serialize url
