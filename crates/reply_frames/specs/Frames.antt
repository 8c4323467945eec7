-- Replies of HTTP/1.1 (RFC 9112, sections 4 and 6.2; RFC 9110, sections 8.3 and 8.6): a status line, the fields, an
-- empty line, the body.
use Rattle.std.specs.Prelude.{ℕ, List, [], ◌++◌, Bool, true, false, length, codes, decimal, unwrap_or}
use Rattle.http.specs.StatusCode.{reason_phrase}
use Rattle.reply_frames.specs.declared.kind.Kind.{Kind}
use Rattle.reply_frames.specs.declared.kind.Kind.TheVariants.{Json, Text, JsonLd, Csv}

abbrev pub line_end : List ℕ
line_end = codes "\r\n"

-- the phrase of a status code
abbrev pub phrase : ℕ → List ℕ
phrase status = unwrap_or (reason_phrase status) []

unfoldable pub status_line : ℕ → List ℕ
status_line status = codes "HTTP/1.1 " ++ decimal status ++ codes " " ++ phrase status ++ line_end

-- the media type of a body
abbrev pub kind_text : Kind → List ℕ
kind_text Json = codes "application/json"
kind_text Text = codes "text/plain; charset=utf-8"
kind_text JsonLd = codes "application/ld+json"
kind_text Csv = codes "text/csv"

unfoldable pub type_line : Kind → List ℕ
type_line kind = codes "content-type: " ++ kind_text kind ++ line_end

unfoldable pub length_line : ℕ → List ℕ
length_line n = codes "content-length: " ++ decimal n ++ line_end

-- the connection is closed after the reply, or nothing is said of it
abbrev pub closing_line : Bool → List ℕ
closing_line true = codes "connection: close\r\n"
closing_line false = []

-- the head of a reply with a body of this length
unfoldable pub head : ℕ → Kind → Bool → ℕ → List ℕ
head status kind closes n = status_line status ++ type_line kind ++ length_line n ++ closing_line closes ++ line_end

unfoldable pub framed : ℕ → Kind → Bool → List ℕ → List ℕ
framed status kind closes body = head status kind closes (length body) ++ body
