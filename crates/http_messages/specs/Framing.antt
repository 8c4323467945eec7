-- What a head says of the message that it begins: how long the body is, or why it is refused, and whether the
-- connection is closed after it.
use Rattle.std.specs.Prelude.{◌==◌, ℕ, not, ◌&&◌, ◌||◌, Bool, true, false, List, length, nat_lt, nat_le, if◌then◌else◌, codes, count_by, Option, Some, None, Result, Ok, Err}
use Rattle.std.specs.List.{find, list_any, list_all}
use Rattle.std.specs.Char.{is_ascii_digit}
use Rattle.std.specs.Str.{bytes_eq}
use Rattle.std.specs.Str.Parse.{digits_value}
use Rattle.texts.specs.Words.{same_folded}
use Rattle.http_messages.specs.declared.fault.HeadFault.{HeadFault}
use Rattle.http_messages.specs.declared.fault.HeadFault.TheVariants.{BadHead, TransferEncoding, LengthRequired, BodyTooLarge}
use Rattle.http_messages.specs.declared.head.Version.{Version}
use Rattle.http_messages.specs.declared.head.Version.TheVariants.{Http10, Http11}
use Rattle.http_messages.specs.declared.head.Field.{Field}
use Rattle.http_messages.specs.declared.head.Head.{Head}
use Rattle.http_messages.specs.declared.framing.TheConstants.{MOST_BODY, MOST_DIGITS}

-- ---- fields by their names

-- the field has this name, whatever the case of its letters
abbrev pub is_named : List ℕ → Field → Bool
is_named name f = same_folded f.name name

abbrev pub first_named : List ℕ → Head → Option Field
first_named name h = find (is_named name) h.fields

-- the field of this name, where there is exactly one
abbrev pub only_named : List ℕ → Head → Option Field
only_named name h = if count_by (is_named name) h.fields == 1 then first_named name h else None

abbrev pub has_field : List ℕ → Head → Bool
has_field name h = list_any (is_named name) h.fields

-- each field of this name has this value
abbrev pub all_are : List ℕ → List ℕ → Head → Bool
all_are name value h = list_all (λ f. not (is_named name f) || bytes_eq f.value value) h.fields

-- some field of this name has this value, whatever the case of its letters
abbrev pub some_is : List ℕ → List ℕ → Head → Bool
some_is name value h = list_any (λ f. is_named name f && same_folded f.value value) h.fields

-- ---- the length of the body

-- 1 to 19 digits
unfoldable pub is_length : List ℕ → Bool
is_length v = not (length v == 0) && nat_le (length v) MOST_DIGITS && list_all is_ascii_digit v

-- the number that 1 to 19 digits give
abbrev pub number_of : List ℕ → Option ℕ
number_of v = if is_length v then Some (digits_value 10 v) else None

-- the content-length, by the first field of that name: a length that all others repeat
abbrev pub length_by : Head → Option Field → Result (Option ℕ) HeadFault
length_by h None = Ok None
length_by h (Some f) = if is_length f.value && all_are (codes "content-length") f.value h then Ok (Some (digits_value 10 f.value)) else Err BadHead

unfoldable pub stated_length : Head → Result (Option ℕ) HeadFault
stated_length h = length_by h (first_named (codes "content-length") h)

-- PUT and POST
abbrev pub needs_length : Head → Bool
needs_length h = bytes_eq h.method (codes "PUT") || bytes_eq h.method (codes "POST")

-- without a content-length the body is empty, where it may be
abbrev pub within_limit : Head → Option ℕ → Result ℕ HeadFault
within_limit h None = if needs_length h then Err LengthRequired else Ok 0
within_limit h (Some n) = if nat_lt MOST_BODY n then Err BodyTooLarge else Ok n

abbrev pub length_of : Head → Result (Option ℕ) HeadFault → Result ℕ HeadFault
length_of h (Err e) = Err e
length_of h (Ok stated) = if has_field (codes "transfer-encoding") h then Err TransferEncoding else within_limit h stated

-- how long the body is, or the first refusal that holds
unfoldable pub body_length : Head → Result ℕ HeadFault
body_length h = length_of h (stated_length h)

-- ---- what comes after the message

abbrev pub is_old : Version → Bool
is_old Http10 = true
is_old Http11 = false

-- the connection is closed after a message of version 1.0, or of which a connection field says `close`
unfoldable pub closes : Head → Bool
closes h = is_old h.version || some_is (codes "connection") (codes "close") h
