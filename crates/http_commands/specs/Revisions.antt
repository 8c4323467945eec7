-- The revision that a sender saw: in the head, and of a page of an import.
use Rattle.std.specs.Prelude.{ℕ, codes, nat_le, if◌then◌else◌, Option, Some, None, option_and_then, Result}
use Rattle.serde_json.specs.Data.{Data}
use Rattle.serde_json.specs.Find.{as_number, as_u64}
use Rattle.http_messages.specs.declared.head.Head.{Head}
use Rattle.http_messages.specs.Framing.{only_named, number_of}
use Rattle.http_routes.specs.declared.part.Part.TheVariants.{Rev}
use Rattle.http_routes.specs.declared.fault.RequestFault.{RequestFault}
use Rattle.keep_core.specs.declared.limits.TheConstants.{MOST_REVISION}
use Rattle.http_commands.specs.Shapes.{in_shape}

-- at most the greatest revision
abbrev pub at_most_greatest : ℕ → Option ℕ
at_most_greatest n = if nat_le n MOST_REVISION then Some n else None

-- exactly one field x-rev, of 1 to 19 digits
abbrev pub stated : Head → Option ℕ
stated h = option_and_then (λ f. option_and_then at_most_greatest (number_of f.value)) (only_named (codes "x-rev") h)

-- the revision in a head
abbrev pub revision_in : Head → Result ℕ RequestFault
revision_in h = in_shape Rev 0 (stated h)

-- a whole number below 2^64; one with a sign, a fraction or an exponent is none
abbrev pub whole : Data → Option ℕ
whole d = option_and_then as_u64 (as_number d)

-- the revision that a member is
abbrev pub rev_of : Option Data → Option ℕ
rev_of member = option_and_then (λ d. option_and_then at_most_greatest (whole d)) member
