-- A revision that is read is at most the greatest.
use Rattle.std.proofs.Common.{ℕ, ◌≤◌, leb, Option, Some}
use Rattle.std.specs.Prelude.{codes, IfSome, IfOk}
use Rattle.std.proofs.lemmas.Bool.{leb-true}
use Rattle.serde_json.specs.Data.{Data}
use Rattle.http_messages.specs.declared.head.Head.{Head}
use Rattle.http_messages.specs.Framing.{only_named, number_of}
use Rattle.http_routes.specs.declared.part.Part.TheVariants.{Rev}
use Rattle.keep_core.specs.declared.limits.TheConstants.{MOST_REVISION}
use Rattle.http_routes.proofs.Chosen.{when}
use Rattle.http_commands.specs.Revisions.{at_most_greatest, stated, revision_in, whole, rev_of}
use Rattle.http_commands.proofs.Steps.{shaped, past_some}

-- at most the greatest revision
abbrev pub IsWithin : ℕ → Type 0
IsWithin n = n ≤ MOST_REVISION

kept_within : (n : ℕ) → IfSome (at_most_greatest n) IsWithin
kept_within n = when (leb n MOST_REVISION) (Some n) IsWithin (λ below. leb-true n MOST_REVISION below)

pub rev_within : (member : Option Data) → IfSome (rev_of member) IsWithin
rev_within member = past_some IsWithin member _ (λ d. past_some IsWithin (whole d) at_most_greatest kept_within)

pub revision_within : (h : Head) → IfOk (revision_in h) IsWithin
revision_within h =
    shaped IsWithin Rev 0 (stated h) (
    past_some IsWithin (only_named (codes "x-rev") h) _ (λ f. past_some IsWithin (number_of f.value) at_most_greatest kept_within))
