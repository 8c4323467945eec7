-- The body of a request that brings what was judged in another tool: its claims.
use Rattle.std.specs.Prelude.{List, Option, Result, Ok, Err}
use Rattle.serde_json.specs.Data.{Data}
use Rattle.rule_core.specs.declared.info.RuleInfo.{RuleInfo}
use Rattle.earl_in.specs.declared.claim.Claim.{Claim}
use Rattle.earl_in.specs.declared.claim.EarlFault.{EarlFault}
use Rattle.earl_in.specs.declared.claim.EarlFault.TheVariants as earl
use Rattle.earl_in.specs.Reading.{read_earl}
use Rattle.http_routes.specs.declared.part.Part.TheVariants as part
use Rattle.http_routes.specs.declared.fault.RequestFault.{RequestFault}
use Rattle.http_routes.specs.declared.fault.RequestFault.TheVariants.{BadShape}

-- the refusal by what isn't as it is to be: the body as a whole, or its graph
abbrev pub earl_fault : EarlFault → RequestFault
earl_fault earl.Body = BadShape part.Body 0
earl_fault _ = BadShape part.Graph 0

abbrev pub unless_fault : Result (List (Option Claim)) EarlFault → Result (List (Option Claim)) RequestFault
unless_fault (Ok claims) = Ok claims
unless_fault (Err fault) = Err (earl_fault fault)

abbrev pub claims_in : List RuleInfo → Data → Result (List (Option Claim)) RequestFault
claims_in infos body = unless_fault (read_earl infos body)
