-- The claims that a body makes, by what the call answered; and that they are few, each of an atomic rule of the book.
use Rattle.std.proofs.Common.{◌≡◌, List, true, Option, Result, Ok, Err, inl, inr, sym, ap}
use Rattle.std.specs.Prelude.{IfOk}
use Rattle.serde_json.specs.Data.{Data}
use Rattle.rule_core.specs.declared.info.RuleInfo.{RuleInfo}
use Rattle.rule_core.specs.Infos.{is_orderly}
use Rattle.earl_in.specs.declared.claim.Claim.{Claim}
use Rattle.earl_in.specs.declared.claim.EarlFault.{EarlFault}
use Rattle.earl_in.specs.declared.claim.EarlFault.TheVariants as earl
use Rattle.earl_in.specs.Reading.{read_earl, Fit, Answers}
use Rattle.earl_in.proofs.Fits.{read_fits}
use Rattle.http_routes.specs.declared.part.Part.TheVariants as part
use Rattle.http_routes.specs.declared.fault.RequestFault.TheVariants.{BadShape}
use Rattle.http_commands.specs.Claims.{unless_fault, claims_in}

pub claims_given : (given : Result (List (Option Claim)) EarlFault) (claims : List (Option Claim)) → Answers (Ok claims) given → unless_fault given ≡ Ok claims
claims_given given claims (inl is) = ap unless_fault (sym is)
claims_given given claims (inr fails) = cc

pub body_given : (given : Result (List (Option Claim)) EarlFault) → Answers (Err earl.Body) given → unless_fault given ≡ Err (BadShape part.Body 0)
body_given given (inl is) = ap unless_fault (sym is)
body_given given (inr fails) = cc

pub graph_given : (given : Result (List (Option Claim)) EarlFault) → Answers (Err earl.Graph) given → unless_fault given ≡ Err (BadShape part.Graph 0)
graph_given given (inl is) = ap unless_fault (sym is)
graph_given given (inr fails) = cc

unless_fits : (infos : List RuleInfo) (r : Result (List (Option Claim)) EarlFault) → IfOk r (Fit infos) → IfOk (unless_fault r) (Fit infos)
unless_fits infos (Ok claims) fit = fit
unless_fits infos (Err fault) fit = tt

pub claims_fit : (infos : List RuleInfo) (body : Data) → is_orderly infos ≡ true → IfOk (claims_in infos body) (Fit infos)
claims_fit infos body orderly = unless_fits infos (read_earl infos body) (read_fits infos body orderly)
