-- Which values are EARL that is read; where they are none, the first fault.
use Rattle.std.specs.Prelude.{◌≡◌, ◌⊎◌, ◌≤◌, ℕ, zero, suc, List, [], ◌∷◌, length, codes, nat_le, true, IfSome, if◌then◌else◌, Option, Some, None, option_and_then, Result, Ok, Err}
use Rattle.std.specs.List.{AllByRecursion}
use Rattle.serde_json.specs.Data.{Data, Items, no_items, item}
use Rattle.serde_json.specs.Find.{get, as_array, as_object}
use Rattle.rule_core.specs.declared.info.RuleInfo.{RuleInfo}
use Rattle.rule_core.specs.Infos.{has_atomic}
use Rattle.earl_in.specs.declared.claim.Claim.{Claim}
use Rattle.earl_in.specs.declared.claim.EarlFault.{EarlFault}
use Rattle.earl_in.specs.declared.claim.EarlFault.TheVariants.{Body, Graph, OutOfMemory}
use Rattle.earl_in.specs.declared.limits.TheConstants.{MOST_CLAIMS}
use Rattle.earl_in.specs.Entries.{claim_of}

-- the next step, unless this one found a fault
infixl 10 ◌>>=◌
abbrev pub ◌>>=◌ : {A B : Type 0} → Result A EarlFault → (A → Result B EarlFault) → Result B EarlFault
(Ok x) >>= next = next x
(Err e) >>= next = Err e

-- what was found, or a fault
abbrev pub unless_absent : {A : Type 0} → EarlFault → Option A → Result A EarlFault
unless_absent fault (Some x) = Ok x
unless_absent fault None = Err fault

-- how many entries
abbrev pub many : Items → ℕ
many no_items = zero
many (item entry others) = suc (many others)

abbrev pub few : Items → Option Items
few entries = if nat_le (many entries) MOST_CLAIMS then Some entries else None

-- a list of at most 10,000 entries
abbrev pub graph_of : Option Data → Option Items
graph_of member = option_and_then few (option_and_then as_array member)

-- the claim that each entry is; none for an entry that is skipped
abbrev pub claims_in : List RuleInfo → Items → List (Option Claim)
claims_in infos no_items = []
claims_in infos (item entry others) = claim_of infos entry ∷ claims_in infos others

-- the claims of an object whose `@graph` is a list of at most 10,000 entries
unfoldable pub read_earl : List RuleInfo → Data → Result (List (Option Claim)) EarlFault
read_earl infos body = do
  members ← unless_absent Body (as_object body)
  entries ← unless_absent Graph (graph_of (get (codes "@graph") body))
  Ok (claims_in infos entries)

-- not too many claims, each of an atomic rule of the book of these infos
pub record Fit (infos : List RuleInfo) (claims : List (Option Claim)) : Type 0 where
  pub within : length claims ≤ MOST_CLAIMS
  pub atomic : AllByRecursion (λ claim. IfSome claim (λ c. has_atomic infos c.rule.0 ≡ true)) claims

-- what the call answered is what the definition gives, unless memory ran out
abbrev pub Gives : {A : Type 0} → Result A EarlFault → Result A EarlFault → Type 0
Gives (Err OutOfMemory) given = Unit {0}
Gives answer given = given ≡ answer

-- the same, as one choice
abbrev pub Answers : {A : Type 0} → Result A EarlFault → Result A EarlFault → Type 0
Answers answer given = (answer ≡ given) ⊎ (answer ≡ Err OutOfMemory)
