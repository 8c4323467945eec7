-- Which entries of a graph are claims.
use Rattle.std.specs.Prelude.{List, codes, true, if◌then◌else◌, Option, Some, None}
use Rattle.serde_json.specs.Data.{Data}
use Rattle.serde_json.specs.Find.{get}
use Rattle.rule_core.specs.declared.info.RuleInfo.{RuleInfo}
use Rattle.earl_in.specs.declared.claim.Claim.{Claim}
use Rattle.earl_in.specs.Words.{reference_of, rule_of, is_by_person, verdict_of, node_of, digest_of, note_of}

-- the next step, unless this one found nothing
infixl 10 ◌>>=◌
abbrev pub ◌>>=◌ : {A B : Type 0} → Option A → (A → Option B) → Option B
(Some x) >>= next = next x
None >>= next = None

-- The claim that an entry is, for the rules of these infos; none where a member is absent, or isn't as it has to be. What
-- is no object has no members.
unfoldable pub claim_of : List RuleInfo → Data → Option Claim
claim_of infos entry = do
  subject ← reference_of (get (codes "earl:subject") entry)
  rule ← rule_of infos (get (codes "earl:test") entry)
  mode ← (if is_by_person (get (codes "earl:mode") entry) then Some true else None)
  result ← get (codes "earl:result") entry
  verdict ← verdict_of (get (codes "earl:outcome") result)
  node ← node_of (get (codes "earl:pointer") result)
  digest ← digest_of (get (codes "earl:info") result)
  note ← note_of (get (codes "earl:info") result)
  Some (record { subject = subject; rule = rule; node = node; verdict = verdict; digest = digest; note = note })
