-- Cases that are read apart: each as the text of one item of the list.
use Rattle.std.specs.Prelude.{◌≡◌, ℕ, List, [], ◌∷◌, ◌++◌, length, map, codes, nat_le, Bool, true, ◌&&◌, Result, Ok}
use Rattle.std.specs.Borrow.{Bor}
use Rattle.json_parts.specs.Parts.{part_of, AreParts}
use Rattle.rule_core.specs.declared.info.RuleInfo.{RuleInfo}
use Rattle.case_run.specs.declared.case.Case.{Case}
use Rattle.case_run.specs.declared.fault.CasesFault.{CasesFault}
use Rattle.case_run.specs.declared.limits.TheConstants.{MOST_CASES_BYTES}
use Rattle.case_run.specs.Faults.{◌>>=◌}
use Rattle.case_run.specs.Cases.{case_at, in_json, is_new, is_count}

-- the case that a text is by itself
abbrev pub alone : List RuleInfo → List ℕ → Result Case CasesFault
alone infos part = in_json (part_of part) >>= case_at infos [] 1

-- the cases that texts are, each by itself
abbrev pub all_alone : List RuleInfo → List (List ℕ) → Result (List Case) CasesFault
all_alone infos [] = Ok []
all_alone infos (part ∷ parts) = do
  first ← alone infos part
  rest ← all_alone infos parts
  Ok (first ∷ rest)

abbrev pub texts_of : List (Bor (List ℕ)) → List (List ℕ)
texts_of parts = map (λ p. p.now) parts

abbrev pub AreAlone : List RuleInfo → List (Bor (List ℕ)) → List Case → Type 0
AreAlone infos parts cases = all_alone infos (texts_of parts) ≡ Ok cases

-- none of the cases has the id of another, nor of earlier ones
abbrev pub all_new : List Case → List Case → Bool
all_new earlier [] = true
all_new earlier (c ∷ others) = is_new earlier c.id && all_new (earlier ++ c ∷ []) others

-- these are the texts of the items of a list of 1 to 64
pub record AreItems (bytes : List ℕ) (parts : List (List ℕ)) : Type 0 where
  pub within : nat_le (length bytes) MOST_CASES_BYTES ≡ true
  pub few : is_count (length parts) ≡ true
  pub parts_are : AreParts (codes "cases") bytes parts
