-- A case that was read straight from its members is the one that its text is.
use Rattle.std.proofs.Common.{◌≡◌, ℕ, List, [], codes, Option, Some, None, Result, Ok, Err, refl, sym, ap, ◌∙◌}
use Rattle.std.specs.Prelude.{IfOk, IfSome}
use Rattle.std.specs.Borrow.{Bor}
use Rattle.json.specs.Print.{escape, escape_byte}
use Rattle.serde_json.specs.Data.{Data, string, object, no_members, put}
use Rattle.json_parts.specs.Members.{ArePlain, object_of, AreMembers}
use Rattle.json_parts.specs.declared.members.Keys.{Keys}
use Rattle.json_parts.specs.declared.members.Members.{Members}
use Rattle.rule_core.specs.declared.info.RuleInfo.{RuleInfo}
use Rattle.case_run.specs.declared.case.Case.{Case}
use Rattle.case_run.specs.declared.fault.CaseField.TheVariants as field
use Rattle.case_run.specs.Faults.{◌>>=◌, in_shape}
use Rattle.case_run.specs.Snapshots.{in_case}
use Rattle.case_run.specs.Cases.{case_at, in_json}
use Rattle.case_run.specs.Apart.{alone}
use Rattle.case_run.specs.Straight.{HasMembers}
use Rattle.case_run.proofs.Snapped.{snapped}
use Rattle.case_run.proofs.SnapValues.{valued, shallow_value}

abbrev of_members : List ℕ → List ℕ → List ℕ → List ℕ → List ℕ → List ℕ → List ℕ → Data → Data
of_members k1 k2 k3 k4 id rule expected d = object (put k4 d (put k3 (string expected) (put k2 (string rule) (put k1 (string id) no_members))))

abbrev case_object : List ℕ → List ℕ → List ℕ → Data → Data
case_object = of_members (codes "id") (codes "rule") (codes "expected") (codes "snapshot")

case_from : (infos : List RuleInfo) (members : Members) (c : Case) (d : Data) → HasMembers infos members c → snapped d ≡ Ok c.tree
    → case_at infos [] 1 (case_object members.first.now members.second.now members.third.now d) ≡ Ok c
unfolding case_at
case_from infos members c d h tree =
    λ i. in_shape 1 field.Id (h.id i) >>= λ id. in_shape 1 field.Rule (h.rule i) >>= λ rule. in_shape 1 field.Expected (h.expected i) >>= λ expected. in_case 1 (tree i) >>= λ t. Ok (record { id = id; rule = rule; expected = expected; tree = t })

-- the keys of a case
pub record AreKeys (keys : Keys) : Type 0 where
  pub first : keys.first.now ≡ codes "id"
  pub second : keys.second.now ≡ codes "rule"
  pub third : keys.third.now ≡ codes "expected"
  pub last : keys.last.now ≡ codes "snapshot"

abbrev at : List ℕ → Bor (List ℕ)
at text = record { ref_ptr = (0, 0); now = text }

-- such keys, wherever they lie
abbrev pub case_keys : Keys
case_keys = record { first = at (codes "id"); second = at (codes "rule"); third = at (codes "expected"); last = at (codes "snapshot") }

plain : (k w : List ℕ) → k ≡ w → escape w ≡ w → escape k ≡ k
plain k w is h = ap escape is ∙ h ∙ sym is

pub plain_keys : (keys : Keys) → AreKeys keys → ArePlain keys
unfolding escape_byte
plain_keys keys are =
    record {
      first = plain keys.first.now (codes "id") are.first refl;
      second = plain keys.second.now (codes "rule") are.second refl;
      third = plain keys.third.now (codes "expected") are.third refl;
      last = plain keys.last.now (codes "snapshot") are.last refl;
    }

-- a text that is cut into the members of a case is that case
pub straightened : (infos : List RuleInfo) (keys : Keys) (part : List ℕ) (members : Members) (c : Case) → AreKeys keys → AreMembers keys part members → HasMembers infos members c → alone infos part ≡ Ok c
straightened infos keys part members c are cut h =
    let v = valued members.last.now c.tree h.snapshot.is in
    let whole = cut v.d (shallow_value members.last.now v.d h.snapshot.inner v.is) in
    let named : object_of keys members v.d ≡ case_object members.first.now members.second.now members.third.now v.d =
    λ i. of_members (are.first i) (are.second i) (are.third i) (are.last i) members.first.now members.second.now members.third.now v.d
    in
    ap (λ o. in_json o >>= case_at infos [] 1) (whole ∙ ap Some named) ∙ case_from infos members c v.d h v.means

pub straight_case : {E : Type 0} (infos : List RuleInfo) (keys : Keys) (part : List ℕ) (members : Members) (r : Result (Option Case) E) → AreKeys keys → AreMembers keys part members
    → IfOk r (λ o. IfSome o (HasMembers infos members)) → IfOk r (λ o. IfSome o (λ c. alone infos part ≡ Ok c))
straight_case infos keys part members (Ok (Some c)) are cut h = straightened infos keys part members c are cut h
straight_case infos keys part members (Ok None) are cut h = tt
straight_case infos keys part members (Err e) are cut h = tt
