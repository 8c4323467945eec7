-- Cases that were read apart are those of the whole.
use Rattle.std.proofs.Common.{◌≡◌, ℕ, suc, Bool, true, false, ◌&&◌, if◌then◌else◌, List, [], ◌∷◌, ◌++◌, length, codes, nat_le, Option, Some, None, is_some, option_map, option_and_then, Result, Ok, Err, is_ok, refl, sym, ap, ap₂, ◌∙◌, subst}
use Rattle.std.proofs.lemmas.Bool.{false≢true, and_parts}
use Rattle.std.specs.Borrow.{Bor}
use Rattle.serde_json.specs.Data.{Data, array, object, Items, no_items, item, Members, no_members, member}
use Rattle.serde_json.specs.Find.{get, as_object}
use Rattle.snap_tree.specs.Trees.{Document}
use Rattle.snap_json.specs.declared.fault.SnapFault.{SnapFault}
use Rattle.snap_json.specs.Fields.{text_of}
use Rattle.snap_json.specs.Pages.{json_of, next_place}
use Rattle.snap_json.proofs.Json.{is_json}
use Rattle.json_parts.specs.Parts.{part_of, parts_of}
use Rattle.rule_core.specs.declared.info.RuleNo.{RuleNo}
use Rattle.rule_core.specs.declared.info.RuleInfo.{RuleInfo}
use Rattle.keep_core.specs.Names.{is_name}
use Rattle.case_run.specs.declared.case.Case.{Case}
use Rattle.case_run.specs.declared.case.Expected.{Expected}
use Rattle.case_run.specs.declared.fault.CaseField.TheVariants as field
use Rattle.case_run.specs.declared.fault.CasesFault.{CasesFault}
use Rattle.case_run.specs.declared.fault.CasesFault.TheVariants.{TooLong}
use Rattle.case_run.specs.declared.limits.TheConstants.{MOST_CASES_BYTES}
use Rattle.case_run.specs.Faults.{◌>>=◌, in_shape}
use Rattle.case_run.specs.Snapshots.{in_case, tree_of}
use Rattle.case_run.specs.Cases.{is_new, new_id, id_of, rule_of, expected_of, case_at, cases_from, many, is_count, cases_of, in_json, cases_in}
use Rattle.case_run.proofs.Snapped.{snapped}
use Rattle.case_run.specs.Apart.{all_alone, texts_of, AreAlone, all_new, AreItems}

failed : {P : Type 0} (fault : CasesFault) (A : Type 0) (x : A) → Err fault ≡ Ok x → P
failed fault A x h = absurd (false≢true (ap is_ok h))

nothing : {P : Type 0} (A : Type 0) (x : A) → None ≡ Some x → P
nothing A x h = absurd (false≢true (ap is_some h))

abbrev ok_or : {A : Type 0} → A → Result A CasesFault → A
ok_or d (Ok x) = x
ok_or d (Err e) = d

abbrev some_or : {A : Type 0} → A → Option A → A
some_or d (Some x) = x
some_or d None = d

-- ---- a case by itself, and after others

-- the case of these members
abbrev made : ℕ → Option Members → Option (List ℕ) → Option RuleNo → Option Expected → Option Data → Result Case CasesFault
made place members id rule expected snapshot = do
  all ← in_shape place field.Case members
  id_is ← in_shape place field.Id id
  rule_is ← in_shape place field.Rule rule
  expected_is ← in_shape place field.Expected expected
  snapshot_is ← in_shape place field.Snapshot snapshot
  tree ← tree_of place snapshot_is
  Ok (record { id = id_is; rule = rule_is; expected = expected_is; tree = tree })

-- the same id after others
abbrev Keeps : Option (List ℕ) → Option (List ℕ) → Case → Type 0
Keeps id id_after c = (i : List ℕ) → id ≡ Some i → c.id ≡ i → id_after ≡ Some i

with_tree : (place : ℕ) (i : List ℕ) (id_after : Option (List ℕ)) (r : RuleNo) (e : Expected) (t : Result Document SnapFault) (c : Case) → Keeps (Some i) id_after c
    → (in_case 1 t >>= λ tree. Ok (record { id = i; rule = r; expected = e; tree = tree })) ≡ Ok c
    → (in_shape place field.Id id_after >>= λ id. in_case place t >>= λ tree. Ok (record { id = id; rule = r; expected = e; tree = tree })) ≡ Ok c
with_tree place i id_after r e (Err f) c keeps h = failed _ Case c h
with_tree place i id_after r e (Ok tree) c keeps h =
    let same : i ≡ c.id = ap (λ m. (ok_or c m).id) h in
    ap (λ o. in_shape place field.Id o >>= λ id. Ok (record { id = id; rule = r; expected = e; tree = tree })) (keeps i refl (sym same)) ∙ h

made_after : (place : ℕ) (members : Option Members) (id id_after : Option (List ℕ)) (rule : Option RuleNo) (expected : Option Expected) (snapshot : Option Data) (c : Case) → Keeps id id_after c
    → made 1 members id rule expected snapshot ≡ Ok c → made place members id_after rule expected snapshot ≡ Ok c
made_after place None id id_after rule expected snapshot c keeps h = failed _ Case c h
made_after place (Some ms) None id_after rule expected snapshot c keeps h = failed _ Case c h
made_after place (Some ms) (Some i) id_after None expected snapshot c keeps h = failed _ Case c h
made_after place (Some ms) (Some i) id_after (Some r) None snapshot c keeps h = failed _ Case c h
made_after place (Some ms) (Some i) id_after (Some r) (Some e) None c keeps h = failed _ Case c h
made_after place (Some ms) (Some i) id_after (Some r) (Some e) (Some s) c keeps h = with_tree place i id_after r e (snapped s) c keeps h

named : (earlier : List Case) (t i : List ℕ) (b : Bool) → is_name t ≡ b → (if b && true then Some t else None) ≡ Some i → is_new earlier i ≡ true → new_id earlier t ≡ Some i
named earlier t i false is h new = nothing (List ℕ) i h
named earlier t i true is h new = ap₂ (λ a b. if a && b then Some t else None) is (ap (is_new earlier) (ap (some_or i) h) ∙ new) ∙ h

id_after_others : (earlier : List Case) (o : Option (List ℕ)) (i : List ℕ) → option_and_then (new_id []) o ≡ Some i → is_new earlier i ≡ true → option_and_then (new_id earlier) o ≡ Some i
id_after_others earlier None i h new = h
id_after_others earlier (Some t) i h new = named earlier t i (is_name t) refl h new

-- a case by itself is the same after others, where none of them has its id
moved : (infos : List RuleInfo) (earlier : List Case) (place : ℕ) (d : Data) (c : Case) → case_at infos [] 1 d ≡ Ok c → is_new earlier c.id ≡ true → case_at infos earlier place d ≡ Ok c
unfolding case_at
moved infos earlier place d c h new =
    let m = get (codes "id") d in
    made_after place (as_object d) (id_of [] m) (id_of earlier m) (rule_of infos (get (codes "rule") d)) (expected_of (get (codes "expected") d)) (get (codes "snapshot") d) c
    (λ i e same. id_after_others earlier (text_of m) i e (ap (is_new earlier) (sym same) ∙ new)) h

-- ---- the values of texts that are cases by themselves

abbrev Each : List RuleInfo → Items → List Case → Type 0
Each infos no_items [] = Unit {0}
Each infos no_items (c ∷ cases) = ⊥
Each infos (item d others) [] = ⊥
Each infos (item d others) (c ∷ cases) = (case_at infos [] 1 d ≡ Ok c) × Each infos others cases

record Valued (infos : List RuleInfo) (parts : List (List ℕ)) (cases : List Case) : Type 0 where
  values : Items
  are : parts_of parts ≡ Some values
  count : many values ≡ length parts
  each : Each infos values cases

module _ (infos : List RuleInfo) (part : List ℕ) (parts : List (List ℕ)) (cases : List Case) (again : (cs : List Case) → all_alone infos parts ≡ Ok cs → Valued infos parts cs) where
  with_case : (d : Data) → part_of part ≡ Some d → (m : Result Case CasesFault) → case_at infos [] 1 d ≡ m → (r : Result (List Case) CasesFault) → all_alone infos parts ≡ r
      → (m >>= λ first. r >>= λ rest. Ok (first ∷ rest)) ≡ Ok cases → Valued infos (part ∷ parts) cases
  with_case d is (Err f) meant r later h = failed _ (List Case) cases h
  with_case d is (Ok c) meant (Err f) later h = failed _ (List Case) cases h
  with_case d is (Ok c) meant (Ok cs) later h =
      let rest = again cs later in
      let same : c ∷ cs ≡ cases = ap (ok_or cases) h in
      subst (Valued infos (part ∷ parts)) same
      (record {
        values = item d rest.values;
        are = ap (option_and_then (λ v. option_map (item v) (parts_of parts))) is ∙ ap (option_map (item d)) rest.are;
        count = ap suc rest.count;
        each = (meant, rest.each);
      })

  with_part : (o : Option Data) → part_of part ≡ o → ((in_json o >>= case_at infos [] 1) >>= λ first. all_alone infos parts >>= λ rest. Ok (first ∷ rest)) ≡ Ok cases → Valued infos (part ∷ parts) cases
  with_part None is h = failed _ (List Case) cases h
  with_part (Some d) is h = with_case d is (case_at infos [] 1 d) refl (all_alone infos parts) refl h

valued : (infos : List RuleInfo) (parts : List (List ℕ)) (cases : List Case) → all_alone infos parts ≡ Ok cases → Valued infos parts cases
valued infos [] cases h = let same : [] ≡ cases = ap (ok_or cases) h in record { values = no_items; are = refl; count = refl; each = subst (Each infos no_items) same tt }
valued infos (part ∷ parts) cases h = with_part infos part parts cases (valued infos parts) (part_of part) refl h

-- ---- the whole

from_each : (infos : List RuleInfo) (values : Items) (cases earlier : List Case) (place : ℕ) → Each infos values cases → all_new earlier cases ≡ true → cases_from infos earlier place values ≡ Ok cases
from_each infos no_items [] earlier place each new = refl
from_each infos no_items (c ∷ cases) earlier place each new = absurd each
from_each infos (item d others) [] earlier place each new = absurd each
from_each infos (item d others) (c ∷ cases) earlier place each new =
    let both = and_parts (is_new earlier c.id) (all_new (earlier ++ c ∷ []) cases) new in
    let onward = λ (first : Case). cases_from infos (earlier ++ first ∷ []) (next_place place) others >>= λ rest. Ok (first ∷ rest) in
    ap (λ m. m >>= onward) (moved infos earlier place d c each.0 both.0) ∙ ap (λ r. r >>= λ rest. Ok (c ∷ rest)) (from_each infos others cases (earlier ++ c ∷ []) (next_place place) each.1 both.1)

of_object : (infos : List RuleInfo) (values : Items) (cases : List Case) → is_count (many values) ≡ true → cases_from infos [] 1 values ≡ Ok cases → cases_of infos (object (member (codes "cases") (array values) no_members)) ≡ Ok cases
unfolding cases_of
of_object infos values cases few is = ap (λ b. in_shape 0 field.Cases (if b then Some values else None) >>= cases_from infos [] 1) few ∙ is

in_bytes : (infos : List RuleInfo) (bytes : List ℕ) (d : Data) (cases : List Case) → nat_le (length bytes) MOST_CASES_BYTES ≡ true → json_of bytes ≡ Some d → cases_of infos d ≡ Ok cases → cases_in infos bytes ≡ Ok cases
unfolding cases_in
in_bytes infos bytes d cases within json meant = ap (λ b. if b then in_json (json_of bytes) >>= cases_of infos else Err TooLong) within ∙ ap (λ o. in_json o >>= cases_of infos) json ∙ meant

-- cases that texts are by themselves, of which each has another id, are those of the list that has these texts
pub together : (infos : List RuleInfo) (bytes : List ℕ) (parts : List (Bor (List ℕ))) (cases : List Case) → AreItems bytes (texts_of parts) → AreAlone infos parts cases → all_new [] cases ≡ true → cases_in infos bytes ≡ Ok cases
together infos bytes parts cases items apart new =
    let v = valued infos (texts_of parts) cases apart in
    let json = items.parts_are v.values v.are in
    let few = ap is_count v.count ∙ items.few in
    in_bytes infos bytes (object (member (codes "cases") (array v.values) no_members)) cases items.within (is_json bytes _ json.0 json.1) (of_object infos v.values cases few (from_each infos v.values cases [] 1 v.each new))
