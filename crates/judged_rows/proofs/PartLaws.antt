-- The parts of a page's outcomes, put together.
use Rattle.std.proofs.Common.{◌≡◌, ℕ, ◌+◌, ◌<◌, ◌==◌, eqb, Bool, true, false, cond, List, [], ◌∷◌, ◌++◌, map, length, take, get_or, Option, Some, None, IfSome, refl, sym, ap, ◌∙◌, append-nil}
use Rattle.std.specs.List.{filter_map, flat_map, find, zip, cons_option, AllByRecursion}
use Rattle.std.specs.Option.{option_map, option_map_or}
use Rattle.std.proofs.lemmas.List.{take_more}
use Rattle.snap_tree.specs.declared.row.Row.{Row}
use Rattle.snap_tree.specs.Trees.{Document, rows_of}
use Rattle.rule_core.specs.declared.info.RuleNo.{RuleNo}
use Rattle.rule_core.specs.declared.info.RuleInfo.{RuleInfo}
use Rattle.rule_core.specs.declared.verdict.Verdict.{Verdict}
use Rattle.rule_core.specs.Infos.{is_atomic, info_of, has_atomic}
use Rattle.rule_core.specs.Books.{Book}
use Rattle.judge_core.specs.declared.judgement.Judgement.{Judgement}
use Rattle.judge_core.specs.declared.outcomes.OutRow.{OutRow}
use Rattle.judge_core.specs.Outcomes.{row_of, atomic_row, atomic_rows, composite_row, composite_rows, inputs_of, rule_rows, outcomes}
use Rattle.judged_rows.specs.declared.parts.RulePart.{RulePart}
use Rattle.judged_rows.specs.Merging.{AreOn}
use Rattle.judged_rows.specs.Parts.{SaysByAtomic, Suffice, IsPart, AreParts, rows_found}
use Rattle.judged_rows.proofs.Merged.{filter_map_map, same_number}

-- ---- lists

all_of : {X : Type 0} {P : X → Type 0} → ((x : X) → P x) → (xs : List X) → AllByRecursion P xs
all_of each [] = tt
all_of each (x ∷ xs) = (each x, all_of each xs)

pub all_map : {X : Type 0} {P Q : X → Type 0} → ((x : X) → P x → Q x) → (xs : List X) → AllByRecursion P xs → AllByRecursion Q xs
all_map each [] all = tt
all_map each (x ∷ xs) all = (each x all.0, all_map each xs all.1)

pub all_more : {X : Type 0} (P : X → Type 0) (xs : List X) (y : X) → AllByRecursion P xs → P y → AllByRecursion P (xs ++ y ∷ [])
all_more P [] y all last = (last, tt)
all_more P (x ∷ xs) y all last = (all.0, all_more P xs y all.1 last)

filter_map_none : {X Y : Type 0} (f : X → Option Y) (xs : List X) → ((x : X) → f x ≡ None) → filter_map f xs ≡ []
filter_map_none f [] none = refl
filter_map_none f (x ∷ xs) none = ap (λ o. cons_option o (filter_map f xs)) (none x) ∙ filter_map_none f xs none

-- ---- the nodes of a page suffice for every composite rule

pub all_suffice : (book : Book) (page : Document) (js : List Judgement) (part : RulePart) → part.nodes ≡ map (λ (row : Row). row.id) (rows_of page.trees) → Suffice book page js part
all_suffice book page js part is = record {
  rows = ap (filter_map (composite_row book page js part.info)) is ∙ filter_map_map (composite_row book page js part.info) (λ (row : Row). row.id) (rows_of page.trees);
  inputs = all_of (λ input. ap (filter_map (atomic_row book page js input)) is ∙ filter_map_map (atomic_row book page js input) (λ (row : Row). row.id) (rows_of page.trees)) (inputs_of part.info);
}

-- ---- the rows of an input are found

pub on_own : (book : Book) (page : Document) (js : List Judgement) (rule : RuleNo) → AreOn (atomic_row book page js rule)
on_own book page js rule n = own (book.means rule page n)
  where
    own : (v : Option Verdict) → IfSome (option_map (row_of rule n js) v) (λ row. row.node ≡ n)
    own None = tt
    own (Some verdict) = refl

found_in : (book : Book) (page : Document) (js : List Judgement) (input : RuleNo) (parts : List RulePart) → AllByRecursion (IsPart book page js) parts →
    (has_atomic (map (λ p. p.info) parts) input.0 ≡ false → atomic_rows book page js input ≡ []) → rows_found parts input.0 ≡ atomic_rows book page js input
found_in book page js input [] each strange = sym (strange refl)
found_in book page js input (p ∷ parts) each strange = here (input.0 == p.info.no.0) refl strange (found_in book page js input parts each.1)
  where
    kind : (b : Bool) → is_atomic p.info ≡ b → p.info.no ≡ input → (b ≡ false → atomic_rows book page js input ≡ []) → p.rows ≡ atomic_rows book page js input
    kind true e is none = each.0.atomic e ∙ ap (atomic_rows book page js) is
    kind false e is none = (each.0.composite e).0 ∙ sym (none refl)

    here : (b : Bool) → eqb input.0 p.info.no.0 ≡ b → (option_map_or is_atomic (cond b (Some p.info) (info_of (map (λ (q : RulePart). q.info) parts) input.0)) false ≡ false → atomic_rows book page js input ≡ []) →
        ((has_atomic (map (λ (q : RulePart). q.info) parts) input.0 ≡ false → atomic_rows book page js input ≡ []) → rows_found parts input.0 ≡ atomic_rows book page js input) →
        option_map_or (λ (q : RulePart). q.rows) (cond b (Some p) (find (λ (q : RulePart). input.0 == q.info.no.0) parts)) [] ≡ atomic_rows book page js input
    here true e strange later = kind (is_atomic p.info) refl (sym (ap (λ (n : ℕ). record { 0 = n }) (same_number input.0 p.info.no.0 e))) strange
    here false e strange later = later strange

pub found : (book : Book) (page : Document) (js : List Judgement) (parts : List RulePart) → SaysByAtomic book → AreParts book page js parts → (input : RuleNo) → rows_found parts input.0 ≡ atomic_rows book page js input
found book page js parts says are input =
    found_in book page js input parts are.each (λ no.
    filter_map_none _ (rows_of page.trees) (λ row. ap (option_map (row_of input row.id js)) (says input (ap (λ infos. has_atomic infos input.0) (sym are.whole) ∙ no) page row.id)))

pub inputs_found : (book : Book) (page : Document) (js : List Judgement) (parts : List RulePart) (part : RulePart) → SaysByAtomic book → AreParts book page js parts → Suffice book page js part →
    AllByRecursion (λ input. rows_found parts input.0 ≡ filter_map (atomic_row book page js input) part.nodes) (inputs_of part.info)
inputs_found book page js parts part says are suffice = all_map (λ input same. found book page js parts says are input ∙ sym same) (inputs_of part.info) suffice.inputs

-- ---- the parts one after another

abbrev pub merged_of : Book → Document → List Judgement → RulePart → List OutRow
merged_of book page js p = cond (is_atomic p.info) [] (composite_rows book page js p.info)

part_rows : (book : Book) (page : Document) (js : List Judgement) (p : RulePart) → IsPart book page js p → p.rows ++ merged_of book page js p ≡ rule_rows book page js p.info
part_rows book page js p is = kind (is_atomic p.info) refl
  where
    kind : (b : Bool) → is_atomic p.info ≡ b → p.rows ++ cond b [] (composite_rows book page js p.info) ≡ cond b (atomic_rows book page js p.info.no) (composite_rows book page js p.info)
    kind true e = append-nil p.rows ∙ is.atomic e
    kind false e = ap (λ l. l ++ composite_rows book page js p.info) (is.composite e).0

zipped : (book : Book) (page : Document) (js : List Judgement) (parts : List RulePart) → AllByRecursion (IsPart book page js) parts →
    flat_map (λ p. p.0.rows ++ p.1) (zip parts (map (merged_of book page js) parts)) ≡ flat_map (rule_rows book page js) (map (λ p. p.info) parts)
zipped book page js [] each = refl
zipped book page js (p ∷ parts) each =
    ap (λ l. l ++ flat_map (λ q. q.0.rows ++ q.1) (zip parts (map (merged_of book page js) parts))) (part_rows book page js p each.0)
    ∙ ap (λ l. rule_rows book page js p.info ++ l) (zipped book page js parts each.1)

pub whole : (book : Book) (page : Document) (js : List Judgement) (parts : List RulePart) (groups : List (List OutRow)) → AreParts book page js parts → groups ≡ map (merged_of book page js) parts →
    flat_map (λ p. p.0.rows ++ p.1) (zip parts groups) ≡ outcomes book page js
whole book page js parts groups are is =
    ap (λ l. flat_map (λ p. p.0.rows ++ p.1) (zip parts l)) is ∙ zipped book page js parts are.each ∙ ap (flat_map (rule_rows book page js)) are.whole

-- one part more
pub infos_more : (infos : List RuleInfo) (i : ℕ) (d : RuleInfo) (parts now : List RulePart) (p : RulePart) → i < length infos → map (λ q. q.info) parts ≡ take i infos → now ≡ parts ++ p ∷ [] → p.info ≡ get_or infos i d →
    map (λ q. q.info) now ≡ take (i + 1) infos
infos_more infos i d parts now p within so_far more here =
    ap (map (λ (q : RulePart). q.info)) more ∙ each parts ∙ ap (λ l. l ++ p.info ∷ []) so_far ∙ ap (λ info. take i infos ++ info ∷ []) here ∙ sym (take_more infos i d within)
  where
    each : (parts : List RulePart) → map (λ (q : RulePart). q.info) (parts ++ p ∷ []) ≡ map (λ (q : RulePart). q.info) parts ++ p.info ∷ []
    each [] = refl
    each (q ∷ parts) = ap (λ l. q.info ∷ l) (each parts)
