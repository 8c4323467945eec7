-- The law of a rule, where what it says rests on what its classes tell.
use Rattle.std.proofs.Common.{◌≡◌, not, ℕ, List, [], codes, Bool, true, false, if◌then◌else◌, Option, Some, None, option_map, option_and_then, refl, sym, ◌∙◌, ap}
use Rattle.std.proofs.lemmas.Bool.{and_parts}
use Rattle.std.specs.Option.{is_some, is_none, option_map_or}
use Rattle.snap_tree.specs.declared.row.NodeId.{NodeId}
use Rattle.snap_tree.specs.declared.row.Row.{Row}
use Rattle.snap_tree.specs.Rows.{is_html}
use Rattle.snap_tree.specs.Trees.{Trees, Document}
use Rattle.snap_tree.specs.Well.{IsWell}
use Rattle.acc_tree.specs.declared.above.Above.{Above}
use Rattle.acc_tree.specs.Seen.{seen}
use Rattle.acc_tree.specs.Sights.{Sight, sight_of}
use Rattle.rule_core.specs.declared.info.Class.{Class}
use Rattle.rule_core.specs.declared.info.Class.TheVariants.{SelfOnly}
use Rattle.rule_core.specs.declared.info.RuleInfo.{RuleInfo}
use Rattle.rule_core.specs.declared.verdict.Verdict.{Verdict}
use Rattle.rule_sights.specs.Nodes.{if_row, row_of, said_where, said_alone}
use Rattle.rule_sights.specs.Pages.{is_page_root, if_root, said_of_root}
use Rattle.rule_sights.specs.Targets.{is_target}
use Rattle.page_keys.specs.Classes.{is_root}
use Rattle.page_keys.specs.Laws.{itself, alone}
use Rattle.page_keys.proofs.PageTests.{page_parts}
use Rattle.rule_core.specs.Reach.{Says, looks_at_langs, looked_at}
use Rattle.rule_core.specs.Local.{IsLocal}
use Rattle.rule_core.proofs.Targets.{IsKept, on_nodes, on_langs, by_classes, by_itself}
use Rattle.rule_sights.specs.Telling.{Tells}
use Rattle.rule_sights.proofs.Told.{alone_told}

-- ---- what is kept

-- what rests on what a class tells
pub kept : {A B : Type 0} (class : Class) (tells : Trees → NodeId → A) → Tells class tells → (rests : List ℕ → A → B) → IsKept class (λ page n. rests page.address (tells (seen page.trees) n))
kept class tells told rests old new n versions k =
    let same = told old.trees new.trees n versions.old_well versions.new_well (on_nodes class old new n k) in
    λ i. rests (versions.address i) (same i)

-- what rests on what a class tells and on the list of subtags, where the class looks at that
pub kept_with_langs : {A B : Type 0} (class : Class) (tells : Trees → NodeId → A) → looks_at_langs class ≡ true → Tells class tells → (rests : List (List ℕ) → A → B)
    → IsKept class (λ page n. rests page.langs (tells (seen page.trees) n))
kept_with_langs class tells looks told rests old new n versions k =
    let same = told old.trees new.trees n versions.old_well versions.new_well (on_nodes class old new n k) in
    let langs = on_langs class old new n looks k in
    λ i. rests (langs i) (same i)

-- what is, on well pages, something that is kept
pub kept_as : {B : Type 0} (class : Class) (says other : Document → NodeId → B) → ((page : Document) (n : NodeId) → IsWell page.trees → says page n ≡ other page n) → IsKept class other → IsKept class says
kept_as class says other is keeps old new n versions k =
    is old n versions.old_well ∙ keeps old new n versions k ∙ sym (is new n versions.new_well)

-- ---- laws

-- where what the applicability looks at tells all
pub by_applicability : (info : RuleInfo) (says : Says) → IsKept info.applies says → IsLocal info says
by_applicability info says keeps old new n versions k =
    keeps old new n versions (page_parts old new (looked_at info.applies old n) (if is_some (says old n) then looked_at info.expects old n else []) k).0

-- where the targets of well pages are told by a row and what is above it, and what is said of them by the expectations
pub by_rows : (info : RuleInfo) (says : Says) → info.applies ≡ SelfOnly → (target : Above → Row → Bool)
    → ((page : Document) (n : NodeId) → IsWell page.trees → is_some (says page n) ≡ is_target (λ s. target s.above s.row) page.trees n)
    → IsKept info.expects says → IsLocal info says
by_rows info says self target judges told =
    by_classes info says
    (kept_as info.applies (λ page n. is_some (says page n)) (λ page n. is_target (λ s. target s.above s.row) page.trees n) judges (by_itself info.applies self target false)) told

-- ---- what each class tells: a row, and what is above it

row_in : (o : Option Sight) → option_map (λ (s : Sight). s.row) o ≡ option_map (λ (x : Row × Above). x.0) (option_map itself o)
row_in None = refl
row_in (Some s) = refl

-- what rests on a row
pub kept_by_row : {B : Type 0} (class : Class) (rests : Option Row → B) → IsKept class (λ page n. rests (row_of page.trees n))
kept_by_row class rests =
    kept_as class (λ page n. rests (row_of page.trees n)) (λ page n. rests (option_map (λ (x : Row × Above). x.0) (alone (seen page.trees) n)))
    (λ page n well. ap rests (row_in (sight_of (seen page.trees) n))) (kept class alone (alone_told class) (λ address o. rests (option_map (λ (x : Row × Above). x.0) o)))

pub kept_alone : (class : Class) (says : Row → Option Verdict) → IsKept class (said_alone says)
kept_alone class says = kept_by_row class (option_and_then says)

pub kept_of_root : (class : Class) (says : Row → Option Verdict) → IsKept class (said_of_root says)
kept_of_root class says = kept_by_row class (λ o. option_and_then says (option_and_then if_root o))

-- of the root, and of the list of subtags
pub kept_root_langs : (class : Class) → looks_at_langs class ≡ true → (says : List (List ℕ) → Row → Option Verdict) → IsKept class (λ page n. said_of_root (says page.langs) page n)
kept_root_langs class looks says =
    kept_as class (λ page n. said_of_root (says page.langs) page n)
    (λ page n. option_and_then (says page.langs) (option_and_then if_root (option_map (λ (x : Row × Above). x.0) (alone (seen page.trees) n))))
    (λ page n well. ap (λ o. option_and_then (says page.langs) (option_and_then if_root o)) (row_in (sight_of (seen page.trees) n)))
    (kept_with_langs class alone looks (alone_told class) (λ accepted o. option_and_then (says accepted) (option_and_then if_root (option_map (λ (x : Row × Above). x.0) o))))

said_if : (Row → Bool) → (Above → Row → Option Verdict) → Row × Above → Option Verdict
said_if passes says x = if passes x.0 then says x.1 x.0 else None

where_in : (passes : Row → Bool) (says : Above → Row → Option Verdict) (o : Option Sight)
    → option_and_then (λ (s : Sight). says s.above s.row) (option_and_then (if_row passes) o) ≡ option_and_then (said_if passes says) (option_map itself o)
unfolding said_if
where_in passes says None = refl
where_in passes says (Some s) = by_test (passes s.row)
  where
    by_test : (b : Bool) → option_and_then (λ (s : Sight). says s.above s.row) (if b then Some s else None) ≡ (if b then says s.above s.row else None)
    by_test true = refl
    by_test false = refl

pub kept_where : (class : Class) (passes : Row → Bool) (says : Above → Row → Option Verdict) → IsKept class (said_where passes says)
kept_where class passes says =
    kept_as class (said_where passes says) (λ page n. option_and_then (said_if passes says) (alone (seen page.trees) n))
    (λ page n well. where_in passes says (sight_of (seen page.trees) n)) (kept class alone (alone_told class) (λ address o. option_and_then (said_if passes says) o))

-- ---- what a class tells of the root of a page

-- the root of a page is a root
root_is : (page : Document) (n : NodeId) (s : Sight) → sight_of (seen page.trees) n ≡ Some s → is_page_root s.row ≡ true → is_root (seen page.trees) n ≡ true
root_is page n s e h =
    ap (λ o. option_map_or (λ (s : Sight). not (is_some s.row.parent)) o false) e ∙ (and_parts (is_none s.row.parent) (is_html (codes "html") s.row) h).0

root_in : (page : Document) (n : NodeId) (says rests : Option Verdict) → (is_root (seen page.trees) n ≡ true → says ≡ rests) → (o : Option Sight) → sight_of (seen page.trees) n ≡ o
    → option_and_then (λ (root : Row). says) (option_and_then if_root (option_map (λ (s : Sight). s.row) o)) ≡ option_and_then (λ (root : Row). rests) (option_and_then if_root (option_map (λ (s : Sight). s.row) o))
root_in page n says rests same None e = refl
root_in page n says rests same (Some s) e = by_root (is_page_root s.row) refl
  where
    by_root : (b : Bool) → is_page_root s.row ≡ b
        → option_and_then (λ (root : Row). says) (if b then Some s.row else None) ≡ option_and_then (λ (root : Row). rests) (if b then Some s.row else None)
    by_root true h = same (root_is page n s e h)
    by_root false h = refl

-- what is said of a page at its root, where what the class tells of the root tells it
pub kept_at_root : {A : Type 0} (class : Class) (tells : Trees → NodeId → A) → Tells class tells → (says : Document → Option Verdict) (rests : List ℕ → A → Option Verdict)
    → ((page : Document) (n : NodeId) → IsWell page.trees → is_root (seen page.trees) n ≡ true → says page ≡ rests page.address (tells (seen page.trees) n))
    → IsKept class (λ page n. said_of_root (λ root. says page) page n)
kept_at_root class tells told says rests same =
    kept_as class (λ page n. said_of_root (λ root. says page) page n)
    (λ page n. option_and_then (λ (root : Row). rests page.address (tells (seen page.trees) n)) (option_and_then if_root (row_of page.trees n)))
    (λ page n well. root_in page n (says page) (rests page.address (tells (seen page.trees) n)) (same page n well) (sight_of (seen page.trees) n) refl)
    (λ old new n versions k.
    let rests_same = kept class tells told rests old new n versions k in
    let root = kept_by_row class (option_and_then if_root) old new n versions k in
    λ i. option_and_then (λ (root : Row). rests_same i) (root i))
