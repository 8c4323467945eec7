-- What the law of a rule comes of.
use Rattle.std.proofs.Common.{◌≡◌, ◌&&◌, ◌++◌, List, [], ◌∷◌, map, Bool, true, false, if◌then◌else◌, Option, Some, None, refl, sym, ◌∙◌, ap}
use Rattle.std.proofs.lemmas.List.Folds.{list_all-append}
use Rattle.std.specs.Cmp.{first_so, second_so}
use Rattle.std.specs.Option.{is_some, option_map_or}
use Rattle.snap_tree.specs.declared.row.NodeId.{NodeId}
use Rattle.snap_tree.specs.declared.row.Row.{Row}
use Rattle.snap_tree.specs.Trees.{Document}
use Rattle.acc_tree.specs.declared.above.Above.{Above}
use Rattle.acc_tree.specs.Seen.{seen}
use Rattle.acc_tree.specs.Sights.{sight_of}
use Rattle.rule_core.specs.declared.info.Class.{Class}
use Rattle.rule_core.specs.declared.info.Class.TheVariants.{SelfOnly}
use Rattle.rule_core.specs.declared.info.RuleInfo.{RuleInfo}
use Rattle.rule_core.specs.declared.verdict.Verdict.{Verdict}
use Rattle.page_keys.specs.Same.{all_same}
use Rattle.page_keys.specs.Nodes.{self_keys}
use Rattle.page_keys.specs.PageKeys.{PageKey, of_nodes, langs_key, same_langs, same_in, all_same_in}
use Rattle.page_keys.proofs.PageTests.{langs_agree, nodes_same, page_parts}
use Rattle.page_keys.proofs.Again.{said_same}
use Rattle.page_keys.proofs.Pages.{page_seen}
use Rattle.rule_core.specs.Reach.{Says, class_keys, looks_at_langs, looked_at}
use Rattle.rule_core.specs.Local.{AreVersions, IsLocal}

-- two versions of a page agree on what a class looks at
abbrev pub AgreeOn : Class → Document → Document → NodeId → Type 0
AgreeOn class old new n = all_same_in old new (looked_at class old n) ≡ true

-- the list of subtags is the same, where the class looks at it
abbrev pub langs_same : Class → Document → Document → Bool
langs_same class old new = if looks_at_langs class then same_langs old.langs new.langs else true

one_is : (b : Bool) → (b && true) ≡ b
one_is true = refl
one_is false = refl

on_list : (looks : Bool) (old new : Document) → all_same_in old new (if looks then langs_key ∷ [] else []) ≡ (if looks then same_langs old.langs new.langs else true)
on_list true old new = one_is (same_langs old.langs new.langs)
on_list false old new = refl

-- what they agree on are the nodes and the list
pub agree_is : (class : Class) (old new : Document) (n : NodeId) → all_same_in old new (looked_at class old n) ≡ (all_same (seen old.trees) (seen new.trees) (class_keys class (seen old.trees) n) && langs_same class old new)
unfolding looked_at
agree_is class old new n =
    let keys = class_keys class (seen old.trees) n in
    let list : List PageKey = if looks_at_langs class then langs_key ∷ [] else [] in
    let nodes = nodes_same old new keys in
    let langs = on_list (looks_at_langs class) old new in
    list_all-append (same_in old new) (map of_nodes keys) list ∙ (λ i. nodes i && langs i)

pub on_nodes : (class : Class) (old new : Document) (n : NodeId) → AgreeOn class old new n → all_same (seen old.trees) (seen new.trees) (class_keys class (seen old.trees) n) ≡ true
on_nodes class old new n k = first_so (all_same (seen old.trees) (seen new.trees) (class_keys class (seen old.trees) n)) (langs_same class old new) (sym (agree_is class old new n) ∙ k)

pub on_langs : (class : Class) (old new : Document) (n : NodeId) → looks_at_langs class ≡ true → AgreeOn class old new n → old.langs ≡ new.langs
on_langs class old new n looks k =
    let same : langs_same class old new ≡ true = second_so (all_same (seen old.trees) (seen new.trees) (class_keys class (seen old.trees) n)) (langs_same class old new) (sym (agree_is class old new n) ∙ k) in
    langs_agree old.langs new.langs (ap (λ b. if b then same_langs old.langs new.langs else true) (sym looks) ∙ same)

-- where they do, what is said of the node is the same
abbrev pub IsKept : {A : Type 0} → Class → (Document → NodeId → A) → Type 0
IsKept class says = (old new : Document) (n : NodeId) → AreVersions old new → AgreeOn class old new n → says old n ≡ says new n

none_is : (o : Option Verdict) → is_some o ≡ false → o ≡ None
none_is None h = refl
none_is (Some v) h = cc

-- whether a node is a target is told by what the applicability looks at, and what is said of it by the expectations
pub by_classes : (info : RuleInfo) (says : Says) → IsKept info.applies (λ page n. is_some (says page n)) → IsKept info.expects says → IsLocal info says
by_classes info says targets told old new n versions k = by_verdict (says old n) refl
  where
    both : AgreeOn info.applies old new n × (all_same_in old new (if is_some (says old n) then looked_at info.expects old n else []) ≡ true)
    both = page_parts old new (looked_at info.applies old n) (if is_some (says old n) then looked_at info.expects old n else []) k

    by_verdict : (o : Option Verdict) → says old n ≡ o → says old n ≡ says new n
    by_verdict None e = e ∙ sym (none_is (says new n) (sym (targets old new n versions both.0) ∙ ap is_some e))
    by_verdict (Some v) e =
        told old new n versions (ap (λ o. all_same_in old new (if is_some o then looked_at info.expects old n else [])) (sym e) ∙ both.1)

-- what is said of a node's row and what is above it
pub by_itself : {A : Type 0} (class : Class) → class ≡ SelfOnly → (says : Above → Row → A) (stranger : A) → IsKept class (λ page n. option_map_or (λ s. says s.above s.row) (sight_of (seen page.trees) n) stranger)
unfolding class_keys
by_itself class self says stranger old new n versions k =
    let keys : all_same (seen old.trees) (seen new.trees) (self_keys (seen old.trees) n) ≡ true = ap (λ class. all_same (seen old.trees) (seen new.trees) (class_keys class (seen old.trees) n)) (sym self) ∙ on_nodes class old new n k in
    said_same says stranger (seen old.trees) (seen new.trees) (page_seen old.trees versions.old_well) (page_seen new.trees versions.new_well) n keys

-- a rule whose targets are told by a row and what is above it
pub by_target : (info : RuleInfo) (says : Says) → info.applies ≡ SelfOnly → (target : Above → Row → Bool)
    → ((page : Document) (n : NodeId) → is_some (says page n) ≡ option_map_or (λ s. target s.above s.row) (sight_of (seen page.trees) n) false)
    → IsKept info.expects says → IsLocal info says
by_target info says self target is_target told =
    by_classes info says (λ old new n versions k. is_target old n ∙ by_itself info.applies self target false old new n versions k ∙ sym (is_target new n)) told
