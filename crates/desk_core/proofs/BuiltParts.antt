-- Pages that are built in parts are those that are built one after another.
use Rattle.std.proofs.Common.{◌≡◌, List, [], ◌∷◌, ◌++◌, map, Option, Some, None, Ok, Err, Vec, refl, sym, ap, ◌∙◌, subst}
use Rattle.std.proofs.lemmas.List.{map-append}
use Rattle.std.specs.Option.{option_or, option_map}
use Rattle.std.specs.declared.alloc.Global.{Global}
use Rattle.snap_tree.specs.Faults.{tree_fault}
use Rattle.audit.specs.declared.pages.PageWork.{PageWork}
use Rattle.desk_core.specs.declared.placed.Placed.{Placed}
use Rattle.desk_core.specs.declared.refusal.Refusal.{Refusal}
use Rattle.desk_core.specs.declared.refusal.Refusal.TheVariants as refusal
use Rattle.desk_core.specs.Refusals.{Decision, unless_refused}
use Rattle.desk_core.specs.Imports.{first_fault}
use Rattle.desk_core.specs.Placing.{entries_of, work_of}
use Rattle.desk_core.specs.Building.{Builds}
use Rattle.desk_core.specs.Serving.{Stands}

-- the first fault of two parts is that of the first one, where it has one
fault_both : (ones others : List Placed) → first_fault (entries_of (ones ++ others)) ≡ option_or (first_fault (entries_of ones)) (first_fault (entries_of others))
fault_both [] others = refl
fault_both (w ∷ ones) others = or_later (option_map (λ fault. refusal.TreeFault fault (Some w.entry.page)) (tree_fault w.entry.raw.rows)) (first_fault (entries_of (ones ++ others))) (first_fault (entries_of ones)) (first_fault (entries_of others)) (fault_both ones others)
  where
    or_later : (o a b c : Option Refusal) → a ≡ option_or b c → option_or o a ≡ option_or (option_or o b) c
    or_later None a b c is = is
    or_later (Some r) a b c is = refl

refused_by : (a b : Option Refusal) (next : Decision) → unless_refused (option_or a b) next ≡ unless_refused a (unless_refused b next)
refused_by None b next = refl
refused_by (Some r) b next = refl

pub refused_first : (ones others : List Placed) (r : Refusal) → Builds ones (Err r) → Builds (ones ++ others) (Err r)
refused_first ones others r first = record {
  works = tt;
  whole = tt;
  refused = λ next.
      let later = first_fault (entries_of others) in
      subst (Stands ⊥ r) (sym (ap (λ o. unless_refused o next) (fault_both ones others) ∙ refused_by (first_fault (entries_of ones)) later next)) (first.refused (unless_refused later next));
}

-- the first part has no fault
fault_later : (ones others : List Placed) → first_fault (entries_of ones) ≡ None → first_fault (entries_of (ones ++ others)) ≡ first_fault (entries_of others)
fault_later ones others whole = fault_both ones others ∙ ap (λ o. option_or o (first_fault (entries_of others))) whole

pub refused_later : (ones others : List Placed) (works : Vec PageWork Global) (r : Refusal) → Builds ones (Ok works) → Builds others (Err r) → Builds (ones ++ others) (Err r)
refused_later ones others works r first later = record {
  works = tt;
  whole = tt;
  refused = λ next. subst (λ o. Stands ⊥ r (unless_refused o next)) (sym (fault_later ones others first.whole)) (later.refused next);
}

pub builds_both : (ones others : List Placed) (works more all : Vec PageWork Global) → Builds ones (Ok works) → Builds others (Ok more)
    → all.items ≡ works.items ++ more.items → Builds (ones ++ others) (Ok all)
builds_both ones others works more all first later is = record {
  works = is ∙ (ap (λ ws. ws ++ more.items) first.works ∙ (ap (λ ws. map work_of ones ++ ws) later.works ∙ sym (map-append work_of ones others)));
  whole = fault_later ones others first.whole ∙ later.whole;
  refused = tt;
}
