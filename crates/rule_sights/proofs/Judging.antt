-- A verdict is given exactly where the node is a target.
use Rattle.std.proofs.Common.{◌≡◌, ◌&&◌, Bool, true, false, cond, List, Option, Some, None, option_map, option_and_then, refl, ◌∙◌}
use Rattle.std.specs.Option.{is_some, option_map_or}
use Rattle.aria_tables.specs.declared.role.Role.{Role}
use Rattle.snap_tree.specs.declared.row.NodeId.{NodeId}
use Rattle.snap_tree.specs.declared.row.Row.{Row}
use Rattle.snap_tree.specs.Trees.{Trees, Document}
use Rattle.acc_tree.specs.declared.above.Above.{Above}
use Rattle.acc_tree.specs.Seen.{seen}
use Rattle.acc_tree.specs.Sights.{Sight, sight_of}
use Rattle.rule_core.specs.declared.verdict.Verdict.{Verdict}
use Rattle.rule_sights.specs.Nodes.{if_row, if_role, sight_where, sight_as, said_where, said_below, said_alone}
use Rattle.rule_sights.specs.Pages.{is_page_root, if_root, said_of_root}
use Rattle.rule_sights.specs.Targets.{is_as, is_target, JudgesRows, JudgesSights}

-- ---- choices

-- a verdict where the test holds, and else none
pub verdict_if : (b : Bool) (v : Verdict) → is_some (cond b (Some v) None) ≡ b
verdict_if true v = refl
verdict_if false v = refl

-- the same, of what may be there
pub verdict_of_some : {A : Type 0} (o : Option A) (test : A → Bool) (v : A → Verdict) → is_some (option_and_then (λ a. cond (test a) (Some (v a)) None) o) ≡ option_map_or test o false
verdict_of_some None test v = refl
verdict_of_some (Some a) test v = verdict_if (test a) (v a)

-- what is asked of a thing needn't ask whether it is there
pub there_and : {A : Type 0} (o : Option A) (test : A → Bool) → is_some o && option_map_or test o false ≡ option_map_or test o false
there_and None test = refl
there_and (Some a) test = refl

-- ---- a sight

chosen : (b : Bool) (s : Sight) (says : Sight → Option Verdict) → is_some (option_and_then says (cond b (Some s) None)) ≡ b && is_some (says s)
chosen true s says = refl
chosen false s says = refl

where_at : (passes : Row → Bool) (says : Sight → Option Verdict) (target : Sight → Bool) → ((s : Sight) → passes s.row && is_some (says s) ≡ target s) → (o : Option Sight)
    → is_some (option_and_then says (option_and_then (if_row passes) o)) ≡ option_map_or target o false
where_at passes says target told None = refl
where_at passes says target told (Some s) = chosen (passes s.row) s says ∙ told s

as_at : (those : List Role) (says : Sight → Option Verdict) (target : Sight → Bool) → ((s : Sight) → is_as those s.above s.row && is_some (says s) ≡ target s) → (o : Option Sight)
    → is_some (option_and_then says (option_and_then (if_role those) o)) ≡ option_map_or target o false
as_at those says target told None = refl
as_at those says target told (Some s) = chosen (is_as those s.above s.row) s says ∙ told s

row_at : (says : Row → Option Verdict) (target : Row → Bool) → ((row : Row) → is_some (says row) ≡ target row) → (o : Option Sight)
    → is_some (option_and_then says (option_map (λ s. s.row) o)) ≡ option_map_or (λ s. target s.row) o false
row_at says target told None = refl
row_at says target told (Some s) = told s.row

-- ---- a node

-- one whose row passes the test
pub judged_of_rows : (passes : Row → Bool) (says : Sight → Option Verdict) (target : Sight → Bool) → ((s : Sight) → passes s.row && is_some (says s) ≡ target s) → (t : Trees) (n : NodeId)
    → is_some (option_and_then says (sight_where passes (seen t) n)) ≡ is_target target t n
judged_of_rows passes says target told t n = where_at passes says target told (sight_of (seen t) n)

-- one of these roles
pub judged_of_roles : (those : List Role) (says : Sight → Option Verdict) (target : Sight → Bool) → ((s : Sight) → is_as those s.above s.row && is_some (says s) ≡ target s) → (t : Trees) (n : NodeId)
    → is_some (option_and_then says (sight_as those (seen t) n)) ≡ is_target target t n
judged_of_roles those says target told t n = as_at those says target told (sight_of (seen t) n)

pub judged_where : (passes : Row → Bool) (says : Above → Row → Option Verdict) (target : Above → Row → Bool) → ((above : Above) (row : Row) → passes row && is_some (says above row) ≡ target above row)
    → (page : Document) (n : NodeId) → JudgesRows (said_where passes says) target page n
judged_where passes says target told page n =
    judged_of_rows passes (λ s. says s.above s.row) (λ s. target s.above s.row) (λ s. told s.above s.row) page.trees n

pub judged_below : (passes : Row → Bool) (says : Sight → Option Verdict) (target : Sight → Bool) → ((s : Sight) → passes s.row && is_some (says s) ≡ target s)
    → (page : Document) (n : NodeId) → JudgesSights (said_below passes says) target page n
judged_below passes says target told page n = judged_of_rows passes says target told page.trees n

pub judged_alone : (says : Row → Option Verdict) (target : Row → Bool) → ((row : Row) → is_some (says row) ≡ target row)
    → (page : Document) (n : NodeId) → JudgesRows (said_alone says) (λ above row. target row) page n
judged_alone says target told page n = row_at says target told (sight_of (seen page.trees) n)

-- ---- the root of a page

root_chosen : (b : Bool) (row : Row) (says : Row → Option Verdict) → is_some (option_and_then says (cond b (Some row) None)) ≡ b && is_some (says row)
root_chosen true row says = refl
root_chosen false row says = refl

root_at : (says : Row → Option Verdict) (target : Row → Bool) → ((row : Row) → is_page_root row && is_some (says row) ≡ target row) → (o : Option Sight)
    → is_some (option_and_then says (option_and_then if_root (option_map (λ s. s.row) o))) ≡ option_map_or (λ s. target s.row) o false
root_at says target told None = refl
root_at says target told (Some s) = root_chosen (is_page_root s.row) s.row says ∙ told s.row

pub judged_root : (says : Row → Option Verdict) (target : Row → Bool) → ((row : Row) → is_page_root row && is_some (says row) ≡ target row)
    → (page : Document) (n : NodeId) → JudgesRows (said_of_root says) (λ above row. target row) page n
judged_root says target told page n = root_at says target told (sight_of (seen page.trees) n)
