-- Each rule on ways to bypass blocks has a verdict exactly where the node is a target, and is local.
use Rattle.std.proofs.Common.{◌≡◌, ◌&&◌, ap, if◌then◌else◌, Option, sym}
use Rattle.std.specs.Option.{is_some}
use Rattle.snap_tree.specs.declared.row.NodeId.{NodeId}
use Rattle.snap_tree.specs.declared.row.Row.{Row}
use Rattle.snap_tree.specs.Trees.{Trees, Document, rows_of, empty}
use Rattle.acc_tree.specs.Frames.{nothing_above}
use Rattle.acc_tree.specs.Seen.{seen}
use Rattle.page_keys.specs.Laws.{page_at}
use Rattle.rule_core.specs.declared.info.Class.TheVariants.{Whole}
use Rattle.rule_core.specs.declared.verdict.Verdict.{Verdict}
use Rattle.rule_core.specs.Local.{IsLocal}
use Rattle.rule_core.proofs.Targets.{IsKept}
use Rattle.rule_sights.specs.Pages.{is_page_root, said_of_root}
use Rattle.rule_sights.specs.Targets.{JudgesRows}
use Rattle.rule_sights.proofs.Judging.{verdict_if, judged_root}
use Rattle.rule_sights.proofs.Told.{whole_told}
use Rattle.rule_sights.proofs.Resting.{kept_at_root, by_applicability}
use Rattle.rules_bypass.specs.declared.bypass.Bypass.{Bypass}
use Rattle.rules_bypass.specs.declared.bypass.Bypass.TheVariants as bypass
use Rattle.rules_bypass.specs.Bypass.{bypassed_by, bypassed_target, has_stop, lines, lines_verdict, trees_verdict, has_heading, has_heading_target, has_landmark, has_landmark_target, has_skip_link, has_skip_link_target, has_collapse, has_collapse_target, has_heading_info, has_landmark_info, has_skip_link_info, has_collapse_info}

bypass_told : (b : Bypass) (t : Trees) (row : Row) → is_page_root row && is_some (trees_verdict b t) ≡ bypassed_target t row
bypass_told b t row = ap (λ c. is_page_root row && c) (verdict_if (has_stop (rows_of t)) (lines_verdict b (lines b t nothing_above t)))

bypassing : (b : Bypass) (page : Document) (n : NodeId) → JudgesRows (bypassed_by b) (λ above row. bypassed_target (seen page.trees) row) page n
bypassing b page n = judged_root (λ root. trees_verdict b (seen page.trees)) (bypassed_target (seen page.trees)) (bypass_told b (seen page.trees)) page n

pub headings : (page : Document) (n : NodeId) → JudgesRows has_heading (has_heading_target (seen page.trees)) page n
headings page n = bypassing bypass.Heading page n

pub landmarks : (page : Document) (n : NodeId) → JudgesRows has_landmark (has_landmark_target (seen page.trees)) page n
landmarks page n = bypassing bypass.Landmark page n

pub skip_links : (page : Document) (n : NodeId) → JudgesRows has_skip_link (has_skip_link_target (seen page.trees)) page n
skip_links page n = bypassing bypass.SkipLink page n

pub collapses : (page : Document) (n : NodeId) → JudgesRows has_collapse (has_collapse_target (seen page.trees)) page n
collapses page n = bypassing bypass.Collapse page n

-- ---- locality

-- what is said, at its root, of all that is seen of a page
whole_kept : (rests : Trees → Option Verdict) → IsKept Whole (λ page n. said_of_root (λ root. rests (seen page.trees)) page n)
whole_kept rests =
    kept_at_root Whole page_at whole_told (λ page. rests (seen page.trees)) (λ address t. rests t)
    (λ page n well root. sym (ap (λ c. rests (if c then seen page.trees else empty)) root))

-- what each of the four says
bypassed_kept : (b : _) → IsKept Whole (bypassed_by b)
bypassed_kept b = whole_kept (trees_verdict b)

pub heading_local : IsLocal has_heading_info has_heading
heading_local = by_applicability has_heading_info has_heading (search bypassed_kept)

pub landmark_local : IsLocal has_landmark_info has_landmark
landmark_local = by_applicability has_landmark_info has_landmark (search bypassed_kept)

pub skip_link_local : IsLocal has_skip_link_info has_skip_link
skip_link_local = by_applicability has_skip_link_info has_skip_link (search bypassed_kept)

pub collapse_local : IsLocal has_collapse_info has_collapse
collapse_local = by_applicability has_collapse_info has_collapse (search bypassed_kept)
