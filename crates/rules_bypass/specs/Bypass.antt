-- The nodes by which a block of content can be bypassed, and what rules say of pages by them.
use Rattle.std.specs.Prelude.{◌&&◌, ◌||◌, ◌==◌, ℕ, List, [], ◌∷◌, ◌++◌, codes, Bool, true, false, if◌then◌else◌, Option, Some, None, option_and_then}
use Rattle.std.specs.List.{list_any, flat_map}
use Rattle.std.specs.Option.{is_some, option_map_or}
use Rattle.snap_tree.specs.declared.row.NodeId.{NodeId}
use Rattle.snap_tree.specs.declared.row.Row.{Row}
use Rattle.snap_tree.specs.Labels.{first_with_id}
use Rattle.snap_tree.specs.Trees.{Trees, empty, tree, Document, rows_of}
use Rattle.aria_tables.specs.declared.attr.AriaAttr.TheVariants as aria
use Rattle.aria_tables.specs.declared.role.Role.{Role}
use Rattle.aria_tables.specs.declared.role.Role.TheVariants as role
use Rattle.aria_tables.specs.Roles.{is_landmark, word_of}
use Rattle.acc_tree.specs.declared.above.Above.{Above}
use Rattle.acc_tree.specs.declared.attributes.Attribute.TheVariants as attribute
use Rattle.acc_tree.specs.declared.tags.Tag.{Tag}
use Rattle.acc_tree.specs.declared.tags.Tag.TheVariants as tag
use Rattle.acc_tree.specs.Frames.{nothing_above, under}
use Rattle.acc_tree.specs.Inclusion.{included}
use Rattle.acc_tree.specs.Roles.{role_at}
use Rattle.acc_tree.specs.Seen.{attr, has, seen, seen_row}
use Rattle.acc_tree.specs.Sights.{above_children}
use Rattle.acc_tree.specs.Tags.{html_tag}
use Rattle.acc_name.specs.Names.{name_of}
use Rattle.rule_core.specs.declared.info.RuleInfo.{RuleInfo}
use Rattle.rule_core.specs.declared.info.Class.TheVariants.{Whole}
use Rattle.rule_core.specs.declared.reason.Reason.{Reason}
use Rattle.rule_core.specs.declared.reason.Reason.TheVariants.{NoHeading, JudgeHeadingStart, NoLandmark, JudgeLandmark, NoSkipLink, JudgeSkipLink, NoCollapse, JudgeCollapse}
use Rattle.rule_core.specs.declared.verdict.Verdict.{Verdict}
use Rattle.rule_core.specs.Brief.{brief}
use Rattle.rule_core.specs.Findings.{cant_tell, failed, verdict_of}
use Rattle.rule_core.specs.Infos.{atomic}
use Rattle.rule_sights.specs.Pages.{is_page_root, said_of_root}
use Rattle.rules_bypass.specs.declared.bypass.Bypass.{Bypass}
use Rattle.rules_bypass.specs.declared.bypass.Bypass.TheVariants as bypass

-- ---- the nodes that count, each with its line; `t` is the whole page

abbrev pub is_heading : Option Role → Bool
is_heading (Some role.Heading) = true
is_heading _ = false

abbrev pub is_link : Option Role → Bool
is_link (Some role.Link) = true
is_link _ = false

abbrev pub is_button : Option Role → Bool
is_button (Some role.Button) = true
is_button _ = false

abbrev pub is_summary : Option Tag → Bool
is_summary (Some tag.Summary) = true
is_summary _ = false

-- the id behind a `#` (35)
abbrev pub fragment : List ℕ → Option (List ℕ)
fragment [] = None
fragment (b ∷ rest) = if b == 35 then Some rest else None

-- the address is `#` and the id of an element
abbrev pub leads_inside : Trees → List ℕ → Bool
leads_inside t href = is_some (option_and_then (first_with_id t) (fragment href))

-- the line of a heading, if it has a name
abbrev pub heading_line : List ℕ → Option (List ℕ)
heading_line [] = None
heading_line (b ∷ name) = Some (brief (b ∷ name))

-- something, a space, and the name
abbrev pub with_name : List ℕ → List ℕ → List ℕ
with_name word name = word ++ 32 ∷ brief name

-- the line of a node of this role, which is included or not: of an included landmark
abbrev pub landmark_line : Bool → Option Role → List ℕ → Option (List ℕ)
landmark_line is_included None name = None
landmark_line is_included (Some r) name = if is_landmark r && is_included then Some (with_name (word_of r) name) else None

abbrev pub skip_line : Trees → List ℕ → List ℕ → Option (List ℕ)
skip_line t name href = if leads_inside t href then Some (with_name href name) else None

-- an HTML `summary`, or a button that says whether it is expanded
abbrev pub collapses : Above → Row → Bool
collapses above row =
    is_summary (html_tag row) || (is_button (role_at above row) && has (attribute.Aria aria.Expanded) row)

-- the line of a node that has this name, where it counts, for each of the four

-- an included heading with a name
abbrev pub of_heading : Above → Row → List ℕ → Option (List ℕ)
of_heading above row name = if is_heading (role_at above row) && included above row then heading_line name else None

-- an included landmark
abbrev pub of_landmark : Above → Row → List ℕ → Option (List ℕ)
of_landmark above row name = landmark_line (included above row) (role_at above row) name

-- an included link that the Tab key reaches and that leads to an element of the page
abbrev pub of_skip_link : Trees → Above → Row → List ℕ → Option (List ℕ)
of_skip_link t above row name =
    if row.facts.tabbable && is_link (role_at above row) && included above row then option_and_then (skip_line t name) (attr attribute.Href row) else None

-- an included node that collapses, and that the Tab key reaches
abbrev pub of_collapse : Above → Row → List ℕ → Option (List ℕ)
of_collapse above row name = if row.facts.tabbable && collapses above row && included above row then Some (brief name) else None

abbrev pub line_of : Bypass → Trees → Above → Row → List ℕ → Option (List ℕ)
line_of bypass.Heading t above row name = of_heading above row name
line_of bypass.Landmark t above row name = of_landmark above row name
line_of bypass.SkipLink t above row name = of_skip_link t above row name
line_of bypass.Collapse t above row name = of_collapse above row name

-- the line of a node, where it counts
abbrev pub line_at : Bypass → Trees → Above → Row → Option (List ℕ)
line_at b t above row = line_of b t above row (name_of t row.id).text

abbrev pub one : Option (List ℕ) → List (List ℕ)
one None = []
one (Some line) = line ∷ []

-- the lines of the nodes that count, in document order
abbrev pub lines : Bypass → Trees → Above → Trees → List (List ℕ)
lines b t above empty = []
lines b t above (tree row kids after) =
    one (line_at b t above row) ++ lines b t (under above row) kids ++ lines b t above after

-- ---- the same by rows, which tell of most nodes that they don't count

abbrev pub is_mark : Option Role → Bool
is_mark r = option_map_or is_landmark r false

-- the href, if there is one, leads inside
abbrev pub leads : Trees → Row → Bool
leads t row = option_map_or (leads_inside t) (attr attribute.Href row) false

-- the node may count, as far as its row tells
abbrev pub may_count : Bypass → Trees → Row → Bool
may_count bypass.Heading t row = is_heading (role_at nothing_above row)
may_count bypass.Landmark t row = is_mark (role_at nothing_above row)
may_count bypass.SkipLink t row = row.facts.tabbable && leads t row && is_link (role_at nothing_above row)
may_count bypass.Collapse t row = row.facts.tabbable && collapses nothing_above row

-- the line of a node, where its parent's number tells what is above it
abbrev pub line_in : Bypass → Trees → Row → Option (List ℕ)
line_in b t row = line_at b t (above_children t row.parent) row

-- the lines of the nodes of these rows that count
abbrev pub row_lines : Bypass → Trees → List Row → List (List ℕ)
row_lines b t rows = flat_map (λ row. one (line_in b t (seen_row row))) rows

-- ---- what is said of a page

-- each behind a line feed
abbrev pub behind : List (List ℕ) → List ℕ
behind [] = []
behind (line ∷ more) = 10 ∷ line ++ behind more

abbrev pub lack : Bypass → Reason
lack bypass.Heading = NoHeading
lack bypass.Landmark = NoLandmark
lack bypass.SkipLink = NoSkipLink
lack bypass.Collapse = NoCollapse

abbrev pub question : Bypass → Reason
question bypass.Heading = JudgeHeadingStart
question bypass.Landmark = JudgeLandmark
question bypass.SkipLink = JudgeSkipLink
question bypass.Collapse = JudgeCollapse

-- a page without such a node fails, and of any other a person has to judge; the evidence is the lines
abbrev pub lines_verdict : Bypass → List (List ℕ) → Verdict
lines_verdict b [] = verdict_of (failed (lack b)) []
lines_verdict b (line ∷ more) = verdict_of (cant_tell (question b)) (line ++ behind more)

abbrev pub has_stop : List Row → Bool
has_stop rows = list_any (λ row. row.facts.tabbable) rows

abbrev pub trees_verdict : Bypass → Trees → Option Verdict
trees_verdict b t = if has_stop (rows_of t) then Some (lines_verdict b (lines b t nothing_above t)) else None

-- the target is the root of a page in which the Tab key stops somewhere
abbrev pub bypassed_by : Bypass → Document → NodeId → Option Verdict
bypassed_by b page = said_of_root (λ root. trees_verdict b (seen page.trees)) page

-- the root of this page, in which the Tab key stops somewhere
abbrev pub bypassed_target : Trees → Row → Bool
bypassed_target t row = is_page_root row && has_stop (rows_of t)

-- ---- the four rules

-- document has heading for non-repeated content
abbrev pub has_heading : Document → NodeId → Option Verdict
has_heading = bypassed_by bypass.Heading

-- the targets of the rule, where this is the whole page
abbrev pub has_heading_target : Trees → Above → Row → Bool
has_heading_target t above row = bypassed_target t row

abbrev pub has_heading_info : RuleInfo
has_heading_info = atomic 26 (codes "047fe0") Whole Whole

-- document has a landmark with non-repeated content
abbrev pub has_landmark : Document → NodeId → Option Verdict
has_landmark = bypassed_by bypass.Landmark

-- the targets of the rule, where this is the whole page
abbrev pub has_landmark_target : Trees → Above → Row → Bool
has_landmark_target t above row = bypassed_target t row

abbrev pub has_landmark_info : RuleInfo
has_landmark_info = atomic 27 (codes "b40fd1") Whole Whole

-- document has an instrument to move focus to non-repeated content
abbrev pub has_skip_link : Document → NodeId → Option Verdict
has_skip_link = bypassed_by bypass.SkipLink

-- the targets of the rule, where this is the whole page
abbrev pub has_skip_link_target : Trees → Above → Row → Bool
has_skip_link_target t above row = bypassed_target t row

abbrev pub has_skip_link_info : RuleInfo
has_skip_link_info = atomic 28 (codes "ye5d6e") Whole Whole

-- block of repeated content is collapsible
abbrev pub has_collapse : Document → NodeId → Option Verdict
has_collapse = bypassed_by bypass.Collapse

-- the targets of the rule, where this is the whole page
abbrev pub has_collapse_target : Trees → Above → Row → Bool
has_collapse_target t above row = bypassed_target t row

abbrev pub has_collapse_info : RuleInfo
has_collapse_info = atomic 29 (codes "3e12e1") Whole Whole
