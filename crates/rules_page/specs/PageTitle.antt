-- The title of a page, and what is expected of it.
use Rattle.std.specs.Prelude.{◌&&◌, Bool, ℕ, List, [], ◌++◌, if◌then◌else◌, codes, Option, Some, None, option_map}
use Rattle.std.specs.Option.{option_or}
use Rattle.snap_tree.specs.declared.row.NodeId.{NodeId}
use Rattle.snap_tree.specs.declared.row.Body.{Body}
use Rattle.snap_tree.specs.declared.row.Body.TheVariants.{Element, Words}
use Rattle.snap_tree.specs.Trees.{Trees, empty, tree, Document}
use Rattle.texts.specs.Words.{tidy}
use Rattle.snap_tree.specs.Rows.{is_html}
use Rattle.acc_tree.specs.Seen.{seen}
use Rattle.rule_core.specs.declared.info.RuleInfo.{RuleInfo}
use Rattle.rule_core.specs.declared.info.Class.TheVariants.{SelfOnly, Title}
use Rattle.rule_core.specs.declared.reason.Reason.TheVariants.{NoTitle, EmptyTitle}
use Rattle.rule_core.specs.declared.finding.Finding.{Finding}
use Rattle.rule_core.specs.declared.verdict.Verdict.{Verdict}
use Rattle.rule_core.specs.Infos.{atomic}
use Rattle.rule_core.specs.Findings.{verdict_on}
use Rattle.rule_sights.specs.Pages.{is_page_root, said_of_root}
use Rattle.rules_page.specs.Filled.{filled}
use Rattle.acc_tree.specs.declared.above.Above.{Above}
use Rattle.snap_tree.specs.declared.row.Row.{Row}

-- what is below the first HTML `title` in document order
abbrev pub first_title : Trees → Option Trees
first_title empty = None
first_title (tree r kids after) =
    if is_html (codes "title") r then Some kids else option_or (first_title kids) (first_title after)

abbrev pub text_of : Body → List ℕ
text_of (Element space tag attrs) = []
text_of (Words text) = text

-- the texts that stand side by side, with nothing between them
abbrev pub texts : Trees → List ℕ
texts empty = []
texts (tree r kids after) = text_of r.body ++ texts after

-- the page title: the text children of the first HTML `title`, put together and tidied
abbrev pub page_title : Trees → Option (List ℕ)
page_title trees = option_map (λ kids. tidy (texts kids)) (first_title trees)

-- the page has an HTML `title`, and the page title isn't blank
abbrev pub title_finding : Option (List ℕ) → Finding
title_finding title = filled NoTitle EmptyTitle title

abbrev pub title_verdict : Option (List ℕ) → Verdict
title_verdict title = verdict_on (title_finding title) title

-- HTML page has non-empty title: the target is the root of a page, the evidence is the page title
abbrev pub page_has_title : Document → NodeId → Option Verdict
page_has_title page = said_of_root (λ root. Some (title_verdict (page_title (seen page.trees)))) page

-- the targets of the rule
abbrev pub page_has_title_target : Above → Row → Bool
page_has_title_target above row = is_page_root row

abbrev pub page_has_title_info : RuleInfo
page_has_title_info = atomic 1 (codes "2779a5") SelfOnly Title
