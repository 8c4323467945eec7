-- What the title of a page says.
use Rattle.std.specs.Prelude.{◌&&◌, Bool, not, false, ℕ, List, ◌∷◌, ◌++◌, codes, if◌then◌else◌, Option, Some, None, option_and_then}
use Rattle.snap_tree.specs.declared.row.NodeId.{NodeId}
use Rattle.snap_tree.specs.Trees.{Document}
use Rattle.texts.specs.Words.{blank}
use Rattle.acc_tree.specs.Seen.{seen}
use Rattle.rule_core.specs.declared.info.RuleInfo.{RuleInfo}
use Rattle.rule_core.specs.declared.info.Class.TheVariants.{Title}
use Rattle.rule_core.specs.declared.reason.Reason.TheVariants.{JudgeTitle}
use Rattle.rule_core.specs.declared.verdict.Verdict.{Verdict}
use Rattle.rule_core.specs.Findings.{cant_tell, verdict_of}
use Rattle.rule_core.specs.Infos.{atomic}
use Rattle.rule_sights.specs.Pages.{is_page_root, said_of_root}
use Rattle.rules_page.specs.PageTitle.{page_title}
use Rattle.acc_tree.specs.declared.above.Above.{Above}
use Rattle.snap_tree.specs.declared.row.Row.{Row}
use Rattle.std.specs.Option.{option_map_or}

-- the title on a line of its own, and then the address
abbrev pub title_and_address : List ℕ → List ℕ → List ℕ
title_and_address title address = title ++ 10 ∷ address

-- a blank title is no target's, and of any other a person has to judge
abbrev pub asks_a_person : List ℕ → List ℕ → Option Verdict
asks_a_person address title =
    if blank title then None else Some (verdict_of (cant_tell JudgeTitle) (title_and_address title address))

-- HTML page title is descriptive: the targets are roots of pages whose title isn't blank
abbrev pub title_is_descriptive : Document → NodeId → Option Verdict
title_is_descriptive page =
    said_of_root (λ root. option_and_then (asks_a_person page.address) (page_title (seen page.trees))) page

-- the targets of the rule, where the page has this title
abbrev pub title_is_descriptive_target : Option (List ℕ) → Above → Row → Bool
title_is_descriptive_target title above row = is_page_root row && option_map_or (λ text. not (blank text)) title false

abbrev pub title_is_descriptive_info : RuleInfo
title_is_descriptive_info = atomic 2 (codes "c4a8a4") Title Title
