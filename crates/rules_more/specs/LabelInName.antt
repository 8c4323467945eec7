-- Whether the name of a control has the words that it shows (Label in Name).
use Rattle.std.specs.Prelude.{◌&&◌, ◌||◌, ◌==◌, nat_lt, Bool, true, false, not, ℕ, List, [], ◌∷◌, ◌++◌, length, codes, if◌then◌else◌, Option, Some, None, option_and_then}
use Rattle.std.specs.Str.{chars}
use Rattle.snap_tree.specs.declared.row.NodeId.{NodeId}
use Rattle.snap_tree.specs.declared.row.Row.{Row}
use Rattle.snap_tree.specs.Trees.{Document}
use Rattle.texts.specs.Words.{blank, words, folded}
use Rattle.aria_tables.specs.declared.attr.AriaAttr.TheVariants as aria
use Rattle.aria_tables.specs.declared.role.Role.{Role}
use Rattle.aria_tables.specs.declared.role.Role.TheVariants as role
use Rattle.acc_tree.specs.declared.above.Above.{Above}
use Rattle.acc_tree.specs.declared.attributes.Attribute.TheVariants as attribute
use Rattle.acc_tree.specs.Inclusion.{included}
use Rattle.acc_tree.specs.Seen.{seen, is_blank_at}
use Rattle.acc_tree.specs.Sights.{Sight}
use Rattle.acc_name.specs.Names.{name_of}
use Rattle.rule_core.specs.declared.info.RuleInfo.{RuleInfo}
use Rattle.rule_core.specs.declared.info.Class.TheVariants.{Sub}
use Rattle.rule_core.specs.declared.reason.Reason.TheVariants.{LabelMissing, JudgeLabelInName}
use Rattle.rule_core.specs.declared.finding.Finding.{Finding}
use Rattle.rule_core.specs.declared.verdict.Verdict.{Verdict}
use Rattle.rule_core.specs.Brief.{brief}
use Rattle.rule_core.specs.Findings.{met, failed, cant_tell, verdict_of}
use Rattle.rule_core.specs.Infos.{atomic}
use Rattle.rule_sights.specs.Nodes.{sight_as}
use Rattle.rule_sights.specs.Targets.{is_as}
use Rattle.rules_names.specs.Elements.{is_html_element}
use Rattle.rules_more.specs.SharedWords.{share_one}
use Rattle.rules_more.specs.ShownText.{shown_text}

-- ---- a text in another

abbrev pub begins : List ℕ → List ℕ → Bool
begins [] text = true
begins (b ∷ part) [] = false
begins (b ∷ part) (c ∷ text) = b == c && begins part text

-- the part stands in the text, as a run of bytes
abbrev pub has_run : List ℕ → List ℕ → Bool
has_run part [] = begins part []
has_run part (c ∷ text) = begins part (c ∷ text) || has_run part text

-- ---- the rule

-- more than one character
abbrev pub is_more_than_one : List ℕ → Bool
is_more_than_one shown = nat_lt 1 (length (chars shown))

-- no word that is shown is a word of the name
abbrev pub lacks_each_word : List ℕ → List ℕ → Bool
lacks_each_word shown name = not (share_one (words shown) (words name))

-- By what is shown and the name, both with ASCII letters in lower case: it fails where the name has none of the words of
-- more than one character; otherwise a person has to judge where what is shown doesn't stand in the name.
abbrev pub folded_finding : List ℕ → List ℕ → Finding
folded_finding shown name =
    if is_more_than_one shown && lacks_each_word shown name then failed LabelMissing
    else (if has_run shown name then met else cant_tell JudgeLabelInName)

abbrev pub label_finding : List ℕ → List ℕ → Finding
label_finding shown name = folded_finding (folded shown) (folded name)

-- what is shown, and the name as it stands in evidence on a line of its own
abbrev pub label_text : List ℕ → List ℕ → List ℕ
label_text shown name = shown ++ 10 ∷ brief name

abbrev pub label_verdict : List ℕ → List ℕ → Verdict
label_verdict shown name = verdict_of (label_finding shown name) (label_text shown name)

-- the roles whose elements say what they show
abbrev pub labelled_roles : List Role
labelled_roles =
    role.Button ∷ role.Checkbox ∷ role.Link ∷ role.Menuitem ∷ role.Menuitemcheckbox ∷ role.Menuitemradio ∷
    role.OptionRole ∷ role.Radio ∷ role.Switch ∷ role.Tab ∷ role.Treeitem ∷ []

-- an author names the element by ARIA
abbrev pub is_named_by_aria : Row → Bool
is_named_by_aria row = not (is_blank_at (attribute.Aria aria.Label) row) || not (is_blank_at (attribute.Aria aria.Labelledby) row)

abbrev pub may_differ : Above → Row → Bool
may_differ above row = is_html_element row && (is_named_by_aria row && included above row)

-- the target is an included HTML element that an author names by ARIA and that shows a text which isn't blank
abbrev pub is_label_target : Sight → Bool
is_label_target s = may_differ s.above s.row && not (blank (shown_text s.below))

abbrev pub said_of_label : List ℕ → Sight → Option Verdict
said_of_label name s = if is_label_target s then Some (label_verdict (shown_text s.below) name) else None

-- visible label is part of accessible name: the targets are of such a role
abbrev pub name_has_label : Document → NodeId → Option Verdict
name_has_label page n = option_and_then (said_of_label (name_of (seen page.trees) n).text) (sight_as labelled_roles (seen page.trees) n)

-- the targets of the rule
abbrev pub name_has_label_target : Sight → Bool
name_has_label_target s = is_as labelled_roles s.above s.row && is_label_target s

abbrev pub name_has_label_info : RuleInfo
name_has_label_info = atomic 40 (codes "2ee8b8") Sub Sub
