-- A book for tests: what its rules say of a node stands in the attributes of the node.
use Rattle.std.specs.Prelude.{ℕ, List, [], ◌∷◌, codes, if◌then◌else◌, bytes_eq, Option, None, option_map}
use Rattle.snap_tree.specs.declared.row.NodeId.{NodeId}
use Rattle.snap_tree.specs.declared.row.Row.{Row}
use Rattle.snap_tree.specs.Trees.{Document}
use Rattle.acc_tree.specs.declared.attributes.Attribute.{Attribute}
use Rattle.acc_tree.specs.declared.attributes.Attribute.TheVariants as attribute
use Rattle.acc_tree.specs.Seen.{attr}
use Rattle.rule_core.specs.declared.info.RuleInfo.{RuleInfo}
use Rattle.rule_core.specs.declared.info.Class.TheVariants.{SelfOnly, Whole}
use Rattle.rule_core.specs.declared.reason.Reason.TheVariants.{Met, NoName, JudgeHeading}
use Rattle.rule_core.specs.declared.finding.Finding.{Finding}
use Rattle.rule_core.specs.declared.verdict.Verdict.{Verdict}
use Rattle.rule_core.specs.Findings.{passed, failed, cant_tell, verdict_of}
use Rattle.rule_core.specs.Infos.{atomic}
use Rattle.rule_core.specs.Books.{Entry}
use Rattle.rule_sights.specs.Nodes.{said_alone}

abbrev pub finding_in : List ℕ → Finding
finding_in value =
    if bytes_eq value (codes "passed") then passed Met else (if bytes_eq value (codes "failed") then failed NoName else cant_tell JudgeHeading)

-- a rule's verdict on a node with its attribute: its evidence is the value
abbrev pub mark_verdict : Attribute → Row → Option Verdict
mark_verdict name row = option_map (λ value. verdict_of (finding_in value) value) (attr name row)

abbrev pub marked : Attribute → Document → NodeId → Option Verdict
marked name = said_alone (mark_verdict name)

abbrev pub composite : ℕ → List ℕ → List ℕ → RuleInfo
composite number id inputs = record { no = record { 0 = number }; id = id; applies = Whole; expects = Whole; inputs = inputs }

abbrev pub alt_info : RuleInfo
alt_info = atomic 3 (codes "attr0a") SelfOnly SelfOnly

abbrev pub title_info : RuleInfo
title_info = atomic 4 (codes "attr0b") SelfOnly SelfOnly

abbrev pub lang_info : RuleInfo
lang_info = atomic 5 (codes "attr0c") SelfOnly SelfOnly

-- a composite rule before its inputs, which are the rules on the attributes alt, title and lang, and one after them
abbrev pub marks : List Entry
marks =
    record { info = composite 1 (codes "merge1") (3 ∷ 4 ∷ 5 ∷ 0 ∷ []); says = λ page n. None }
    ∷ record { info = alt_info; says = marked attribute.Alt }
    ∷ record { info = title_info; says = marked attribute.Title }
    ∷ record { info = lang_info; says = marked attribute.Lang }
    ∷ record { info = composite 9 (codes "merge2") (5 ∷ 3 ∷ 0 ∷ 0 ∷ []); says = λ page n. None }
    ∷ []
