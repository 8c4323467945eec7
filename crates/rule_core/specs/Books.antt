-- Books of rules: what a book's type says, and the book that is a table of its rules.
use Rattle.std.specs.Prelude.{List, [], ◌∷◌, map, Option, None, ◌==◌, if◌then◌else◌}
use Rattle.snap_tree.specs.declared.row.NodeId.{NodeId}
use Rattle.snap_tree.specs.Trees.{Document}
use Rattle.rule_core.specs.declared.info.RuleNo.{RuleNo}
use Rattle.rule_core.specs.declared.info.RuleInfo.{RuleInfo}
use Rattle.rule_core.specs.declared.verdict.Verdict.{Verdict}
use Rattle.rule_core.specs.Infos.{is_atomic}

-- what the rules of a book say of a page's nodes
abbrev pub Meaning : Type 0
Meaning = RuleNo → Document → NodeId → Option Verdict

-- a book: the infos of its rules, and what they say
pub record Book : Type 0 where
  pub infos : List RuleInfo
  pub means : Meaning

-- a rule: its info, and what it says of a node of a page
pub record Entry : Type 0 where
  pub info : RuleInfo
  pub says : Document → NodeId → Option Verdict

abbrev pub infos_of : List Entry → List RuleInfo
infos_of entries = map (λ e. e.info) entries

-- what the rule of a number says, where it is atomic; nothing where there is no such rule
abbrev pub said : List Entry → Meaning
said [] rule page n = None
said (e ∷ entries) rule page n =
    if rule.0 == e.info.no.0 then (if is_atomic e.info then e.says page n else None) else said entries rule page n

-- the book of a table
abbrev pub book_of : List Entry → Book
book_of entries = record { infos = infos_of entries; means = said entries }
