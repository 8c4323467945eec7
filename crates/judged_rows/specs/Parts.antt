-- The parts of a page's outcomes, one for each rule of a book.
use Rattle.std.specs.Prelude.{◌≡◌, ◌==◌, ℕ, List, [], map, true, false, None}
use Rattle.std.specs.Option.{option_map_or}
use Rattle.std.specs.List.{filter_map, find, AllByRecursion}
use Rattle.snap_tree.specs.declared.row.NodeId.{NodeId}
use Rattle.snap_tree.specs.Trees.{Document}
use Rattle.rule_core.specs.declared.info.RuleNo.{RuleNo}
use Rattle.rule_core.specs.Infos.{is_atomic, has_atomic}
use Rattle.rule_core.specs.Books.{Book}
use Rattle.judge_core.specs.declared.judgement.Judgement.{Judgement}
use Rattle.judge_core.specs.declared.outcomes.OutRow.{OutRow}
use Rattle.judge_core.specs.Outcomes.{atomic_row, atomic_rows, composite_row, composite_rows, inputs_of}
use Rattle.judged_rows.specs.declared.parts.RulePart.{RulePart}

-- a book says nothing by a number that is no atomic rule of it
abbrev pub SaysByAtomic : Book → Type 0
SaysByAtomic book = (rule : RuleNo) → has_atomic book.infos rule.0 ≡ false → (page : Document) (n : NodeId) → book.means rule page n ≡ None

-- the rows that an atomic rule has on these nodes
abbrev pub rows_on : Book → Document → List Judgement → List NodeId → RuleNo → List OutRow
rows_on book page js nodes rule = filter_map (atomic_row book page js rule) nodes

-- nodes in document order on which a composite rule has all its rows, and its inputs have all theirs
pub record Suffice (book : Book) (page : Document) (js : List Judgement) (part : RulePart) : Type 0 where
  pub rows : filter_map (composite_row book page js part.info) part.nodes ≡ composite_rows book page js part.info
  pub inputs : AllByRecursion (λ input. rows_on book page js part.nodes input ≡ atomic_rows book page js input) (inputs_of part.info)

-- the part of a rule: the rows of an atomic one, nodes for those of a composite one
pub record IsPart (book : Book) (page : Document) (js : List Judgement) (part : RulePart) : Type 0 where
  pub atomic : is_atomic part.info ≡ true → part.rows ≡ atomic_rows book page js part.info.no
  pub composite : is_atomic part.info ≡ false → (part.rows ≡ []) × Suffice book page js part

-- the parts of a page's outcomes, one for each rule of the book
pub record AreParts (book : Book) (page : Document) (js : List Judgement) (parts : List RulePart) : Type 0 where
  pub whole : map (λ p. p.info) parts ≡ book.infos
  pub each : AllByRecursion (IsPart book page js) parts

-- the rows in the part of the rule of a number; none where there is no such rule
abbrev pub rows_found : List RulePart → ℕ → List OutRow
rows_found parts number = option_map_or (λ p. p.rows) (find (λ p. number == p.info.no.0) parts) []
