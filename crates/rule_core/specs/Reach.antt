-- What a rule looks at, and the pairs of a rule and a node that an edit affects.
use Rattle.std.specs.Prelude.{◌||◌, ◌++◌, not, List, [], ◌∷◌, map, filter, Bool, true, false, if◌then◌else◌, Option}
use Rattle.std.specs.List.{flat_map}
use Rattle.std.specs.Option.{is_some}
use Rattle.snap_tree.specs.declared.row.NodeId.{NodeId}
use Rattle.snap_tree.specs.Lookups.{node}
use Rattle.snap_tree.specs.Trees.{Trees, Document, rows_of}
use Rattle.acc_tree.specs.Seen.{seen}
use Rattle.rule_core.specs.declared.info.Class.{Class}
use Rattle.rule_core.specs.declared.info.Class.TheVariants.{SelfOnly, Sub, Table, Title, Metas, Whole, Lang, SubLang}
use Rattle.rule_core.specs.declared.info.RuleInfo.{RuleInfo}
use Rattle.rule_core.specs.declared.info.RuleNo.{RuleNo}
use Rattle.rule_core.specs.declared.verdict.Verdict.{Verdict}
use Rattle.rule_core.specs.Books.{Book}
use Rattle.rule_core.specs.Infos.{is_atomic}
use Rattle.page_keys.specs.Keys.{Key}
use Rattle.page_keys.specs.PageKeys.{PageKey, of_nodes, langs_key, all_same_in}
use Rattle.page_keys.specs.Nodes.{self_keys}
use Rattle.page_keys.specs.Classes.{sub_keys, table_keys, title_keys, metas_keys, whole_keys}

-- what each class looks at of the nodes
unfoldable pub class_keys : Class → Trees → NodeId → List Key
class_keys SelfOnly = self_keys
class_keys Sub = sub_keys
class_keys Table = table_keys
class_keys Title = title_keys
class_keys Metas = metas_keys
class_keys Whole = whole_keys
class_keys Lang = self_keys
class_keys SubLang = sub_keys

-- and whether it looks at the list of language subtags
abbrev pub looks_at_langs : Class → Bool
looks_at_langs SelfOnly = false
looks_at_langs Sub = false
looks_at_langs Table = false
looks_at_langs Title = false
looks_at_langs Metas = false
looks_at_langs Whole = false
looks_at_langs Lang = true
looks_at_langs SubLang = true

-- all that it looks at, of a node of a page
unfoldable pub looked_at : Class → Document → NodeId → List PageKey
looked_at class page n = map of_nodes (class_keys class (seen page.trees) n) ++ (if looks_at_langs class then langs_key ∷ [] else [])

-- what a rule says of each node of a page
abbrev pub Says : Type 0
Says = Document → NodeId → Option Verdict

-- A rule looks at what its applicability does, and of a target also at what its expectations do.
abbrev pub reach : RuleInfo → Says → Document → NodeId → List PageKey
reach info says page n = looked_at info.applies page n ++ (if is_some (says page n) then looked_at info.expects page n else [])

-- ---- what an edit affects

-- the two pages agree on all that the rule looks at, of this node of the old one
abbrev pub agrees : RuleInfo → Says → Document → Document → NodeId → Bool
agrees info says old new n = all_same_in old new (reach info says old n)

abbrev pub is_held : Document → NodeId → Bool
is_held page n = is_some (node page.trees n)

-- the node isn't on the old page, or a key has another value on the new one
abbrev pub is_affected : RuleInfo → Says → Document → Document → NodeId → Bool
is_affected info says old new n = not (is_held old n) || not (agrees info says old new n)

-- the nodes of the new page on which a rule is affected, in document order
abbrev pub affected_nodes : RuleInfo → Says → Document → Document → List NodeId
affected_nodes info says old new = filter (is_affected info says old new) (map (λ row. row.id) (rows_of new.trees))

abbrev pub pairs : RuleInfo → List NodeId → List (RuleNo × NodeId)
pairs info nodes = map (λ n. (info.no, n)) nodes

-- of a book, the pairs of an atomic rule and a node of the new page
abbrev pub affected : Book → Document → Document → List (RuleNo × NodeId)
affected book old new = flat_map (λ info. pairs info (affected_nodes info (book.means info.no) old new)) (filter is_atomic book.infos)
