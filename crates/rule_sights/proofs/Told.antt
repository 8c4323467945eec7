-- What each class tells of a node: each tells the node by itself.
use Rattle.std.proofs.Common.{[], if◌then◌else◌}
use Rattle.std.specs.Option.{option_map_or}
use Rattle.snap_tree.specs.declared.row.NodeId.{NodeId}
use Rattle.snap_tree.specs.Trees.{Trees}
use Rattle.acc_tree.specs.Seen.{seen}
use Rattle.acc_tree.specs.Sights.{sight_of}
use Rattle.rule_core.specs.declared.info.Class.{Class}
use Rattle.rule_core.specs.declared.info.Class.TheVariants.{SelfOnly, Sub, Table, Title, Metas, Whole, Lang, SubLang}
use Rattle.page_keys.specs.Nodes.{self_keys, tree_keys, node_keys, keys_in}
use Rattle.page_keys.specs.References.{reference_keys}
use Rattle.page_keys.specs.Classes.{sub_keys, table_of, is_root, titles, is_meta, metas}
use Rattle.page_keys.specs.Laws.{alone, table_sight, root_titles, meta_owns, page_at}
use Rattle.page_keys.proofs.Agreeing.{parts}
use Rattle.page_keys.proofs.Again.{looks}
use Rattle.page_keys.proofs.Classes.{sub_sight}
use Rattle.page_keys.proofs.Looking.{alone_looks, table_looks, titles_look, metas_look, whole_looks}
use Rattle.rule_core.specs.Reach.{class_keys}
use Rattle.rule_sights.specs.Telling.{Tells}

pub alone_told : (class : Class) → Tells class alone
unfolding class_keys
alone_told SelfOnly old new n wo wn k = alone_looks old new n wo wn k
alone_told Sub old new n wo wn k =
    let node = (parts (seen old) (seen new) (node_keys (seen old) n) (reference_keys (seen old) n) k).0 in
    alone_looks old new n wo wn (parts (seen old) (seen new) (self_keys (seen old) n) (tree_keys (seen old) n) node).0
alone_told Table old new n wo wn k =
    alone_looks old new n wo wn (parts (seen old) (seen new) (self_keys (seen old) n) (option_map_or (tree_keys (seen old)) (table_of (seen old) n) []) k).0
alone_told Title old new n wo wn k =
    alone_looks old new n wo wn (parts (seen old) (seen new) (self_keys (seen old) n) (if is_root (seen old) n then titles (seen old) else []) k).0
alone_told Metas old new n wo wn k =
    alone_looks old new n wo wn (parts (seen old) (seen new) (self_keys (seen old) n) (if is_meta (seen old) n then metas (seen old) else []) k).0
alone_told Whole old new n wo wn k =
    alone_looks old new n wo wn (parts (seen old) (seen new) (self_keys (seen old) n) (if is_root (seen old) n then keys_in (seen old) else []) k).0
alone_told Lang old new n wo wn k = alone_looks old new n wo wn k
alone_told SubLang old new n wo wn k =
    let node = (parts (seen old) (seen new) (node_keys (seen old) n) (reference_keys (seen old) n) k).0 in
    alone_looks old new n wo wn (parts (seen old) (seen new) (self_keys (seen old) n) (tree_keys (seen old) n) node).0

pub sight_told : Tells Sub sight_of
unfolding class_keys
sight_told = looks sight_of sub_keys sub_sight

-- the class SubLang tells it too
pub sub_lang_told : Tells SubLang sight_of
unfolding class_keys
sub_lang_told = looks sight_of sub_keys sub_sight

pub table_told : Tells Table table_sight
unfolding class_keys
table_told = table_looks

pub titles_told : Tells Title root_titles
unfolding class_keys
titles_told = titles_look

pub metas_told : Tells Metas meta_owns
unfolding class_keys
metas_told = metas_look

pub whole_told : Tells Whole page_at
unfolding class_keys
whole_told = whole_looks

-- two things that a class tells, together
pub both_told : {A B : Type 0} (class : Class) (f : Trees → NodeId → A) (g : Trees → NodeId → B) → Tells class f → Tells class g → Tells {A = A × B} class (λ t n. (f t n, g t n))
both_told class f g tells_f tells_g old new n wo wn k =
    let one = tells_f old new n wo wn k in
    let two = tells_g old new n wo wn k in
    λ i. (one i, two i)
