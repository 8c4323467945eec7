-- Whether two pages agree on what each class of rules looks at, of each node of the old one.
use Rattle.std.specs.Prelude.{◌≡◌, ◌&&◌, ◌||◌, not, List, [], ◌∷◌, map, Bool}
use Rattle.std.specs.Option.{option_map_or}
use Rattle.snap_tree.specs.declared.row.NodeId.{NodeId}
use Rattle.snap_tree.specs.Trees.{Trees, rows_of}
use Rattle.page_keys.specs.Same.{all_same}
use Rattle.page_keys.specs.Nodes.{self_keys, tree_keys, keys_in}
use Rattle.page_keys.specs.Classes.{sub_keys, table_keys, titles, title_keys, metas, metas_keys, whole_keys}
use Rattle.page_changes.specs.declared.flags.Flags.{Flags}
use Rattle.page_changes.specs.declared.flags.Common.{Common}
use Rattle.page_changes.specs.declared.marks.Marks.{Marks}

-- of a node, each flag is whether the pages agree on all keys of a class
abbrev pub flags_of : Trees → Trees → NodeId → Flags
flags_of old new n = record {
  node = n;
  itself = all_same old new (self_keys old n);
  sub = all_same old new (sub_keys old n);
  table = all_same old new (table_keys old n);
  title = all_same old new (title_keys old n);
  metas = all_same old new (metas_keys old n);
  whole = all_same old new (whole_keys old n);
}

-- the flags of each node of the old page, in document order
abbrev pub AreFlags : Trees → Trees → List Flags → Type 0
AreFlags old new flags = flags ≡ map (λ row. flags_of old new row.id) (rows_of old)

-- ---- by what was found on one pass after another

-- what is looked at of the whole page
pub record IsCommon (old new : Trees) (common : Common) : Type 0 where
  pub titles : common.titles ≡ all_same old new (titles old)
  pub metas : common.metas ≡ all_same old new (metas old)
  pub all : common.all ≡ all_same old new (keys_in old)

-- the flags of a node with these marks, whose references agree or not
abbrev pub flags_at : Trees → Trees → Common → Marks → Bool → Flags
flags_at old new common m references = record {
  node = m.node;
  itself = m.itself;
  sub = m.itself && (m.tree && references);
  table = m.itself && all_same old new (option_map_or (tree_keys old) m.table []);
  title = m.itself && (not m.root || common.titles);
  metas = m.itself && (not m.meta || common.metas);
  whole = m.itself && (not m.root || common.all);
}

abbrev pub joined : Trees → Trees → Common → List Marks → List Bool → List Flags
joined old new common [] references = []
joined old new common (m ∷ marks) [] = []
joined old new common (m ∷ marks) (same ∷ references) = flags_at old new common m same ∷ joined old new common marks references
