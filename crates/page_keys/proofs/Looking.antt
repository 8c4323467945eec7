-- The laws of keys, of what is seen of well pages.
use Rattle.std.proofs.Common.{ℕ, List, false, None}
use Rattle.acc_tree.specs.Inclusion.{exposed, included}
use Rattle.aria_tables.specs.declared.role.Role.{Role}
use Rattle.acc_tree.specs.Owning.{items, owned}
use Rattle.acc_tree.specs.Pages.{role, explicit_role, is_exposed, is_included, is_decorative}
use Rattle.acc_tree.specs.Roles.{explicit, role_at, decorative}
use Rattle.acc_tree.specs.Sights.{sight_of}
use Rattle.page_keys.specs.Nodes.{self_keys, tree_keys, node_keys}
use Rattle.page_keys.specs.Classes.{sub_keys, table_keys, title_keys, metas_keys, whole_keys}
use Rattle.page_keys.specs.Laws.{LooksAt, alone, subtree, table_sight, root_titles, meta_owns, page_at, words_find, labelled_by, labels_at, follows_at, owned_elements}
use Rattle.page_keys.proofs.Again.{looks, said_same, alone_same, subtree_same, sight_same}
use Rattle.page_keys.proofs.Classes.{table_same, titles_same, metas_same, whole_same, words_same, labelled_same, label_sights_same}
use Rattle.page_keys.proofs.Taking.{follows_at_same, elements_same, items_same, owned_same}

pub alone_looks : LooksAt alone self_keys
alone_looks = looks alone self_keys alone_same

pub role_looks : LooksAt role self_keys
role_looks = looks role self_keys (said_same role_at None)

pub explicit_looks : LooksAt explicit_role self_keys
explicit_looks = looks explicit_role self_keys (said_same (λ _ row. explicit row) None)

pub exposed_looks : LooksAt is_exposed self_keys
exposed_looks = looks is_exposed self_keys (said_same exposed false)

pub included_looks : LooksAt is_included self_keys
included_looks = looks is_included self_keys (said_same included false)

pub decorative_looks : LooksAt is_decorative self_keys
decorative_looks = looks is_decorative self_keys (said_same decorative false)

pub subtree_looks : LooksAt subtree tree_keys
subtree_looks = looks subtree tree_keys subtree_same

pub sight_looks : LooksAt sight_of node_keys
sight_looks = looks sight_of node_keys sight_same

pub words_look : LooksAt words_find sub_keys
words_look = looks words_find sub_keys words_same

pub labelled_looks : LooksAt labelled_by sub_keys
labelled_looks = looks labelled_by sub_keys labelled_same

pub labels_look : LooksAt labels_at sub_keys
labels_look = looks labels_at sub_keys label_sights_same

pub follows_look : LooksAt follows_at sub_keys
follows_look = looks follows_at sub_keys follows_at_same

pub elements_look : (through : List Role) (number : ℕ) → LooksAt (owned_elements through number) sub_keys
elements_look through number = looks (owned_elements through number) sub_keys (elements_same through number)

pub items_look : (number : ℕ) → LooksAt (λ t n. items t n number) sub_keys
items_look number = looks (λ t n. items t n number) sub_keys (items_same number)

pub owned_looks : LooksAt owned sub_keys
owned_looks = looks owned sub_keys owned_same

pub table_looks : LooksAt table_sight table_keys
table_looks = looks table_sight table_keys table_same

pub titles_look : LooksAt root_titles title_keys
titles_look = looks root_titles title_keys titles_same

pub metas_look : LooksAt meta_owns metas_keys
metas_look = looks meta_owns metas_keys metas_same

pub whole_looks : LooksAt page_at whole_keys
whole_looks = looks page_at whole_keys whole_same
