-- The contexts of a page's nodes, as they are carried down over the page.
use Rattle.std.specs.Prelude.{List, [], ◌++◌, Option, None}
use Rattle.std.specs.Option.{option_or, option_to_list}
use Rattle.snap_tree.specs.declared.row.Row.{Row}
use Rattle.snap_tree.specs.Trees.{Trees, empty, tree}
use Rattle.aria_tables.specs.declared.role.Role.{Role}
use Rattle.aria_tables.specs.declared.role.Role.TheVariants.{RowRole}
use Rattle.acc_tree.specs.declared.above.Above.{Above}
use Rattle.acc_tree.specs.Frames.{under}
use Rattle.acc_tree.specs.Roles.{role_at}
use Rattle.rule_core.specs.declared.verdict.NodeVerdict.{NodeVerdict}
use Rattle.rule_core.specs.Pages.{on_node}
use Rattle.rules_more.specs.declared.contexts.Contexts.{Contexts}
use Rattle.rules_more.specs.RequiredContext.{counting, nearest, said_by_context}
use Rattle.rules_more.specs.RoleContexts.{passed_by_all, passed_by_rows}

-- the context of a row, and that of any other element, by the nodes above it
abbrev pub contexts_of : List Row → Contexts
contexts_of rows = record { of_row = nearest passed_by_rows rows; of_other = nearest passed_by_all rows }

-- above the roots there is none
abbrev pub no_contexts : Contexts
no_contexts = record { of_row = None; of_other = None }

-- the contexts of what stands below a row
abbrev pub within : Above → Row → Contexts → Contexts
within above row contexts = record {
  of_row = option_or (counting passed_by_rows (role_at above row)) contexts.of_row;
  of_other = option_or (counting passed_by_all (role_at above row)) contexts.of_other;
}

-- the context of an element of this role
abbrev pub context_at : Contexts → Role → Option Role
context_at contexts RowRole = contexts.of_row
context_at contexts _ = contexts.of_other

-- the verdicts on these trees, in document order, where this is above them
abbrev pub verdicts_in : Above → Contexts → Trees → List NodeVerdict
verdicts_in above contexts empty = []
verdicts_in above contexts (tree row kids after) =
    option_to_list (on_node row.id (said_by_context (context_at contexts) above row))
    ++ verdicts_in (under above row) (within above row contexts) kids ++ verdicts_in above contexts after
