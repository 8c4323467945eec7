-- Which nodes are exposed, and which are in the accessibility tree.
use Rattle.std.specs.Prelude.{◌&&◌, ◌||◌, not, codes, Bool}
use Rattle.aria_tables.specs.declared.attr.AriaAttr.TheVariants as aria
use Rattle.snap_tree.specs.declared.row.Row.{Row}
use Rattle.acc_tree.specs.declared.above.Above.{Above}
use Rattle.acc_tree.specs.declared.attributes.Attribute.TheVariants as attribute
use Rattle.acc_tree.specs.Seen.{is_word_at}
use Rattle.acc_tree.specs.Roles.{decorative}

-- the node itself has aria-hidden with the value `true`
abbrev pub is_hidden : Row → Bool
is_hidden row = is_word_at (attribute.Aria aria.Hidden) (codes "true") row

-- rendered and visible, and neither hidden itself nor below a hidden node
abbrev pub exposed : Above → Row → Bool
exposed above row = (row.facts.rendered && row.facts.visible) && not (is_hidden row || above.hidden)

-- in the accessibility tree: exposed, and not of role none or presentation
abbrev pub included : Above → Row → Bool
included above row = exposed above row && not (decorative above row)
