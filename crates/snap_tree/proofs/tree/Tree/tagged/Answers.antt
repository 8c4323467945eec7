use Rattle.std.proofs.Common.{sym, ◌∙◌, ap, map, filter}
use Rattle.snap_tree.specs.Rows.{is_html}
use Rattle.snap_tree.specs.Trees.{rows_of}
use Rattle.texts.specs.Words.{folded}
use Rattle.snap_tree.specs.declared.groups.Key.TheVariants.{Tag}
use Rattle.snap_tree.specs.Groups.{keyed}
use Rattle.snap_tree.proofs.Growth.{rows_of_grown}
use Rattle.snap_tree.proofs.Found.{tagged_is}
use Rattle.snap_tree.proofs.tree.Tree.tagged.Goals as goal

pub returns : goal.returns
returns c =
    let text = c.as_str-2.ensures.value ∙ c.in_ok-key.ensures ∙ ap folded c.as_str.ensures in
    c.from_vec.ensures ∙ c.in_ok-from_slice.ensures.items ∙ c.group-nodes.ensures ∙ c.page.result.now.kept.tagged _ ∙ ap (λ key. keyed Tag key c.page.result.now.rows.items) text
    ∙ tagged_is c.args.tag.now c.page.result.now.rows.items ∙ sym (ap (λ d. map (λ r. r.id) (filter (is_html c.args.tag.now) (rows_of d.trees))) (sym c.page.ensures) ∙ ap (λ rs. map (λ r. r.id) (filter (is_html c.args.tag.now) rs)) (rows_of_grown c.page.result.now.rows.items))
