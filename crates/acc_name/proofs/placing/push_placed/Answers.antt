use Rattle.std.proofs.Common.{◌≡◌, ◌++◌, List, ℕ, OnOk, string_bytes, ◌∙◌, ap, subst}
use Rattle.acc_tree.specs.Seen.{seen_row}
use Rattle.acc_name.specs.Names.{placed}
use Rattle.acc_name.specs.Placing.{gap}
use Rattle.acc_name.proofs.Marks.{gaps_placed}
use Rattle.acc_name.proofs.placing.push_placed.Goals as goal

pub returns : goal.returns
returns c =
    let row = seen_row c.args.row.now in
    let before = string_bytes c.args.content.now in
    let text = c.args.text.now in
    let written : string_bytes c.push_str.new.self ≡ (before ++ gap row) ++ text =
    c.in_ok-push_str.ensures.bytes ∙ ap (λ t. t ++ text) c.in_ok-part.ensures in
    let all : string_bytes c.push_str.new.self ++ gap row ≡ before ++ placed row text =
    ap (λ t. t ++ gap row) written ∙ gaps_placed row before text in
    subst (λ (t : List ℕ). OnOk c.part-2.result (string_bytes c.part-2.new.content ≡ t)) all c.part-2.ensures
