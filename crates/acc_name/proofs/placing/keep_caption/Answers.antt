use Rattle.std.proofs.Common.{◌≡◌, ◌++◌, take, drop, if◌then◌else◌, string_bytes, sym, ◌∙◌, ap, arith}
use Rattle.std.proofs.lemmas.List.{take-append-drop}
use Rattle.acc_tree.specs.Seen.{seen_row}
use Rattle.acc_name.specs.Names.{placed}
use Rattle.acc_name.proofs.placing.keep_caption.Goals as goal

-- nothing stands before the caption
pub returns-else-start-mark : goal.returns-else-start-mark
returns-else-start-mark c =
    let content = string_bytes c.args.content.now in
    let same : c.args.mark ≡ c.args.start = omega (arith, c.requires.order, c.if-start-mark.false) in
    sym (take-append-drop c.args.mark content) ∙ ap (λ i. take i content ++ drop c.args.mark content) same
    ∙ sym (ap (λ b. if b then take c.args.mark content ++ placed (seen_row c.args.row.now) (drop c.args.mark content) else take c.args.start content ++ drop c.args.mark content) c.if-is_blank.false)
