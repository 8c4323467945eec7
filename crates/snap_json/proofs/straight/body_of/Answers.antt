use Rattle.std.proofs.Common.{◌≡◌, Some, None, subst, arith}
use Rattle.snap_json.specs.Straight.{HoldsBody}
use Rattle.snap_json.proofs.StraightRows.{element_made, words_made}
use Rattle.snap_json.proofs.straight.body_of.Goals as goal

pub returns-in-Some-None : goal.returns-in-Some-None
returns-in-Some-None c ms h place =
    let tag : c.args.tag ≡ Some c.in-Some-None.tag = grind arith in
    let text : c.args.text ≡ None = grind arith in
    element_made c.args.space c.in-Some-None.tag c.args.attrs ms
    (subst (λ t. HoldsBody c.args.space t c.args.attrs None ms) tag (subst (λ t. HoldsBody c.args.space c.args.tag c.args.attrs t ms) text h)) place

pub returns-in-None-Some : goal.returns-in-None-Some
returns-in-None-Some c ms h place =
    let tag : c.args.tag ≡ None = grind arith in
    let text : c.args.text ≡ Some c.in-None-Some.text = grind arith in
    words_made c.args.space c.args.attrs c.in-None-Some.text ms
    (subst (λ t. HoldsBody c.args.space None c.args.attrs t ms) text (subst (λ t. HoldsBody c.args.space t c.args.attrs c.args.text ms) tag h)) place
