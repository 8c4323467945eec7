use Rattle.std.proofs.Common.{rules, ◌≡◌, ◌∷◌, ◌++◌, codes, decimal, ap, ◌∙◌}
use Rattle.hex.specs.Hex.{encode_lower}
use Rattle.rule_core.specs.Brief.{brief}
use Rattle.rules_more.proofs.Preparing.{long_is}
use Rattle.rules_more.proofs.prepared.Prepared.evidence.Goals as goal

pub returns : goal.returns
returns c =
    let p = c.args.self.now in
    let said : c.from_string.result ≡ codes "long " ++ decimal c.in_ok-length.length ++ 32 ∷ encode_lower c.in_ok-digest.field-0 = search rules in
    said ∙ long_is p.shown c.in_ok-name.name c.in_ok-length.length c.in_ok-digest.field-0 p.long c.in_ok-length.ensures c.in_ok-digest.ensures
    ∙ ap (λ name. brief (p.shown ++ 10 ∷ name)) c.in_ok-name.ensures
