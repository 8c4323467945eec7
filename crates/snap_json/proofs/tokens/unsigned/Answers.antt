use Rattle.std.proofs.Common.{◌≡◌, Some, sym, ◌∙◌, subst}
use Rattle.std.specs.Prelude.{IfSome}
use Rattle.serde_json.specs.Data.{unsigned}
use Rattle.serde_json.specs.Read.{number_of as number_in}
use Rattle.snap_json.proofs.TokenValues.{plain_found}
use Rattle.snap_json.proofs.tokens.unsigned.Goals as goal

pub returns : goal.returns
returns c =
    subst (λ s. IfSome c.to_u64.result (λ n. number_in s ≡ Some (unsigned n))) c.as_bytes-bytes.ensures.value
    (plain_found c.as_bytes-bytes.result.now c.to_u64.result c.scan.result (sym c.has_minus.ensures ∙ c.if-has_minus.false) c.scan.ensures.parts c.to_u64.ensures)
