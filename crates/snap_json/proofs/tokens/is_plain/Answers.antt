use Rattle.std.proofs.Common.{◌∷◌, sym, ap, ◌∙◌}
use Rattle.json.specs.Reads.{token_of}
use Rattle.serde_json.specs.Data.{null, boolean, string}
use Rattle.snap_json.proofs.TokenValues.{string_read, boolean_read, null_read, plain_number_read}
use Rattle.snap_json.proofs.tokens.is_plain.Goals as goal

pub returns-in-String : goal.returns-in-String
returns-in-String c told depth left = (string c.in-String.field-0.now, string_read depth _ left _ (ap (λ t. token_of t ∷ left) c.in-String.is))

pub returns-in-Bool : goal.returns-in-Bool
returns-in-Bool c told depth left = (boolean c.in-Bool.field-0, boolean_read depth _ left _ (ap (λ t. token_of t ∷ left) c.in-Bool.is))

pub returns-in-Null : goal.returns-in-Null
returns-in-Null c told depth left = (null, null_read depth _ left (ap (λ t. token_of t ∷ left) c.in-Null.is))

pub returns-in-Number : goal.returns-in-Number
returns-in-Number c told depth left =
    plain_number_read depth c.in-Number.text.now c.unsigned.result _ left (ap (λ t. token_of t ∷ left) c.in-Number.is) c.unsigned.ensures (sym c.is_some.ensures ∙ told)
