-- What writers hold on the way to a report.
use Rattle.std.specs.Prelude.{◌≡◌, ℕ, List, [], ◌++◌, Bool, false, Option, Some}
use Rattle.std.specs.List.{flat_map}
use Rattle.csv.specs.declared.writer.Writer.{Writer}
use Rattle.csv.specs.Writing.{writer_setup, fields_written, has_written, text_written, default_writer}
use Rattle.json.specs.Token.{Token}
use Rattle.json.specs.Tree.{json_tokens, members_tokens}
use Rattle.json.specs.Written.{Written}
use Rattle.serde_json.specs.Data.{Data, Members}
use Rattle.serde_json.specs.Written.{outline, members_outline}

-- these bytes were written as CSV with the default settings, and a record begins
pub record HasWritten {W : Type 0} (contents : W → Option (List ℕ)) (writer : Writer W) (text : List ℕ) : Type 0 where
  pub setup : writer_setup writer ≡ default_writer
  pub at_first : fields_written writer ≡ 0
  pub shows_none : has_written writer ≡ false
  pub text_is : text_written contents writer ≡ Some text

-- these bytes more were written
abbrev pub Adds : {W : Type 0} → (W → Option (List ℕ)) → Writer W → Writer W → List ℕ → Type 0
Adds contents old new bytes = (text : List ℕ) → HasWritten contents old text → HasWritten contents new (text ++ bytes)

-- the tokens of a JSON value, of values one after another, and of an object's members with its closing bracket
abbrev pub tokens_of : Data → List Token
tokens_of d = json_tokens (outline d)

abbrev pub all_tokens : List Data → List Token
all_tokens ds = flat_map tokens_of ds

abbrev pub member_tokens : Members → List Token
member_tokens ms = members_tokens (members_outline ms)
