-- How a text holds a list, which is the one member of an object.
use Rattle.std.specs.Prelude.{◌≡◌, ℕ, List, [], ◌∷◌, ◌++◌}
use Rattle.std.specs.Str.{IsUtf8}
use Rattle.json.specs.Ascii as ascii
use Rattle.json.specs.Token.{begin_object, end_object, begin_array, string}
use Rattle.json.specs.Lex.{Lexeme, token, colon, between, lex}

-- the text is these lexemes before the rest
pub record Leads (lexemes : List Lexeme) (text rest : List ℕ) : Type 0 where
  pub lexed : lex between text ≡ lexemes ++ lex between rest
  pub utf8 : IsUtf8 rest → IsUtf8 text

-- what stands between the brackets of the list, in an object that has it by this key and nothing else
pub record Holds (key text list : List ℕ) : Type 0 where
  pub end : List ℕ
  pub front : Leads (token begin_object ∷ token (string key) ∷ colon ∷ token begin_array ∷ []) text (list ++ ascii.close_bracket ∷ end)
  pub back : Leads (token end_object ∷ []) end []
