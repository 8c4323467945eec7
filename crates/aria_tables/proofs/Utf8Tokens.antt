-- The tokens of bytes.
use Rattle.std.proofs.Common.{◌≡◌, ℕ, List, [], cond, sym, ap, ◌∙◌}
use Rattle.std.proofs.lemmas.Bool.{false_from_ne_true}
use Rattle.std.proofs.lemmas.Str.{chars-nil, is_utf8-from_IsUtf8, IsUtf8-from_is_utf8}
use Rattle.std.specs.Str.{IsUtf8}
use Rattle.texts.specs.Words.{cut, words}
use Rattle.aria_tables.specs.Tokens.{tokens}

pub tokens_of_text : (value : List ℕ) → IsUtf8 value → words value ≡ tokens value
tokens_of_text value u = sym (ap (λ b. cond b (words value) []) (is_utf8-from_IsUtf8 value u))

pub no_tokens : (value : List ℕ) → ¬ (IsUtf8 value) → words [] ≡ tokens value
no_tokens value untext =
    ap (cut []) chars-nil ∙ sym (ap (λ b. cond b (words value) []) (false_from_ne_true _ (λ e. untext (IsUtf8-from_is_utf8 value e))))
