-- What a part reads as, where it is UTF-8 and where it isn't.
use Rattle.std.proofs.Common.{◌≡◌, ℕ, Bool, true, false, ◌&&◌, if◌then◌else◌, List, Option, None, option_map, Result, Ok, Err, IfOk, IsUtf8, refl, sym, ap, ◌∙◌}
use Rattle.std.proofs.lemmas.Str.{IsUtf8-from_is_utf8, is_utf8-from_IsUtf8}
use Rattle.std.specs.Str.{is_utf8}
use Rattle.texts.specs.declared.memory.OutOfMemory.{OutOfMemory}
use Rattle.serde_json.specs.Read.{read}
use Rattle.serde_json.specs.View.{view}
use Rattle.serde_json.specs.declared.value.Value.{Value}
use Rattle.json_parts.specs.Parts.{is_shallow, value_of, part_of}

same_part : (part : List ℕ) → IsUtf8 part → (if is_shallow 125 part then read part else None) ≡ part_of part
unfolding value_of
same_part part utf8 = sym (ap (λ b. if b && is_shallow 125 part then read part else None) (is_utf8-from_IsUtf8 part utf8))

pub is_part : (part text : List ℕ) (r : Result (Option Value) OutOfMemory) → text ≡ part → IsUtf8 part → IfOk r (λ v. option_map view v ≡ (if is_shallow 125 text then read text else None)) → IfOk r (λ v. option_map view v ≡ part_of part)
is_part part text (Ok v) same utf8 h = h ∙ ap (λ t. if is_shallow 125 t then read t else None) same ∙ same_part part utf8
is_part part text (Err e) same utf8 h = tt

not_utf8 : (part : List ℕ) (b : Bool) → is_utf8 part ≡ b → (IsUtf8 part → ⊥) → (if b && is_shallow 125 part then read part else None) ≡ None
not_utf8 part true is never = absurd (never (IsUtf8-from_is_utf8 part is))
not_utf8 part false is never = refl

pub no_part : (part : List ℕ) → (IsUtf8 part → ⊥) → None ≡ part_of part
unfolding value_of
no_part part never = sym (not_utf8 part (is_utf8 part) refl never)

-- ---- whether bytes are such a text

pub is_such : (bytes text : List ℕ) (r : Result Bool OutOfMemory) → text ≡ bytes → IsUtf8 bytes → IfOk r (λ b. b ≡ is_shallow 124 text) → IfOk r (λ b. b ≡ (is_utf8 bytes && is_shallow 124 bytes))
is_such bytes text (Ok b) same utf8 h = h ∙ ap (is_shallow 124) same ∙ sym (ap (λ u. u && is_shallow 124 bytes) (is_utf8-from_IsUtf8 bytes utf8))
is_such bytes text (Err e) same utf8 h = tt

never_such : (bytes : List ℕ) (b : Bool) → is_utf8 bytes ≡ b → (IsUtf8 bytes → ⊥) → (b && is_shallow 124 bytes) ≡ false
never_such bytes true is never = absurd (never (IsUtf8-from_is_utf8 bytes is))
never_such bytes false is never = refl

pub no_such : (bytes : List ℕ) → (IsUtf8 bytes → ⊥) → false ≡ (is_utf8 bytes && is_shallow 124 bytes)
no_such bytes never = sym (never_such bytes (is_utf8 bytes) refl never)
