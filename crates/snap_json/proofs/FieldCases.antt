-- The fields' meanings, by what the JSON crate's own look-ups say.
use Rattle.std.proofs.Common.{◌≡◌, ◌^◌, cond, ◌&&◌, ltb, Some, None, refl}
use Rattle.std.specs.Prelude.{option_map, option_and_then, is_some}
use Rattle.serde_json.specs.Data.{Data, null, boolean, number, string, array, object, unsigned, negative, float}
use Rattle.serde_json.specs.Find.{as_null, as_number, as_str, as_u64}
use Rattle.snap_json.specs.Fields.{whole, null_or_number, text}

pub whole_by : (d : Data) → whole d ≡ option_and_then (λ n. cond (ltb 0 n && ltb n (2 ^ 32)) (Some (record { 0 = n })) None) (option_and_then as_u64 (as_number d))
whole_by null = refl
whole_by (boolean b) = refl
whole_by (number (unsigned n)) = refl
whole_by (number (negative z)) = refl
whole_by (number (float x)) = refl
whole_by (string s) = refl
whole_by (array ds) = refl
whole_by (object ms) = refl

pub null_or_number_by : (d : Data) → null_or_number d ≡ cond (is_some (as_null d)) (Some None) (option_map Some (whole d))
null_or_number_by null = refl
null_or_number_by (boolean b) = refl
null_or_number_by (number n) = refl
null_or_number_by (string s) = refl
null_or_number_by (array ds) = refl
null_or_number_by (object ms) = refl

pub text_by : (d : Data) → text d ≡ as_str d
text_by null = refl
text_by (boolean b) = refl
text_by (number n) = refl
text_by (string s) = refl
text_by (array ds) = refl
text_by (object ms) = refl
