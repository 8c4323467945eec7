-- What a book of rules says of its rules: the list of its infos.
use Rattle.std.specs.Prelude.{ℕ, List, [], ◌∷◌, Bool, true, false, not, ◌&&◌, ◌||◌, ◌==◌, nat_lt, nat_le, length, Option}
use Rattle.std.specs.List.{list_all, find}
use Rattle.std.specs.Option.{option_map_or}
use Rattle.std.specs.Str.{bytes_eq}
use Rattle.rule_core.specs.declared.info.Class.{Class}
use Rattle.rule_core.specs.declared.info.RuleInfo.{RuleInfo}

-- the info of an atomic rule: its number, its id, and what its applicability and its expectations
-- look at
abbrev pub atomic : ℕ → List ℕ → Class → Class → RuleInfo
atomic number id applies expects =
    record { no = record { 0 = number }; id = id; applies = applies; expects = expects; inputs = 0 ∷ 0 ∷ 0 ∷ 0 ∷ [] }

-- an atomic rule has no inputs
abbrev pub is_atomic : RuleInfo → Bool
is_atomic i = list_all (λ number. number == 0) i.inputs

-- the info of the rule of a number: the first that has the number
abbrev pub info_of : List RuleInfo → ℕ → Option RuleInfo
info_of infos number = find (λ i. number == i.no.0) infos

-- there is a rule of this number, and it is atomic
abbrev pub has_atomic : List RuleInfo → ℕ → Bool
has_atomic infos number = option_map_or is_atomic (info_of infos number) false

-- `a` to `z` and `0` to `9`
abbrev pub is_id_character : ℕ → Bool
is_id_character c = (nat_le 97 c && nat_le c 122) || (nat_le 48 c && nat_le c 57)

-- an id is six such characters
abbrev pub is_id : List ℕ → Bool
is_id id = length id == 6 && list_all is_id_character id

-- each number is below those of all later rules
abbrev pub rise : List RuleInfo → Bool
rise [] = true
rise (i ∷ later) = list_all (λ j. nat_lt i.no.0 j.no.0) later && rise later

-- no two rules have one id
abbrev pub differ : List RuleInfo → Bool
differ [] = true
differ (i ∷ later) = list_all (λ j. not (bytes_eq i.id j.id)) later && differ later

-- each input that isn't 0 is an atomic rule of the book
abbrev pub has_atomic_inputs : List RuleInfo → RuleInfo → Bool
has_atomic_inputs infos i = list_all (λ number. number == 0 || has_atomic infos number) i.inputs

-- Numbers rise, ids differ and are six characters out of `a` to `z` and `0` to `9`, and the inputs
-- of a composite rule are atomic rules of the book.
abbrev pub is_orderly : List RuleInfo → Bool
is_orderly infos =
    rise infos && differ infos && list_all (λ i. is_id i.id) infos && list_all (has_atomic_inputs infos) infos
