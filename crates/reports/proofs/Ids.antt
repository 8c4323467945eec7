-- The ids of an orderly book are texts.
use Rattle.std.proofs.Common.{◌≡◌, ℕ, ◌<◌, Bool, true, false, cond, ◌==◌, ◌&&◌, IsTrue, List, [], ◌∷◌, arith}
use Rattle.std.specs.List.{AllByRecursion, list_all}
use Rattle.std.specs.Str.{IsUtf8, IsAscii}
use Rattle.std.proofs.lemmas.Bool.{and_parts}
use Rattle.std.proofs.lemmas.Bool.Decides.{nat_tests}
use Rattle.std.proofs.lemmas.List.Elements.{All-from_recursion}
use Rattle.std.proofs.lemmas.Str.{IsUtf8-from_ascii}
use Rattle.std.proofs.lemmas.Str.Ascii.{IsAscii-nil, IsAscii-cons}
use Rattle.rule_core.specs.declared.info.RuleInfo.{RuleInfo}
use Rattle.rule_core.specs.Infos.{is_id_character, is_id, rise, differ, has_atomic_inputs, is_orderly}
use Rattle.reports.specs.Ids.{HaveTexts}

small : (c : ℕ) → is_id_character c ≡ true → c < 128
small c is = grind (arith, nat_tests)

ascii : (id : List ℕ) → list_all is_id_character id ≡ true → IsAscii id
ascii [] all = IsAscii-nil
ascii (c ∷ id) all = let parts = and_parts _ _ all in IsAscii-cons c id (small c parts.0) (ascii id parts.1)

id_text : (id : List ℕ) → is_id id ≡ true → IsUtf8 id
id_text id is = IsUtf8-from_ascii id (ascii id (and_parts _ _ is).1)

texts : (infos : List RuleInfo) → list_all (λ i. is_id i.id) infos ≡ true → AllByRecursion (λ i. IsUtf8 i.id) infos
texts [] all = tt
texts (i ∷ infos) all = let parts = and_parts _ _ all in (id_text i.id parts.0, texts infos parts.1)

ids : (infos : List RuleInfo) → IsTrue (is_orderly infos) → list_all (λ i. is_id i.id) infos ≡ true
ids infos orderly =
    let all = and_parts (rise infos && differ infos && list_all (λ i. is_id i.id) infos) (list_all (has_atomic_inputs infos) infos) orderly in
    (and_parts (rise infos && differ infos) (list_all (λ i. is_id i.id) infos) all.0).1

pub have_texts : (infos : List RuleInfo) → IsTrue (is_orderly infos) → HaveTexts infos
have_texts infos orderly = All-from_recursion (λ i. IsUtf8 i.id) infos (texts infos (ids infos orderly))
