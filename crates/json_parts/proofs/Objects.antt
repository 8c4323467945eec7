-- Where the last member has a value, the whole is the object of the texts and this value.
use Rattle.std.proofs.Common.{◌≡◌, ℕ, ◌≤◌, ◌==◌, Bool, true, List, [], ◌∷◌, ◌++◌, length, subst, Option, Some, None, IfSome, option_map, option_and_then, is_some, IsUtf8, refl, sym, ap, ap₂, ◌∙◌, arith, append-nil, ◌&&◌, if◌then◌else◌}
use Rattle.std.proofs.lemmas.Str.{IsUtf8-append, IsUtf8-nil, is_utf8-from_IsUtf8}
use Rattle.std.specs.Str.{is_utf8}
use Rattle.json.specs.Token.{Token, begin_object, end_object, key, string}
use Rattle.json.specs.Lex.{Lexeme, token, comma, colon, fresh, after_value, between, lex, punctuate, tokens}
use Rattle.json.specs.Json as json
use Rattle.json.specs.Json.{Json, value}
use Rattle.json.specs.Tree.{json_tokens, depth}
use Rattle.json.proofs.Printed.Trees.{value-json_tokens}
use Rattle.json.proofs.Printed.Utf8.{IsUtf8-are_ascii}
use Rattle.serde_json.specs.Data as serde
use Rattle.serde_json.specs.Data.{Data, Members, no_members, put}
use Rattle.serde_json.specs.Read.{of_json, of_members, read}
use Rattle.json_parts.specs.Parts.{is_end, is_shallow, value_of, part_of}
use Rattle.json_parts.specs.Lists.{Leads}
use Rattle.json_parts.proofs.Fronts.{chained, empty}
use Rattle.json_parts.proofs.Values.{Means, read_of, of_text, follows, ascii_first}

-- ---- the members in front

abbrev pub named : List ℕ → List ℕ → List Lexeme
named k t = token (string k) ∷ colon ∷ token (string t) ∷ comma ∷ []

-- a key, its colon, a text and a comma
pub member_first : (k t text value_at found end rest : List ℕ) → Leads (token (string k) ∷ []) text value_at → Leads (colon ∷ []) value_at found → Leads (token (string t) ∷ []) found end → Leads (comma ∷ []) end rest
    → Leads (named k t) text rest
member_first k t text value_at found end rest a b c d =
    chained (token (string k) ∷ []) (colon ∷ token (string t) ∷ comma ∷ []) text value_at rest a
    (chained (colon ∷ []) (token (string t) ∷ comma ∷ []) value_at found rest b (chained (token (string t) ∷ []) (comma ∷ []) found end rest c d))

-- ---- the whole

module _ (k1 t1 k2 t2 k3 t3 k4 : List ℕ) where
  abbrev front : List Lexeme
  front = token begin_object ∷ (named k1 t1 ++ named k2 t2 ++ named k3 t3 ++ token (string k4) ∷ colon ∷ [])

  pub fronts : (whole a b c e f last : List ℕ) → Leads (token begin_object ∷ []) whole a → Leads (named k1 t1) a b → Leads (named k2 t2) b c → Leads (named k3 t3) c e → Leads (token (string k4) ∷ []) e f
      → Leads (colon ∷ []) f last → Leads front whole last
  fronts whole a b c e f last p q r s t u =
      let tail = token (string k4) ∷ colon ∷ [] in
      chained (token begin_object ∷ []) (named k1 t1 ++ named k2 t2 ++ named k3 t3 ++ tail) whole a last p
      (chained (named k1 t1) (named k2 t2 ++ named k3 t3 ++ tail) a b last q
      (chained (named k2 t2) (named k3 t3 ++ tail) b c last r (chained (named k3 t3) tail c e last s (chained (token (string k4) ∷ []) (colon ∷ []) e f last t u))))

  abbrev object_json : Json → Json
  object_json j = json.object (json.member k1 (json.string t1) (json.member k2 (json.string t2) (json.member k3 (json.string t3) (json.member k4 j json.no_members))))

  abbrev object_data : Data → Data
  object_data d = serde.object (put k4 d (put k3 (serde.string t3) (put k2 (serde.string t2) (put k1 (serde.string t1) no_members))))

  object_of : (j : Json) (d : Data) → of_json j ≡ Some d → of_json (object_json j) ≡ Some (object_data d)
  object_of j d h = ap (λ o. option_map serde.object (option_and_then (λ v. of_members json.no_members (put k4 v (put k3 (serde.string t3) (put k2 (serde.string t2) (put k1 (serde.string t1) no_members))))) o)) h

  -- the value before the brace that ends the object
  record Ends (whole last : List ℕ) : Type 0 where
    end : List ℕ
    front_is : Leads front whole (last ++ 125 ∷ end)
    nothing_left : Leads [] end []

  spelled_whole : (whole last : List ℕ) (d : Data) → Ends whole last → (m : Means 124 last d) → tokens whole ≡ json_tokens (object_json m.j)
  unfolding lex punctuate
  spelled_whole whole last d e m =
      ap (punctuate fresh) e.front_is.lexed
      ∙ ap (λ ts. begin_object ∷ key k1 ∷ string t1 ∷ key k2 ∷ string t2 ∷ key k3 ∷ string t3 ∷ key k4 ∷ ts)
      (follows 124 last (125 ∷ e.end) d m refl refl ∙ ap (λ ls. json_tokens m.j ++ end_object ∷ punctuate after_value ls) e.nothing_left.lexed)

  shallow_whole : (whole : List ℕ) (j : Json) → tokens whole ≡ json_tokens j → depth j ≤ 125 → is_shallow 125 whole ≡ true
  unfolding is_shallow
  shallow_whole whole j is h = ap (λ ts. is_end (option_map (λ p. p.1) (value 125 ts))) (is ∙ sym (append-nil (json_tokens j))) ∙ ap (λ o. is_end (option_map (λ p. p.1) o)) (value-json_tokens j 125 [] h)

  whole_part : (whole : List ℕ) (d : Data) → IsUtf8 whole → is_shallow 125 whole ≡ true → read whole ≡ Some d → part_of whole ≡ Some d
  unfolding value_of
  whole_part whole d utf8 shallow h = ap₂ (λ a b. if a && b then read whole else None) (is_utf8-from_IsUtf8 whole utf8) shallow ∙ h

  of_last : (whole last : List ℕ) (d : Data) → Ends whole last → Means 124 last d → part_of whole ≡ Some (object_data d)
  of_last whole last d e m =
      let spelled = spelled_whole whole last d e m in
      let brace = IsUtf8-are_ascii (125 ∷ []) refl in
      let utf8 = e.front_is.utf8 (IsUtf8-append last (125 ∷ e.end) m.utf8 (ascii_first 125 e.end brace (e.nothing_left.utf8 IsUtf8-nil))) in
      whole_part whole (object_data d) utf8 (shallow_whole whole (object_json m.j) spelled (omega (arith, m.shallow))) (read_of whole (object_json m.j) spelled (omega (arith, m.shallow)) ∙ object_of m.j d m.means)

  -- where the braces and the members stand, the whole is this object
  pub are_members : (whole a b c e f tail last end rest : List ℕ) → Leads (token begin_object ∷ []) whole a → Leads (named k1 t1) a b → Leads (named k2 t2) b c → Leads (named k3 t3) c e → Leads (token (string k4) ∷ []) e f
      → Leads (colon ∷ []) f tail → tail ≡ last ++ 125 ∷ end → Leads [] end rest → (length rest == 0) ≡ true → (d : Data) → value_of 124 last ≡ Some d → part_of whole ≡ Some (object_data d)
  are_members whole a b c e f tail last end rest p q r s t u is v none d h =
      let there : Ends whole last = record {
        end = end;
        front_is = subst (Leads front whole) is (fronts whole a b c e f tail p q r s t u);
        nothing_left = subst (Leads [] end) (empty rest none) v;
      } in
      of_last whole last d there (of_text 124 (omega arith) last d h)
