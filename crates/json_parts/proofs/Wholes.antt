-- Where each part has a value, the whole is the object of their list.
use Rattle.std.proofs.Common.{◌≡◌, ℕ, ◌<◌, ◌≤◌, true, false, List, [], ◌∷◌, ◌++◌, length, map, Option, Some, None, is_some, option_map, option_and_then, IsUtf8, refl, sym, ap, ◌∙◌, subst, arith, append_assoc}
use Rattle.std.proofs.lemmas.Bool.{false≢true}
use Rattle.std.proofs.lemmas.Str.{IsUtf8-append, IsUtf8-nil}
use Rattle.std.specs.Borrow.{Bor}
use Rattle.json.specs.Token.{Token, begin_object, begin_array, end_array, key}
use Rattle.json.specs.Lex.{fresh, after_value, between, lex, punctuate, tokens}
use Rattle.json.specs.Json as json
use Rattle.json.specs.Json.{Json}
use Rattle.json.specs.Tree.{json_tokens, items_tokens, items_depth}
use Rattle.json.proofs.Printed.Utf8.{IsUtf8-are_ascii}
use Rattle.serde_json.specs.Data.{Data, array, object, Items, no_items, item, no_members, member}
use Rattle.serde_json.specs.Read.{of_json, of_items, of_members, read}
use Rattle.json_parts.specs.Parts.{joined, part_of, parts_of, AreParts}
use Rattle.json_parts.specs.Lists.{Holds}
use Rattle.json_parts.proofs.Places.{starts, after_a_comma}
use Rattle.json_parts.proofs.Values.{Means, read_of, of_text, follows, ascii_first}

-- ---- the parts with commas between them, before the bracket that closes the list

record Lists (parts : List (List ℕ)) (values : Items) : Type 0 where
  js : json.Items
  shallow : items_depth js ≤ 125
  means : of_items js ≡ Some values
  utf8 : IsUtf8 (joined parts)
  begins : (ts : List Token) → starts (items_tokens js ++ ts) ≡ true
  spelled : (end : List ℕ) → punctuate fresh (lex between (joined parts ++ 93 ∷ end)) ≡ items_tokens js ++ punctuate after_value (lex between end)

item_begins : (j : Json) (us ts : List Token) → starts ((json_tokens j ++ us) ++ ts) ≡ true
item_begins json.null us ts = refl
item_begins (json.boolean b) us ts = refl
item_begins (json.number s) us ts = refl
item_begins (json.string s) us ts = refl
item_begins (json.array js) us ts = refl
item_begins (json.object ms) us ts = refl

last_part : (part : List ℕ) (d : Data) → Means 125 part d → Lists (part ∷ []) (item d no_items)
unfolding lex punctuate
last_part part d m =
    record {
      js = json.item m.j json.no_items;
      shallow = omega (arith, m.shallow);
      means = ap (option_and_then (λ v. option_map (item v) (Some no_items))) m.means;
      utf8 = m.utf8;
      begins = λ ts. item_begins m.j (end_array ∷ []) ts;
      spelled = λ end. follows 125 part (93 ∷ end) d m refl refl ∙ sym (append_assoc (json_tokens m.j) (end_array ∷ []) (punctuate after_value (lex between end)));
    }

one_more : (part other : List ℕ) (others : List (List ℕ)) (d : Data) (values : Items) → Means 125 part d → Lists (other ∷ others) values → Lists (part ∷ other ∷ others) (item d values)
unfolding lex punctuate
one_more part other others d values m later =
    let rest = joined (other ∷ others) in
    let tail = λ (end : List ℕ). punctuate after_value (lex between end) in
    let after = λ (end : List ℕ). after_a_comma (lex between (rest ++ 93 ∷ end)) (ap starts (later.spelled end) ∙ later.begins (tail end)) ∙ later.spelled end in
    record {
      js = json.item m.j later.js;
      shallow = omega (arith, m.shallow, later.shallow);
      means = ap (option_and_then (λ v. option_map (item v) (of_items later.js))) m.means ∙ ap (option_map (item d)) later.means;
      utf8 = IsUtf8-append part (44 ∷ rest) m.utf8 (ascii_first 44 rest (IsUtf8-are_ascii (44 ∷ []) refl) later.utf8);
      begins = λ ts. item_begins m.j (items_tokens later.js) ts;
      spelled = λ end.
          ap (λ l. punctuate fresh (lex between l)) (append_assoc part (44 ∷ rest) (93 ∷ end)) ∙ follows 125 part (44 ∷ (rest ++ 93 ∷ end)) d m refl refl
          ∙ ap (λ ts. json_tokens m.j ++ ts) (after end) ∙ sym (append_assoc (json_tokens m.j) (items_tokens later.js) (tail end));
    }

-- ---- the values of parts

record Splits (part : List ℕ) (parts : List (List ℕ)) (values : Items) : Type 0 where
  d : Data
  rest : Items
  first : Means 125 part d
  later : parts_of parts ≡ Some rest
  is : item d rest ≡ values

some_is : {A : Type 0} (x y : A) → Some x ≡ Some y → x ≡ y
some_is x y h = ap (or_else x) h
  where
    or_else : {A : Type 0} → A → Option A → A
    or_else x None = x
    or_else x (Some y) = y

splits : (part : List ℕ) (parts : List (List ℕ)) (values : Items) (o : Option Data) (r : Option Items) → part_of part ≡ o → parts_of parts ≡ r → option_and_then (λ v. option_map (item v) r) o ≡ Some values → Splits part parts values
splits part parts values None r is later h = absurd (false≢true (ap is_some h))
splits part parts values (Some d) None is later h = absurd (false≢true (ap is_some h))
splits part parts values (Some d) (Some rest) is later h = record { d = d; rest = rest; first = of_text 125 (omega arith) part d is; later = later; is = some_is (item d rest) values h }

lists : (part : List ℕ) (parts : List (List ℕ)) (values : Items) → parts_of (part ∷ parts) ≡ Some values → Lists (part ∷ parts) values
lists part [] values h =
    let s = splits part [] values (part_of part) (parts_of []) refl refl h in
    subst (Lists (part ∷ [])) (ap (item s.d) (some_is no_items s.rest s.later) ∙ s.is) (last_part part s.d s.first)
lists part (other ∷ others) values h =
    let s = splits part (other ∷ others) values (part_of part) (parts_of (other ∷ others)) refl refl h in
    subst (Lists (part ∷ other ∷ others)) s.is (one_more part other others s.d s.rest s.first (lists other others s.rest s.later))

-- ---- the whole

object_of : (k : List ℕ) (js : json.Items) (values : Items) → of_items js ≡ Some values → of_json (json.object (json.member k (json.array js) json.no_members)) ≡ Some (object (member k (array values) no_members))
object_of k js values h = ap (λ o. option_map object (option_and_then (λ d. of_members json.no_members (Rattle.serde_json.specs.Data.put k d no_members)) (option_map array o))) h

spelled_whole : (k whole list : List ℕ) (js : json.Items) (holds : Holds k whole list) → punctuate fresh (lex between (list ++ 93 ∷ holds.end)) ≡ items_tokens js ++ punctuate after_value (lex between holds.end)
    → tokens whole ≡ json_tokens (json.object (json.member k (json.array js) json.no_members))
unfolding lex punctuate
spelled_whole k whole list js holds h =
    ap (punctuate fresh) holds.front.lexed ∙ ap (λ ts. begin_object ∷ key k ∷ begin_array ∷ ts) (h ∙ ap (λ ls. items_tokens js ++ punctuate after_value ls) holds.back.lexed)

of_list : (k whole : List ℕ) (parts : List (List ℕ)) (values : Items) → Holds k whole (joined parts) → Lists parts values → IsUtf8 whole × (read whole ≡ Some (object (member k (array values) no_members)))
of_list k whole parts values holds l =
    let j = json.object (json.member k (json.array l.js) json.no_members) in (
      holds.front.utf8 (IsUtf8-append (joined parts) (93 ∷ holds.end) l.utf8 (ascii_first 93 holds.end (IsUtf8-are_ascii (93 ∷ []) refl) (holds.back.utf8 IsUtf8-nil))),
      read_of whole j (spelled_whole k whole (joined parts) l.js holds (l.spelled holds.end)) (omega (arith, l.shallow)) ∙ object_of k l.js values l.means,
    )

wholes : (k whole part : List ℕ) (parts : List (List ℕ)) → Holds k whole (joined (part ∷ parts)) → AreParts k whole (part ∷ parts)
wholes k whole part parts holds values h = of_list k whole (part ∷ parts) values holds (lists part parts values h)

pub are_parts : (k whole list : List ℕ) (parts : List (Bor (List ℕ))) → Holds k whole list → joined (map (λ p. p.now) parts) ≡ list → 0 < length parts → AreParts k whole (map (λ p. p.now) parts)
are_parts k whole list [] holds is some = absurd (omega arith)
are_parts k whole list (part ∷ parts) holds is some = wholes k whole part.now (map (λ p. p.now) parts) (subst (Holds k whole) (sym is) holds)
