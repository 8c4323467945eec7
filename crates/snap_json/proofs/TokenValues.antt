-- What a value of one token is, and what it means as a member of a row.
use Rattle.std.proofs.Common.{◌≡◌, ℕ, ◌-◌, ◌^◌, ◌<◌, ◌==◌, List, [], ◌∷◌, length, get_or, Bool, true, false, Option, Some, None, refl, sym, ap, ◌∙◌, subst, lt-ltb, arith}
use Rattle.std.specs.Prelude.{IfSome, SomeIff, is_some, option_map, option_and_then}
use Rattle.fast_float.specs.Text.{Parts, scan, digits_of, IsInteger}
use Rattle.json.specs.Token.{Token}
use Rattle.json.specs.Json.{parse_map, after_end_array, value, items}
use Rattle.json.proofs.Grammar.{value_is, after_end_array-shorter}
use Rattle.serde_json.specs.Data.{Num, unsigned, null, boolean, number, string, array, Items, no_items, item}
use Rattle.serde_json.specs.Read.{of_json, of_items, converted, number_of as number_in, number_from, is_integer}
use Rattle.snap_tree.specs.declared.row.NodeId.{NodeId}
use Rattle.snap_tree.specs.declared.row.Space.{Space}
use Rattle.snap_tree.specs.declared.row.Facts.{Facts}
use Rattle.snap_json.specs.Fields.{whole, number_of, parent_of, text_of, name_of, nonempty, space_named, space_of, facts_named, facts_of}
use Rattle.snap_json.specs.Straight.{Reads, ReadsAny, Takes, TakesPair}
use Rattle.snap_json.proofs.Turns.{item_read, items_over, array_read}

-- ---- the number that digits alone are

from_integer : (p : Parts) (n : ℕ) → IsInteger p → digits_of p < 2 ^ 64 → digits_of p ≡ n → number_from false p ≡ Some (unsigned n)
from_integer p n h small is =
    let plain : is_integer p ≡ true = rw (lt-ltb _ _ h.0, h.1, h.2) refl in
    rw (plain, lt-ltb _ _ small) (ap (λ k. Some (unsigned k)) is)

pub plain_number : (s : List ℕ) (n : ℕ) → (get_or s 0 0 == 45) ≡ false → IsInteger (scan s) → digits_of (scan s) < 2 ^ 64 → digits_of (scan s) ≡ n → number_in s ≡ Some (unsigned n)
unfolding number_in
plain_number s n plain h small is = let read : number_from false (scan s) ≡ number_in s = rw plain refl in sym read ∙ from_integer (scan s) n h small is

pub plain_found : (s : List ℕ) (o : Option ℕ) (p : Parts) → (get_or s 0 0 == 45) ≡ false → p ≡ scan s → SomeIff o (IsInteger p × (digits_of p < 2 ^ 64)) (digits_of p)
    → IfSome o (λ n. number_in s ≡ Some (unsigned n))
plain_found s None p plain is h = tt
plain_found s (Some n) p plain is h =
    plain_number s n plain (subst (λ q. IsInteger q) is h.0.0) (subst (λ q. digits_of q < 2 ^ 64) is h.0.1) (sym (h.1 ∙ ap digits_of is))

-- ---- values of one token

fewer : (ts new : List Token) (t : Token) → ts ≡ t ∷ new → length new < length ts
fewer ts new t e = omega (arith, ap length e)

module _ (depth : ℕ) (ts new : List Token) where
  pub string_read : (s : List ℕ) → ts ≡ Token.string s ∷ new → Reads depth ts (string s) new
  string_read s e = (ap (converted of_json) (ap (value depth) e ∙ value_is depth (Token.string s ∷ new)), fewer ts new _ e)

  pub number_read : (s : List ℕ) (k : Num) → ts ≡ Token.number s ∷ new → number_in s ≡ Some k → Reads depth ts (number k) new
  number_read s k e is =
      (ap (converted of_json) (ap (value depth) e ∙ value_is depth (Token.number s ∷ new)) ∙ ap (λ o. option_map (λ d. (d, new)) (option_map number o)) is, fewer ts new _ e)

  pub boolean_read : (b : Bool) → ts ≡ Token.boolean b ∷ new → Reads depth ts (boolean b) new
  boolean_read b e = (ap (converted of_json) (ap (value depth) e ∙ value_is depth (Token.boolean b ∷ new)), fewer ts new _ e)

  pub null_read : ts ≡ Token.null ∷ new → Reads depth ts null new
  null_read e = (ap (converted of_json) (ap (value depth) e ∙ value_is depth (Token.null ∷ new)), fewer ts new _ e)

pub plain_number_read : (depth : ℕ) (s : List ℕ) (o : Option ℕ) (ts new : List Token) → ts ≡ Token.number s ∷ new → IfSome o (λ n. number_in s ≡ Some (unsigned n)) → is_some o ≡ true → ReadsAny depth ts new
plain_number_read depth s None ts new e is told = absurd (cc)
plain_number_read depth s (Some n) ts new e is told = (number (unsigned n), number_read depth ts new s (unsigned n) e is)

-- ---- members of a row

module _ (ts new : List Token) (s : List ℕ) where
  number_by : (n : NodeId) (o : Option Num) → ts ≡ Token.number s ∷ new → number_in s ≡ o → option_and_then whole (option_map number o) ≡ Some n → Takes number_of ts n new
  number_by n None e same is = absurd (cc)
  number_by n (Some k) e same is = (number k, number_read 124 ts new s k e same, is)

  pub number_takes : (n : NodeId) → ts ≡ Token.number s ∷ new → option_and_then whole (option_map number (number_in s)) ≡ Some n → Takes number_of ts n new
  number_takes n e is = number_by n (number_in s) e refl is

  parent_by : (n : NodeId) (o : Option Num) → ts ≡ Token.number s ∷ new → number_in s ≡ o → option_and_then whole (option_map number o) ≡ Some n → Takes parent_of ts (Some n) new
  parent_by n None e same is = absurd (cc)
  parent_by n (Some k) e same is = (number k, number_read 124 ts new s k e same, ap (option_map Some) is)

  pub parent_takes : (n : NodeId) → ts ≡ Token.number s ∷ new → option_and_then whole (option_map number (number_in s)) ≡ Some n → Takes parent_of ts (Some n) new
  parent_takes n e is = parent_by n (number_in s) e refl is

  pub text_takes : ts ≡ Token.string s ∷ new → Takes text_of ts s new
  text_takes e = (string s, string_read 124 ts new s e, refl)

  pub space_takes : (x : Space) → ts ≡ Token.string s ∷ new → space_named s ≡ Some x → Takes space_of ts x new
  space_takes x e is = (string s, string_read 124 ts new s e, is)

  pub facts_takes : (x : Facts) → ts ≡ Token.string s ∷ new → facts_named s ≡ Some x → Takes facts_of ts x new
  facts_takes x e is = (string s, string_read 124 ts new s e, is)

pub root_takes : (ts new : List Token) → ts ≡ Token.null ∷ new → Takes parent_of ts None new
root_takes ts new e = (null, null_read 124 ts new e, refl)

filled : (s : List ℕ) → 0 < length s → nonempty s ≡ Some s
filled [] h = absurd (omega arith)
filled (b ∷ bytes) h = refl

pub name_takes : (ts new : List Token) (s : List ℕ) → ts ≡ Token.string s ∷ new → 0 < length s → Takes name_of ts s new
name_takes ts new s e h = (string s, string_read 124 ts new s e, filled s h)

-- ---- a pair of texts

abbrev texts_of : List ℕ → List ℕ → Items
texts_of name text = item (string name) (item (string text) no_items)

texts_read : (depth : ℕ) (name text : List ℕ) (ts new : List Token) → after_end_array ts ≡ Some new
    → converted of_items (items (value depth) (length (Token.string name ∷ Token.string text ∷ ts)) (Token.string name ∷ Token.string text ∷ ts)) ≡ Some (texts_of name text, new)
texts_read depth name text ts new e =
    let n = length (Token.string name ∷ Token.string text ∷ ts) in
    let first = string_read depth (Token.string name ∷ Token.string text ∷ ts) (Token.string text ∷ ts) name refl in
    let second = string_read depth (Token.string text ∷ ts) ts text refl in
    item_read (value depth) n _ _ (string name) (omega arith) refl first.0
    ∙ ap (parse_map (item (string name))) (item_read (value depth) (n - 1) _ _ (string text) (omega arith) refl second.0)
    ∙ ap (λ r. parse_map (item (string name)) (parse_map (item (string text)) r)) (items_over (value depth) (n - 1 - 1) ts new (omega arith) e)

pair_by : (name text : List ℕ) (ts new : List Token) → after_end_array ts ≡ Some new → 0 < length name
    → TakesPair (Token.begin_array ∷ Token.string name ∷ Token.string text ∷ ts) (record { name = name; value = text }) new
pair_by name text ts new e h = (
  array (texts_of name text),
  (array_read 123 (Token.string name ∷ Token.string text ∷ ts) new (texts_of name text) (omega arith) (texts_read 122 name text ts new e), omega (arith, after_end_array-shorter ts new e)),
  ap (option_and_then (λ n. Some (record { name = n; value = text }))) (filled name h),
)

pub pair_takes : (all one two three new : List Token) (name text : List ℕ) → all ≡ Token.begin_array ∷ one → one ≡ Token.string name ∷ two → two ≡ Token.string text ∷ three
    → after_end_array three ≡ Some new → 0 < length name → TakesPair all (record { name = name; value = text }) new
pair_takes all one two three new name text a b c e h =
    subst (λ ts. TakesPair ts (record { name = name; value = text }) new)
    (sym (a ∙ ap (λ ts. Token.begin_array ∷ ts) (b ∙ ap (λ ts. Token.string name ∷ ts) c))) (pair_by name text three new e h)
