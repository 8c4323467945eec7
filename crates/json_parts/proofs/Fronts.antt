-- What stands before the items of the list, and after them.
use Rattle.std.proofs.Common.{◌≡◌, ℕ, Bool, true, false, ◌||◌, ◌==◌, List, [], ◌∷◌, ◌++◌, length, take, drop, arith, bytes_eq, Option, Some, None, IfSome, IsUtf8, refl, sym, ap, ap₂, ◌∙◌, subst, append_assoc}
use Rattle.std.specs.Borrow.{Bor}
use Rattle.std.proofs.lemmas.Str.{IsUtf8-append}
use Rattle.std.proofs.lemmas.List.{take-append-drop}
use Rattle.std.proofs.lemmas.Bool.{eqb-true}
use Rattle.std.proofs.lemmas.Slice.Eq.{bytes_eq-Decides}
use Rattle.json.specs.Text.{content, plain}
use Rattle.json.specs.Token.{begin_object, end_object, begin_array, string}
use Rattle.json.specs.Word.{is_operator, is_space}
use Rattle.json.specs.Lex.{Lexeme, token, colon, between, in_string, lex, operator_lexeme, string_token}
use Rattle.json.specs.Print.{escape}
use Rattle.json.proofs.Printed.Strings.{content-escape, lex-escape}
use Rattle.json.proofs.Printed.Utf8.{IsUtf8-are_ascii}
use Rattle.json_parts.specs.Lists.{Leads, Holds}

-- ---- one of some bytes

either : (b c : Bool) (P : Type 0) → (b ≡ true → P) → (c ≡ true → P) → (b || c) ≡ true → P
either true c P f g h = f refl
either false c P f g h = g h

this_byte : (P : ℕ → Type 0) (x k : ℕ) → P k → (x == k) ≡ true → P x
this_byte P x k p e = subst P (sym (eqb-true x k e)) p

operators : (P : ℕ → Type 0) → P 123 → P 125 → P 91 → P 93 → P 58 → P 44 → (x : ℕ) → is_operator x ≡ true → P x
operators P a b c d e f x =
    either _ _ (P x) (either _ _ (P x) (either _ _ (P x) (either _ _ (P x) (either _ _ (P x) (this_byte P x 123 a) (this_byte P x 125 b)) (this_byte P x 91 c)) (this_byte P x 93 d)) (this_byte P x 58 e)) (this_byte P x 44 f)

spaces : (P : ℕ → Type 0) → P 32 → P 9 → P 10 → P 13 → (x : ℕ) → is_space x ≡ true → P x
spaces P a b c d x = either _ _ (P x) (either _ _ (P x) (either _ _ (P x) (this_byte P x 32 a) (this_byte P x 9 b)) (this_byte P x 10 c)) (this_byte P x 13 d)

-- ---- what leads a text

pub chained : (ls ms : List Lexeme) (a b c : List ℕ) → Leads ls a b → Leads ms b c → Leads (ls ++ ms) a c
chained ls ms a b c p q = record { lexed = p.lexed ∙ ap (λ l. ls ++ l) q.lexed ∙ sym (append_assoc ls ms (lex between c)); utf8 = λ u. p.utf8 (q.utf8 u) }

pub leads_itself : (text : List ℕ) → Leads [] text text
leads_itself text = record { lexed = refl; utf8 = λ u. u }

operator_lexed : (rest : List ℕ) (x : ℕ) → is_operator x ≡ true → lex between (x ∷ rest) ≡ operator_lexeme x ∷ lex between rest
unfolding lex
operator_lexed rest = operators (λ x. lex between (x ∷ rest) ≡ operator_lexeme x ∷ lex between rest) refl refl refl refl refl refl

abbrev One : ℕ → Type 0
One x = IsUtf8 (x ∷ [])

operator_utf8 : (x : ℕ) → is_operator x ≡ true → IsUtf8 (x ∷ [])
operator_utf8 = operators One (IsUtf8-are_ascii (123 ∷ []) refl) (IsUtf8-are_ascii (125 ∷ []) refl) (IsUtf8-are_ascii (91 ∷ []) refl) (IsUtf8-are_ascii (93 ∷ []) refl) (IsUtf8-are_ascii (58 ∷ []) refl) (IsUtf8-are_ascii (44 ∷ []) refl)

-- an operator comes first, after white space
pub operator_first : (x first : ℕ) (text spaced rest : List ℕ) → is_operator x ≡ true → Leads [] text spaced → spaced ≡ first ∷ rest → first ≡ x → Leads (operator_lexeme x ∷ []) text rest
operator_first x first text spaced rest operator leads is same =
    let here : spaced ≡ x ∷ rest = is ∙ ap (λ y. y ∷ rest) same in
    chained [] (operator_lexeme x ∷ []) text spaced rest leads
    (record { lexed = ap (lex between) here ∙ operator_lexed rest x operator; utf8 = λ u. subst IsUtf8 (sym here) (IsUtf8-append (x ∷ []) rest (operator_utf8 x operator) u) })

space_lexed : (rest : List ℕ) (x : ℕ) → is_space x ≡ true → lex between (x ∷ rest) ≡ lex between rest
unfolding lex
space_lexed rest = spaces (λ x. lex between (x ∷ rest) ≡ lex between rest) refl refl refl refl

space_utf8 : (x : ℕ) → is_space x ≡ true → IsUtf8 (x ∷ [])
space_utf8 = spaces One (IsUtf8-are_ascii (32 ∷ []) refl) (IsUtf8-are_ascii (9 ∷ []) refl) (IsUtf8-are_ascii (10 ∷ []) refl) (IsUtf8-are_ascii (13 ∷ []) refl)

-- one more white space is passed
pub space_more : (text rest later : List ℕ) (x : ℕ) → Leads [] text rest → rest ≡ x ∷ later → is_space x ≡ true → Leads [] text later
space_more text rest later x leads is space =
    chained [] [] text rest later leads
    (record { lexed = ap (lex between) is ∙ space_lexed later x space; utf8 = λ u. subst IsUtf8 (sym is) (IsUtf8-append (x ∷ []) later (space_utf8 x space) u) })

-- ---- a key

key_lexed : (key rest : List ℕ) → escape key ≡ key → lex between (34 ∷ (key ++ 34 ∷ rest)) ≡ token (string key) ∷ lex between rest
unfolding lex
key_lexed key rest same =
    ap₂ (λ o ls. token (string_token o) ∷ ls) (ap (λ s. content plain (s ++ 34 ∷ rest)) (sym same) ∙ content-escape key rest) (ap (λ s. lex in_string (s ++ 34 ∷ rest)) (sym same) ∙ lex-escape key rest)

key_before : (key text spaced quoted closing rest : List ℕ) → escape key ≡ key → IsUtf8 key → Leads [] text spaced → spaced ≡ (34 ∷ []) ++ quoted → quoted ≡ key ++ closing → closing ≡ (34 ∷ []) ++ rest
    → Leads (token (string key) ∷ []) text rest
key_before key text spaced quoted closing rest same utf8 leads opened named closed =
    let quote = IsUtf8-are_ascii (34 ∷ []) refl in
    let here : spaced ≡ 34 ∷ (key ++ 34 ∷ rest) = opened ∙ ap (λ l. 34 ∷ l) (named ∙ ap (λ l. key ++ l) closed) in
    chained [] (token (string key) ∷ []) text spaced rest leads
    (record {
      lexed = ap (lex between) here ∙ key_lexed key rest same;
      utf8 = λ u. subst IsUtf8 (sym here) (IsUtf8-append (34 ∷ []) (key ++ 34 ∷ rest) quote (IsUtf8-append key (34 ∷ rest) utf8 (IsUtf8-append (34 ∷ []) rest quote u)));
    })

-- a key comes first, after white space, where its closing quote does
pub key_first : (key bytes text spaced quoted closing : List ℕ) (o : Option (Bor (List ℕ))) → escape key ≡ key → bytes ≡ key → IsUtf8 bytes → Leads [] text spaced → spaced ≡ (34 ∷ []) ++ quoted → quoted ≡ bytes ++ closing
    → IfSome o (λ rest. closing ≡ (34 ∷ []) ++ rest.now) → IfSome o (λ rest. Leads (token (string key) ∷ []) text rest.now)
key_first key bytes text spaced quoted closing None plain_key same utf8 leads opened named closed = tt
key_first key bytes text spaced quoted closing (Some rest) plain_key same utf8 leads opened named closed =
    key_before key text spaced quoted closing rest.now plain_key (subst IsUtf8 same utf8) leads opened (named ∙ ap (λ k. k ++ closing) same) closed

-- a text without escapes comes first, after white space, where its closing quote does
pub text_before : (n : ℕ) (text spaced quoted inner found closing rest : List ℕ) → escape (take n quoted) ≡ take n quoted → inner ≡ take n quoted → found ≡ inner → IsUtf8 inner → Leads [] text spaced → spaced ≡ (34 ∷ []) ++ quoted
    → quoted ≡ inner ++ closing → closing ≡ (34 ∷ []) ++ rest → Leads (token (string found) ∷ []) text rest
text_before n text spaced quoted inner found closing rest plain_front front same utf8 leads opened named closed =
    let is : found ≡ take n quoted = same ∙ front in
    key_before found text spaced quoted closing rest (ap escape is ∙ plain_front ∙ sym is) (subst IsUtf8 (sym same) utf8) leads opened (named ∙ ap (λ l. l ++ closing) (sym same)) closed

pub stripped : (text bytes : List ℕ) → bytes_eq (take (length bytes) text) bytes ≡ true → text ≡ bytes ++ drop (length bytes) text
stripped text bytes h = sym (take-append-drop (length bytes) text) ∙ ap (λ l. l ++ drop (length bytes) text) ((bytes_eq-Decides (take (length bytes) text) bytes).0 h)

-- ---- the list

pub empty : (rest : List ℕ) → (length rest == 0) ≡ true → rest ≡ []
empty [] h = refl
empty (x ∷ rest) h = absurd (omega (arith, eqb-true (length (x ∷ rest)) 0 h))

pub holds : (key text members named value inner list end last rest : List ℕ)
    → Leads (token begin_object ∷ []) text members → Leads (token (string key) ∷ []) members named → Leads (colon ∷ []) named value → Leads (token begin_array ∷ []) value inner
    → inner ≡ list ++ 93 ∷ end → Leads (token end_object ∷ []) end last → Leads [] last rest → (length rest == 0) ≡ true → Holds key text list
holds key text members named value inner list end last rest a b c d is e f none =
    let front = chained (token begin_object ∷ []) (token (string key) ∷ colon ∷ token begin_array ∷ []) text members inner a
    (chained (token (string key) ∷ []) (colon ∷ token begin_array ∷ []) members named inner b (chained (colon ∷ []) (token begin_array ∷ []) named value inner c d)) in
    let back = chained (token end_object ∷ []) [] end last rest e f in
    record {
      end = end;
      front = subst (Leads (token begin_object ∷ token (string key) ∷ colon ∷ token begin_array ∷ []) text) is front;
      back = subst (Leads (token end_object ∷ []) end) (empty rest none) back;
    }
