-- How often the books that a serve lends judged.
use Rattle.std.proofs.Common.{◌≡◌, ℕ, List, ◌++◌, length, take, map, sym, ap, ◌∙◌, subst}
use Rattle.std.proofs.Math.Seq.{take-append_seam}
use Rattle.std.proofs.lemmas.List.{take-map}
use Rattle.rule_core.specs.Books.{Book}
use Rattle.desk_http.specs.Desk.{Desk}
use Rattle.desk_http.specs.Doors.{ServesDoor}

-- the first books before they are lent
pub judged_before : {A : Type 0} (calls : A → ℕ) (n : ℕ) (books front : List A) → front ≡ take n books → map calls front ≡ take n (map calls books)
judged_before calls n books front is = ap (map calls) is ∙ sym (take-map calls n books)

-- and after they are given back
pub judged_after : {A : Type 0} (calls : A → ℕ) (n : ℕ) (front back : List A) → length front ≡ n → map calls front ≡ take n (map calls (front ++ back))
judged_after calls n front back fits = judged_before calls n (front ++ back) front (sym (subst (λ k. take k (front ++ back) ≡ front) fits (take-append_seam front back)))

-- so what is said of the one is said of the other
pub served_by : {L : Type 0} (book : Book) (old new : Desk L) (a a' b b' : List ℕ) → a ≡ a' → b ≡ b' →
    ServesDoor book (record old { calls = a }) (record new { calls = b }) → ServesDoor book (record old { calls = a' }) (record new { calls = b' })
served_by book old new a a' b b' before after serves =
    let P : List ℕ → Type 0 = λ calls. ServesDoor book (record old { calls = calls }) (record new { calls = b' }) in
    let Q : List ℕ → Type 0 = λ calls. ServesDoor book (record old { calls = a }) (record new { calls = calls }) in
    subst P before (subst Q after serves)
