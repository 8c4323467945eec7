-- A head that was put behind a body comes before it.
use Rattle.std.proofs.Common.{◌≡◌, ℕ, List, ◌++◌, length, take, drop, ap, ◌∙◌}
use Rattle.std.proofs.Math.Seq.{take-append_seam, drop-append_seam}

pub turned : (body head out : List ℕ) (n : ℕ) → n ≡ length body → out ≡ drop n (body ++ head) ++ take n (body ++ head) → out ≡ head ++ body
turned body head out n is now =
    let front : drop n (body ++ head) ≡ head = ap (λ k. drop k (body ++ head)) is ∙ drop-append_seam body head in
    let back : take n (body ++ head) ≡ body = ap (λ k. take k (body ++ head)) is ∙ take-append_seam body head in
    now ∙ ap (λ l. l ++ take n (body ++ head)) front ∙ ap (λ l. head ++ l) back
