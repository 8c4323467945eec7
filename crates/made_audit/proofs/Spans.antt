-- Spans of pages, and what their parts come to together.
use Rattle.std.proofs.Common.{◌≡◌, ◌∙◌, ℕ, zero, suc, ◌+◌, ◌-◌, ◌≤◌, min, List, [], ◌∷◌, ◌++◌, length, map, Result, Ok, Err, IfOk, refl, sym, ap, arith}
use Rattle.std.specs.List.{sum_by, range_with_len}
use Rattle.std.proofs.lemmas.List.{map-append, length-map}
use Rattle.std.proofs.lemmas.List.Sums.{sum_by-append}
use Rattle.std.proofs.lemmas.List.FromFn.{length-map-range_with_len}
use Rattle.snap_tree.specs.Trees.{Document, rows_of}
use Rattle.snap_tree.specs.Grown.{page_of}
use Rattle.rule_core.specs.declared.info.RuleInfo.{RuleInfo}
use Rattle.rule_core.specs.Books.{Book}
use Rattle.judge_core.specs.declared.outcomes.Outcomes.{Outcomes}
use Rattle.audit.specs.declared.pages.PageWork.{PageWork}
use Rattle.audit.specs.Pages.{page_outcomes, pages_outcomes, pages_judgings}
use Rattle.reports.specs.declared.sums.Sums.{Sums}
use Rattle.reports.specs.declared.sums.TheConstants.{MOST_SUM}
use Rattle.reports.specs.SiteReport.{page_sums}
use Rattle.reports.specs.Summary.{summary_line}
use Rattle.made_pages.specs.Pages.{made_page, made_pages}
use Rattle.made_audit.specs.declared.counted.Counted.{Counted}
use Rattle.made_audit.specs.Line.{unjudged, made_work, made_works, span_works, nodes_of, total, sums_of, come_to, both, made_line}

-- ---- the pages of a span

range_append : (a m n : ℕ) → range_with_len a (m + n) ≡ range_with_len a m ++ range_with_len (a + m) n
range_append a zero n =
    let from : a ≡ a + zero = omega arith in
    let more : zero + n ≡ n = omega arith in
    ap (range_with_len a) more ∙ ap (λ b. range_with_len b n) from
range_append a (suc m) n =
    let on : suc m + n ≡ suc (m + n) = omega arith in
    let from : (a + 1) + m ≡ a + suc m = omega arith in
    ap (range_with_len a) on ∙ ap (λ xs. a ∷ xs) (range_append (a + 1) m n) ∙ ap (λ b. a ∷ range_with_len (a + 1) m ++ range_with_len b n) from

-- so many pages of a number, after so many earlier ones
abbrev pub works : ℕ → ℕ → ℕ → List PageWork
works number earlier pages = span_works (record { number = number; earlier = earlier; pages = pages })

pub all_works : (number pages : ℕ) → works number 0 pages ≡ made_works number pages
unfolding span_works
all_works number pages = refl

pages_added : (number earlier m n : ℕ) → works number earlier (m + n) ≡ works number earlier m ++ works number (earlier + m) n
unfolding span_works
pages_added number earlier m n =
    let page : ℕ → Document = λ i. page_of (made_page number i) in
    let from : (earlier + 1) + m ≡ (earlier + m) + 1 = omega arith in
    ap (λ is. map unjudged (map page is)) (range_append (earlier + 1) m n ∙ ap (λ b. range_with_len (earlier + 1) m ++ range_with_len b n) from)
    ∙ ap (map unjudged) (map-append page (range_with_len (earlier + 1) m) (range_with_len ((earlier + m) + 1) n))
    ∙ map-append unjudged (map page (range_with_len (earlier + 1) m)) (map page (range_with_len ((earlier + m) + 1) n))

pub parts_of_span : (number earlier pages first : ℕ) → first ≤ pages → works number earlier pages ≡ works number earlier first ++ works number (earlier + first) (pages - first)
parts_of_span number earlier pages first within =
    let all : pages ≡ first + (pages - first) = omega (arith, within) in
    ap (works number earlier) all ∙ pages_added number earlier first (pages - first)

one_more : (number earlier k page : ℕ) → page ≡ earlier + k + 1 → works number earlier (k + 1) ≡ works number earlier k ++ made_work number page ∷ []
unfolding span_works made_work
one_more number earlier k page at = pages_added number earlier k 1 ∙ ap (λ i. works number earlier k ++ made_work number i ∷ []) (sym at)

-- ---- what they come to

capped : {X : Type 0} (f : X → ℕ) (xs ys : List X) (most : ℕ) → min (sum_by f (xs ++ ys)) most ≡ min (min (sum_by f xs) most + min (sum_by f ys) most) most
capped f xs ys most = omega (arith, sum_by-append f xs ys)

pub come_to_append : (book : Book) (xs ys : List PageWork) → come_to book (xs ++ ys) ≡ both (come_to book xs) (come_to book ys)
come_to_append book xs ys =
    let nodes : PageWork → ℕ = λ work. length (rows_of work.tree.trees) in
    let of : List PageWork → List Outcomes = pages_outcomes book in
    let sums : (part : Sums → ℕ) → total part book.infos (of (xs ++ ys)) ≡ min (total part book.infos (of xs) + total part book.infos (of ys)) MOST_SUM =
    λ part. ap (total part book.infos) (map-append (page_outcomes book) xs ys) ∙ capped (λ (o : Outcomes). part (page_sums book.infos o.rows)) (of xs) (of ys) MOST_SUM in
    rw (capped nodes xs ys MOST_SUM, sums (λ s. s.passed), sums (λ s. s.failed), sums (λ s. s.cant_tell), sums (λ s. s.inapplicable)) refl

pub counted_more : (book : Book) (number earlier k page : ℕ) (before here now : Counted) → page ≡ earlier + k + 1 → before ≡ come_to book (works number earlier k)
    → here ≡ come_to book (made_work number page ∷ []) → now ≡ both before here → now ≡ come_to book (works number earlier (k + 1))
counted_more book number earlier k page before here now at was one is =
    is ∙ ap (λ c. both c here) was ∙ ap (both (come_to book (works number earlier k))) one
    ∙ sym (come_to_append book (works number earlier k) (made_work number page ∷ [])) ∙ ap (come_to book) (sym (one_more number earlier k page at))

-- ---- what they let the books judge

pub judgings_append : (book : Book) (xs ys : List PageWork) → pages_judgings book (xs ++ ys) ≡ pages_judgings book xs + pages_judgings book ys
judgings_append book xs ys = sum_by-append _ xs ys

pub judged_more : (book : Book) (number earlier k page start before now : ℕ) → page ≡ earlier + k + 1 → before ≤ start + pages_judgings book (works number earlier k)
    → now ≤ before + pages_judgings book (made_work number page ∷ []) → now ≤ start + pages_judgings book (works number earlier (k + 1))
judged_more book number earlier k page start before now at was is =
    omega (arith, was, is, ap (pages_judgings book) (one_more number earlier k page at), judgings_append book (works number earlier k) (made_work number page ∷ []))

-- the first pages of a span allow no more than all of them
pub judged_within : (book : Book) (number earlier k pages : ℕ) → k ≤ pages → pages_judgings book (works number earlier k) ≤ pages_judgings book (works number earlier pages)
judged_within book number earlier k pages within =
    omega (arith, ap (pages_judgings book) (parts_of_span number earlier pages k within), judgings_append book (works number earlier k) (works number (earlier + k) (pages - k)))

-- ---- what was counted, and its line

pub counted_so : (book : Book) (pages : List PageWork) (infos : List RuleInfo) (outcomes : List Outcomes) (nodes : ℕ) (sums : Sums)
    → infos ≡ book.infos → outcomes ≡ pages_outcomes book pages → nodes ≡ nodes_of pages → sums ≡ sums_of infos outcomes → record { nodes = nodes; sums = sums } ≡ come_to book pages
counted_so book pages infos outcomes nodes sums known audited n s =
    let of_all : sums ≡ sums_of book.infos (pages_outcomes book pages) = s ∙ (λ k. sums_of (known k) (audited k)) in
    (λ k. record { nodes = n k; sums = of_all k })

pub line_so : {E : Type 0} (result : Result (List ℕ) E) (book : Book) (number pages : ℕ) (counted : Counted)
    → counted ≡ come_to book (works number 0 pages) → IfOk result (λ line. line ≡ summary_line pages counted.nodes counted.sums) → IfOk result (λ line. line ≡ made_line book number pages)
unfolding span_works
line_so (Err e) book number pages counted is line = tt
line_so (Ok l) book number pages counted is line =
    let page : ℕ → Document = λ i. page_of (made_page number i) in
    let long : pages ≡ length (made_works number pages) = sym (length-map (made_pages number pages) unjudged ∙ length-map-range_with_len page 1 pages) in
    line ∙ (λ k. summary_line (long k) (is k).nodes (is k).sums)

-- no pages come to nothing
pub counted_none : (book : Book) (number earlier : ℕ) → record { nodes = 0; sums = record { passed = 0; failed = 0; cant_tell = 0; inapplicable = 0 } } ≡ come_to book (works number earlier 0)
unfolding span_works
counted_none book number earlier = refl
