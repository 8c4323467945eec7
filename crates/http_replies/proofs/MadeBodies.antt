-- Replies to changes: their bodies, and what is known of their pages.
use Rattle.std.proofs.Common.{◌≡◌, ℕ, ◌<◌, ◌≤◌, List, [], ◌∷◌, ◌++◌, length, slice_index_or, nat_le, true, refl, sym, ap, ◌∙◌, append_assoc, append-nil, subst, arith}
use Rattle.std.specs.Prelude.{codes}
use Rattle.std.specs.List.{flat_map, list_all}
use Rattle.std.proofs.lemmas.Bool.{and_parts}
use Rattle.std.proofs.lemmas.Bool.Decides.{nat_tests}
use Rattle.std.proofs.lemmas.Grind.{flat_map-append}
use Rattle.std.proofs.lemmas.List.Sums.{AllPass-from_list_all}
use Rattle.rule_core.specs.declared.info.RuleInfo.{RuleInfo}
use Rattle.desk_core.specs.declared.limits.TheConstants.{MOST_ENTRIES}
use Rattle.desk_core.specs.declared.reply.Stored.{Stored}
use Rattle.desk_core.specs.declared.reply.Reply.{Reply}
use Rattle.desk_core.specs.declared.reply.Reply.TheVariants as reply
use Rattle.keep_core.specs.declared.limits.TheConstants.{MOST_NAME}
use Rattle.http_replies.specs.Made.{count_text, languages_text, taken_text, after_comma, made_text, is_short, are_few, is_made}
use Rattle.http_replies.specs.Answers.{reply_body}

pub made_is_body : (infos : List RuleInfo) (r : Reply) → is_made r ≡ true → made_text infos r ≡ reply_body infos r
made_is_body infos (reply.Site site) made = refl
made_is_body infos (reply.Member user held) made = refl
made_is_body infos (reply.Languages languages pages) made = refl
made_is_body infos (reply.Stored s) made = refl
made_is_body infos (reply.Dropped page) made = refl
made_is_body infos (reply.Imported pages) made = refl
made_is_body infos (reply.Judged rule node outcome) made = refl
made_is_body infos (reply.Taken added known skipped) made = refl
made_is_body infos (reply.Page p) made = absurd (cc)
made_is_body infos (reply.Outcomes p) made = absurd (cc)
made_is_body infos (reply.Report p) made = absurd (cc)
made_is_body infos (reply.Earl p) made = absurd (cc)
made_is_body infos (reply.Names t) made = absurd (cc)
made_is_body infos (reply.SiteReport s) made = absurd (cc)
made_is_body infos (reply.SiteEarl s) made = absurd (cc)
made_is_body infos (reply.SiteCsv s) made = absurd (cc)
made_is_body infos (reply.Verdicts v) made = absurd (cc)
made_is_body infos (reply.Members members) made = absurd (cc)
made_is_body infos (reply.Memberships memberships) made = absurd (cc)
made_is_body infos (reply.Refused r) made = absurd (cc)

grouped : (old a b end : List ℕ) → ((old ++ a) ++ b) ++ end ≡ old ++ ((a ++ b) ++ end)
grouped old a b end = simp append_assoc

-- the two counts were printed, one after the other
pub counts_printed : (old one two new : List ℕ) (languages pages : ℕ) → one ≡ old ++ count_text (codes "{\"languages\":") languages → two ≡ one ++ count_text (codes ",\"pages\":") pages → new ≡ two ++ codes "}" →
    new ≡ old ++ languages_text languages pages
unfolding languages_text
counts_printed old one two new languages pages first second third =
    let a = count_text (codes "{\"languages\":") languages in
    let b = count_text (codes ",\"pages\":") pages in
    third ∙ (ap (λ l. l ++ codes "}") (second ∙ ap (λ l. l ++ b) first) ∙ grouped old a b (codes "}"))

grouped_more : (old a b d end : List ℕ) → (((old ++ a) ++ b) ++ d) ++ end ≡ old ++ (((a ++ b) ++ d) ++ end)
grouped_more old a b d end = simp append_assoc

-- the three counts were
pub taken_printed : (old one two three new : List ℕ) (added known skipped : ℕ) → one ≡ old ++ count_text (codes "{\"added\":") added → two ≡ one ++ count_text (codes ",\"known\":") known
    → three ≡ two ++ count_text (codes ",\"skipped\":") skipped → new ≡ three ++ codes "}" → new ≡ old ++ taken_text added known skipped
unfolding taken_text
taken_printed old one two three new added known skipped first second third fourth =
    let a = count_text (codes "{\"added\":") added in
    let b = count_text (codes ",\"known\":") known in
    let d = count_text (codes ",\"skipped\":") skipped in
    fourth ∙ (ap (λ l. l ++ codes "}") (third ∙ ap (λ l. l ++ d) (second ∙ ap (λ l. l ++ b) first)) ∙ grouped_more old a b d (codes "}"))

pub few : (pages : List Stored) → are_few pages ≡ true → length pages ≤ MOST_ENTRIES
few pages are =
    let within : nat_le (length pages) MOST_ENTRIES ≡ true = (and_parts (nat_le (length pages) MOST_ENTRIES) (list_all (λ s. is_short s.page) pages) are).0 in
    grind (arith, nat_tests, within)

pub short : (pages : List Stored) → are_few pages ≡ true → list_all (λ s. is_short s.page) pages ≡ true
short pages are = (and_parts (nat_le (length pages) MOST_ENTRIES) (list_all (λ s. is_short s.page) pages) are).1

within : (name : List ℕ) → is_short name ≡ true → length name ≤ MOST_NAME
within name is = grind (arith, nat_tests)

pub first_short : (pages : List Stored) (first : Stored) (rest : List Stored) → pages ≡ first ∷ rest → list_all (λ s. is_short s.page) pages ≡ true → length first.page ≤ MOST_NAME
first_short pages first rest is all =
    let P : List Stored → Type 0 = λ l. list_all (λ s. is_short s.page) l ≡ true in
    within first.page (and_parts (is_short first.page) (list_all (λ s. is_short s.page) rest) (subst P is all)).0

pub rest_short : (pages : List Stored) (first : Stored) (rest : List Stored) → pages ≡ first ∷ rest → list_all (λ s. is_short s.page) pages ≡ true → list_all (λ s. is_short s.page) rest ≡ true
rest_short pages first rest is all =
    let P : List Stored → Type 0 = λ l. list_all (λ s. is_short s.page) l ≡ true in
    (and_parts (is_short first.page) (list_all (λ s. is_short s.page) rest) (subst P is all)).1

pub each_short : (pages : List Stored) (k : ℕ) (d : Stored) → k < length pages → list_all (λ s. is_short s.page) pages ≡ true → length (slice_index_or pages k d).page ≤ MOST_NAME
each_short pages k d inside all = within _ (AllPass-from_list_all (λ s. is_short s.page) pages all k d inside)

-- one page more was printed
pub printed_more : (old mid new : List ℕ) (before after : List Stored) (s : Stored) → after ≡ before ++ s ∷ [] → mid ≡ old ++ flat_map after_comma before → new ≡ mid ++ after_comma s
    → new ≡ old ++ flat_map after_comma after
printed_more old mid new before after s after_is mid_is new_is =
    let piece : List ℕ = after_comma s in
    let pieces : List ℕ = flat_map after_comma before in
    let joined : pieces ++ piece ≡ flat_map after_comma after =
    ap (λ l. pieces ++ l) (sym (append-nil piece)) ∙ sym (flat_map-append after_comma before (s ∷ [])) ∙ ap (flat_map after_comma) (sym after_is) in
    new_is ∙ ap (λ l. l ++ piece) mid_is ∙ append_assoc old pieces piece ∙ ap (λ l. old ++ l) joined
