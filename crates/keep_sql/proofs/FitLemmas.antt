-- What is read of a site and of heads fits, where it comes in order.
use Rattle.std.proofs.Common.{◌≡◌, ℕ, pos, ◌≤◌, List, [], ◌∷◌, Bool, true, false, cond, nat_le, Option, Some, None, is_none, IfSome, IsTrue, refl, sym, ap, subst, ◌∙◌, arith, All}
use Rattle.std.specs.Prelude.{negsuc}
use Rattle.std.proofs.lemmas.Bool.Decides.{nat_tests}
use Rattle.std.proofs.lemmas.List.Elements.{All-cons, All-nil, All-head, All-tail}
use Rattle.std.specs.declared.cmp.Ordering.TheVariants.{Less}
use Rattle.sqlite_value.specs.declared.value.Value.{Value}
use Rattle.sqlite_value.specs.declared.value.Value.TheVariants.{Null, Int, Real, Text, Blob}
use Rattle.sqlite_value.specs.Order.{Row, column}
use Rattle.named_rows.specs.ByName.{names_cmp, IsInOrder}
use Rattle.named_rows.proofs.Names.{below_chain}
use Rattle.named_rows.proofs.Order.{IsBelow, in_order_cons, in_order_first, in_order_none}
use Rattle.keep_core.specs.declared.limits.TheConstants.{MOST_REVISION}
use Rattle.keep_core.specs.declared.member.Member.{Member}
use Rattle.keep_core.specs.declared.site.Site.{Site}
use Rattle.keep_core.specs.declared.page.PageHead.{PageHead}
use Rattle.keep_core.specs.Names.{is_name}
use Rattle.keep_core.specs.Fits.{FitsSite, FitsHead, FitsHeads, FitNames}
use Rattle.sql_rows.specs.Tables.{name_at}
use Rattle.snap_tree.specs.Langs.{AreLangs, langs_fault}
use Rattle.store_tables.specs.Languages.{language_from, languages_shown, of_form}
use Rattle.store_tables.proofs.Named.{site_from_reads}
use Rattle.store_tables.specs.Reading.{◌>>=◌, read_each, read_counted}
use Rattle.store_tables.specs.Cells.{number_in, text_in, named, role_in}
use Rattle.store_tables.specs.Members.{member_from}
use Rattle.store_tables.specs.Sites.{site_from, site_shown, names_shown}
use Rattle.store_tables.specs.Pages.{head_from, heads_shown}
use Rattle.store_tables.proofs.Steps.{some_same, none_some, both_read, found_reads}
use Rattle.store_tables.proofs.Each.{first_reads}
use Rattle.store_tables.proofs.Siting.{site_parts}
use Rattle.keep_sql.specs.Fitting.{ComesFirst}

-- ---- order

module _ {T : Type 0} (name : T → List ℕ) where
  all_above : (row first : T) (rows : List T) → names_cmp (name row) (name first) ≡ Less → All (IsBelow name first) rows → All (IsBelow name row) rows
  all_above row first [] less all = All-nil (IsBelow name row)
  all_above row first (r ∷ rows) less all =
      All-cons (IsBelow name row) r rows (below_chain (name row) (name first) (name r) less (All-head (IsBelow name first) r rows all)) (all_above row first rows less (All-tail (IsBelow name first) r rows all))

  pub in_order_from : (row : T) (rows : List T) → ComesFirst name row rows → IsInOrder name rows → IsInOrder name (row ∷ rows)
  in_order_from row [] first up = in_order_cons name row [] (All-nil (IsBelow name row)) (in_order_none name)
  in_order_from row (r ∷ rows) first up = in_order_cons name row (r ∷ rows) (All-cons (IsBelow name row) r rows first (all_above row r rows first (in_order_first name r rows up))) up

-- ---- what reads

named_is : (text n : List ℕ) → named text ≡ Some n → IsTrue (is_name n)
named_is text n is = by (is_name text) refl is
  where
    by : (b : Bool) → is_name text ≡ b → cond b (Some text) None ≡ Some n → IsTrue (is_name n)
    by true so is = ap is_name (sym (some_same text n is)) ∙ so
    by false so is = absurd (none_some n is)

number_within : (most : ℕ) (v : Value) (n : ℕ) → number_in most v ≡ Some n → n ≤ most
number_within most Null n is = absurd (none_some n is)
number_within most (Int (pos m)) n is = by (nat_le m most) refl is
  where
    by : (b : Bool) → nat_le m most ≡ b → cond b (Some m) None ≡ Some n → n ≤ most
    by true so is = let same : m ≡ n = some_same m n is in let le : m ≤ most = grind (arith, nat_tests, so) in omega (arith, same, le)
    by false so is = absurd (none_some n is)
number_within most (Int (negsuc m)) n is = absurd (none_some n is)
number_within most (Real x) n is = absurd (none_some n is)
number_within most (Text t) n is = absurd (none_some n is)
number_within most (Blob b) n is = absurd (none_some n is)

member_is : (r : Row) (m : Member) → member_from r ≡ Some m → IsTrue (is_name m.user)
unfolding member_from
member_is r m is =
    let a = both_read {B = Member} (named (name_at 0 r)) (λ user. role_in (column r 1) >>= (λ role. Some (record { user = user; role = role }))) m is in
    let b = both_read {B = Member} (role_in (column r 1)) (λ role. Some (record { user = a.0; role = role })) m a.2 in
    subst (λ (k : Member). IsTrue (is_name k.user)) (some_same {A = Member} (record { user = a.0; role = b.0 }) m b.2) (named_is (name_at 0 r) a.0 a.1)

users : (rs : List Row) (ms : List Member) → read_each member_from rs ≡ Some ms → All (λ (m : Member). IsTrue (is_name m.user)) ms
users [] ms is = subst (All (λ (m : Member). IsTrue (is_name m.user))) (some_same [] ms is) (All-nil (λ (m : Member). IsTrue (is_name m.user)))
users (r ∷ rs) ms is =
    let f = first_reads member_from r rs ms is in
    subst (All (λ (m : Member). IsTrue (is_name m.user))) (sym f.4) (All-cons (λ (m : Member). IsTrue (is_name m.user)) f.0 f.1 (member_is r f.0 f.2) (users rs f.1 f.3))

site_is_named : (name : List ℕ) (counter : Value) (members languages : List Row) (x : Site) → site_from name counter members languages ≡ Some x → IsTrue (is_name x.name)
site_is_named name counter members languages x is = named_is name x.name (site_from_reads name counter members languages x is)

-- a list that reads is of the form
langs_fit : (rows : List Row) (langs : List (List ℕ)) → languages_shown rows ≡ Some langs → AreLangs langs
langs_fit rows langs is =
    let a = both_read {B = List (List ℕ)} (read_counted language_from 1 rows) of_form langs is in
    by a.0 (langs_fault a.0) refl a.2
  where
    by : (ls : List (List ℕ)) (fault : Option ℕ) → langs_fault ls ≡ fault → of_form ls ≡ Some langs → AreLangs langs
    by ls None none is = let same : ls ≡ langs = some_same ls langs (sym (ap (λ (f : Option ℕ). cond (is_none f) (Some ls) None) none) ∙ is) in subst AreLangs same none
    by ls (Some place) some is = absurd (none_some langs (sym (ap (λ (f : Option ℕ). cond (is_none f) (Some ls) None) some) ∙ is))

-- and so are names that read names
pub names_fit : (rows : List Row) (names : List (List ℕ)) → names_shown rows ≡ Some names → FitNames names
names_fit [] names is = subst FitNames (some_same [] names is) (All-nil (λ (n : List ℕ). IsTrue (is_name n)))
names_fit (r ∷ rs) names is =
    let f = first_reads (λ c. named (name_at 0 c)) r rs names is in
    subst FitNames (sym f.4) (All-cons (λ (n : List ℕ). IsTrue (is_name n)) f.0 f.1 (named_is (name_at 0 r) f.0 f.2) (names_fit rs f.1 f.3))

pub site_fits : (site : List ℕ) (counters members languages : List Row) (found : Option Site) → site_shown site counters members languages ≡ Some found → IfSome found (λ s. IsInOrder (λ (m : Member). m.user) s.members)
    → IfSome found FitsSite
site_fits site counters members languages None is up = tt
site_fits site [] members languages (Some x) is up = absurd (none_some x (some_same None (Some x) is))
site_fits site (c ∷ cs) members languages (Some x) is up =
    let found = found_reads (site_from site (column c 0) members languages) (Some x) is in
    let same : x ≡ found.0 = some_same x found.0 found.2 in
    let reads : site_from site (column c 0) members languages ≡ Some x = found.1 ∙ ap (λ (s : Site). Some s) (sym same) in
    let parts = site_parts site (column c 0) members languages x reads in
    record {
      name = site_is_named site (column c 0) members languages x reads;
      counter = number_within MOST_REVISION (column c 0) x.counter parts.0;
      users = users members x.members parts.1;
      in_order = up;
      languages = langs_fit languages x.languages parts.2;
    }

head_fits : (page : List ℕ) (rev hand : Value) (h : PageHead) → head_from page rev hand ≡ Some h → FitsHead h
unfolding head_from
head_fits page rev hand h is =
    let a = both_read {B = PageHead} (named page) (λ n. number_in MOST_REVISION rev >>= (λ k. text_in hand >>= (λ t. Some (record { page = n; rev = k; hand = t })))) h is in
    let b = both_read {B = PageHead} (number_in MOST_REVISION rev) (λ k. text_in hand >>= (λ t. Some (record { page = a.0; rev = k; hand = t }))) h a.2 in
    let c = both_read {B = PageHead} (text_in hand) (λ t. Some (record { page = a.0; rev = b.0; hand = t })) h b.2 in
    subst FitsHead (some_same {A = PageHead} (record { page = a.0; rev = b.0; hand = c.0 }) h c.2) (record { page = named_is page a.0 a.1; rev = number_within MOST_REVISION rev b.0 b.1 })

each_fits : (rows : List Row) (hs : List PageHead) → heads_shown rows ≡ Some hs → All FitsHead hs
each_fits [] hs is = subst (All FitsHead) (some_same [] hs is) (All-nil FitsHead)
each_fits (r ∷ rs) hs is =
    let f = first_reads (λ c. head_from (name_at 0 c) (column c 1) (column c 2)) r rs hs is in
    subst (All FitsHead) (sym f.4) (All-cons FitsHead f.0 f.1 (head_fits (name_at 0 r) (column r 1) (column r 2) f.0 f.2) (each_fits rs f.1 f.3))

pub heads_fit : (rows : List Row) (hs : List PageHead) → heads_shown rows ≡ Some hs → IsInOrder (λ (h : PageHead). h.page) hs → FitsHeads hs
heads_fit rows hs is up = record { each = each_fits rows hs is; in_order = up }
