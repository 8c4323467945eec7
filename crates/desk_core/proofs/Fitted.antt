-- What is decided fits, where the request and the rows that are kept do.
use Rattle.std.proofs.Common.{◌≡◌, ℕ, zero, suc, ◌+◌, ◌≤◌, List, [], ◌∷◌, length, true, Option, Some, None, IsTrue, IfSome, refl, arith}
use Rattle.std.specs.List.{All, AllPairs}
use Rattle.std.proofs.lemmas.Bool.Decides.{nat_tests}
use Rattle.std.proofs.lemmas.List.Elements.{All-nil, All-cons, All-head, All-tail}
use Rattle.std.proofs.lemmas.List.Kept.{AllPairs-cons}
use Rattle.snap_tree.specs.declared.row.NodeId.{NodeId}
use Rattle.snap_tree.specs.declared.row.Raw.{Raw}
use Rattle.snap_tree.specs.Trees.{Document, with_trees, with_langs}
use Rattle.snap_tree.specs.Grown.{page_of}
use Rattle.snap_edit.specs.declared.edit.Edit.{Edit}
use Rattle.rule_core.specs.declared.info.RuleNo.{RuleNo}
use Rattle.rule_core.specs.declared.verdict.Auto.{Auto}
use Rattle.rule_core.specs.Books.{Book}
use Rattle.judge_core.specs.declared.judgement.Judgement.{Judgement}
use Rattle.web_address.specs.Address.{IsWebAddress}
use Rattle.named_rows.specs.ByName.{IsInOrder}
use Rattle.named_rows.proofs.Lookups.{all_put, all_take}
use Rattle.named_rows.proofs.Order.{in_order_none, in_order_put, in_order_take}
use Rattle.keep_core.specs.declared.page.Page.{Page}
use Rattle.keep_core.specs.declared.member.Member.{Member}
use Rattle.keep_core.specs.declared.member.MemberRole.{MemberRole}
use Rattle.keep_core.specs.declared.site.Site.{Site}
use Rattle.keep_core.specs.declared.page.PagePut.{PagePut}
use Rattle.keep_core.specs.declared.change.Change.{Change}
use Rattle.keep_core.specs.Names.{is_name}
use Rattle.keep_core.specs.declared.limits.TheConstants.{MOST_REVISION}
use Rattle.keep_core.specs.Fits.{FitsSite, FitsPage, FitsPages, Fits}
use Rattle.desk_core.specs.declared.command.Entry.{Entry}
use Rattle.desk_core.specs.State.{PageState, SiteState, page_at}
use Rattle.desk_core.specs.Members.{user_of, new_site, site_with, members_with, put_site, put_member}
use Rattle.desk_core.specs.Pages.{judged, has_revisions, page_put, put_page, edit_page, drop_page}
use Rattle.desk_core.specs.Imports.{puts, import}
use Rattle.desk_core.specs.Judging.{judge}
use Rattle.desk_core.specs.Claiming.{take_earl}
use Rattle.earl_in.specs.declared.claim.Claim.{Claim}
use Rattle.desk_core.specs.Fitting.{FitsEntry, FitsEntries}
use Rattle.desk_core.specs.Serving.{FitsListed, KeepsEdition}
use Rattle.desk_core.proofs.Deciding.{Brings, put_site_brings, put_member_brings, put_page_brings, edit_page_brings, drop_page_brings, import_brings, judge_brings, take_earl_brings}

-- the change, where there is one, fits
abbrev pub IfAnyFits : Option Change → Type 0
IfAnyFits change = IfSome change Fits

-- and leaves the edition
abbrev pub IfAnyKeeps : Option Change → Type 0
IfAnyKeeps change = IfSome change KeepsEdition

-- ---- sites

pub new_site_fits : (name maker : List ℕ) → IsTrue (is_name name) → IsTrue (is_name maker) → FitsSite (new_site name maker)
new_site_fits name maker named user =
    let owner = new_site name maker in
    record {
      name = named;
      counter = omega arith;
      users = all_put user_of (λ (m : Member). IsTrue (is_name m.user)) _ [] user (All-nil (λ (m : Member). IsTrue (is_name m.user)));
      in_order = in_order_put user_of _ [] (in_order_none user_of);
      languages = refl;
    }

members_fit : (user : List ℕ) (held : Option MemberRole) (members : List Member) → IsTrue (is_name user) → All (λ (m : Member). IsTrue (is_name m.user)) members
    → All (λ (m : Member). IsTrue (is_name m.user)) (members_with user held members)
members_fit user None members named all = all_take user_of (λ (m : Member). IsTrue (is_name m.user)) user members all
members_fit user (Some held) members named all = all_put user_of (λ (m : Member). IsTrue (is_name m.user)) _ members named all

members_in_order : (user : List ℕ) (held : Option MemberRole) (members : List Member) → IsInOrder user_of members → IsInOrder user_of (members_with user held members)
members_in_order user None members order = in_order_take user_of user members order
members_in_order user (Some held) members order = in_order_put user_of _ members order

pub site_with_fits : (name user : List ℕ) (held : Option MemberRole) (site : Site) → IsTrue (is_name name) → IsTrue (is_name user) → FitsSite site
    → FitsSite (site_with name site (members_with user held site.members))
site_with_fits name user held site named user_named fits = record {
  name = named;
  counter = fits.counter;
  users = members_fit user held site.members user_named fits.users;
  in_order = members_in_order user held site.members fits.in_order;
  languages = fits.languages;
}

pub put_site_fits : (name caller : List ℕ) (kept : Option SiteState) → IsTrue (is_name name) → IsTrue (is_name caller) → Brings IfAnyFits (put_site name caller kept)
put_site_fits name caller kept named user = put_site_brings IfAnyFits name caller kept (λ _. new_site_fits name caller named user)

pub put_member_fits : (name caller user : List ℕ) (held : Option MemberRole) (site : Site) → IsTrue (is_name name) → IsTrue (is_name user) → FitsSite site
    → Brings IfAnyFits (put_member name caller user held site)
put_member_fits name caller user held site named user_named fits =
    put_member_brings IfAnyFits name caller user held site (λ _. site_with_fits name user held site named user_named fits)

pub put_site_keeps : (name caller : List ℕ) (kept : Option SiteState) → Brings IfAnyKeeps (put_site name caller kept)
put_site_keeps name caller kept = put_site_brings IfAnyKeeps name caller kept (λ _. tt)

pub put_member_keeps : (name caller user : List ℕ) (held : Option MemberRole) (site : Site) → Brings IfAnyKeeps (put_member name caller user held site)
put_member_keeps name caller user held site = put_member_brings IfAnyKeeps name caller user held site (λ _. tt)

-- ---- pages

pub has_revisions_le : (counter more : ℕ) → has_revisions counter more ≡ true → counter + more ≤ MOST_REVISION
has_revisions_le counter more has = grind (arith, nat_tests)

page_fits : (book : Book) (page : List ℕ) (rev : ℕ) (hand : List ℕ) (tree : Document) (js : List Judgement) → IsTrue (is_name page) → rev ≤ MOST_REVISION
    → IsWebAddress tree.address → FitsPage (page_put book page rev hand tree js).page
page_fits book page rev hand tree js named within address = record { head = record { page = named; rev = within }; address = address; no_langs = refl }

abbrev pub PutFits : PagePut → Type 0
PutFits p = FitsPage p.page

abbrev pub Apart : PagePut → PagePut → Type 0
Apart p q = p.page.head.page ≡ q.page.head.page → ⊥

pub one_fits : (site : List ℕ) (counter : ℕ) (put : PagePut) → IsTrue (is_name site) → counter ≤ MOST_REVISION → PutFits put → FitsPages site counter (put ∷ [])
one_fits site counter put named within fits = record {
  name = named;
  within = within;
  each = All-cons PutFits put [] fits (All-nil PutFits);
  distinct = AllPairs-cons Apart put [] (All-nil (Apart put)) (λ i j d lt lies. absurd (omega arith));
}

pub put_page_fits : (book : Book) (site caller page : List ℕ) (rev : ℕ) (raw : Raw) (s : Site) (there : Option ℕ) (js : List Judgement) (pages : ℕ)
    → IsTrue (is_name site) → IsTrue (is_name page) → IsWebAddress raw.address → Brings IfAnyFits (put_page book site caller page rev raw s there js pages)
put_page_fits book site caller page rev raw s there js pages named page_named address =
    put_page_brings IfAnyFits book site caller page rev raw s there js pages (λ room more same well.
    let within = has_revisions_le s.counter 1 more in
    one_fits site (s.counter + 1) _ named within (page_fits book page (s.counter + 1) caller (with_langs (page_of raw) s.languages) js page_named within address))

pub put_page_keeps : (book : Book) (site caller page : List ℕ) (rev : ℕ) (raw : Raw) (s : Site) (there : Option ℕ) (js : List Judgement) (pages : ℕ)
    → Brings IfAnyKeeps (put_page book site caller page rev raw s there js pages)
put_page_keeps book site caller page rev raw s there js pages = put_page_brings IfAnyKeeps book site caller page rev raw s there js pages (λ _ _ _ _. tt)

pub edit_page_fits : (book : Book) (site caller page : List ℕ) (rev : ℕ) (edits : List Edit) (s : Site) (kept : PageState)
    → IsTrue (is_name site) → IsTrue (is_name page) → FitsListed kept.page → Brings IfAnyFits (edit_page book site caller page rev edits s kept)
edit_page_fits book site caller page rev edits s kept named page_named fits =
    edit_page_brings IfAnyFits book site caller page rev edits s kept (λ more same t is.
    let within = has_revisions_le s.counter 1 more in
    one_fits site (s.counter + 1) _ named within (page_fits book page (s.counter + 1) caller (with_trees kept.page.tree t) kept.judgements page_named within fits.address))

pub drop_page_fits : (site page : List ℕ) (rev : ℕ) (kept : Page) → IsTrue (is_name site) → IsTrue (is_name page) → Brings IfAnyFits (drop_page site page rev kept)
drop_page_fits site page rev kept named page_named = drop_page_brings IfAnyFits site page rev kept (λ _. (named, page_named))

pub drop_page_keeps : (site page : List ℕ) (rev : ℕ) (kept : Page) → Brings IfAnyKeeps (drop_page site page rev kept)
drop_page_keeps site page rev kept = drop_page_brings IfAnyKeeps site page rev kept (λ _. tt)

pub judge_fits : (book : Book) (site caller page : List ℕ) (rule : RuleNo) (node : NodeId) (verdict : Auto) (seen note : List ℕ) (kept : PageState)
    → IsTrue (is_name site) → IsTrue (is_name page) → Brings IfAnyFits (judge book site caller page rule node verdict seen note kept)
judge_fits book site caller page rule node verdict seen note kept named page_named =
    judge_brings IfAnyFits book site caller page rule node verdict seen note kept (λ row found. (λ _. tt, λ _. (named, page_named)))

pub take_earl_fits : (book : Book) (site caller page : List ℕ) (claims : List (Option Claim)) (kept : PageState)
    → IsTrue (is_name site) → IsTrue (is_name page) → Brings IfAnyFits (take_earl book site caller page claims kept)
take_earl_fits book site caller page claims kept named page_named =
    take_earl_brings IfAnyFits book site caller page claims kept (λ _. tt) (λ more _ _. (named, page_named))

-- ---- imports

puts_fit : (book : Book) (langs : List (List ℕ)) (caller : List ℕ) (pages : List PageState) (counter : ℕ) (entries : List Entry) → All FitsEntry entries → counter + length entries ≤ MOST_REVISION
    → All PutFits (puts book langs caller pages counter entries)
puts_fit book langs caller pages counter [] each within = All-nil PutFits
puts_fit book langs caller pages counter (e ∷ entries) each within =
    let first = All-head FitsEntry e entries each in
    All-cons PutFits _ _ (page_fits book e.page (counter + 1) caller (with_langs (page_of e.raw) langs) (judged (page_at e.page pages)) first.rev.named (omega arith) first.address)
    (puts_fit book langs caller pages (counter + 1) entries (All-tail FitsEntry e entries each) (omega arith))

abbrev ApartFrom : List ℕ → Entry → Type 0
ApartFrom name e = name ≡ e.page → ⊥

abbrev pub EntriesApart : Entry → Entry → Type 0
EntriesApart d e = d.page ≡ e.page → ⊥

puts_apart_from : (book : Book) (langs : List (List ℕ)) (caller name : List ℕ) (pages : List PageState) (counter : ℕ) (entries : List Entry) → All (ApartFrom name) entries
    → All (λ (p : PagePut). name ≡ p.page.head.page → ⊥) (puts book langs caller pages counter entries)
puts_apart_from book langs caller name pages counter [] apart = All-nil (λ (p : PagePut). name ≡ p.page.head.page → ⊥)
puts_apart_from book langs caller name pages counter (e ∷ entries) apart =
    All-cons (λ (p : PagePut). name ≡ p.page.head.page → ⊥) _ _ (All-head (ApartFrom name) e entries apart)
    (puts_apart_from book langs caller name pages (counter + 1) entries (All-tail (ApartFrom name) e entries apart))

pub first_apart : (e : Entry) (entries : List Entry) → AllPairs EntriesApart (e ∷ entries) → All (ApartFrom e.page) entries
first_apart e entries apart = λ k d within. apart zero (suc k) d (omega arith) (omega arith)

pub rest_apart : (e : Entry) (entries : List Entry) → AllPairs EntriesApart (e ∷ entries) → AllPairs EntriesApart entries
rest_apart e entries apart = λ i j d lt within. apart (suc i) (suc j) d (omega arith) (omega arith)

puts_apart : (book : Book) (langs : List (List ℕ)) (caller : List ℕ) (pages : List PageState) (counter : ℕ) (entries : List Entry) → AllPairs EntriesApart entries
    → AllPairs Apart (puts book langs caller pages counter entries)
puts_apart book langs caller pages counter [] apart = λ i j d lt within. absurd (omega arith)
puts_apart book langs caller pages counter (e ∷ entries) apart =
    AllPairs-cons Apart _ _ (puts_apart_from book langs caller e.page pages (counter + 1) entries (first_apart e entries apart))
    (puts_apart book langs caller pages (counter + 1) entries (rest_apart e entries apart))

pub import_fits : (book : Book) (site caller : List ℕ) (entries : List Entry) (s : SiteState) → IsTrue (is_name site) → FitsEntries entries → Brings IfAnyFits (import book site caller entries s)
import_fits book site caller entries s named fits =
    import_brings IfAnyFits book site caller entries s (λ room more fresh well.
    let within = has_revisions_le s.site.counter (length entries) more in
    record {
      name = named;
      within = within;
      each = puts_fit book s.site.languages caller s.pages s.site.counter entries fits.each within;
      distinct = puts_apart book s.site.languages caller s.pages s.site.counter entries fits.distinct;
    })
