-- All other sites stay as they are, whatever is asked of one.
use Rattle.std.proofs.Common.{◌≡◌, ℕ, List, ◌∷◌, ◌++◌, length, Option, Some, None, Ok, Err, refl, sym, ap, ◌∙◌}
use Rattle.std.specs.List.{cons_option}
use Rattle.rule_core.specs.Books.{Book}
use Rattle.judge_core.proofs.Lists.{filter_map-append}
use Rattle.keep_core.specs.declared.member.MemberRole.{MemberRole}
use Rattle.named_rows.specs.ByName.{take_row, with_row}
use Rattle.named_rows.proofs.Lookups.{at_put_other, at_with_row_other}
use Rattle.keep_core.specs.declared.change.Change.{Change}
use Rattle.keep_core.specs.declared.change.Change.TheVariants.{PutSite, PutPages, DropPage, AddJudgements, PutLanguages, Refresh, SetEdition}
use Rattle.keep_core.specs.declared.tables.Tables.{Tables}
use Rattle.keep_core.specs.Changes.{site_changed}
use Rattle.keep_core.proofs.Making as rows
use Rattle.desk_core.specs.declared.command.Command.{Command}
use Rattle.desk_core.specs.declared.command.Command.TheVariants as command
use Rattle.desk_core.specs.declared.refusal.Needed.TheVariants as needed
use Rattle.keep_core.specs.declared.member.Membership.{Membership}
use Rattle.desk_core.specs.declared.reply.Reply.{Reply}
use Rattle.desk_core.specs.Refusals.{Decision}
use Rattle.desk_core.specs.State.{PageState, SiteState, State, page_name, site_name, page_at, site_at}
use Rattle.desk_core.specs.Pages.{revision_in, judged, edit_page, drop_page}
use Rattle.desk_core.specs.Judging.{judge}
use Rattle.desk_core.specs.Claiming.{take_earl}
use Rattle.desk_core.specs.Reading.{answered}
use Rattle.desk_core.specs.Changes.{with_counter, with_pages, in_pages, with_judgements, with_languages, changed, after}
use Rattle.desk_core.specs.Soundness.{made}
use Rattle.desk_core.specs.Serving.{OthersStay}
use Rattle.desk_core.specs.declared.reply.Reply.TheVariants as reply
use Rattle.desk_core.specs.Steps.{Request, asked_by, site_of, OfSite, read_page, read_site, decision, decided, stepped, step}
use Rattle.desk_core.specs.Rights.{role_of}
use Rattle.desk_core.specs.Memberships.{held_in, membership, memberships}
use Rattle.desk_core.proofs.Deciding.{Brings, entering_brings, on_page_brings, put_site_brings, put_member_brings, put_languages_brings, put_page_brings, edit_page_brings, drop_page_brings, import_brings, judge_brings, take_earl_brings}

-- a change leaves the sites that it doesn't name
others_stay : (n : List ℕ) (c : Change) (state : State) → (Some n ≡ site_changed c → ⊥) → site_at n (changed c state) ≡ site_at n state
others_stay n (PutSite site) state other = at_put_other site_name n _ state (λ same. other (ap Some same))
others_stay n (PutPages site counter puts) state other =
    at_with_row_other site_name site (λ s. record { site = with_counter counter s.site; pages = with_pages s.site.languages puts s.pages }) (λ _ _. refl) n state (λ same. other (ap Some same))
others_stay n (DropPage site page) state other = at_with_row_other site_name site (in_pages (take_row page_name page)) (λ _ _. refl) n state (λ same. other (ap Some same))
others_stay n (AddJudgements site page js outcomes) state other =
    at_with_row_other site_name site (in_pages (with_row page_name page (with_judgements js))) (λ _ _. refl) n state (λ same. other (ap Some same))
others_stay n (PutLanguages site langs new) state other = at_with_row_other site_name site (with_languages langs) (λ _ _. refl) n state (λ same. other (ap Some same))
others_stay n (Refresh site new) state other = refl
others_stay n (SetEdition number) state other = refl

-- ---- what is decided names the site of the request

abbrev pub Names : List ℕ → Option Change → Type 0
Names site None = Unit {0}
Names site (Some c) = site_changed c ≡ Some site

module _ (caller site : List ℕ) (kept : Option SiteState) where
  page_names : (page : List ℕ) (reply : PageState → Reply) → Brings (Names site) (read_page caller page kept reply)
  page_names page reply =
      entering_brings (Names site) needed.Reader caller kept _ (λ s _ _. on_page_brings (Names site) page s (λ p. answered (reply p)) (λ _ _. tt))

  site_names : (reply : SiteState → Reply) → Brings (Names site) (read_site caller kept reply)
  site_names reply = entering_brings (Names site) needed.Reader caller kept _ (λ _ _ _. tt)

names_by : (book : Book) (caller : List ℕ) (c : Command) (kept : Option SiteState) (own : List Membership) → Brings (Names (site_of c)) (decision book caller c kept own)
names_by book caller (command.PutSite site) kept own = put_site_brings (Names site) site caller kept (λ _. refl)
names_by book caller (command.PutMember site user held) kept own =
    entering_brings (Names site) needed.Owner caller kept _ (λ s _ _. put_member_brings (Names site) site caller user held s.site (λ _. refl))
names_by book caller (command.PutLanguages site langs) kept own =
    entering_brings (Names site) needed.Owner caller kept _ (λ s _ _. put_languages_brings (Names site) book site langs s refl)
names_by book caller (command.PutPage site page rev raw) kept own =
    entering_brings (Names site) needed.Editor caller kept _ (λ s _ _.
    put_page_brings (Names site) book site caller page rev raw s.site (revision_in (page_at page s.pages)) (judged (page_at page s.pages)) (length s.pages) (λ _ _ _ _. refl))
names_by book caller (command.DropPage site page rev) kept own =
    entering_brings (Names site) needed.Editor caller kept _ (λ s _ _.
    on_page_brings (Names site) page s (λ (q : PageState). drop_page site page rev q.page) (λ p _. drop_page_brings (Names site) site page rev p.page (λ _. refl)))
names_by book caller (command.Import site entries) kept own =
    entering_brings (Names site) needed.Editor caller kept _ (λ s _ _. import_brings (Names site) book site caller entries s (λ _ _ _ _. refl))
names_by book caller (command.EditPage site page rev edits) kept own =
    entering_brings (Names site) needed.Editor caller kept _ (λ s _ _.
    on_page_brings (Names site) page s (edit_page book site caller page rev edits s.site) (λ p _.
    edit_page_brings (Names site) book site caller page rev edits s.site p (λ _ _ _ _. refl)))
names_by book caller (command.Judge site page rule node verdict seen note) kept own =
    entering_brings (Names site) needed.Judge caller kept _ (λ s _ _.
    on_page_brings (Names site) page s (judge book site caller page rule node verdict seen note) (λ p _.
    judge_brings (Names site) book site caller page rule node verdict seen note p (λ _ _. (λ _. tt, λ _. refl))))
names_by book caller (command.TakeEarl site page claims) kept own =
    entering_brings (Names site) needed.Judge caller kept _ (λ s _ _.
    on_page_brings (Names site) page s (take_earl book site caller page claims) (λ p _.
    take_earl_brings (Names site) book site caller page claims p (λ _. tt) (λ _ _ _. refl)))
names_by book caller (command.GetPage site page) kept own = page_names caller site kept page _
names_by book caller (command.GetOutcomes site page) kept own = page_names caller site kept page _
names_by book caller (command.GetReport site page) kept own = page_names caller site kept page _
names_by book caller (command.GetEarl site page) kept own = page_names caller site kept page _
names_by book caller (command.GetNames site page) kept own = page_names caller site kept page _
names_by book caller (command.SiteReport site) kept own = site_names caller site kept _
names_by book caller (command.SiteEarl site) kept own = site_names caller site kept _
names_by book caller (command.SiteCsv site) kept own = site_names caller site kept _
names_by book caller (command.GetVerdicts site page) kept own = page_names caller site kept page _
names_by book caller (command.GetMembers site) kept own = site_names caller site kept _
names_by book caller command.GetMemberships kept own = tt

pub decided_names : (book : Book) (q : Request) (state : State) → Brings (Names (site_of q.command)) (decided book q state)
decided_names book q state = names_by book q.caller q.command (site_at (site_of q.command) state) (memberships q.caller state)

-- so the rows of the others stay
pub rows_stay : (site : List ℕ) (change : Option Change) (t : Tables) → Names site change → OthersStay site t (made change t)
rows_stay site None t names n other = refl
rows_stay site (Some c) t names n other = rows.others_stay c t n (λ same. let one : Some n ≡ Some site = same ∙ names in other (cc))

stays_after : (n site : List ℕ) (change : Option Change) (state : State) → Names site change → (n ≡ site → ⊥) → site_at n (after change state) ≡ site_at n state
stays_after n site None state names other = refl
stays_after n site (Some c) state names other = others_stay n c state (λ same. let one : Some n ≡ Some site = same ∙ names in other (cc))

stays_stepped : (n site : List ℕ) (decision : Decision) (state : State) → Brings (Names site) decision → (n ≡ site → ⊥) → site_at n (stepped state decision).0 ≡ site_at n state
stays_stepped n site (Ok d) state names other = stays_after n site d.change state names other
stays_stepped n site (Err refusal) state names other = refl

-- a request leaves all sites but the one that it names
pub other_sites_stay : (book : Book) (q : Request) (state : State) (n : List ℕ) → (n ≡ site_of q.command → ⊥) → site_at n (step book state q).0 ≡ site_at n state
other_sites_stay book q state n other =
    stays_stepped n (site_of q.command) (decided book q state) state (decided_names book q state) other

-- what is decided on a command that names a site depends on the row of that site alone
alone_by : (book : Book) (caller : List ℕ) (c : Command) (kept : Option SiteState) (own other : List Membership) → OfSite c → decision book caller c kept own ≡ decision book caller c kept other
alone_by book caller (command.PutSite site) kept own other of = refl
alone_by book caller (command.PutMember site user held) kept own other of = refl
alone_by book caller (command.PutLanguages site langs) kept own other of = refl
alone_by book caller (command.PutPage site page rev raw) kept own other of = refl
alone_by book caller (command.DropPage site page rev) kept own other of = refl
alone_by book caller (command.Import site entries) kept own other of = refl
alone_by book caller (command.EditPage site page rev edits) kept own other of = refl
alone_by book caller (command.Judge site page rule node verdict seen note) kept own other of = refl
alone_by book caller (command.TakeEarl site page claims) kept own other of = refl
alone_by book caller (command.GetPage site page) kept own other of = refl
alone_by book caller (command.GetOutcomes site page) kept own other of = refl
alone_by book caller (command.GetReport site page) kept own other of = refl
alone_by book caller (command.GetEarl site page) kept own other of = refl
alone_by book caller (command.GetNames site page) kept own other of = refl
alone_by book caller (command.SiteReport site) kept own other of = refl
alone_by book caller (command.SiteEarl site) kept own other of = refl
alone_by book caller (command.SiteCsv site) kept own other of = refl
alone_by book caller (command.GetVerdicts site page) kept own other of = refl
alone_by book caller (command.GetMembers site) kept own other of = refl
alone_by book caller command.GetMemberships kept own other of = absurd of

pub decided_by_site : (book : Book) (q : Request) (one other : State) → OfSite q.command → site_at (site_of q.command) one ≡ site_at (site_of q.command) other → decided book q one ≡ decided book q other
decided_by_site book q one other of same =
    ap (λ kept. decision book q.caller q.command kept (memberships q.caller one)) same
    ∙ alone_by book q.caller q.command (site_at (site_of q.command) other) (memberships q.caller one) (memberships q.caller other) of

-- what is decided on a request for memberships depends on these alone
pub decided_by_own : (book : Book) (caller : List ℕ) (one other : State) → memberships caller one ≡ memberships caller other
    → decided book (asked_by caller command.GetMemberships) one ≡ decided book (asked_by caller command.GetMemberships) other
decided_by_own book caller one other same = ap (λ own. answered (reply.Memberships own)) same

-- a site in which a user is a stranger is none of the user's
pub strange : (user : List ℕ) (before after : State) (s : SiteState) → role_of user s.site.members ≡ None → memberships user (before ++ s ∷ after) ≡ memberships user (before ++ after)
strange user before after s none =
    filter_map-append (λ (s : SiteState). membership user s.site) before (s ∷ after)
    ∙ ap (λ (held : Option MemberRole). memberships user before ++ cons_option (held_in s.site.name held) (memberships user after)) none
    ∙ sym (filter_map-append (λ (s : SiteState). membership user s.site) before after)
