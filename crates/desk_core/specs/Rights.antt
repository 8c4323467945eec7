-- Who may do what in a site.
use Rattle.std.specs.Prelude.{ℕ, List, Bool, true, false, Option, Some, None}
use Rattle.keep_core.specs.declared.member.MemberRole.{MemberRole}
use Rattle.keep_core.specs.declared.member.MemberRole.TheVariants as role
pub use Rattle.keep_core.specs.Members.{role_of}
use Rattle.keep_core.specs.declared.site.Site.{Site}
use Rattle.desk_core.specs.declared.refusal.Needed.{Needed}
use Rattle.desk_core.specs.declared.refusal.Needed.TheVariants as needed
use Rattle.desk_core.specs.declared.refusal.Refusal.TheVariants.{NoSite, NotAllowed, NoPage}
use Rattle.desk_core.specs.Refusals.{Decision, unless, on}
use Rattle.desk_core.specs.State.{PageState, SiteState, page_at}

abbrev pub is_owner : MemberRole → Bool
is_owner role.Owner = true
is_owner role.Editor = false
is_owner role.Judge = false
is_owner role.Reader = false

-- a role gives this leave
abbrev pub gives : Needed → MemberRole → Bool
gives needed.Owner held = is_owner held
gives needed.AnotherOwner held = is_owner held
gives needed.Editor role.Owner = true
gives needed.Editor role.Editor = true
gives needed.Editor role.Judge = false
gives needed.Editor role.Reader = false
gives needed.Judge role.Owner = true
gives needed.Judge role.Editor = false
gives needed.Judge role.Judge = true
gives needed.Judge role.Reader = false
gives needed.Reader held = true

-- a user with this role has this leave, and a stranger has none
abbrev pub may : Needed → Option MemberRole → Bool
may leave None = false
may leave (Some held) = gives leave held

-- what follows where the caller has this leave in the site
abbrev pub allowed : Needed → List ℕ → Site → Decision → Decision
allowed leave caller site next = unless (may leave (role_of caller site.members)) (NotAllowed leave) next

-- what follows in a site that is kept, and in which the caller has this leave
abbrev pub entering : Needed → List ℕ → Option SiteState → (SiteState → Decision) → Decision
entering leave caller kept next = on kept NoSite (λ s. allowed leave caller s.site (next s))

-- what follows on a page that is kept
abbrev pub on_page : List ℕ → SiteState → (PageState → Decision) → Decision
on_page page s next = on (page_at page s.pages) NoPage next
