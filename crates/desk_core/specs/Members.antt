-- Sites and their members: what is decided on making a site, and on a user's role.
use Rattle.std.specs.Prelude.{ℕ, List, [], ◌∷◌, not, Option, Some, None, Ok, Err}
use Rattle.std.specs.Str.{bytes_eq}
use Rattle.keep_core.specs.declared.member.MemberRole.{MemberRole}
use Rattle.keep_core.specs.declared.member.MemberRole.TheVariants as role
use Rattle.keep_core.specs.declared.member.Member.{Member}
use Rattle.keep_core.specs.declared.site.Site.{Site}
use Rattle.keep_core.specs.declared.change.Change.TheVariants.{PutSite}
use Rattle.named_rows.specs.ByName.{put_row, take_row}
use Rattle.desk_core.specs.declared.refusal.Needed.TheVariants as needed
use Rattle.desk_core.specs.declared.refusal.Refusal.TheVariants.{SiteExists, NotAllowed}
use Rattle.desk_core.specs.declared.reply.Reply.TheVariants as reply
use Rattle.desk_core.specs.Refusals.{Decision, unless}
use Rattle.desk_core.specs.State.{SiteState}

-- a site that is new: nothing was put into it, who made it owns it, and it has no list of languages
abbrev pub new_site : List ℕ → List ℕ → Site
new_site name maker = record { name = name; counter = 0; members = record { user = maker; role = role.Owner } ∷ []; languages = [] }

abbrev pub user_of : Member → List ℕ
user_of member = member.user

-- the members with a user in this role, or without the user
abbrev pub members_with : List ℕ → Option MemberRole → List Member → List Member
members_with user None members = take_row user_of user members
members_with user (Some held) members = put_row user_of (record { user = user; role = held }) members

-- a site of this name, with the counter and the languages of another
abbrev pub site_with : List ℕ → Site → List Member → Site
site_with name site members = record { name = name; counter = site.counter; members = members; languages = site.languages }

-- a site is made by any caller, unless it is kept
abbrev pub put_site : List ℕ → List ℕ → Option SiteState → Decision
put_site name caller (Some kept) = Err SiteExists
put_site name caller None = Ok (record { change = Some (PutSite (new_site name caller)); reply = reply.Site name })

-- an owner sets the roles of others, and not the own one
abbrev pub put_member : List ℕ → List ℕ → List ℕ → Option MemberRole → Site → Decision
put_member name caller user held site =
    unless (not (bytes_eq user caller)) (NotAllowed needed.AnotherOwner) (
    Ok (record { change = Some (PutSite (site_with name site (members_with user held site.members))); reply = reply.Member user held }))
