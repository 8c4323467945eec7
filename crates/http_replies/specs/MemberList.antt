-- The bodies of the replies that tell the members of a site, and the sites of a member.
use Rattle.std.specs.Prelude.{List, map, codes, Some}
use Rattle.serde_json.specs.Data.{Data, string, array, object, no_members, member}
use Rattle.serde_json.specs.View.{items_of}
use Rattle.keep_core.specs.declared.member.Member.{Member}
use Rattle.keep_core.specs.declared.member.Membership.{Membership}
use Rattle.http_replies.specs.Words.{role_word}

unfoldable pub member_data : Member → Data
member_data m = object (member (codes "member") (string m.user) (member (codes "role") (string (role_word (Some m.role))) no_members))

unfoldable pub members_data : List Member → Data
members_data ms = object (member (codes "members") (array (items_of (map member_data ms))) no_members)

unfoldable pub membership_data : Membership → Data
membership_data m = object (member (codes "role") (string (role_word (Some m.role))) (member (codes "site") (string m.site) no_members))

unfoldable pub memberships_data : List Membership → Data
memberships_data ms = object (member (codes "memberships") (array (items_of (map membership_data ms))) no_members)
