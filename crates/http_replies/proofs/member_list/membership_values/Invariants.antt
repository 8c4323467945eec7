use Rattle.std.proofs.Common.{◌≡◌, take, map}
use Rattle.serde_json.specs.View.{view}
use Rattle.http_replies.specs.MemberList.{membership_data}
use Rattle.http_replies.proofs.member_list.membership_values.Given as goal

abbrev pub invariant-loop-membership : goal.invariant-loop-membership
invariant-loop-membership l = map view l.values.items ≡ map membership_data (take l.membership-index l.memberships)
