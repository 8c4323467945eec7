use Rattle.std.proofs.Common.{◌≡◌, take, map}
use Rattle.serde_json.specs.View.{view}
use Rattle.http_replies.specs.MemberList.{member_data}
use Rattle.http_replies.proofs.member_list.member_values.Given as goal

abbrev pub invariant-loop-member : goal.invariant-loop-member
invariant-loop-member l = map view l.values.items ≡ map member_data (take l.member-index l.members)
