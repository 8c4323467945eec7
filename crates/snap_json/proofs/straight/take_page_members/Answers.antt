use Rattle.std.proofs.Common.{◌≡◌, ◌-◌, length, Some, None, refl, ◌∙◌, arith}
use Rattle.json.specs.Json.{read_key, value}
use Rattle.json.proofs.Grammar.{read_key-shorter}
use Rattle.serde_json.specs.Data.{no_members, put}
use Rattle.snap_json.proofs.Turns.{member_read, members_over}
use Rattle.snap_json.proofs.straight.take_page_members.Goals as goal

pub members-init : goal.members-init
members-init c = (length c.args.reader.now, no_members, omega arith, omega arith, refl, record { url_is = refl; rows_are = tt })

pub members-preserved : goal.members-preserved
members-preserved c =
    let l = c.members in
    let n = l.invariant.0 in
    let ms = l.invariant.1 in
    let k = c.in-Some.key.now in
    let s = c.next_key.new.self in
    let r = c.take_page_member.new.reader in
    let named : read_key l.reader ≡ Some (Some k, s) = grind arith in
    let t = c.in_ok-take_page_member.ensures in
    let less = read_key-shorter l.reader (Some k) s named in
    let lesser = t.1.1 in (
      n - 1,
      put k t.0 ms,
      omega (arith, less, lesser, l.invariant.2),
      omega (arith, less, lesser, l.invariant.3),
      l.invariant.4 ∙ member_read (value 126) ms n k l.reader s r t.0 (omega (arith, less, l.invariant.2)) named t.1.0,
      t.2 ms l.invariant.5,
    )

pub returns : goal.returns
returns c =
    let l = c.members in
    let r = c.next_key.new.self in
    let named : read_key l.reader ≡ Some (None, r) = grind arith in
    let less = read_key-shorter l.reader None r named in
    (l.invariant.1, (l.invariant.4 ∙ members_over (value 126) l.invariant.1 l.invariant.0 l.reader r l.invariant.2 named, omega (arith, less, l.invariant.3)), l.invariant.5)
