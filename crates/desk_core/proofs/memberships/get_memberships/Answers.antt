use Rattle.std.proofs.Common.{List, sym, ap, ◌∙◌}
use Rattle.desk_core.specs.declared.command.Command.TheVariants.{GetMemberships}
use Rattle.keep_core.specs.declared.member.Membership.{Membership}
use Rattle.desk_core.specs.declared.reply.Reply.TheVariants as reply
use Rattle.desk_core.specs.Reading.{answered}
use Rattle.desk_core.specs.Steps.{Request}
use Rattle.desk_core.proofs.ToldLaws.{decides_told, memberships_are}
use Rattle.desk_core.proofs.memberships.get_memberships.Goals as goal

pub returns : goal.returns
returns g c =
    λ book.
    let request : Request = record { caller = c.args.caller.now; command = GetMemberships } in
    let read = c.in_ok-memberships.ensures in
    decides_told book request reply.Memberships _ _ c.in_ok-memberships.memberships c.memberships_reply.result c.memberships_reply.ensures tt
    (record { stays = read.reads.stays; never_falls = read.faults.never_falls; failed = λ e. cc })
    (λ t told sound. ap (λ (ms : List Membership). answered (reply.Memberships ms)) (sym (read.reads.answers t told ∙ memberships_are c.args.caller.now t)))
