use Rattle.std.proofs.Common.{Option, List, ◌++◌, ◌∙◌, ap, arith}
use Rattle.std.specs.Option.{option_to_list}
use Rattle.rule_core.proofs.Gathering.{gathered_more}
use Rattle.keep_core.specs.declared.member.Membership.{Membership}
use Rattle.keep_core.specs.declared.tables.KeptSite.{KeptSite}
use Rattle.keep_core.specs.Members.{membership}
use Rattle.keep_core.proofs.lookups.memberships_among.Goals as goal

pub loop-kept-preserved : goal.loop-kept-preserved
loop-kept-preserved c =
    let found : KeptSite → Option Membership = λ s. membership c.args.user.now s.site in
    let more : Option Membership → List Membership = λ o. c.loop-kept.memberships.items ++ option_to_list o in
    gathered_more found c.args.sites.now c.loop-kept.kept-index _ c.loop-kept.memberships.items _ (omega arith) c.loop-kept.invariant
    (c.in_ok-push.ensures ∙ ap more (c.in_ok-found.ensures ∙ ap found c.kept-item.is))
