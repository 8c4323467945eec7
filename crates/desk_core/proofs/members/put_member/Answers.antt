use Rattle.std.proofs.Common.{ap}
use Rattle.desk_core.specs.declared.command.Command.TheVariants.{PutMember}
use Rattle.desk_core.specs.declared.refusal.Needed.TheVariants.{Owner}
use Rattle.desk_core.specs.Steps.{Request}
use Rattle.desk_core.specs.State.{SiteState}
use Rattle.desk_core.specs.Members.{put_member}
use Rattle.desk_core.proofs.Fitted.{put_member_fits, put_member_keeps}
use Rattle.desk_core.proofs.Accepting.{put_member_accepts}
use Rattle.desk_core.proofs.Ways.{entered}
use Rattle.desk_core.proofs.Onward.{decides_by, read_as, decides_so}
use Rattle.desk_core.proofs.members.put_member.Goals as goal

pub returns : goal.returns
returns g c =
    λ book.
    let a = c.args in
    let request : Request = record { caller = a.caller.now; command = PutMember a.name a.user a.role } in
    decides_by book request _ _ _ c.decide.result (put_member a.name a.caller.now a.user a.role c.in_ok-site.site) c.in_ok-site.ensures.reads c.decide.ensures
    (put_member_fits a.name a.caller.now a.user a.role c.in_ok-site.site c.requires.site c.requires.user c.in_ok-site.ensures.fits)
    (put_member_keeps a.name a.caller.now a.user a.role c.in_ok-site.site)
    (put_member_accepts a.name a.caller.now a.user a.role c.in_ok-site.site)
    (λ t told.
    entered Owner a.caller.now a.name t c.in_ok-site.site (λ (s : SiteState). put_member a.name a.caller.now a.user a.role s.site) _ (c.in_ok-site.ensures.found t told)
    (λ k kept same. ap (put_member a.name a.caller.now a.user a.role) same))

pub returns-in_err-site : goal.returns-in_err-site
returns-in_err-site g c =
    λ book. decides_so c.in_err-site.field-0.0 c.from_residual.ensures.1
    (record {
      reads = read_as _ _ _ c.in_err-site.ensures.reads;
      agrees = λ t told sound. c.in_err-site.ensures.refused t told _;
      fits = tt;
      there = tt;
      accepted = tt;
      edition = tt;
      firm = tt;
    })
