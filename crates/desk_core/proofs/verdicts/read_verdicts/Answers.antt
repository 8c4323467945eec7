use Rattle.std.proofs.Common.{List, ap, ◌∙◌}
use Rattle.judge_core.specs.declared.outcomes.OutRow.{OutRow}
use Rattle.kept_verdicts.specs.Verdicts.{verdicts}
use Rattle.desk_core.specs.Reading.{answered}
use Rattle.desk_core.specs.Verdicts.{page_verdicts}
use Rattle.desk_core.proofs.Onward.{read_as}
use Rattle.desk_core.proofs.ToldLaws.{verdicts_shown, verdicts_so}
use Rattle.desk_core.proofs.verdicts.read_verdicts.Goals as goal

pub returns : goal.returns
returns g c =
    λ book. record {
      reads = record { stays = c.in_ok-kept.ensures.reads.stays; never_falls = c.in_ok-kept.ensures.reads.never_falls; failed = λ e. cc };
      shows =
          λ t told sound.
          let f = c.in_ok-kept.ensures.found t told in
          verdicts_shown book c.args.caller.now c.args.site.now c.args.page.now t f.0 c.in_ok-kept.kept c.in_ok-verdicts.verdicts sound f.1 f.2 f.3
          (c.in_ok-verdicts.ensures ∙ ap (λ (rows : List OutRow). verdicts rows c.in_ok-kept.kept.judgements) c.as_slice.ensures);
    }

pub returns-in_err-kept : goal.returns-in_err-kept
returns-in_err-kept g c =
    λ book. verdicts_so c.in_err-kept.field-0.0 c.from_residual.ensures.1
    (record {
      reads = read_as _ _ c.in_err-kept.field-0.0 c.in_err-kept.ensures.reads;
      shows = λ t told sound reply. c.in_err-kept.ensures.refused t told (λ s p. answered (reply (page_verdicts book p)));
    })
