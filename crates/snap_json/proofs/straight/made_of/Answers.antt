use Rattle.std.proofs.Common.{Ok, sym, ap, ◌∙◌, subst}
use Rattle.std.specs.Prelude.{codes}
use Rattle.serde_json.specs.Find.{get_member}
use Rattle.snap_json.specs.Fields.{number_of, parent_of}
use Rattle.snap_json.specs.Straight.{Found}
use Rattle.snap_json.proofs.StraightRows.{row_made}
use Rattle.snap_json.proofs.straight.made_of.Goals as goal

pub returns : goal.returns
returns c ms h place =
    row_made c.in-Some.id c.in-Some-parent.parent c.in_ok-body-2.body c.args.members.facts ms
    (subst (λ o. Found number_of o (get_member (codes "n") ms)) c.in-Some.is h.id_is)
    (subst (λ o. Found parent_of o (get_member (codes "p") ms)) c.in-Some-parent.is h.parent_is)
    h.facts_are (λ p. c.in_ok-body.ensures ms h.body p ∙ ap Ok (sym c.in_ok-body-2.ensures)) place
