use Rattle.case_run.proofs.Alone.{joined_parts}
use Rattle.case_run.proofs.letting.+sharing.Goals as goal

pub returns : goal.returns
returns g t c =
    joined_parts (λ v. v.items) c.args.infos.now c.args.parts.now c.split_at.result.0.now c.split_at.result.1.now c.join-first.result.0 c.join-first.result.1 c.joined.result c.split_at.ensures.by_index.0
    c.join-first.ensures.first c.join-first.ensures.second c.joined.ensures
