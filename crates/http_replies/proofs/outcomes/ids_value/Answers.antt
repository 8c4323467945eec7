use Rattle.std.proofs.Common.{arith}
use Rattle.serde_json.specs.Data.{string}
use Rattle.reports.specs.TextReport.{is_inapplicable}
use Rattle.http_replies.proofs.Picked.{all_picked}
use Rattle.http_replies.proofs.outcomes.ids_value.Goals as goal

pub returns : goal.returns
returns c = all_picked (λ info. string info.id) (is_inapplicable c.args.rows.now) c.args.infos.now c.loop-info.info-index _ (omega arith) (omega arith) c.loop-info.invariant
