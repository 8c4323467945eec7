use Rattle.std.proofs.Common.{◌≡◌, take, map}
use Rattle.serde_json.specs.View.{view}
use Rattle.http_replies.specs.VerdictList.{verdict_data}
use Rattle.http_replies.proofs.verdict_list.verdict_values.Given as goal

abbrev pub invariant-loop-verdict : goal.invariant-loop-verdict
invariant-loop-verdict l = map view l.values.items ≡ map (verdict_data l.infos) (take l.verdict-index l.verdicts)
