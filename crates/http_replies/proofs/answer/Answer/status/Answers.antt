use Rattle.http_replies.proofs.Statuses.{has_short_phrase}
use Rattle.http_replies.proofs.answer.Answer.status.Goals as goal

pub returns-clause-short : goal.returns-clause-short
returns-clause-short c = has_short_phrase c.args.self.now c.code.result c.code.ensures
