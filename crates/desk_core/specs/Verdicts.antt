-- The judgements of a page, as they are told to whoever may read it.
use Rattle.rule_core.specs.Books.{Book}
use Rattle.judge_core.specs.Outcomes.{outcomes}
use Rattle.kept_verdicts.specs.Verdicts.{verdicts}
use Rattle.desk_core.specs.declared.reply.PageVerdicts.{PageVerdicts}
use Rattle.desk_core.specs.State.{PageState}

-- each with whether it counts for one of the page's outcomes now
abbrev pub page_verdicts : Book → PageState → PageVerdicts
page_verdicts book p = record { rev = p.page.head.rev; verdicts = verdicts (outcomes book p.page.tree p.judgements) p.judgements }
