use Rattle.std.proofs.Common.{◌≡◌, ◌++◌, take}
use Rattle.std.specs.List.{flat_map}
use Rattle.reports.specs.Earl.{rule_assertions}
use Rattle.reports.specs.Writing.{all_tokens}
use Rattle.reports.proofs.assertions.push_page.Given as goal

abbrev pub invariant-loop-info : goal.invariant-loop-info
invariant-loop-info l =
    (l.writer.before ≡ l.initial.writer.before)
    × (l.writer.tokens ≡ l.initial.writer.tokens ++ flat_map (λ info. all_tokens (rule_assertions l.page info)) (take l.info-index l.infos))
