use Rattle.std.proofs.Common.{◌≡◌, ◌++◌, take}
use Rattle.std.specs.List.{flat_map}
use Rattle.reports.specs.Earl.{page_assertions}
use Rattle.reports.specs.Writing.{all_tokens}
use Rattle.reports.proofs.assertions.push_pages.Given as goal

abbrev pub invariant-loop-page : goal.invariant-loop-page
invariant-loop-page l =
    (l.writer.before ≡ l.initial.writer.before)
    × (l.writer.tokens ≡ l.initial.writer.tokens ++ flat_map (λ page. all_tokens (page_assertions l.infos page)) (take l.page-index l.pages))
