use Rattle.std.proofs.Common.{◌≡◌, ◌+◌, arith, refl, ap, ◌∙◌}
use Rattle.std.specs.List.{sum_by}
use Rattle.audit.specs.Pages.{pages_judgings}
use Rattle.made_audit.specs.Line.{come_to}
use Rattle.made_audit.proofs.Spans.{works, counted_none, counted_more, judged_more, judged_within}
use Rattle.made_audit.proofs.workers.count_in_turn.Goals as goal

pub loop-more-init : goal.loop-more-init
loop-more-init g c = record {
  counted = c.none-counted.ensures ∙ counted_none g.B.RuleBook.book c.args.span.now.number c.args.span.now.earlier;
  judged = omega arith;
  some = c.requires.some;
}

pub returns-in_err-count_page-clause-judged : goal.returns-in_err-count_page-clause-judged
returns-in_err-count_page-clause-judged g c =
    let number = c.args.span.now.number in
    let earlier = c.args.span.now.earlier in
    let more = c.loop-more.more in
    let here = judged_more g.B.RuleBook.book number earlier more (earlier + more + 1) (sum_by g.B.RuleBook.calls c.args.books.now) (sum_by g.B.RuleBook.calls c.loop-more.books) (sum_by g.B.RuleBook.calls c.count_page.new.books)
    refl c.loop-more.invariant.judged c.count_page.ensures.judged in
    omega (arith, here, judged_within g.B.RuleBook.book number earlier (more + 1) c.args.span.now.pages (omega (arith, c.loop-more-test.true)))

pub loop-more-preserved : goal.loop-more-preserved
loop-more-preserved g c =
    let number = c.args.span.now.number in
    let earlier = c.args.span.now.earlier in
    let more = c.loop-more.more in
    record {
      counted = counted_more g.B.RuleBook.book number earlier more (earlier + more + 1) c.loop-more.counted c.in_ok-count_page.field-0 c.and-counted.result refl c.loop-more.invariant.counted c.in_ok-count_page.ensures.counted c.and-counted.ensures;
      judged = judged_more g.B.RuleBook.book number earlier more (earlier + more + 1) (sum_by g.B.RuleBook.calls c.args.books.now) (sum_by g.B.RuleBook.calls c.loop-more.books) (sum_by g.B.RuleBook.calls c.count_page.new.books)
          refl c.loop-more.invariant.judged c.count_page.ensures.judged;
      some = omega (arith, c.loop-more.invariant.some, c.count_page.auto.books);
    }

pub returns-clause-counted : goal.returns-clause-counted
returns-clause-counted g c =
    let all : c.loop-more.more ≡ c.args.span.now.pages = omega (arith, c.loop-more-test.false, c.loop-more.auto.more-end) in
    c.loop-more.invariant.counted ∙ ap (λ n. come_to g.B.RuleBook.book (works c.args.span.now.number c.args.span.now.earlier n)) all

pub returns-clause-judged : goal.returns-clause-judged
returns-clause-judged g c =
    let all : c.loop-more.more ≡ c.args.span.now.pages = omega (arith, c.loop-more-test.false, c.loop-more.auto.more-end) in
    omega (arith, c.loop-more.invariant.judged, ap (λ n. pages_judgings g.B.RuleBook.book (works c.args.span.now.number c.args.span.now.earlier n)) all)
