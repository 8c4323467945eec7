use Rattle.rule_core.specs.Books.{Book}
use Rattle.desk_core.specs.declared.command.Command.TheVariants.{PutPage}
use Rattle.desk_core.specs.Steps.{Request}
use Rattle.desk_core.specs.Pages.{put_page}
use Rattle.desk_core.proofs.Fitted.{put_page_fits, put_page_keeps}
use Rattle.desk_core.proofs.Accepting.{put_page_accepts}
use Rattle.desk_core.proofs.Onward.{decides_by, surveyed, read_as, decides_so}
use Rattle.desk_core.proofs.put_page.put_page.Goals as goal

pub returns-clause-decides : goal.returns-clause-decides
returns-clause-decides g c =
    let book : Book = g.B.RuleBook.book in
    let sent = c.args.sent in
    let at = c.in_ok-survey.survey in
    let request : Request = record { caller = c.args.caller.now; command = PutPage sent.site sent.page sent.rev c.args.raw } in
    decides_by book request _ _ _ c.decide.result (put_page book sent.site c.args.caller.now sent.page sent.rev c.args.raw at.site at.current at.judgements at.pages)
    c.in_ok-survey.ensures.reads c.decide.ensures.decided (put_page_fits book sent.site c.args.caller.now sent.page sent.rev c.args.raw at.site at.current at.judgements at.pages c.requires.names.site c.requires.names.page c.requires.address)
    (put_page_keeps book sent.site c.args.caller.now sent.page sent.rev c.args.raw at.site at.current at.judgements at.pages)
    (put_page_accepts book sent.site c.args.caller.now sent.page sent.rev c.args.raw at.site at.current at.judgements at.pages)
    (λ t told.
    let found = c.in_ok-survey.ensures.found t told in
    surveyed c.args.caller.now sent.site sent.page t at.site at.current at.judgements at.pages (put_page book sent.site c.args.caller.now sent.page sent.rev c.args.raw) found.0 found.1
    found.2 found.3)

pub returns-in_err-survey-clause-decides : goal.returns-in_err-survey-clause-decides
returns-in_err-survey-clause-decides g c = decides_so c.in_err-survey.field-0.0 c.from_residual.ensures.1
    (record {
      reads = read_as _ _ _ c.in_err-survey.ensures.reads;
      agrees = λ t told sound. c.in_err-survey.ensures.refused t told _;
      fits = tt;
      there = tt;
      accepted = tt;
      edition = tt;
      firm = tt;
    })
