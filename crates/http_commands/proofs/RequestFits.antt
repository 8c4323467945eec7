-- A request that a message makes fits, where the pages that it brings are at web addresses.
use Rattle.std.proofs.Common.{◌≡◌, ℕ, List, true, Result, Ok, Err, sym, subst}
use Rattle.std.specs.Prelude.{IsTrue, IfOk}
use Rattle.keep_core.specs.Names.{is_name}
use Rattle.rule_core.specs.Infos.{is_orderly}
use Rattle.rule_core.specs.Books.{Book}
use Rattle.http_routes.specs.declared.fault.RequestFault.{RequestFault}
use Rattle.http_messages.specs.declared.head.Head.{Head}
use Rattle.http_routes.specs.declared.call.Route.{Route}
use Rattle.http_routes.specs.declared.call.Route.TheVariants as route
use Rattle.http_routes.specs.Calls.{call_of}
use Rattle.http_routes.specs.Named.{HasNames, IsNamed}
use Rattle.http_routes.proofs.CallNames.{names_of_call}
use Rattle.desk_core.specs.declared.command.Command.{Command}
use Rattle.desk_core.specs.Fitting.{FitsRequest}
use Rattle.http_commands.specs.declared.request.Asked.{Asked}
use Rattle.http_commands.specs.Shapes.{json_in, snapshot_in}
use Rattle.http_commands.specs.Revisions.{revision_in}
use Rattle.http_commands.specs.Roles.{role_in}
use Rattle.http_commands.specs.Languages.{languages_in}
use Rattle.http_commands.specs.Entries.{entries_in}
use Rattle.http_commands.specs.EditLists.{edits_in}
use Rattle.http_commands.specs.Judging.{opinion_in}
use Rattle.http_commands.specs.Commands.{command_of}
use Rattle.http_commands.specs.Fitting.{IsWeb}
use Rattle.http_commands.specs.Requests.{request_of}
use Rattle.http_commands.proofs.Steps.{after, past}
use Rattle.http_commands.proofs.RevisionFits.{IsWithin, revision_within}
use Rattle.snap_tree.specs.Langs.{AreLangs}
use Rattle.http_commands.proofs.LanguageFits.{languages_fit}
use Rattle.http_commands.proofs.EntryFits.{FitAtWeb, read_entries_fit}
use Rattle.http_commands.proofs.OpinionFits.{FitsBook, opinion_fits}
use Rattle.http_commands.specs.Claims.{claims_in}
use Rattle.earl_in.specs.Reading.{Fit}
use Rattle.http_commands.proofs.ClaimFits.{claims_fit}

-- the command fits, of this caller, where its pages are at web addresses
abbrev FitsBy : Book → List ℕ → Command → Type 0
FitsBy book caller command = IsWeb command → FitsRequest book (record { caller = caller; command = command })

fits_command : (book : Book) (h : Head) (body : List ℕ) (r : Route) (caller : List ℕ)
    → is_orderly book.infos ≡ true → HasNames r → IsTrue (is_name caller) → IfOk (command_of book.infos h body r) (FitsBy book caller)
fits_command book h body (route.PutSite site) caller orderly names is = λ web. record { caller = is; site = names; parts = tt }
fits_command book h body (route.PutMember site user) caller orderly names is =
    let P = FitsBy book caller in
    past P (json_in body) _ (λ d.
    past P (role_in d) _ (λ held.
    λ web. record { caller = is; site = names.0; parts = names.1 }))
fits_command book h body (route.PutLanguages site) caller orderly names is =
    let P = FitsBy book caller in
    past P (json_in body) _ (λ d.
    after AreLangs P (languages_in d) _ (languages_fit d) (λ langs form.
    λ web. record { caller = is; site = names; parts = form }))
fits_command book h body (route.PutPage site page) caller orderly names is =
    let P = FitsBy book caller in
    past P (json_in body) _ (λ d.
    after IsWithin P (revision_in h) _ (revision_within h) (λ rev within.
    past P (snapshot_in d) _ (λ raw.
    λ web. record { caller = is; site = names.0; parts = record { seen = record { named = names.1; within = within }; web = web } })))
fits_command book h body (route.GetPage site page) caller orderly names is = λ web. record { caller = is; site = names.0; parts = names.1 }
fits_command book h body (route.DropPage site page) caller orderly names is =
    after IsWithin (FitsBy book caller) (revision_in h) _ (revision_within h) (λ rev within.
    λ web. record { caller = is; site = names.0; parts = record { named = names.1; within = within } })
fits_command book h body (route.Import site) caller orderly names is =
    let P = FitsBy book caller in
    past P (json_in body) _ (λ d.
    after FitAtWeb P (entries_in d) _ (read_entries_fit d) (λ entries fit.
    λ web. record { caller = is; site = names; parts = fit web }))
fits_command book h body (route.EditPage site page) caller orderly names is =
    let P = FitsBy book caller in
    past P (json_in body) _ (λ d.
    after IsWithin P (revision_in h) _ (revision_within h) (λ rev within.
    past P (edits_in d) _ (λ edits.
    λ web. record { caller = is; site = names.0; parts = record { named = names.1; within = within } })))
fits_command book h body (route.Judge site page) caller orderly names is =
    let P = FitsBy book caller in
    past P (json_in body) _ (λ d.
    after (FitsBook book.infos) P (opinion_in book.infos d) _ (opinion_fits book.infos d orderly) (λ o fit.
    λ web. record { caller = is; site = names.0; parts = record { named = names.1; atomic = fit.atomic; short = fit.short } }))
fits_command book h body (route.TakeEarl site page) caller orderly names is =
    let P = FitsBy book caller in
    past P (json_in body) _ (λ d.
    after (Fit book.infos) P (claims_in book.infos d) _ (claims_fit book.infos d orderly) (λ claims fit.
    λ web. record { caller = is; site = names.0; parts = record { named = names.1; fit = fit } }))
fits_command book h body (route.GetOutcomes site page) caller orderly names is = λ web. record { caller = is; site = names.0; parts = names.1 }
fits_command book h body (route.GetReport site page) caller orderly names is = λ web. record { caller = is; site = names.0; parts = names.1 }
fits_command book h body (route.GetEarl site page) caller orderly names is = λ web. record { caller = is; site = names.0; parts = names.1 }
fits_command book h body (route.GetNames site page) caller orderly names is = λ web. record { caller = is; site = names.0; parts = names.1 }
fits_command book h body (route.SiteReport site) caller orderly names is = λ web. record { caller = is; site = names; parts = tt }
fits_command book h body (route.SiteEarl site) caller orderly names is = λ web. record { caller = is; site = names; parts = tt }
fits_command book h body (route.SiteCsv site) caller orderly names is = λ web. record { caller = is; site = names; parts = tt }
fits_command book h body (route.GetVerdicts site page) caller orderly names is = λ web. record { caller = is; site = names.0; parts = names.1 }
fits_command book h body (route.GetMembers site) caller orderly names is = λ web. record { caller = is; site = names; parts = tt }
fits_command book h body route.GetMemberships caller orderly names is = λ web. record { caller = is; site = tt; parts = tt }

-- what is asked fits
abbrev FitsAsked : Book → Asked → Type 0
FitsAsked book q = FitsRequest book (record { caller = q.caller; command = q.command })

request_fits : (book : Book) (h : Head) (body : List ℕ) → is_orderly book.infos ≡ true → IfOk (request_of book.infos h body) (λ q. IsWeb q.command → FitsAsked book q)
unfolding request_of
request_fits book h body orderly =
    let P = λ (q : Asked). IsWeb q.command → FitsAsked book q in
    after IsNamed P (call_of h) _ (names_of_call h) (λ call named.
    after (FitsBy book call.caller) P (command_of book.infos h body call.route) _
    (fits_command book h body call.route call.caller orderly named.route named.caller) (λ command fits. fits))

pub answer_fits : {E : Type 0} (book : Book) (h : Head) (body : List ℕ) (r : Result (Result Asked RequestFault) E)
    → is_orderly book.infos ≡ true → IfOk r (λ asked. asked ≡ request_of book.infos h body) → IfOk r (λ asked. IfOk asked (λ q. IsWeb q.command))
    → IfOk r (λ asked. IfOk asked (FitsAsked book))
answer_fits book h body (Ok (Ok q)) orderly exact web =
    subst (λ asked. IfOk asked (λ q. IsWeb q.command → FitsAsked book q)) (sym exact) (request_fits book h body orderly) web
answer_fits book h body (Ok (Err fault)) orderly exact web = tt
answer_fits book h body (Err e) orderly exact web = tt
