-- The command of a route, by the head and the body of the message. A body that is read is JSON, before anything
-- else is asked of the message; of the gets, the put of a site and the delete no body is read.
use Rattle.std.specs.Prelude.{ℕ, List, Result, Ok}
use Rattle.snap_tree.specs.declared.row.Raw.{Raw}
use Rattle.rule_core.specs.declared.info.RuleInfo.{RuleInfo}
use Rattle.http_routes.specs.declared.fault.RequestFault.{RequestFault}
use Rattle.http_messages.specs.declared.head.Head.{Head}
use Rattle.http_routes.specs.declared.call.Route.{Route}
use Rattle.http_routes.specs.declared.call.Route.TheVariants as route
use Rattle.desk_core.specs.declared.command.Command.{Command}
use Rattle.desk_core.specs.declared.command.Command.TheVariants as command
use Rattle.http_commands.specs.Shapes.{◌>>=◌, json_in, snapshot_in}
use Rattle.http_commands.specs.Revisions.{revision_in}
use Rattle.http_commands.specs.Roles.{role_in}
use Rattle.http_commands.specs.Languages.{languages_in}
use Rattle.http_commands.specs.Entries.{entries_in}
use Rattle.http_commands.specs.EditLists.{edits_in}
use Rattle.http_commands.specs.Judging.{opinion_in}
use Rattle.http_commands.specs.Claims.{claims_in}

abbrev pub put_member : List ℕ → List ℕ → List ℕ → Result Command RequestFault
put_member body site user = do
  d ← json_in body
  held ← role_in d
  Ok (command.PutMember site user held)

abbrev pub put_languages : List ℕ → List ℕ → Result Command RequestFault
put_languages body site = do
  d ← json_in body
  langs ← languages_in d
  Ok (command.PutLanguages site langs)

abbrev pub put_page : Head → List ℕ → List ℕ → List ℕ → Result Command RequestFault
put_page h body site page = do
  d ← json_in body
  rev ← revision_in h
  raw ← snapshot_in d
  Ok (command.PutPage site page rev raw)

-- the same of a body that is known to be the snapshot of a page
abbrev pub put_raw : Head → List ℕ → List ℕ → Raw → Result Command RequestFault
put_raw h site page raw = do
  rev ← revision_in h
  Ok (command.PutPage site page rev raw)

abbrev pub drop_page : Head → List ℕ → List ℕ → Result Command RequestFault
drop_page h site page = do
  rev ← revision_in h
  Ok (command.DropPage site page rev)

abbrev pub import : List ℕ → List ℕ → Result Command RequestFault
import body site = do
  d ← json_in body
  entries ← entries_in d
  Ok (command.Import site entries)

abbrev pub edit_page : Head → List ℕ → List ℕ → List ℕ → Result Command RequestFault
edit_page h body site page = do
  d ← json_in body
  rev ← revision_in h
  edits ← edits_in d
  Ok (command.EditPage site page rev edits)

abbrev pub judge : List RuleInfo → List ℕ → List ℕ → List ℕ → Result Command RequestFault
judge infos body site page = do
  d ← json_in body
  o ← opinion_in infos d
  Ok (command.Judge site page o.rule o.node o.verdict o.digest o.note)

abbrev pub take_earl : List RuleInfo → List ℕ → List ℕ → List ℕ → Result Command RequestFault
take_earl infos body site page = do
  d ← json_in body
  claims ← claims_in infos d
  Ok (command.TakeEarl site page claims)

-- the command of a route of the desk whose book has these rules
abbrev pub command_of : List RuleInfo → Head → List ℕ → Route → Result Command RequestFault
command_of infos h body (route.PutSite site) = Ok (command.PutSite site)
command_of infos h body (route.PutMember site user) = put_member body site user
command_of infos h body (route.PutLanguages site) = put_languages body site
command_of infos h body (route.PutPage site page) = put_page h body site page
command_of infos h body (route.GetPage site page) = Ok (command.GetPage site page)
command_of infos h body (route.DropPage site page) = drop_page h site page
command_of infos h body (route.Import site) = import body site
command_of infos h body (route.EditPage site page) = edit_page h body site page
command_of infos h body (route.Judge site page) = judge infos body site page
command_of infos h body (route.TakeEarl site page) = take_earl infos body site page
command_of infos h body (route.GetOutcomes site page) = Ok (command.GetOutcomes site page)
command_of infos h body (route.GetReport site page) = Ok (command.GetReport site page)
command_of infos h body (route.GetEarl site page) = Ok (command.GetEarl site page)
command_of infos h body (route.GetNames site page) = Ok (command.GetNames site page)
command_of infos h body (route.SiteReport site) = Ok (command.SiteReport site)
command_of infos h body (route.SiteEarl site) = Ok (command.SiteEarl site)
command_of infos h body (route.SiteCsv site) = Ok (command.SiteCsv site)
command_of infos h body (route.GetVerdicts site page) = Ok (command.GetVerdicts site page)
command_of infos h body (route.GetMembers site) = Ok (command.GetMembers site)
command_of infos h body route.GetMemberships = Ok command.GetMemberships
