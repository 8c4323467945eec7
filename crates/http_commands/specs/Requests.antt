-- Which request a message makes, by its head and its body, or the first refusal that holds.
use Rattle.std.specs.Prelude.{ℕ, List, Result, Ok}
use Rattle.rule_core.specs.declared.info.RuleInfo.{RuleInfo}
use Rattle.http_routes.specs.declared.fault.RequestFault.{RequestFault}
use Rattle.http_messages.specs.declared.head.Head.{Head}
use Rattle.http_routes.specs.Calls.{call_of}
use Rattle.http_commands.specs.declared.request.Asked.{Asked}
use Rattle.http_commands.specs.Shapes.{◌>>=◌}
use Rattle.http_commands.specs.Commands.{command_of}

-- to a desk whose book has these rules
unfoldable pub request_of : List RuleInfo → Head → List ℕ → Result Asked RequestFault
request_of infos h body = do
  call ← call_of h
  command ← command_of infos h body call.route
  Ok (record { caller = call.caller; command = command })
