-- Commands whose pages are at web addresses, and requests that fit.
use Rattle.std.specs.List.{All}
use Rattle.web_address.specs.Address.{IsWebAddress}
use Rattle.desk_core.specs.declared.command.Command.{Command}
use Rattle.desk_core.specs.declared.command.Command.TheVariants as command
use Rattle.http_commands.specs.Entries.{IsAtWeb}

-- each page that the command brings is at a web address
abbrev pub IsWeb : Command → Type 0
IsWeb (command.PutPage site page rev raw) = IsWebAddress raw.address
IsWeb (command.Import site entries) = All IsAtWeb entries
IsWeb _ = Unit {0}
