use Rattle.std.proofs.Common.{◌≡◌, [], drop}
use Rattle.std.specs.List.{All}
use Rattle.serde_json.specs.View.{items_view}
use Rattle.http_commands.specs.Entries.{entries_from, IsAtWeb}
use Rattle.http_commands.proofs.Lists.{added}
use Rattle.http_commands.proofs.entries.each_entry.Given as goal

abbrev pub invariant-loop-page : goal.invariant-loop-page
invariant-loop-page l = record {
  exact : added l.found.items (entries_from l.found.items l.place (items_view (drop l.page-index l.pages))) ≡ entries_from [] 1 (items_view l.pages);
  web : All IsAtWeb l.found.items;
}
