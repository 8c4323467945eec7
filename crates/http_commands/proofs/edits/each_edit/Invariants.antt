use Rattle.std.proofs.Common.{◌≡◌, drop}
use Rattle.serde_json.specs.View.{items_view}
use Rattle.http_commands.specs.EditLists.{edits_from}
use Rattle.http_commands.proofs.Lists.{added}
use Rattle.http_commands.proofs.edits.each_edit.Given as goal

abbrev pub invariant-loop-edit : goal.invariant-loop-edit
invariant-loop-edit l = added l.found.items (edits_from l.place (items_view (drop l.edit-index l.edits))) ≡ edits_from 1 (items_view l.edits)
