use Rattle.std.proofs.Common.{◌≡◌, ◌++◌, drop}
use Rattle.serde_json.specs.View.{items_view}
use Rattle.http_commands.specs.Languages.{texts_in}
use Rattle.http_commands.proofs.languages.texts_in.Given as goal

-- what was read, and what the rest begins with
abbrev pub invariant-loop-value : goal.invariant-loop-value
invariant-loop-value l = texts_in (items_view l.values) ≡ l.texts.items ++ texts_in (items_view (drop l.value-index l.values))
