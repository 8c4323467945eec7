-- A member that was looked up, as contracts see it.
use Rattle.std.specs.Prelude.{Option, option_map}
use Rattle.std.specs.Borrow.{Bor}
use Rattle.serde_json.specs.declared.value.Value.{Value}
use Rattle.serde_json.specs.Data.{Data}
use Rattle.serde_json.specs.View.{view}

-- the data of a member, if it is there
abbrev pub seen : Option (Bor Value) → Option Data
seen member = option_map (λ v. view v.now) member
