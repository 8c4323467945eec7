-- What a composite rule makes of its inputs' outcomes (ACT Rules Format 1.1, "Composite Rules").
use Rattle.std.specs.Prelude.{List, if◌then◌else◌, Bool, true, false}
use Rattle.std.specs.List.{list_any}
use Rattle.rule_core.specs.declared.verdict.Auto.{Auto}
use Rattle.rule_core.specs.declared.verdict.Auto.TheVariants.{Passed, Failed, CantTell}

abbrev pub is_passed : Auto → Bool
is_passed Passed = true
is_passed Failed = false
is_passed CantTell = false

abbrev pub is_open : Auto → Bool
is_open Passed = false
is_open Failed = false
is_open CantTell = true

-- passed where some outcome is, else cantTell where some is, else failed
abbrev pub merge : List Auto → Auto
merge outcomes = if list_any is_passed outcomes then Passed else (if list_any is_open outcomes then CantTell else Failed)
