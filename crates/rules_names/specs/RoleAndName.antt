-- What a rule on names rests on: the role of its target, and the name.
use Rattle.std.specs.Prelude.{ℕ, List, ◌∷◌, ◌++◌, codes, Option}
use Rattle.std.specs.Option.{option_map_or}
use Rattle.aria_tables.specs.declared.role.Role.{Role}
use Rattle.aria_tables.specs.Roles.{word_of}
use Rattle.rule_core.specs.Brief.{brief}

-- the word of a role; `-` where there is none
abbrev pub role_word : Option Role → List ℕ
role_word role = option_map_or word_of role (codes "-")

-- the role on a line of its own, and then the name as it stands in evidence
abbrev pub role_and_name : Option Role → List ℕ → List ℕ
role_and_name role name = role_word role ++ 10 ∷ brief name
