-- The ids of rules as texts.
use Rattle.std.specs.Prelude.{List}
use Rattle.std.specs.List.{All}
use Rattle.std.specs.Str.{IsUtf8}
use Rattle.rule_core.specs.declared.info.RuleInfo.{RuleInfo}

-- the ids are texts, as those of an orderly book are
abbrev pub HaveTexts : List RuleInfo → Type 0
HaveTexts infos = All (λ info. IsUtf8 info.id) infos
