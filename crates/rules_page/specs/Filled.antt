-- What is found where a text is expected that isn't blank.
use Rattle.std.specs.Prelude.{ℕ, List, if◌then◌else◌, Option, Some, None}
use Rattle.texts.specs.Words.{blank}
use Rattle.rule_core.specs.declared.reason.Reason.{Reason}
use Rattle.rule_core.specs.declared.finding.Finding.{Finding}
use Rattle.rule_core.specs.Findings.{met, failed}

-- failed for the first reason where there is no text, and for the second where it is blank
abbrev pub filled : Reason → Reason → Option (List ℕ) → Finding
filled absent empty None = failed absent
filled absent empty (Some text) = if blank text then failed empty else met
