-- What a rule finds on a target, and the verdict that it makes with its evidence.
use Rattle.std.specs.Prelude.{ℕ, List, [], Option, unwrap_or}
use Rattle.rule_core.specs.declared.reason.Reason.{Reason}
use Rattle.rule_core.specs.declared.reason.Reason.TheVariants.{Met}
use Rattle.rule_core.specs.declared.verdict.Auto.TheVariants.{Passed, Failed, CantTell}
use Rattle.rule_core.specs.declared.verdict.Verdict.{Verdict}
use Rattle.rule_core.specs.declared.finding.Finding.{Finding}
use Rattle.rule_core.specs.Brief.{brief}

abbrev pub passed : Reason → Finding
passed reason = record { auto = Passed; reason = reason }

abbrev pub failed : Reason → Finding
failed reason = record { auto = Failed; reason = reason }

abbrev pub cant_tell : Reason → Finding
cant_tell reason = record { auto = CantTell; reason = reason }

-- no failed and no cantTell condition is met
abbrev pub met : Finding
met = passed Met

-- the finding with the text that it rests on
abbrev pub verdict_of : Finding → List ℕ → Verdict
verdict_of finding text = record { auto = finding.auto; reason = finding.reason; evidence = brief text }

-- the finding with a text that may be absent; then the evidence is empty
abbrev pub verdict_on : Finding → Option (List ℕ) → Verdict
verdict_on finding text = verdict_of finding (unwrap_or text [])
