use Rattle.std.proofs.Common.{sym, ◌∙◌, ap}
use Rattle.texts.specs.Words.{blank}
use Rattle.texts.proofs.Spaces.{blank-ascii}
use Rattle.texts.proofs.words.blank.Goals as goal

pub returns-then-has_ascii_space_alone : goal.returns-then-has_ascii_space_alone
returns-then-has_ascii_space_alone c =
    let all = blank-ascii c.as_str.result.now (sym c.has_ascii_space_alone.ensures ∙ c.if-has_ascii_space_alone.true) in
    c.if-has_ascii_space_alone.true ∙ sym (sym (ap blank c.as_str.ensures) ∙ all)
