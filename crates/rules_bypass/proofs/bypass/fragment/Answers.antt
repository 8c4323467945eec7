use Rattle.std.proofs.Common.{arith}
use Rattle.std.proofs.lemmas.Str.Pattern.{strip_prefix_char}
use Rattle.rules_bypass.proofs.Fragments.{fragment_is}
use Rattle.rules_bypass.proofs.bypass.fragment.Goals as goal

pub returns : goal.returns
returns c = fragment_is c.args.href.now c.strip_prefix.result (strip_prefix_char 35 c.args.href.now c.strip_prefix.result c.strip_prefix.ensures.cases (omega arith))
