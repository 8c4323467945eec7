use Rattle.std.proofs.Common.{◌≡◌, ◌++◌, drop}
use Rattle.snap_json.specs.Tokens.{list_tokens}
use Rattle.snap_json.specs.Written.{attr_data}
use Rattle.snap_json.proofs.writing.put_attrs.Given as goal

abbrev pub invariant-loop-attr : goal.invariant-loop-attr
invariant-loop-attr l = record {
  before : l.writer.before ≡ l.initial.writer.before;
  tokens : l.writer.tokens ++ list_tokens attr_data (drop l.attr-index l.attrs) ≡ l.initial.writer.tokens ++ list_tokens attr_data l.attrs;
}
