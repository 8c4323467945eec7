use Rattle.json_parts.proofs.Fronts.{key_first}
use Rattle.json_parts.proofs.front.after_key.Goals as goal

pub returns : goal.returns
returns c =
    key_first c.args.key.now c.as_bytes.result.now c.args.text.now c.after_spaces.result.now c.in_ok-quoted.quoted.now c.in_ok-closing.closing.now c.after_bytes-3.result c.requires c.as_bytes.ensures.value c.as_bytes.ensures.utf8 c.after_spaces.ensures
    c.in_ok-quoted.ensures c.in_ok-closing.ensures c.after_bytes-3.ensures
