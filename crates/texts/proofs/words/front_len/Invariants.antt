use Rattle.std.proofs.Common.{◌≡◌, ◌+◌, length, drop}
use Rattle.std.specs.Prelude.{encode_utf8_all}
use Rattle.std.specs.Str.{chars}
use Rattle.texts.specs.Words.{front, front_len}
use Rattle.texts.proofs.words.front_len.Given as goal

abbrev pub invariant-loop-c : goal.invariant-loop-c
invariant-loop-c l =
    l.len + length (encode_utf8_all (front (drop (length l.yielded) (chars l.text)))) ≡ front_len l.text
