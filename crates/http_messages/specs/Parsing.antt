-- A field by the places of its parts in a buffer.
use Rattle.std.specs.Prelude.{ℕ, List}
use Rattle.httparse.specs.Spans.{span_bytes}
use Rattle.httparse.specs.declared.spans.HeaderSpan.{HeaderSpan}
use Rattle.http_messages.specs.declared.head.Field.{Field}

-- the field whose name and value lie there
abbrev pub field_at : List ℕ → HeaderSpan → Field
field_at block span = record { name = span_bytes block span.name; value = span_bytes block span.value }
