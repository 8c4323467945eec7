use Rattle.reports.proofs.table.push_row_of.Goals as goal

pub returns : goal.returns
returns g c =
    rw (
      c.as_bytes.ensures.value,
      c.as_str.ensures,
      c.as_bytes-2.ensures.value,
      c.as_str-2.ensures,
      c.as_bytes-3.ensures.value,
      c.format.ensures.text,
      c.as_bytes-4.ensures.value,
      c.format-2.ensures.text,
      c.as_slice.ensures,
      c.as_bytes-5.ensures.value,
      c.outcome_word.ensures.word,
      c.as_bytes-6.ensures.value,
      c.outcome_word-2.ensures.word,
      c.as_bytes-7.ensures.value,
      c.word.ensures,
      c.as_bytes-8.ensures.value,
      c.as_str-3.ensures,
    )
    at c.push_fields.ensures
