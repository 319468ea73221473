-- `text::answer_line` meets its contract: two patterns and the count, between the letter, spaces and the line's end. Assumes nothing.
use Rattle.std.proofs.Common.{append_assoc}
use Rattle.xdr_sheet.specs.Text.{answer_fields, line}
use Rattle.xdr_sheet.proofs.text.answer_line.Goals as goal

pub returns : goal.returns
unfolding line answer_fields
returns c = simp (
  c.bytes-4.ensures,
  c.decimal.ensures.text,
  c.bytes-3.ensures,
  c.hexadecimal-2.ensures.text,
  c.pattern-2.ensures,
  c.bytes-2.ensures,
  c.hexadecimal.ensures.text,
  c.pattern.ensures,
  c.bytes.ensures,
  c.numbered-line.ensures.text,
  append_assoc,
)
