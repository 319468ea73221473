-- `text::price_line` meets its contract: the pattern of a price, between the letter and the line's end. Assumes nothing.
use Rattle.std.proofs.Common.{append_assoc}
use Rattle.xdr_sheet.specs.Text.{price_fields, price_line}
use Rattle.xdr_sheet.proofs.text.price_line.Goals as goal

pub returns-in-Ok : goal.returns-in-Ok
unfolding price_line price_fields
returns-in-Ok c = simp (
  c.in-Ok.is,
  c.bytes-in-Ok.ensures,
  c.hexadecimal.ensures.text,
  c.pattern.ensures,
  c.bytes.ensures,
  c.numbered-line.ensures.text,
  c.number.ensures,
  append_assoc,
)
