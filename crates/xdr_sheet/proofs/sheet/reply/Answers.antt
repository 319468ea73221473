-- `sheet::reply` meets its contract: the sheet's size and the index pick the case. Assumes nothing.
use Rattle.std.proofs.Common.{ap, ◌∙◌, arith}
use Rattle.xdr_sheet.specs.Sheet.{replied}
use Rattle.xdr_sheet.specs.Laws.Sheet.{quote_within, quote_there, quote_past, size_count}
use Rattle.xdr_sheet.proofs.sheet.reply.Goals as goal

pub overflow_cast-at : goal.overflow_cast-at
overflow_cast-at c = omega (arith, size_count _ _ c.in-Ok.ensures, c.if-index-count.true)

pub quote-requires : goal.quote-requires
quote-requires c = quote_within _ _ c.args.index c.in-Ok.ensures c.if-index-count.true

pub returns-in-Ok : goal.returns-in-Ok
returns-in-Ok c = ap replied c.quote.ensures ∙ quote_there _ _ c.args.index c.in-Ok.ensures c.if-index-count.true

pub returns-in-Ok-2 : goal.returns-in-Ok-2
returns-in-Ok-2 c = quote_past _ _ c.args.index c.in-Ok.ensures c.if-index-count.false
