-- The laws by which the tests of a sheet's size, and of what it replies, pick the case of a definition.
use Rattle.xdr_sheet.specs.Laws.Sheet.{size_short, size_many, size_whole, size_other, quote_below}
use Rattle.xdr_sheet.specs.Laws.Printing.{step_refused, step_last, step_quote}

pub ruleset size_cases = (size_short, size_many, size_whole, size_other)

pub ruleset step_cases = (quote_below, step_refused, step_last, step_quote)
