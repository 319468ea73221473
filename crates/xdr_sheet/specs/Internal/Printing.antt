-- What the code's kinds of lines, and its structs for a line and for a filled buffer, stand for in the types of the definitions. Definitions only.
use Prim.Native.Char.{code}
use Rattle.std.specs.Prelude.{ℕ, List}
use Rattle.xdr_sheet.specs.Printing.{Step, FilledBuffer}
use Rattle.xdr_sheet.specs.Internal.Lines.{written}
use Rattle.xdr_sheet.specs.declared.printing.LineKind.{LineKind}
use Rattle.xdr_sheet.specs.declared.printing.LineKind.TheVariants.{Answer, Refusal, Tally, RefusedSheet}
use Rattle.xdr_sheet.specs.declared.printing.Printed.{Printed}
use Rattle.xdr_sheet.specs.declared.printing.Filled.{Filled}

-- the letter of a line of each kind
abbrev pub view_kind : LineKind → ℕ
view_kind Answer = code "V"
view_kind Refusal = code "R"
view_kind Tally = code "T"
view_kind RefusedSheet = code "S"

abbrev pub view_printed : Printed → Step
view_printed r = record { text = written r.line; letter = view_kind r.kind; next = r.next }

-- with the buffer after the call
abbrev pub view_filled : Filled → List ℕ → FilledBuffer
view_filled r buffer = record { count = r.count; next = r.next; buffer = buffer }
