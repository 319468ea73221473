-- `xdr::unsigned` meets its contract: a word where its bytes are all there, and 0 where not. Assumes nothing.
use Rattle.xdr_sheet.proofs.Words.{unsigned_is}
use Rattle.xdr_sheet.proofs.xdr.unsigned.Goals as goal

pub returns : goal.returns
returns c = unsigned_is _ _ _ (rw c.bytes_at.ensures at c.map_or.ensures)
