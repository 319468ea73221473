-- `xdr::hyper` meets its contract: two words where their bytes are all there, and 0 where not. Assumes nothing.
use Rattle.xdr_sheet.proofs.Words.{hyper_is}
use Rattle.xdr_sheet.proofs.xdr.hyper.Goals as goal

pub returns : goal.returns
returns c = hyper_is _ _ _ (rw c.bytes_at.ensures at c.map_or.ensures)
