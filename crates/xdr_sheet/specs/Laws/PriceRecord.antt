-- The numbers of records run out: after each fewer are left. Assumes nothing.
use Rattle.std.specs.Prelude.{◌≡◌, ◌<◌, T, ltb, Some}
use Rattle.std.proofs.Common.{subst, sym, arith, ltb→lt}
use Rattle.arithmetic.specs.Laws.Choices.{by_test}
use Rattle.xdr_sheet.specs.PriceRecord.{Numbered, last_number, number_after, numbers_left}
use Rattle.xdr_sheet.specs.declared.price_record.RecordNumber.{RecordNumber}

pub numbers_fall : (n : RecordNumber) (r : Numbered) → r ≡ number_after n → numbers_left r < numbers_left (Some n)
unfolding number_after
numbers_fall n r e =
    subst (λ (z : Numbered). numbers_left z < numbers_left (Some n)) (sym e)
    (by_test (λ (z : Numbered). numbers_left z < numbers_left (Some n)) (ltb n.number last_number)
    (λ t. let h = ltb→lt n.number last_number (subst T (sym t) tt) in omega arith) (λ t. omega arith))
