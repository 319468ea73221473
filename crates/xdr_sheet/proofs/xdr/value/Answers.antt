-- `xdr::value` meets its contract: the test is the one that tells the patterns of NaN. Assumes nothing.
use mathlib.Core.Path.{sym, ◌∙◌, subst}
use mathlib.Core.Bool.{Bool, not}
use borrow.Author.Tests.{lt-ltb, le-ltb}
use lib.Dec.{T}
use lib.Ieee.{binary64, of_bits}
use lib.Ieee.Bits.{nan_bits_is, nan_bits_above}
use Rattle.xdr_sheet.proofs.Patterns.{nan_is, tested_nan}
use Rattle.xdr_sheet.proofs.xdr.value.Goals as goal

pub returns-then-bits-gt-INFINITY : goal.returns-then-bits-gt-INFINITY
returns-then-bits-gt-INFINITY c = let bits = c.args.bits in
    nan_is
    ∙ sym (tested_nan (of_bits binary64 bits)
    (sym (nan_bits_is binary64 bits) ∙ nan_bits_above binary64 bits ∙ lt-ltb _ _ c.if-bits-gt-INFINITY.true))

pub float_from_bits-result : goal.float_from_bits-result
float_from_bits-result c = let bits = c.args.bits in
    subst (λ (t : Bool). T (not t)) (sym (nan_bits_above binary64 bits ∙ le-ltb _ _ c.if-bits-gt-INFINITY.false)) tt
