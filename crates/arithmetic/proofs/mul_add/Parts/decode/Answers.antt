-- `Parts::decode` meets its contract: a law of `MulAddDecode` for a subnormal value, and one for any other. Assumes nothing.
use Rattle.std.proofs.Common.{T, ℤ, negsuc, ◌+ℤ◌, sym, ap, ◌∙◌, w16, of_z}
use denote.Floats.{passes}
use lib.Ieee.{binary64, fits}
use Rattle.arithmetic.specs.Laws.Numbers.{false_not}
use Rattle.arithmetic.specs.Laws.Compare.{finite_no_nan}
use Rattle.arithmetic.proofs.MulAddDecode.{read_subnormal, read_normal}
use Rattle.arithmetic.proofs.mul_add.Parts.decode.Goals as goal

pub float_to_bits-bits : goal.float_to_bits-bits
float_to_bits-bits c = false_not _ (finite_no_nan c.args.x c.requires)

pub returns-then-field-eq0 : goal.returns-then-field-eq0
returns-then-field-eq0 c =
    let in_format : T (fits binary64 c.args.x) = passes _ c.well_formed.0.1 in
    (read_subnormal c.args.x in_format c.requires (sym (ap (of_z w16) c.field-field.ensures) ∙ c.if-field-eq0.true)).value

pub invariant_of-result-2 : goal.invariant_of-result-2
invariant_of-result-2 c =
    let in_format : T (fits binary64 c.args.x) = passes _ c.well_formed.0.1 in
    let field_is = c.field-field.ensures in
    let read = read_normal c.args.x in_format c.requires (λ e. c.if-field-eq0.false (ap (of_z w16) field_is ∙ e))
    c.sum.result.value (c.sum.ensures ∙ ap (λ (z : ℤ). z +ℤ negsuc 1074) field_is) in
    record { small = read.small; exponent = read.exponent; lead = read.lead }

pub returns : goal.returns
returns c =
    let in_format : T (fits binary64 c.args.x) = passes _ c.well_formed.0.1 in
    let field_is = c.field-field.ensures in
    (read_normal c.args.x in_format c.requires (λ e. c.if-field-eq0.false (ap (of_z w16) field_is ∙ e))
    c.sum.result.value (c.sum.ensures ∙ ap (λ (z : ℤ). z +ℤ negsuc 1074) field_is)).value
