-- `Guarded::pack` meets its contract, by `packed`. Assumes nothing.
use Rattle.std.proofs.Common.{◌≡◌, ℕ, ◌+◌, ◌^◌, cond, ap, ◌∙◌, arith}
use Rattle.std.proofs.lemmas.Int.{ints}
use lib.Ieee.{binary64, units, of_bits}
use lib.Ieee.Nearest.{closest}
use Rattle.arithmetic.specs.Internal.Exponent.{above}
use Rattle.arithmetic.proofs.Exponents.{counted}
use Rattle.arithmetic.proofs.MulAddPack.{packed}
use Rattle.arithmetic.proofs.mul_add.Guarded.pack.Goals as goal

pub returns : goal.returns
returns c =
    let g = c.args.self in
    let d : c.distance.result ≡ above 1074 c.args.self.k.value = omega (arith, ints, c.distance.ensures.0, (counted c.args.self.exponent).0) in
    let bits = packed g.m c.distance.result c.round.result g.short (omega (arith, d, (counted g.exponent).1)) (λ h. g.lead (omega (arith, h, d))) c.round.ensures in
    c.with_sign.ensures
    ∙ ap (λ (x : ℕ). of_bits binary64 (cond c.args.negative (2 ^ 63) 0 + x)) c.min.ensures
    ∙ bits.value c.args.negative
    ∙ ap (units binary64 c.args.negative (closest g.m 4)) d
