-- Values at Cody's cuts, which are inclusive below, and at the ends, as antt computes them and as the Rust has them. Assumes nothing.
use Rattle.std.specs.Prelude.{◌≡◌, refl}
use Rattle.std.specs.Float.Ieee.{add, sub, mul, div, neg, lt, le, of_bits}
use Rattle.arithmetic.specs.Operations.{bits, plus_zero, max_finite}
use Rattle.arithmetic.specs.Basic.{abs, trunc}
use Rattle.arithmetic.specs.Exp.{exp}
use Rattle.special_function.specs.Polynomial.{evaluate}
use Rattle.special_function.specs.ErrorFunction.{
  ab,
  cd,
  pq,
  smoothened_exponential_of_negative_square,
  smoothened_exponential_of_positive_square,
  threshold,
  four,
  xbig,
  xneg,
  erfcx_cody_above_threshold,
  erfc_above_threshold,
  erfc_cody,
  erfcx_cody,
}

-- the formula of the range above either cut would end in another hexadecimal digit there: in C, and in 4
pub cuts : (erfcx_cody threshold ≡ bits 0x3FE4_39EA_3683_D4CD) × (erfcx_cody four ≡ bits 0x3FC1_8932_BF08_E155)
unfolding erfcx_cody erfcx_cody_above_threshold ab cd pq evaluate exp abs add sub mul div neg lt le of_bits
cuts = (refl, refl)

-- erfc is 0 from 26.543 up and not at the value before it; erfcx is the largest finite value below XNEG and less at XNEG
pub ends : (erfc_cody xbig ≡ plus_zero)
    × (erfc_cody (bits 0x403A_8B02_0C49_BA5D) ≡ bits 0x0010_38A0_55F6_D6BA)
    × (erfcx_cody xneg ≡ bits 0x7FEF_FFFF_FFFF_5840)
    × (erfcx_cody (bits 0xC03A_A0F4_D2E0_63B6) ≡ max_finite)
unfolding erfc_cody erfcx_cody erfc_above_threshold erfcx_cody_above_threshold smoothened_exponential_of_negative_square smoothened_exponential_of_positive_square
    ab cd pq evaluate exp trunc abs add sub mul div neg lt le of_bits
ends = (refl, refl, refl, refl)
