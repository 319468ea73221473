-- The ten keystrokes of REQUIREMENTS 12.1, as one theorem about the definitions, proved by computing them. Assumes nothing.
use Rattle.std.specs.Prelude.{◌≡◌, refl, Float}
use Rattle.std.specs.Float.{nan}
use Rattle.std.specs.Float.Ieee.{add, sub, mul, div, lt, le, eq, is_nan, of_bits}
use Rattle.arithmetic.specs.Operations.{bits, plus_zero, one, two, infinity}
use Rattle.arithmetic.specs.Basic.{max, trunc, mul_add2_sel}
use Rattle.arithmetic.specs.Sqrt.{sqrt}
use Rattle.arithmetic.specs.MulAdd.{mul_add}
use Rattle.arithmetic.specs.Exp.{exp}
use Rattle.arithmetic.specs.Ln.{ln}
use Rattle.bs_option_price.specs.BsOptionPrice.{normalised_black}
use Rattle.explicit_black.specs.Quote.{answer, refusal, volatility_over, first_refusal, from_time_value, from_price, from_quote, implied_black_volatility_input}

abbrev five : Float
five = bits 0x4014_0000_0000_0000

abbrev twenty : Float
twenty = bits 0x4034_0000_0000_0000

abbrev hundred : Float
hundred = bits 0x4059_0000_0000_0000

abbrev hundred_twenty : Float
hundred_twenty = bits 0x405E_0000_0000_0000

-- 1 + 2 ^ -30 and 1 - 2 ^ -30
abbrev above : Float
above = bits 0x3FF0_0000_0040_0000

abbrev below : Float
below = bits 0x3FEF_FFFF_FF80_0000

pub record Keystrokes : Type 0 where
  -- √4 is 2, and √(2 ^ -1074) is 2 ^ -537
  pub root_of_four : sqrt (bits 0x4010_0000_0000_0000) ≡ two
  pub root_of_least : sqrt (bits 1) ≡ bits 0x1E60_0000_0000_0000
  -- fused, (1 + 2 ^ -30)(1 - 2 ^ -30) - 1 is -2 ^ -60; two roundings give 0
  pub fused : mul_add above below (bits 0xBFF0_0000_0000_0000) ≡ bits 0xBC30_0000_0000_0000
  pub rounded_twice : mul_add2_sel above below (bits 0xBFF0_0000_0000_0000) ≡ plus_zero
  -- truncating -0.5 gives -0
  pub truncated : trunc (bits 0xBFE0_0000_0000_0000) ≡ bits 0x8000_0000_0000_0000
  pub exp_of_zero : exp plus_zero ≡ one
  pub ln_of_one : ln one ≡ plus_zero
  pub max_of_nan : max nan plus_zero ≡ plus_zero
  -- the normalised price at t = 0
  pub black_at_zero : (x h : Float) → normalised_black x h plus_zero ≡ plus_zero
  -- the three quotes of the sheet in REQUIREMENTS 11.4, and one at time zero: side, price, forward, strike, time
  pub price_of_zero : implied_black_volatility_input 0 plus_zero hundred hundred_twenty one ≡ answer plus_zero plus_zero 0
  pub price_at_bound : implied_black_volatility_input 0 hundred hundred hundred_twenty one ≡ answer infinity infinity 0
  pub price_below_intrinsic : implied_black_volatility_input 1 five hundred hundred_twenty one ≡ refusal 7 0
  pub expired : implied_black_volatility_input 0 twenty hundred_twenty hundred plus_zero ≡ answer plus_zero plus_zero 0

pub keystrokes : Keystrokes
unfolding sqrt mul_add trunc exp ln max normalised_black implied_black_volatility_input from_quote first_refusal from_price from_time_value volatility_over
    add sub mul div lt le eq is_nan of_bits
keystrokes = record {
  root_of_four = refl;
  root_of_least = refl;
  fused = refl;
  rounded_twice = refl;
  truncated = refl;
  exp_of_zero = refl;
  ln_of_one = refl;
  max_of_nan = refl;
  black_at_zero = λ x h. refl;
  price_of_zero = refl;
  price_at_bound = refl;
  price_below_intrinsic = refl;
  expired = refl;
}
