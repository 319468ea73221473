-- Replies of a quote with a factor (REQUIREMENTS 14.7), as the definition computes them: which refusal comes first, what the divided price gives, quotients
-- that overflow and that round to zero. Assumes nothing.
use Rattle.std.specs.Prelude.{◌≡◌, refl, Float}
use Rattle.std.specs.Float.{nan}
use Rattle.std.specs.Float.Ieee.{sub, mul, div, neg, lt, le, eq, is_nan, of_bits}
use Rattle.arithmetic.specs.Operations.{◌⊗◌, ◌⊘◌, bits, plus_zero, half, one, two, infinity}
use Rattle.arithmetic.specs.Basic.{max}
use Rattle.arithmetic.specs.Sqrt.{sqrt}
use Rattle.explicit_black.specs.Quote.{answer, refusal, volatility_over, from_time_value, from_price}
use Rattle.explicit_black.specs.Discount.{discounted_refusal, from_discounted_quote, implied_black_volatility_discounted}

abbrev ten : Float
ten = bits 0x4024_0000_0000_0000

abbrev twenty : Float
twenty = bits 0x4034_0000_0000_0000

abbrev fifty : Float
fifty = bits 0x4049_0000_0000_0000

abbrev above_fifty : Float
above_fifty = bits 0x4049_0000_0000_0001

abbrev hundred : Float
hundred = bits 0x4059_0000_0000_0000

abbrev hundred_twenty : Float
hundred_twenty = bits 0x405E_0000_0000_0000

abbrev minus_zero : Float
minus_zero = bits 0x8000_0000_0000_0000

abbrev least : Float
least = bits 1

abbrev largest : Float
largest = bits 0x7FEF_FFFF_FFFF_FFFF

-- side, price, forward, strike, time, factor
pub record DiscountExamples : Type 0 where
  -- the first refusal that applies; in all but the last two a later test would refuse too
  pub side_first : implied_black_volatility_discounted 2 one plus_zero hundred (neg one) nan ≡ refusal 1 0
  pub nan_second : implied_black_volatility_discounted 0 one plus_zero hundred (neg one) nan ≡ refusal 2 0
  pub infinite_second : implied_black_volatility_discounted 1 one plus_zero hundred one (neg infinity) ≡ refusal 2 0
  pub forward_third : implied_black_volatility_discounted 0 one plus_zero hundred (neg one) plus_zero ≡ refusal 3 0
  pub time_fourth : implied_black_volatility_discounted 0 one hundred hundred_twenty (neg one) plus_zero ≡ refusal 4 0
  pub factor_before_five : implied_black_volatility_discounted 0 ten hundred_twenty hundred plus_zero (neg one) ≡ refusal 15 0
  pub factor_before_six : implied_black_volatility_discounted 0 hundred_twenty hundred hundred_twenty one plus_zero ≡ refusal 15 0
  pub factor_minus_zero : implied_black_volatility_discounted 0 plus_zero hundred hundred_twenty one minus_zero ≡ refusal 15 0
  pub factor_below_zero : implied_black_volatility_discounted 0 plus_zero hundred hundred_twenty one (neg half) ≡ refusal 15 0
  -- the divided price: 50 / 0.5 and 200 / 2 are the forward, and one unit above 50 divides to one above the forward
  pub at_bound : implied_black_volatility_discounted 0 fifty hundred hundred_twenty one half ≡ answer infinity infinity 0
  pub above_bound : implied_black_volatility_discounted 0 above_fifty hundred hundred_twenty one half ≡ refusal 6 0
  pub at_bound_by_two : implied_black_volatility_discounted 0 (bits 0x4069_0000_0000_0000) hundred hundred_twenty one two ≡ answer infinity infinity 0
  -- one rounding: 97 / 0.97 is 100; 1 / 0.97 rounded and times 97 rounded would be above it
  pub rounded_once : implied_black_volatility_discounted 0 (bits 0x4058_4000_0000_0000) hundred hundred_twenty one (bits 0x3FEF_0A3D_70A3_D70A)
      ≡ answer infinity infinity 0
  pub rounded_twice : bits 0x4058_4000_0000_0000 ⊗ (one ⊘ bits 0x3FEF_0A3D_70A3_D70A) ≡ bits 0x4059_0000_0000_0001
  -- at time zero 10 / 0.5 is the intrinsic value, and 20 / 0.5 is not
  pub expired : implied_black_volatility_discounted 0 ten hundred_twenty hundred plus_zero half ≡ answer plus_zero plus_zero 0
  pub expired_undivided : implied_black_volatility_discounted 0 twenty hundred_twenty hundred plus_zero half ≡ refusal 5 0
  -- quotients that overflow
  pub overflow_expired : implied_black_volatility_discounted 1 largest hundred hundred plus_zero half ≡ refusal 5 0
  pub overflow_above : implied_black_volatility_discounted 1 largest hundred hundred one half ≡ refusal 6 0
  pub overflow_below : implied_black_volatility_discounted 1 (neg largest) hundred hundred one half ≡ refusal 7 0
  pub overflow_below_expired : implied_black_volatility_discounted 0 (neg largest) hundred hundred minus_zero half ≡ refusal 5 0
  -- 2 ^ -1074 / 2 rounds to 0, and the price below 0 to minus zero, which is not below 0
  pub underflow : implied_black_volatility_discounted 0 least hundred hundred one two ≡ answer plus_zero plus_zero 0
  pub underflow_below : implied_black_volatility_discounted 0 (neg least) hundred hundred one two ≡ answer plus_zero plus_zero 0

pub discount_examples : DiscountExamples
unfolding implied_black_volatility_discounted from_discounted_quote discounted_refusal from_price from_time_value volatility_over sqrt max
    sub mul div neg lt le eq is_nan of_bits
discount_examples = record {
  side_first = refl;
  nan_second = refl;
  infinite_second = refl;
  forward_third = refl;
  time_fourth = refl;
  factor_before_five = refl;
  factor_before_six = refl;
  factor_minus_zero = refl;
  factor_below_zero = refl;
  at_bound = refl;
  above_bound = refl;
  at_bound_by_two = refl;
  rounded_once = refl;
  rounded_twice = refl;
  expired = refl;
  expired_undivided = refl;
  overflow_expired = refl;
  overflow_above = refl;
  overflow_below = refl;
  overflow_below_expired = refl;
  underflow = refl;
  underflow_below = refl;
}
