-- Replies of the price entry (REQUIREMENTS 14.1), as the definition computes them: which refusal comes first, and what s = 0 gives. Assumes nothing.
use Rattle.std.specs.Prelude.{◌≡◌, refl, Float}
use Rattle.std.specs.Float.{nan}
use Rattle.std.specs.Float.Ieee.{sub, mul, neg, lt, eq, of_bits}
use Rattle.arithmetic.specs.Operations.{bits, plus_zero, one, infinity}
use Rattle.arithmetic.specs.Sqrt.{sqrt}
use Rattle.explicit_black.specs.Quote.{first_refusal}
use Rattle.explicit_black.specs.Price.{price, refusal, price_refusal, price_of, black_price}

abbrev fifth : Float
fifth = bits 0x3FC9_9999_9999_999A

abbrev twenty : Float
twenty = bits 0x4034_0000_0000_0000

abbrev hundred : Float
hundred = bits 0x4059_0000_0000_0000

abbrev hundred_twenty : Float
hundred_twenty = bits 0x405E_0000_0000_0000

abbrev minus_zero : Float
minus_zero = bits 0x8000_0000_0000_0000

-- side, volatility, forward, strike, time
pub record PriceExamples : Type 0 where
  -- the first refusal that applies; in all but the last a later test would refuse too
  pub side_first : black_price 2 nan plus_zero hundred (neg one) ≡ refusal 1 0
  pub nan_second : black_price 0 nan plus_zero hundred (neg one) ≡ refusal 2 0
  pub infinite_second : black_price 1 (neg infinity) hundred hundred one ≡ refusal 2 0
  pub infinite_time : black_price 1 (neg one) hundred hundred infinity ≡ refusal 2 0
  pub forward_third : black_price 0 (neg one) plus_zero hundred (neg one) ≡ refusal 3 0
  pub time_fourth : black_price 0 (neg one) hundred hundred (neg one) ≡ refusal 4 0
  pub volatility_last : black_price 0 (neg one) hundred hundred one ≡ refusal 11 0
  -- a volatility of -0 is not below 0; s = -0 is 0
  pub minus_zero_lem : black_price 0 minus_zero hundred_twenty hundred one ≡ price twenty
  -- s = 0 by the volatility and by the time, with an intrinsic value above, below and equal to 0
  pub no_volatility : black_price 1 plus_zero hundred hundred_twenty one ≡ price twenty
  pub no_time : black_price 0 fifth hundred_twenty hundred plus_zero ≡ price twenty
  pub out_of_the_money : black_price 0 fifth hundred hundred_twenty minus_zero ≡ price plus_zero
  pub at_the_money_lem : black_price 1 minus_zero hundred hundred one ≡ price plus_zero

pub price_examples : PriceExamples
unfolding black_price price_refusal first_refusal price_of sqrt sub mul neg lt eq of_bits
price_examples = record {
  side_first = refl;
  nan_second = refl;
  infinite_second = refl;
  infinite_time = refl;
  forward_third = refl;
  time_fourth = refl;
  volatility_last = refl;
  minus_zero_lem = refl;
  no_volatility = refl;
  no_time = refl;
  out_of_the_money = refl;
  at_the_money_lem = refl;
}
