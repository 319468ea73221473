-- Pairs of prices for the law of 4 ^ n (REQUIREMENTS 14.1), computed; and why it says 4 ^ n, and above 2 ^ -1022, and that of the time values
-- too: pairs that meet its terms but one, which is weakened, and whose prices do not scale, by computation. The bits are the Rust's. Assumes nothing.
use Rattle.std.specs.Prelude.{◌≡◌, refl, ℕ, pos, T, Float}
use Rattle.std.proofs.Common.{inl, lit≤}
use Rattle.std.specs.Float.Ieee.{add, sub, mul, div, neg, lt, le, eq, is_nan, of_bits}
use Rattle.std.specs.Float.Ieee.Fits.{eq→eqb}
use Rattle.std.specs.Float.Ieee.Scale.{finite}
use Rattle.arithmetic.specs.Operations.{◌⊗◌, bits, one, two, min_positive}
use Rattle.arithmetic.specs.Basic.{abs, max, min}
use Rattle.arithmetic.specs.Sqrt.{sqrt}
use Rattle.arithmetic.specs.Exp.{exp}
use Rattle.arithmetic.specs.Ln.{ln, ln1p}
use Rattle.arithmetic.specs.Laws.Times.{Times}
use Rattle.special_function.specs.ErrorFunction.{ab, cd, pq, smoothened_exponential_of_negative_square}
use Rattle.special_function.specs.ErrorFunction.{erfcx_cody_above_threshold, erfc_above_threshold, erfc_cody, erfcx_cody}
use Rattle.special_function.specs.Polynomial.{evaluate, nested}
use Rattle.bs_option_price.specs.BsOptionPrice.{is_region1, is_region2, normalised_vega, normalised_black, negative_abs_log_moneyness}
use Rattle.bs_option_price.specs.BsOptionPrice.{y_prime_tail_expansion_rational_function_part_plus1, y_prime_middle, y_prime, b1, b2, b}
use Rattle.bs_option_price.specs.BsOptionPrice.{small_t_expansion_of_scaled_normalised_black, two_b}
use Rattle.bs_option_price.specs.BsOptionPrice.{normalised_black_with_optimal_use_of_codys_functions_impl, normalised_black_with_optimal_use_of_codys_functions}
use Rattle.explicit_black.specs.Quote.{first_refusal}
use Rattle.explicit_black.specs.Price.{PriceReply, price, price_refusal, time_value, price_of, black_price, BothAboveOrZero}
use Rattle.explicit_black.specs.Demand.{Exactly, ComparablePair}
use Rattle.explicit_black.specs.Laws.Powers.{comparable_pair, times_two, exactly_at_one}

-- ---- the price at time 1, and its time value, ready to be computed
unfoldable pub price_at_one : ℕ → Float → Float → Float → PriceReply
unfolding black_price price_refusal first_refusal price_of time_value normalised_black is_region1 is_region2 normalised_vega negative_abs_log_moneyness
    small_t_expansion_of_scaled_normalised_black y_prime y_prime_middle y_prime_tail_expansion_rational_function_part_plus1 b1 b2 b
    normalised_black_with_optimal_use_of_codys_functions normalised_black_with_optimal_use_of_codys_functions_impl two_b
    erfc_cody erfcx_cody erfc_above_threshold erfcx_cody_above_threshold smoothened_exponential_of_negative_square ab cd pq evaluate nested
    sqrt exp ln ln1p max min abs add sub mul div neg lt le eq is_nan of_bits
price_at_one side volatility forward strike = black_price side volatility forward strike one

abbrev value_at_one : Float → Float → Float → Float
value_at_one volatility forward strike = time_value forward strike (volatility ⊗ sqrt one)

-- ---- the law at a pair: volatility 0.2 with forward 100 and strike 110, and with 400 and 440
abbrev pub fifth : ℕ
fifth = 0x3FC9_9999_9999_999A

abbrev pub hundred : ℕ
hundred = 0x4059_0000_0000_0000

abbrev pub hundred_ten : ℕ
hundred_ten = 0x405B_8000_0000_0000

abbrev pub four_hundred : ℕ
four_hundred = 0x4079_0000_0000_0000

abbrev pub four_hundred_forty : ℕ
four_hundred_forty = 0x407B_8000_0000_0000

-- 4.292010941409889 and 17.168043765639556; with the factors of the time value in another order both end in another digit
pub calls_priced : (price_at_one 0 (bits fifth) (bits hundred) (bits hundred_ten) ≡ price (bits 0x4011_2B04_EA8D_B7F5))
    × (price_at_one 0 (bits fifth) (bits four_hundred) (bits four_hundred_forty) ≡ price (bits 0x4031_2B04_EA8D_B7F5))
unfolding price_at_one
calls_priced = (refl, refl)

-- 14.292010941409888 and 57.16804376563955
pub puts_priced : (price_at_one 1 (bits fifth) (bits hundred) (bits hundred_ten) ≡ price (bits 0x402C_9582_7546_DBFA))
    × (price_at_one 1 (bits fifth) (bits four_hundred) (bits four_hundred_forty) ≡ price (bits 0x404C_9582_7546_DBFA))
unfolding price_at_one
puts_priced = (refl, refl)

-- ---- Two calls at time 1 whose prices p and p' do not scale, although they meet the terms of the law with `Scaled` for exactly 4 ^ n times, and with
-- `Value` and `Amount` for what is asked of the time values and of the prices.
pub record Unscaled (Scaled Value Amount : Float → Float → Type 0) (volatility f k f' k' p p' : Float) : Type 0 where
  pub first_comparable : ComparablePair f k
  pub second_comparable : ComparablePair f' k'
  pub forward_scaled : Scaled f f'
  pub strike_scaled : Scaled k k'
  pub first_price_lem : price_at_one 0 volatility f k ≡ price p
  pub second_price_lem : price_at_one 0 volatility f' k' ≡ price p'
  pub values : Value (value_at_one volatility f k) (value_at_one volatility f' k')
  pub prices : Amount p p'
  pub not_scaled : Scaled p p' → ⊥

-- ---- with 2 in place of 4 ^ n: volatility 0.2 at the money, forward 2, and 4
pub doubled_price_differs : Unscaled (Times 1) BothAboveOrZero BothAboveOrZero (bits fifth) two two
    (bits 0x4010_0000_0000_0000) (bits 0x4010_0000_0000_0000)
    (bits 0x3FC4_6450_7526_8710) (bits 0x3FD4_6450_7526_870F)
unfolding price_at_one
doubled_price_differs = record {
  first_comparable = comparable_pair _ _ tt tt tt tt (lit≤ tt) (lit≤ tt);
  second_comparable = comparable_pair _ _ tt tt tt tt (lit≤ tt) (lit≤ tt);
  forward_scaled = times_two _ _ tt tt refl refl;
  strike_scaled = times_two _ _ tt tt refl refl;
  first_price_lem = refl;
  second_price_lem = refl;
  values = record { first_finite = tt; second_finite = tt; above_or_zero = inl (tt, tt) };
  prices = record { first_finite = tt; second_finite = tt; above_or_zero = inl (tt, tt) };
  not_scaled = λ h. eq→eqb h.value;
}

-- ---- with at least 2 ^ -1022 in place of above: volatility 17, forward 2 ^ -1022 and the strike one unit above it. The exact time value is below
-- 2 ^ -1022 and rounds up to it; 4 times that rounds to the unit below 2 ^ -1020.
pub record BothAtLeast (v v' : Float) : Type 0 where
  pub first_finite : T (finite v)
  pub second_finite : T (finite v')
  pub at_least : T (le min_positive v) × T (le min_positive v')

abbrev seventeen : Float
seventeen = bits 0x4031_0000_0000_0000

pub least_price_differs : Unscaled (Exactly (pos 1)) BothAtLeast BothAtLeast seventeen min_positive (bits 0x0010_0000_0000_0001)
    (bits 0x0030_0000_0000_0000) (bits 0x0030_0000_0000_0001) min_positive (bits 0x002F_FFFF_FFFF_FFFF)
unfolding price_at_one
least_price_differs = record {
  first_comparable = comparable_pair _ _ tt tt tt tt (lit≤ tt) (lit≤ tt);
  second_comparable = comparable_pair _ _ tt tt tt tt (lit≤ tt) (lit≤ tt);
  forward_scaled = exactly_at_one _ _ tt tt refl refl;
  strike_scaled = exactly_at_one _ _ tt tt refl refl;
  first_price_lem = refl;
  second_price_lem = refl;
  values = record { first_finite = tt; second_finite = tt; at_least = (tt, tt) };
  prices = record { first_finite = tt; second_finite = tt; at_least = (tt, tt) };
  not_scaled = λ h. eq→eqb h.fraction;
}

-- ---- with nothing asked of the time values but that they are finite: volatility 1, forward 3 * 2 ^ -1022 and strike 2 ^ -1021. The time value is below
-- 2 ^ -1022 and loses a digit that 4 times it has; the prices are above.
abbrev BothFinite : Float → Float → Type 0
BothFinite v v' = T (finite v) × T (finite v')

pub value_term_needed : Unscaled (Exactly (pos 1)) BothFinite BothAboveOrZero one (bits 0x0028_0000_0000_0000) (bits 0x0020_0000_0000_0000)
    (bits 0x0048_0000_0000_0000) (bits 0x0040_0000_0000_0000) (bits 0x0018_7096_6538_169B) (bits 0x0038_7096_6538_169C)
unfolding price_at_one
value_term_needed = record {
  first_comparable = comparable_pair _ _ tt tt tt tt (lit≤ tt) (lit≤ tt);
  second_comparable = comparable_pair _ _ tt tt tt tt (lit≤ tt) (lit≤ tt);
  forward_scaled = exactly_at_one _ _ tt tt refl refl;
  strike_scaled = exactly_at_one _ _ tt tt refl refl;
  first_price_lem = refl;
  second_price_lem = refl;
  values = (tt, tt);
  prices = record { first_finite = tt; second_finite = tt; above_or_zero = inl (tt, tt) };
  not_scaled = λ h. eq→eqb h.fraction;
}
