-- The price of a volatility (REQUIREMENTS 14.1). x stands for the log-moneyness, s for the total volatility, which is the volatility times √time.
-- Definitions only.
use Rattle.std.specs.Prelude.{ℕ, cond, ◌⊎◌, T, eqb, Float}
use Rattle.std.specs.Float.Ieee.{lt, eq}
use Rattle.std.specs.Float.Ieee.Scale.{finite}
use Rattle.arithmetic.specs.Operations.{◌⊕◌, ◌⊗◌, ◌⊘◌, plus_zero, two, min_positive}
use Rattle.arithmetic.specs.Sqrt.{sqrt}
use Rattle.bs_option_price.specs.BsOptionPrice.{normalised_black, negative_abs_log_moneyness}
use Rattle.explicit_black.specs.Quote.{first_refusal, intrinsic_value}

-- what the price entry hands back: a price; or a refusal's number and count
pub data PriceReply : Type 0 where
  price : Float → PriceReply
  refusal : ℕ → ℕ → PriceReply

-- tests 1 to 4, with the volatility in the price's place, then test 11: the number of the first that applies, or 0
unfoldable pub price_refusal : ℕ → Float → Float → Float → Float → ℕ
price_refusal side volatility forward strike time =
    let number = first_refusal side volatility forward strike time in
    cond (eqb number 0) (cond (lt volatility plus_zero) 11 0) number

-- √forward · √strike · normalised_black (x / 2, x / s, s / 2)
unfoldable pub time_value : Float → Float → Float → Float
time_value forward strike s =
    let x = negative_abs_log_moneyness forward strike in
    sqrt forward ⊗ sqrt strike ⊗ normalised_black (x ⊘ two) (x ⊘ s) (s ⊘ two)

-- the time value, and the intrinsic value added where that is above 0; where s is 0, the intrinsic value where that is above 0, or 0
unfoldable pub price_of : ℕ → Float → Float → Float → Float
price_of side forward strike s =
    let intrinsic = intrinsic_value side forward strike in
    cond (eq s plus_zero)
    (cond (lt plus_zero intrinsic) intrinsic plus_zero)
    (cond (lt plus_zero intrinsic) (time_value forward strike s ⊕ intrinsic) (time_value forward strike s))

-- the price at s = volatility · √time, or the refusal, with count 0
unfoldable pub black_price : ℕ → Float → Float → Float → Float → PriceReply
black_price side volatility forward strike time =
    let number = price_refusal side volatility forward strike time in
    cond (eqb number 0) (price (price_of side forward strike (volatility ⊗ sqrt time))) (refusal number 0)

-- ---- What laws of 4 ^ n ask of two values: both are above 2 ^ -1022, or both are 0.
abbrev pub AboveOrZero : Float → Float → Type 0
AboveOrZero v v' = (T (lt min_positive v) × T (lt min_positive v')) ⊎ (T (eq v plus_zero) × T (eq v' plus_zero))

-- that, and both are finite: what the law of prices asks of the two time values, and of the two prices
pub record BothAboveOrZero (v v' : Float) : Type 0 where
  pub first_finite : T (finite v)
  pub second_finite : T (finite v')
  pub above_or_zero : AboveOrZero v v'
