-- Where a total can be infinite, and from which time on it says whether the volatility is infinite (REQUIREMENTS 14.5). Definitions only.
use Rattle.std.specs.Prelude.{◌≡◌, ◌⊎◌, true, false, ℕ, Float}
use Rattle.std.specs.Float.Ieee.{eq}
use Rattle.arithmetic.specs.Operations.{◌⊗◌, bits, plus_zero}
use Rattle.arithmetic.specs.Sqrt.{sqrt}
use Rattle.bs_option_price.specs.BsOptionPrice.{negative_abs_log_moneyness}
use Rattle.explicit_black.specs.Quote.{intrinsic_value, price_bound, normalised_time_value}
use Rattle.explicit_black.specs.Guards.{b_max_of}

-- the price is its bound
abbrev pub AtBound : ℕ → Float → Float → Float → Type 0
AtBound side price forward strike = eq price (price_bound side forward strike) ≡ true

-- its normalised time value is b_max
abbrev pub AtBMax : ℕ → Float → Float → Float → Type 0
AtBMax side price forward strike =
    let time_value = normalised_time_value price (intrinsic_value side forward strike) (sqrt forward ⊗ sqrt strike) in
    eq time_value (b_max_of (negative_abs_log_moneyness forward strike)) ≡ true

-- one of the two, at a time other than zero
abbrev pub AtBoundOrBMax : ℕ → Float → Float → Float → Float → Type 0
AtBoundOrBMax side price forward strike time = (eq time plus_zero ≡ false) × (AtBound side price forward strike ⊎ AtBMax side price forward strike)

-- 2 ^ -966: at this time and later ones, and at time zero, the volatility is infinite exactly where the total is
abbrev pub alike_from : Float
alike_from = bits 0x0390_0000_0000_0000
