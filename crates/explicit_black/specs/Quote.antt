-- The entries of explicit_black.rs, `implied_black_volatility_normalised` (REQUIREMENTS 10.12) and `implied_black_volatility_input` (10.13), with the
-- refusals of REQUIREMENTS 5. Definitions only.
use Rattle.std.specs.Prelude.{ℕ, not, ◌&&◌, ◌||◌, cond, eqb, Float}
use Rattle.std.specs.Float.Ieee.{neg, lt, le, eq}
use Rattle.arithmetic.specs.Operations.{◌⊖◌, ◌⊗◌, ◌⊘◌, bits, plus_zero, half, one, two, min_positive, infinity, sqrt2}
use Rattle.arithmetic.specs.Basic.{abs, max, is_finite}
use Rattle.arithmetic.specs.Sqrt.{sqrt}
use Rattle.arithmetic.specs.Exp.{exp}
use Rattle.special_function.specs.Erfinv.{erfinv}
use Rattle.bs_option_price.specs.BsOptionPrice.{negative_abs_log_moneyness}
use Rattle.inverse_gaussian.specs.Counted.{Option, some, none, Counted, at_once, or_else}
use Rattle.inverse_gaussian.specs.Curves.{finite_positive}
use Rattle.inverse_gaussian.specs.Quantile.{inverse_gaussian_quantile}
use Rattle.inverse_gaussian.specs.Survival.{inverse_gaussian_quantile_from_survival}

-- what the figures of a quote lead to: the total volatility, not yet divided by √time, or the number of a refusal
pub data Outcome : Type 0 where
  total : Float → Outcome
  refused : ℕ → Outcome

-- what an entry hands back: an answer's total volatility, volatility and count; or a refusal's number and count
pub data Reply : Type 0 where
  answer : Float → Float → ℕ → Reply
  refusal : ℕ → ℕ → Reply

-- total / root, rounded once, where root is that of the time; at time zero 0
unfoldable pub volatility_over : Float → Float → Float → Float
volatility_over time root v = cond (eq time plus_zero) plus_zero (v ⊘ root)

-- total / √time; at time zero 0
abbrev pub volatility : Float → Float → Float
volatility time v = volatility_over time (sqrt time) v

-- an outcome with its count, as an entry hands it back; root is that of the time
abbrev pub reply_of : Float → Float → Outcome → ℕ → Reply
reply_of time root (total v) count = answer v (volatility_over time root v) count
reply_of time root (refused number) count = refusal number count

abbrev pub reply_over : Float → Float → Counted Outcome → Reply
reply_over time root c = reply_of time root c.result c.count

abbrev pub reply : Float → Counted Outcome → Reply
reply time c = reply_over time (sqrt time) c

-- ---- `implied_black_volatility_normalised`

-- `implied_normalised_volatility_atm` of lets_be_rational.rs
unfoldable pub implied_normalised_volatility_atm : Float → Float
implied_normalised_volatility_atm beta = two ⊗ sqrt2 ⊗ erfinv beta

-- at the money; a total that is NaN or below 0, which is one that is not at least 0, is refused
unfoldable pub at_the_money : Float → Outcome
at_the_money price = let v = implied_normalised_volatility_atm price in cond (le plus_zero v) (total v) (refused 9)

-- the total volatility at the root of a search; no root, and one that is not finite and positive, are refused
unfoldable pub total_at : Option Float → Outcome
total_at (some x) = cond (finite_positive x) (total (two ⊘ sqrt x)) (refused 9)
total_at none = refused 9

-- a search for a root, as one for the total volatility
abbrev pub searched : Counted (Option Float) → Counted Outcome
searched c = record { result = total_at c.result; count = c.count }

-- away from the money: the price divided by b_max is the probability of the upper tail; where it is small the quantile is searched for by that. No call
-- of an entry takes the two branches on the probability (Laws/Guards.antt)
unfoldable pub from_call_price : Float → Float → Counted Outcome
from_call_price otm_call_price mu =
    let probability = one ⊖ otm_call_price in
    cond (lt otm_call_price (bits 0x3EE4_F8B5_88E3_68F1))  -- 1.0e-5
    (searched (inverse_gaussian_quantile_from_survival otm_call_price mu))
    (cond (le probability plus_zero) (at_once (total infinity))
    (cond (le one probability) (at_once (total plus_zero))
    (searched (inverse_gaussian_quantile probability mu))))

-- tests 7 and 8, and what passes them; b_max is the bound of a normalised price
unfoldable pub from_normalised_price : Float → Float → Counted Outcome
from_normalised_price log_moneyness price =
    let abs_x = abs log_moneyness in
    let b_max = exp (neg half ⊗ abs_x) in
    cond (le price plus_zero) (at_once (cond (eq price plus_zero) (total plus_zero) (refused 7)))
    (cond (le b_max price) (at_once (cond (eq price b_max) (total infinity) (refused 8)))
    (cond (eq abs_x plus_zero) (at_once (at_the_money price))
    (from_call_price (price ⊘ b_max) (two ⊘ abs_x))))

-- test 2, and what passes it; the answer is as at time 1
unfoldable pub implied_black_volatility_normalised : Float → Float → Reply
implied_black_volatility_normalised log_moneyness price =
    reply one (cond (is_finite log_moneyness && is_finite price) (from_normalised_price log_moneyness price) (at_once (refused 2)))

-- ---- `implied_black_volatility_input`. Side 0 is a call, side 1 a put.

-- tests 1 to 4: the number of the first that applies, or 0
unfoldable pub first_refusal : ℕ → Float → Float → Float → Float → ℕ
first_refusal side price forward strike time =
    cond (not (eqb side 0 || eqb side 1)) 1
    (cond (not (is_finite price && is_finite forward && is_finite strike && is_finite time)) 2
    (cond (not (lt plus_zero forward && lt plus_zero strike)) 3
    (cond (lt time plus_zero) 4
    0)))

-- what the option is worth if it is exercised at once
abbrev pub intrinsic_value : ℕ → Float → Float → Float
intrinsic_value side forward strike = cond (eqb side 0) (forward ⊖ strike) (strike ⊖ forward)

-- the bound of a price: the forward of a call, the strike of a put
abbrev pub price_bound : ℕ → Float → Float → Float
price_bound side forward strike = cond (eqb side 0) forward strike

-- the price, less the intrinsic value where that is above 0, divided by the product of the roots of forward and strike
abbrev pub normalised_time_value : Float → Float → Float → Float
normalised_time_value price intrinsic roots = cond (lt plus_zero intrinsic) (price ⊖ intrinsic) price ⊘ roots

-- test 7; a time value of at most the smallest normal value has the total 0; and what passes
unfoldable pub from_time_value : Float → Float → Counted Outcome
from_time_value log_moneyness time_value =
    cond (le time_value min_positive) (at_once (cond (le plus_zero time_value) (total plus_zero) (refused 7)))
    (from_normalised_price log_moneyness time_value)

-- tests 5 and 6: what they decide; nothing where the price is below its bound at another time than zero
unfoldable pub bound_tests : Float → Float → Float → Float → Option Outcome
bound_tests price intrinsic bound time =
    cond (eq time plus_zero) (some (cond (eq price (max intrinsic plus_zero)) (total plus_zero) (refused 5)))
    (cond (le bound price) (some (cond (eq price bound) (total infinity) (refused 6)))
    none)

-- what tests 5 and 6 decide, and else what follows from the normalised time value
unfoldable pub from_price : Float → Float → Float → Float → Float → Float → Counted Outcome
unfolding bound_tests or_else
from_price price intrinsic bound roots log_moneyness time =
    or_else (bound_tests price intrinsic bound time) (from_time_value log_moneyness (normalised_time_value price intrinsic roots))

-- what follows tests 1 to 4; a price that was divided by a factor (Discount.antt) may be infinite
abbrev pub from_figures : ℕ → Float → Float → Float → Float → Counted Outcome
from_figures side price forward strike time =
    from_price price (intrinsic_value side forward strike) (price_bound side forward strike)
    (sqrt forward ⊗ sqrt strike) (negative_abs_log_moneyness forward strike) time

-- tests 1 to 4, and what passes them
unfoldable pub from_quote : ℕ → Float → Float → Float → Float → Counted Outcome
from_quote side price forward strike time =
    let number = first_refusal side price forward strike time in
    cond (eqb number 0) (from_figures side price forward strike time) (at_once (refused number))

unfoldable pub implied_black_volatility_input : ℕ → Float → Float → Float → Float → Reply
implied_black_volatility_input side price forward strike time = reply time (from_quote side price forward strike time)
