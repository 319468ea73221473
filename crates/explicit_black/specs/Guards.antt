-- The two branches of `from_call_price` on its probability, `probability <= 0` and `probability >= 1` (REQUIREMENTS 14.2): the entries of Quote.antt and
-- Discount.antt with a function `by` of probability and mu in place of these branches and the search that follows them. Definitions only.
use Rattle.std.specs.Prelude.{◌&&◌, cond, ℕ, eqb, Float}
use Rattle.std.specs.Float.Ieee.{neg, lt, le, eq}
use Rattle.arithmetic.specs.Operations.{◌⊖◌, ◌⊗◌, ◌⊘◌, bits, plus_zero, half, one, two, min_positive, infinity}
use Rattle.arithmetic.specs.Basic.{abs, is_finite}
use Rattle.arithmetic.specs.Sqrt.{sqrt}
use Rattle.arithmetic.specs.Exp.{exp}
use Rattle.bs_option_price.specs.BsOptionPrice.{negative_abs_log_moneyness}
use Rattle.inverse_gaussian.specs.Counted.{Counted, at_once, or_else}
use Rattle.inverse_gaussian.specs.Quantile.{inverse_gaussian_quantile}
use Rattle.inverse_gaussian.specs.Survival.{inverse_gaussian_quantile_from_survival}
use Rattle.explicit_black.specs.Quote.{Outcome, total, refused, Reply, reply, at_the_money, searched}
use Rattle.explicit_black.specs.Quote.{first_refusal, intrinsic_value, price_bound, normalised_time_value, bound_tests}
use Rattle.explicit_black.specs.Discount.{discounted_refusal}

-- the two branches, with `low` and `high` for what they hand back, then the search
abbrev pub guarded_with : Counted Outcome → Counted Outcome → Float → Float → Counted Outcome
guarded_with low high probability mu =
    cond (le probability plus_zero) low
    (cond (le one probability) high
    (searched (inverse_gaussian_quantile probability mu)))

-- as in `from_call_price`
abbrev pub guarded : Float → Float → Counted Outcome
guarded = guarded_with (at_once (total infinity)) (at_once (total plus_zero))

-- the search alone
abbrev pub unguarded : Float → Float → Counted Outcome
unguarded probability mu = searched (inverse_gaussian_quantile probability mu)

-- 1.0e-5: where the price divided by b_max is below it, the quantile is searched for by the survival probability
abbrev pub survival_threshold : Float
survival_threshold = bits 0x3EE4_F8B5_88E3_68F1

-- the bound of a normalised price
abbrev pub b_max_of : Float → Float
b_max_of log_moneyness = exp (neg half ⊗ abs log_moneyness)

unfoldable pub from_call_price_by : (Float → Float → Counted Outcome) → Float → Float → Counted Outcome
from_call_price_by by otm_call_price mu =
    cond (lt otm_call_price survival_threshold)
    (searched (inverse_gaussian_quantile_from_survival otm_call_price mu))
    (by (one ⊖ otm_call_price) mu)

unfoldable pub from_normalised_price_by : (Float → Float → Counted Outcome) → Float → Float → Counted Outcome
from_normalised_price_by by log_moneyness price =
    let abs_x = abs log_moneyness in
    let b_max = b_max_of log_moneyness in
    cond (le price plus_zero) (at_once (cond (eq price plus_zero) (total plus_zero) (refused 7)))
    (cond (le b_max price) (at_once (cond (eq price b_max) (total infinity) (refused 8)))
    (cond (eq abs_x plus_zero) (at_once (at_the_money price))
    (from_call_price_by by (price ⊘ b_max) (two ⊘ abs_x))))

unfoldable pub implied_black_volatility_normalised_by : (Float → Float → Counted Outcome) → Float → Float → Reply
implied_black_volatility_normalised_by by log_moneyness price =
    reply one (cond (is_finite log_moneyness && is_finite price) (from_normalised_price_by by log_moneyness price) (at_once (refused 2)))

unfoldable pub from_time_value_by : (Float → Float → Counted Outcome) → Float → Float → Counted Outcome
from_time_value_by by log_moneyness time_value =
    cond (le time_value min_positive) (at_once (cond (le plus_zero time_value) (total plus_zero) (refused 7)))
    (from_normalised_price_by by log_moneyness time_value)

abbrev pub from_figures_by : (Float → Float → Counted Outcome) → ℕ → Float → Float → Float → Float → Counted Outcome
from_figures_by by side price forward strike time =
    let intrinsic = intrinsic_value side forward strike in
    let bound = price_bound side forward strike in
    let time_value = normalised_time_value price intrinsic (sqrt forward ⊗ sqrt strike) in
    or_else (bound_tests price intrinsic bound time) (from_time_value_by by (negative_abs_log_moneyness forward strike) time_value)

unfoldable pub implied_black_volatility_input_by : (Float → Float → Counted Outcome) → ℕ → Float → Float → Float → Float → Reply
implied_black_volatility_input_by by side price forward strike time =
    let number = first_refusal side price forward strike time in
    reply time (cond (eqb number 0) (from_figures_by by side price forward strike time) (at_once (refused number)))

unfoldable pub implied_black_volatility_discounted_by : (Float → Float → Counted Outcome) → ℕ → Float → Float → Float → Float → Float → Reply
implied_black_volatility_discounted_by by side price forward strike time factor =
    let number = discounted_refusal side price forward strike time factor in
    reply time (cond (eqb number 0) (from_figures_by by side (price ⊘ factor) forward strike time) (at_once (refused number)))
