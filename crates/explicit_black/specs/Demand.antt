-- The terms of demand 3 (REQUIREMENTS 2.3): what is asked of two quotes, and what of their replies is compared. Definitions only.
use Rattle.std.specs.Prelude.{◌≡◌, ◌⊎◌, ℕ, suc, ◌*◌, ◌^◌, ℤ, pos, negsuc, T, Float}
use Rattle.std.specs.Float.Ieee.{le, lt, eq}
use Rattle.std.specs.Float.Ieee.Scale.{finite}
use Rattle.std.specs.Float.Ieee.Positive.{num, den}
use Rattle.arithmetic.specs.Operations.{plus_zero, min_positive}
use Rattle.arithmetic.specs.Basic.{is_sign_minus}
use Rattle.arithmetic.specs.Magnitude.{NotOver}
use Rattle.inverse_gaussian.specs.Counted.{Counted}
use Rattle.explicit_black.specs.Quote.{Outcome, total, refused, Reply, answer, refusal}

-- 4 ^ n as the fraction four_up n / four_down n
abbrev pub four_up : ℤ → ℕ
four_up (pos n) = 4 ^ n
four_up (negsuc n) = 1

abbrev pub four_down : ℤ → ℕ
four_down (pos n) = 1
four_down (negsuc n) = 4 ^ suc n

-- y is exactly 4 ^ n times x, as numbers: both are finite, the fractions num / den say so, and the signs agree unless both are zero
pub record Exactly (n : ℤ) (x y : Float) : Type 0 where
  pub finite_x : T (finite x)
  pub finite_y : T (finite y)
  pub fraction : num y * den x * four_down n ≡ num x * den y * four_up n
  pub signs : (num x ≡ 0) ⊎ (is_sign_minus y ≡ is_sign_minus x)

-- a forward and a strike that are finite and at least 2 ^ -1022
pub record PairInRange (forward strike : Float) : Type 0 where
  pub forward_finite : T (finite forward)
  pub forward_normal : T (le min_positive forward)
  pub strike_finite : T (finite strike)
  pub strike_normal : T (le min_positive strike)

-- such a pair, neither of them over 2 ^ 1022 times the other
pub record ComparablePair (forward strike : Float) : Type 0 where
  pub in_range : PairInRange forward strike
  pub forward_not_over : NotOver forward strike
  pub strike_not_over : NotOver strike forward

-- a price that is finite and not negative, minus zero included, with such a forward and strike
pub record ComparableFigures (price forward strike : Float) : Type 0 where
  pub price_finite : T (finite price)
  pub price_not_negative : T (le plus_zero price)
  pub pair : ComparablePair forward strike

-- two times that are both zero, or both finite and above zero
abbrev pub ComparableTimes : Float → Float → Type 0
ComparableTimes t t' = (T (eq t plus_zero) × T (eq t' plus_zero)) ⊎ (T (finite t) × T (lt plus_zero t) × T (finite t') × T (lt plus_zero t'))

-- what two replies are compared by: total volatility or refusal number, and count, but not volatility, since the times may differ
abbrev pub compared : Reply → Counted Outcome
compared (answer v w count) = record { result = total v; count = count }
compared (refusal number count) = record { result = refused number; count = count }
