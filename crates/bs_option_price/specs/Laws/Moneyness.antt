-- The log-moneyness of a forward and a strike is that of 2 ^ k times each, in the same order and exchanged, for prices that are finite, at least
-- 2 ^ -1022 and neither over 2 ^ 1022 times the other. Assumes nothing.
use Rattle.std.specs.Prelude.{◌≡◌, refl, ℕ, Bool, true, false, cond, T, Float}
use Rattle.std.proofs.Common.{◌∙◌, sym}
use Rattle.std.specs.Float.Ieee.{neg, le}
use Rattle.std.specs.Float.Ieee.Bits.{is_true}
use Rattle.std.specs.Float.Ieee.Scale.{finite}
use Rattle.arithmetic.specs.Operations.{◌⊖◌, ◌⊗◌, ◌⊘◌, half, min_positive}
use Rattle.arithmetic.specs.Basic.{takes_first, max, min}
use Rattle.arithmetic.specs.Ln.{ln, ln1p}
use Rattle.arithmetic.specs.Laws.Times.{Times}
use Rattle.arithmetic.specs.Laws.Extremes.{max_is, min_is, max_times, min_times, swapped_times}
use Rattle.arithmetic.specs.Magnitude.{NotOver}
use Rattle.arithmetic.specs.Laws.ScaledRatios.{PositiveNormal, plus, half_test, excess, ratio, ratio_normal}
use Rattle.bs_option_price.specs.BsOptionPrice.{negative_abs_log_moneyness}

-- a forward and a strike that are finite and at least 2 ^ -1022, with a ratio from 2 ^ -1022 to 2 ^ 1022
pub record BoundedRatio (f k : Float) : Type 0 where
  pub forward : PositiveNormal f
  pub strike : PositiveNormal k
  pub not_over : NotOver f k
  pub not_under : NotOver k f

-- what holds of two prices in either order holds of the smaller and the larger
of_min_max : (P : Float → Float → Type 0) (x y : Float) → T (finite x) → T (finite y) → P x y → P y x → P (min x y) (max x y)
of_min_max P x y p q h g = rw (min_is x y p q, max_is x y p q) (by_order (takes_first x y))
  where
    by_order : (b : Bool) → P (cond b y x) (cond b x y)
    by_order true = g
    by_order false = h

-- a smaller and a larger price whose ratio is normal
abbrev Ordered : Float → Float → Type 0
Ordered s l = PositiveNormal s × PositiveNormal l × NotOver l s

ordered : (f k : Float) → BoundedRatio f k → Ordered (min f k) (max f k)
ordered f k h =
    of_min_max Ordered f k h.forward.bounded h.strike.bounded
    (h.forward, h.strike, h.not_under) (h.strike, h.forward, h.not_over)

-- the logarithm of the smaller over the larger, as the definition takes it
abbrev log_ratio : Float → Float → Float
log_ratio s l = cond (le (half ⊗ l) s) (neg (ln1p ((l ⊖ s) ⊘ s))) (cond (le min_positive (s ⊘ l)) (ln (s ⊘ l)) (ln s ⊖ ln l))

log_is : (f k : Float) → negative_abs_log_moneyness f k ≡ log_ratio (min f k) (max f k)
unfolding negative_abs_log_moneyness
log_is f k = refl

log_ratio_times : (n : ℕ) (s l s' l' : Float) → Ordered s l → Ordered s' l' → Times n s s' → Times n l l' → log_ratio s' l' ≡ log_ratio s l
log_ratio_times n s l s' l' (o, q, w) (o', q', w') h g =
    rw (
      half_test n s l s' l' o q o' q' h g,
      excess n s l s' l' o q o' q' h g,
      ratio n s l s' l' o q o' q' h g,
      is_true (le min_positive (s ⊘ l)) (ratio_normal s l o q w),
    )

module _ (n : ℕ) (f k f' k' : Float) (p : BoundedRatio f k) (p' : BoundedRatio f' k') where
  from_ratio : Times n (min f k) (min f' k') → Times n (max f k) (max f' k') → negative_abs_log_moneyness f' k' ≡ negative_abs_log_moneyness f k
  from_ratio h g = log_is f' k' ∙ log_ratio_times n (min f k) (max f k) (min f' k') (max f' k') (ordered f k p) (ordered f' k' p') h g ∙ sym (log_is f k)

  pub log_times : Times n f f' → Times n k k' → negative_abs_log_moneyness f' k' ≡ negative_abs_log_moneyness f k
  log_times h g = from_ratio (min_times n f k f' k' h g) (max_times n f k f' k' h g)

  pub log_swap : Times n f k' → Times n k f' → negative_abs_log_moneyness f' k' ≡ negative_abs_log_moneyness f k
  log_swap h g = let e = swapped_times n f k k' f' (plus f p.forward) (plus k p.strike) h g in from_ratio e.1 e.0
