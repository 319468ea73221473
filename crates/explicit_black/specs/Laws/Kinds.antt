-- The kinds of outcome behind tests 1 to 4: a total or a refusal without an evaluation, or that of a search, which finds a root or none. Assumes nothing.
use Rattle.std.specs.Prelude.{◌≡◌, refl, ℕ, ◌≤◌, false, T, leb, Float}
use Rattle.std.proofs.Common.{arith, lit≤}
use Rattle.std.specs.Float.{binary64}
use Rattle.std.specs.Float.Ieee.{neg, lt, le, eq, is_nan, fits, of_bits}
use Rattle.std.specs.Float.Ieee.Fits.{mul-fits, div-fits}
use Rattle.std.specs.Float.Ieee.Positive.{positive}
use Rattle.arithmetic.specs.Operations.{◌⊖◌, ◌⊗◌, ◌⊘◌, bits, plus_zero, half, one, two, min_positive, infinity}
use Rattle.arithmetic.specs.Basic.{abs}
use Rattle.arithmetic.specs.Sqrt.{sqrt}
use Rattle.arithmetic.specs.Exp.{exp}
use Rattle.arithmetic.specs.Laws.Choices.{in_both, by_test}
use Rattle.arithmetic.specs.Laws.Quotients.{at_least_no_nan}
use Rattle.inverse_gaussian.specs.Counted.{Option, some, none, Counted, at_once}
use Rattle.inverse_gaussian.specs.Curves.{finite_positive}
use Rattle.inverse_gaussian.specs.Quantile.{inverse_gaussian_quantile}
use Rattle.inverse_gaussian.specs.Survival.{inverse_gaussian_quantile_from_survival}
use Rattle.inverse_gaussian.specs.Laws.Counts.{quantile_count, from_survival_count}
use Rattle.inverse_gaussian.specs.Laws.Roots.{finite_positive_positive, quantile_fits, from_survival_fits}
use Rattle.explicit_black.specs.Quote.{Outcome, total, refused, implied_normalised_volatility_atm, at_the_money, total_at, searched}
use Rattle.explicit_black.specs.Quote.{from_call_price, from_normalised_price, normalised_time_value, from_time_value, from_price}
use Rattle.explicit_black.specs.Laws.Tests.{from_price_is}

-- the numbers of its refusals begin at `least`, which is 9 at most
pub data Kind (least : ℕ) (c : Counted Outcome) : Type 0 where
  -- a total without an evaluation: 0, infinity, or the one at the money
  total_at_once : (v : Float) → c ≡ at_once (total v) → is_nan v ≡ false → T (fits binary64 v) → Kind least c
  -- a refusal without an evaluation
  refused_at_once : (m : ℕ) → c ≡ at_once (refused m) → least ≤ m → m ≤ 9 → Kind least c
  -- the total at the root of a search, and the refusal of one that found none
  total_at_root : (x : Float) → c.result ≡ total (two ⊘ sqrt x) → T (positive x) → T (fits binary64 x) → c.count ≤ 2263 → Kind least c
  refused_no_root : c.result ≡ refused 9 → c.count ≤ 2263 → Kind least c

-- the same with a smaller least number
pub lowered : (m n : ℕ) (c : Counted Outcome) → m ≤ n → Kind n c → Kind m c
lowered m n c h (total_at_once v e a F) = total_at_once v e a F
lowered m n c h (refused_at_once k e l g) = refused_at_once k e (omega arith) g
lowered m n c h (total_at_root x e a F g) = total_at_root x e a F g
lowered m n c h (refused_no_root e g) = refused_no_root e g

abbrev KindAtOnce : ℕ → Outcome → Type 0
KindAtOnce least r = Kind least (at_once r)

refused_kind : (least m : ℕ) → T (leb least m) → T (leb m 9) → KindAtOnce least (refused m)
refused_kind least m l h = refused_at_once m refl (lit≤ l) (lit≤ h)

zero_kind : {least : ℕ} → KindAtOnce least (total plus_zero)
unfolding is_nan of_bits fits
zero_kind = total_at_once plus_zero refl refl tt

infinity_kind : {least : ℕ} → KindAtOnce least (total infinity)
unfolding is_nan of_bits fits
infinity_kind = total_at_once infinity refl refl tt

money_kind : (p : Float) → KindAtOnce 7 (at_the_money p)
unfolding at_the_money implied_normalised_volatility_atm
money_kind p =
    let v = implied_normalised_volatility_atm p in
    by_test (KindAtOnce 7) (le plus_zero v) (λ e. total_at_once v refl (at_least_no_nan plus_zero v e) (mul-fits binary64 _ _)) (λ e. refused_kind 7 9 tt tt)

searched_kind : (c : Counted (Option Float)) → ((x : Float) → c.result ≡ some x → T (fits binary64 x)) → c.count ≤ 2263 → Kind 7 (searched c)
unfolding total_at
searched_kind c F h = go c.result F
  where
    go : (r : Option Float) → ((x : Float) → r ≡ some x → T (fits binary64 x)) → Kind 7 (record { result = total_at r; count = c.count })
    go (some x) f =
        by_test (λ (r : Outcome). Kind 7 (record { result = r; count = c.count })) (finite_positive x)
        (λ e. total_at_root x refl (finite_positive_positive x e) (f x refl) h) (λ e. refused_no_root refl h)
    go none f = refused_no_root refl h

call_price_kind : (p mu : Float) → T (fits binary64 mu) → Kind 7 (from_call_price p mu)
unfolding from_call_price
call_price_kind p mu F =
    in_both (Kind 7) (lt p (bits 0x3EE4_F8B5_88E3_68F1))
    (searched_kind (inverse_gaussian_quantile_from_survival p mu) (λ x. from_survival_fits p mu x F) (omega (arith, from_survival_count p mu)))
    (in_both (Kind 7) (le (one ⊖ p) plus_zero) infinity_kind
    (in_both (Kind 7) (le one (one ⊖ p)) zero_kind
    (searched_kind (inverse_gaussian_quantile (one ⊖ p) mu) (λ x. quantile_fits (one ⊖ p) mu x F) (quantile_count (one ⊖ p) mu))))

pub normalised_kind : (x p : Float) → Kind 7 (from_normalised_price x p)
unfolding from_normalised_price
normalised_kind x p =
    let y = abs x in
    let b = exp (neg half ⊗ y) in
    in_both (Kind 7) (le p plus_zero) (in_both (KindAtOnce 7) (eq p plus_zero) zero_kind (refused_kind 7 7 tt tt))
    (in_both (Kind 7) (le b p) (in_both (KindAtOnce 7) (eq p b) infinity_kind (refused_kind 7 8 tt tt))
    (in_both (Kind 7) (eq y plus_zero) (money_kind p) (call_price_kind (p ⊘ b) (two ⊘ y) (div-fits binary64 two y))))

pub from_time_value_kind : (x v : Float) → Kind 7 (from_time_value x v)
unfolding from_time_value
from_time_value_kind x v = in_both (Kind 7) (le v min_positive) (in_both (KindAtOnce 7) (le plus_zero v) zero_kind (refused_kind 7 7 tt tt)) (normalised_kind x v)

pub from_price_kind : (p d b r x t : Float) → Kind 5 (from_price p d b r x t)
from_price_kind p d b r x t =
    rw (from_price_is p d b r x t)
    (in_both (Kind 5) (eq t plus_zero) (in_both (KindAtOnce 5) (eq p _) zero_kind (refused_kind 5 5 tt tt))
    (in_both (Kind 5) (le b p) (in_both (KindAtOnce 5) (eq p b) infinity_kind (refused_kind 5 6 tt tt))
    (lowered 5 7 _ (lit≤ tt) (from_time_value_kind x (normalised_time_value p d r)))))
