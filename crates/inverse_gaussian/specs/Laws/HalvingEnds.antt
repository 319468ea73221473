-- From a finite value above 0 the smallest normal value is passed within 2,045 halvings, for the distribution and for the survival. Assumes nothing.
use mathlib.Core.Path.{◌≡◌, sym, ap, subst, ◌∙◌}
use mathlib.Core.Logic.{inl, inr}
use Prim.Native.Nat.{ℕ, zero, suc, ◌*◌, ◌^◌, ◌≤◌, ◌<◌}
use native.Mathlib.Nat.{le_trans, le_of_eq, le_of_lt, one-mul, mul_right_comm, le_of_mul-le-mul_right, pow-suc}
use native.Mathlib.Omega.{arith}
use mathlib.Core.Bool.{true}
use lib.Dec.{T}
use lib.Pow.{pow_pos}
use lib.Ieee.{Float, binary64, fits, le}
use lib.Ieee.Positive.{positive}
use Rattle.arithmetic.specs.Operations.{◌⊗◌, half, min_positive}
use Rattle.arithmetic.specs.Laws.Numbers.{lt_or_le}
use Rattle.arithmetic.specs.Laws.Choices.{by_test}
use Rattle.inverse_gaussian.specs.declared.bracket.Bracket.{Bracket}
use Rattle.inverse_gaussian.specs.Loops.{Loop, step, Ends}
use Rattle.inverse_gaussian.specs.Curves.{finite_positive, inverse_gaussian_cdf, inverse_gaussian_survival}
use Rattle.inverse_gaussian.specs.Bracket.{halved, lowered, halving_loop, halvings}
use Rattle.inverse_gaussian.specs.Survival.{survival_lowered, survival_halving_loop}
use Rattle.inverse_gaussian.specs.Internal.Bracketed.{DownwardEnds, distribution, survival}
use Rattle.inverse_gaussian.specs.Laws.Counted.{ends_stop, ends_go}
use Rattle.inverse_gaussian.specs.Laws.Roots.{finite_positive_positive}
use Rattle.inverse_gaussian.specs.Laws.Units.{Units, units, under, halfway, small}

-- ---- a loop that halves its lower bound, wherever its upper bound goes
abbrev Halver : Loop Bracket Bracket → Type 0
Halver l = (k : ℕ) (x u : Float) → ((w : Float) → Ends l k (halved x w)) → Ends l k (step l (record { lower = x; upper = u }))

module _ (l : Loop Bracket Bracket) (d : Halver l) where
  -- n units are at most 2 ^ k times 2 ^ -1021
  low_ends : (k n : ℕ) (x u : Float) → 0 < n → Units n x → n ≤ 2 ^ k * 2 ^ 53 → Ends l k (halved x u)
  unfolding halved
  low_ends zero n x u N h w = rw (small n x h (le_trans w (le_of_eq (one-mul (2 ^ 53))))) (ends_stop l zero _)
  low_ends (suc k) n x u N h w = elim (lt_or_le (2 ^ 53) n) [
    | inr e ↦ rw (small n x h e) (ends_stop l (suc k) _)
    | inl g ↦
        let (m, e, i) = halfway n x h N g in
        let y = x ⊗ half in
        let same : 2 ^ suc k * 2 ^ 53 ≡ 2 ^ k * 2 ^ 53 * 2 = ap (λ (z : ℕ). z * 2 ^ 53) (pow-suc 2 k) ∙ mul_right_comm (2 ^ k) 2 (2 ^ 53) in
        let fewer : m ≤ 2 ^ k * 2 ^ 53 = le_of_mul-le-mul_right (le_trans (le_of_eq (sym e)) (le_trans w (le_of_eq same))) (pow_pos 1) in
        by_test (Ends l (suc k)) (le y min_positive) (λ z. ends_stop l (suc k) _)
        (λ z. ends_go l k _ (d k y u (λ v. low_ends k m y v (omega arith) i fewer)))
  ]

  halver_ends : (x : Float) → T (positive x) → fits binary64 x ≡ true → Ends l halvings (halved x x)
  unfolding halvings
  halver_ends x h e = let (n, N, u) = units x h (subst T (sym e) tt) in low_ends 2045 n x x N u (le_of_lt (under n x u))

-- ---- the loops of the two searches

cdf_halver : (mu p : Float) → Halver (halving_loop mu p)
unfolding lowered
cdf_halver mu p k x u h = by_test (Ends (halving_loop mu p) k) (le (inverse_gaussian_cdf x mu) p) (λ e. ends_stop _ k _) (λ e. h _)

survival_halver : (mu p : Float) → Halver (survival_halving_loop mu p)
unfolding survival_lowered
survival_halver mu p k x u h = by_test (Ends (survival_halving_loop mu p) k) (le p (inverse_gaussian_survival x mu)) (λ e. ends_stop _ k _) (λ e. h _)

pub ends_above : (mu p x : Float) → finite_positive x ≡ true → fits binary64 x ≡ true → Ends (halving_loop mu p) halvings (halved x x)
ends_above mu p x h = halver_ends (halving_loop mu p) (cdf_halver mu p) x (finite_positive_positive x h)

pub survival_ends_above : (mu p x : Float) → finite_positive x ≡ true → fits binary64 x ≡ true → Ends (survival_halving_loop mu p) halvings (halved x x)
survival_ends_above mu p x h = halver_ends (survival_halving_loop mu p) (survival_halver mu p) x (finite_positive_positive x h)

-- ---- as the code for both curves has them

pub distribution_downward_ends : DownwardEnds distribution
distribution_downward_ends = ends_above

pub survival_downward_ends : DownwardEnds survival
survival_downward_ends = survival_ends_above
