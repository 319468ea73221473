-- From a value above 0 the largest finite value is reached within 2,098 doublings, for the distribution and for the survival. Assumes nothing.
use mathlib.Core.Path.{◌≡◌, refl, sym, subst, ap, ◌∙◌}
use mathlib.Core.Logic.{◌⊎◌, inl, inr}
use Prim.Native.Nat.{ℕ, zero, suc, ◌*◌, ◌^◌, ◌≤◌, ◌<◌}
use native.Mathlib.Nat.{le_trans, le_of_eq, lt_irrefl, lt_of_lt_of_le, one-mul, mul-one, mul_assoc, mul_comm, mul-pos, mul-le-mul_right, pow-suc}
use mathlib.Core.Bool.{Bool, true, false, cond, ◌||◌, true≢false}
use lib.Dec.{T}
use lib.Pow.{pow_pos}
use lib.Ieee.{Float, inf, binary64, fits, is_nan, eq, le, lt, of_bits}
use lib.Ieee.Bits.{is_true}
use lib.Ieee.Scale.{finite}
use lib.Ieee.Positive.{positive, positive-finite}
use Rattle.arithmetic.specs.Operations.{◌⊗◌, two, max_finite}
use Rattle.arithmetic.specs.Basic.{takes_first, min}
use Rattle.arithmetic.specs.Laws.Choices.{by_test, never}
use Rattle.inverse_gaussian.specs.declared.bracket.Bracket.{Bracket}
use Rattle.inverse_gaussian.specs.Loops.{Next, go, stop, Loop, step, Ends}
use Rattle.inverse_gaussian.specs.Curves.{finite_positive, inverse_gaussian_cdf, inverse_gaussian_survival}
use Rattle.inverse_gaussian.specs.Bracket.{doubled, doubled_from, widened, doubling_loop, doublings}
use Rattle.inverse_gaussian.specs.Survival.{capped_from, survival_widened, survival_doubling_loop}
use Rattle.inverse_gaussian.specs.Internal.Bracketed.{upward_loop, UpwardEnds, stop_some, distribution, survival}
use Rattle.inverse_gaussian.specs.Laws.Counted.{ends_stop, ends_go}
use Rattle.inverse_gaussian.specs.Laws.Roots.{finite_positive_positive}
use Rattle.inverse_gaussian.specs.Laws.Units.{Units, units, under, twice}

-- ---- one doubling gives the largest value, or exactly twice x
abbrev Grows : (Float → Float) → Type 0
Grows f = (n : ℕ) (x : Float) → 0 < n → Units n x → (f x ≡ max_finite) ⊎ Units (n * 2) (f x)

doubled_grows : Grows doubled
unfolding doubled
doubled_grows n x N u = elim (twice n x u N) [
  | inl e ↦ inl (rw e)
  | inr d ↦ inr (rw (is_true (finite (x ⊗ two)) (positive-finite (x ⊗ two) d.above)) d)
]

-- the upper bound of `capped_from`
abbrev capped : Float → Float
capped x = min (x ⊗ two) max_finite

min_inf : min (inf false) max_finite ≡ max_finite
unfolding min is_nan lt of_bits
min_inf = refl

-- the smaller of two is one of them
min_one : (x y : Float) → (min x y ≡ y) ⊎ (min x y ≡ x)
unfolding min
min_one x y = go (is_nan x) (is_nan y) (takes_first x y)
  where
    go : (a b c : Bool) → (cond a y (cond b x (cond c y x)) ≡ y) ⊎ (cond a y (cond b x (cond c y x)) ≡ x)
    go true b c = inl refl
    go false true c = inr refl
    go false false true = inl refl
    go false false false = inr refl

capped_grows : Grows capped
capped_grows n x N u = elim (twice n x u N) [
  | inl e ↦ inl (rw e min_inf)
  | inr d ↦ elim (min_one (x ⊗ two) max_finite) [
    | inl e ↦ inl e
    | inr e ↦ inr (subst (Units (n * 2)) (sym e) d)
  ]
]

-- ---- a loop that doubles its upper bound by f, and stops where that is the largest value
abbrev Doubler : {R : Type 0} → (Float → Float) → Loop Bracket R → Type 0
Doubler f l = (k : ℕ) (x : Float)
    → (eq (f x) max_finite ≡ false → Ends l k (go (record { lower = f x; upper = f (f x) })))
    → Ends l k (step l (record { lower = x; upper = f x }))

largest_eq : (y : Float) → y ≡ max_finite → eq y max_finite ≡ false → ⊥
unfolding eq of_bits
largest_eq y e f = true≢false (rw e at f)

module _ {R : Type 0} (f : Float → Float) (g : Grows f) (l : Loop Bracket R) (d : Doubler f l) where
  -- k doublings take n units past the largest value
  reach_ends : (k n : ℕ) (x : Float) → 0 < n → Units n x → 2 ^ 2098 ≤ n * 2 ^ k → Ends l k (go (record { lower = x; upper = f x }))
  reach_ends zero n x N u r = absurd (lt_irrefl n (lt_of_lt_of_le (under n x u) (le_trans r (le_of_eq (mul-one n)))))
  reach_ends (suc k) n x N u r =
      ends_go l k (record { lower = x; upper = f x }) (d k x (λ e. elim (g n x N u) [
        | inl q ↦ absurd (largest_eq (f x) q e)
        | inr w ↦
            let same : n * 2 ^ suc k ≡ n * 2 * 2 ^ k = ap (λ (z : ℕ). n * z) (pow-suc 2 k ∙ mul_comm (2 ^ k) 2) ∙ sym (mul_assoc n 2 (2 ^ k)) in
            reach_ends k (n * 2) (f x) (mul-pos N (pow_pos 1)) w (le_trans r (le_of_eq same))
      ]))

  doubler_ends : (x : Float) → T (positive x) → fits binary64 x ≡ true → Ends l doublings (go (record { lower = x; upper = f x }))
  unfolding doublings
  doubler_ends x h e =
      let (n, N, u) = units x h (subst T (sym e) tt) in
      reach_ends 2098 n x N u (le_trans (le_of_eq (sym (one-mul (2 ^ 2098)))) (mul-le-mul_right (2 ^ 2098) N))

-- ---- the loops of the two searches

second : (a b : Bool) → (a || b) ≡ false → b ≡ false
second true b e = never (cc)
second false b e = e

cdf_doubler : (mu p : Float) → Doubler doubled (doubling_loop mu p)
unfolding widened doubled_from
cdf_doubler mu p k x h =
    let l = doubling_loop mu p in
    let reached = le p (inverse_gaussian_cdf (doubled x) mu) in
    let largest = eq (doubled x) max_finite in
    by_test (Ends l k) (reached || largest) (λ e. ends_stop l k _) (λ e. h (second reached largest e))

survival_doubler : (mu p : Float) → Doubler capped (survival_doubling_loop mu p)
unfolding survival_widened capped_from
survival_doubler mu p k x h =
    let l = survival_doubling_loop mu p in
    by_test (Ends l k) (le (inverse_gaussian_survival (capped x) mu) p) (λ e. ends_stop l k _)
    (λ e. by_test (Ends l k) (eq (capped x) max_finite) (λ d. ends_stop l k _) h)

pub ends_below : (mu p x : Float) → finite_positive x ≡ true → fits binary64 x ≡ true → Ends (doubling_loop mu p) doublings (go (doubled_from x))
unfolding doubled_from
ends_below mu p x h = doubler_ends doubled doubled_grows (doubling_loop mu p) (cdf_doubler mu p) x (finite_positive_positive x h)

pub survival_ends_below : (mu p x : Float) → finite_positive x ≡ true → fits binary64 x ≡ true
    → Ends (survival_doubling_loop mu p) doublings (go (capped_from x))
unfolding capped_from
survival_ends_below mu p x h = doubler_ends capped capped_grows (survival_doubling_loop mu p) (survival_doubler mu p) x (finite_positive_positive x h)

-- ---- as the code for both curves has them

ends_some : (mu p : Float) (k : ℕ) (n : Next Bracket Bracket) → Ends (doubling_loop mu p) k n → Ends (upward_loop distribution mu p) k (stop_some n)
unfolding Ends
ends_some mu p zero (stop b) h = tt
ends_some mu p zero (go b) h = absurd h
ends_some mu p (suc k) (stop b) h = tt
ends_some mu p (suc k) (go b) h = ends_some mu p k (step (doubling_loop mu p) b) h

pub distribution_upward_ends : UpwardEnds distribution
distribution_upward_ends mu p x h f = ends_some mu p doublings (go (doubled_from x)) (ends_below mu p x h f)

pub survival_upward_ends : UpwardEnds survival
survival_upward_ends = survival_ends_below
