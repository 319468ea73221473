-- The asymptotic expansion of `norm_cdf` stops by itself within the iterations that its definition allows, for every z: a term's magnitude falls at
-- each iteration or the loop stops, and magnitudes are whole numbers of 2 ^ -1074. Assumes nothing.
use mathlib.Core.Path.{◌≡◌, refl, sym, ap, subst, ◌∙◌}
use mathlib.Core.Bool.{Bool, true, false, not, ◌&&◌, false≢true}
use Prim.Native.Nat.{ℕ, zero, suc, ◌-◌, ◌*◌, ◌%◌, ◌^◌, ◌≤◌, ◌<◌}
use native.Mathlib.Nat.{lt_of_lt_of_le, le_of_suc-le-suc, lt_of_not-le, lt_irrefl, lt_trans}
use native.Mathlib.Nat.{mul_assoc, mul_comm, mul_left_comm, one-mul, mul-one, mul-lt-mul_of_pos_right, lt_of_mul-lt-mul_right}
use native.Mathlib.Omega.{arith}
use lib.Dec.{T, leb, ltb, eqb, leb→le, eqb→eq, lit<, lit≤}
use lib.Pow.{pow_pos, pow-lt, pow-add}
use lib.IntN.{ℤ, pos, negsuc}
use lib.Ieee.{Float, nan, inf, fin, binary64, up, down, lt, le, fits, of_bits}
use lib.Ieee.Bits.{is_true}
use lib.Ieee.Digits.{back}
use lib.Ieee.Fits.{mul-fits, and_l, and_r}
use borrow.Author.Tests.{ltb-true}
use Rattle.arithmetic.specs.Operations.{◌⊗◌, epsilon}
use Rattle.arithmetic.specs.Basic.{abs}
use Rattle.special_function.specs.NormalDistribution.{next, goes_on, sum_from, initial_expansion, iteration_limit, asymptotic_sum}
use Rattle.special_function.specs.declared.normal_distribution.Expansion.{Expansion}

-- ---- magnitudes of terms

-- a finite value of binary64 with the sign clear
abbrev pub is_magnitude : Float → Bool
is_magnitude nan = false
is_magnitude (inf s) = false
is_magnitude (fin s m e) = not s && fits binary64 (fin s m e)

-- 2 ^ e in units of 2 ^ -l, for e from -l up
abbrev power_in_units : ℕ → ℤ → ℕ
power_in_units l (pos k) = 2 ^ k * 2 ^ l
power_in_units l (negsuc k) = 2 ^ (l - suc k)

-- a magnitude in units of 2 ^ -1074, the smallest value above 0
abbrev pub magnitude_in_units : Float → ℕ
magnitude_in_units nan = 0
magnitude_in_units (inf s) = 0
magnitude_in_units (fin s m e) = m * power_in_units 1074 e

power_exact : (l : ℕ) (e : ℤ) → down e ≤ 2 ^ l → power_in_units l e * down e ≡ up e * 2 ^ l
power_exact l (pos k) h = mul-one _
power_exact l (negsuc k) h = sym (pow-add 2 (l - suc k) (suc k)) ∙ ap (λ (n : ℕ). 2 ^ n) (back l (suc k) within) ∙ sym (one-mul _)
  where
    within : suc k ≤ l
    within = le_of_suc-le-suc (lt_of_not-le (λ (g : suc l ≤ suc k). lt_irrefl (2 ^ l) (lt_of_lt_of_le (pow-lt g) h)))

-- a value of binary64 has no digit below 2 ^ -1074
least_digit : (s : Bool) (m : ℕ) (e : ℤ) → T (fits binary64 (fin s m e)) → down e ≤ 2 ^ 1074
unfolding fits
least_digit s zero (pos k) h = lit≤ tt
least_digit s zero (negsuc k) h = subst (λ (n : ℕ). n ≤ 2 ^ 1074) (sym (eqb→eq (1 * 2 ^ suc k) 1 h) ∙ one-mul _) (lit≤ tt)
least_digit s (suc m) e h =
    let a = eqb (suc m % 2) 1 && ltb (suc m) (2 ^ 53) in
    let c = leb (down e) (2 ^ 1074) in
    leb→le (down e) (2 ^ 1074) (and_r a c (and_l (a && c) (ltb (suc m * up e) (2 ^ 1024 * down e)) h))

regroup : (m l d e v u : ℕ) → l * d ≡ v * u → m * l * (d * e) ≡ m * v * e * u
regroup m l d e v u p =
    let a : m * l * (d * e) ≡ m * e * (l * d) = simp (mul_assoc, mul_comm, mul_left_comm) in
    let b : m * e * (v * u) ≡ m * v * e * u = simp (mul_assoc, mul_left_comm) in
    a ∙ ap (λ (z : ℕ). m * e * z) p ∙ b

-- two magnitudes m * v / d and n * w / e, of m * l and n * k units: the smaller has fewer
cross : (m n v d l w e k u : ℕ) → 0 < u → l * d ≡ v * u → k * e ≡ w * u → m * v * e < n * w * d → m * l < n * k
cross m n v d l w e k u U p q h =
    lt_of_mul-lt-mul_right (d * e) (rw (regroup m l d e v u p, mul_comm d e, regroup n k e d w u q) (mul-lt-mul_of_pos_right h U))

-- the smaller of two magnitudes has fewer units
falls : (x y : Float) → T (is_magnitude x) → T (is_magnitude y) → lt x y ≡ true → magnitude_in_units x < magnitude_in_units y
unfolding lt
falls nan y p q h = absurd p
falls (inf s) y p q h = absurd p
falls (fin s m e) nan p q h = absurd q
falls (fin s m e) (inf t) p q h = absurd q
falls (fin true m e) (fin t n d) p q h = absurd p
falls (fin false m e) (fin true n d) p q h = absurd q
falls (fin false m e) (fin false n d) p q h =
    cross m n (up e) (down e) (power_in_units 1074 e) (up d) (down d) (power_in_units 1074 d) (2 ^ 1074) (pow_pos 1074)
    (power_exact 1074 e (least_digit false m e p)) (power_exact 1074 d (least_digit false n d q)) (ltb-true _ _ h)

-- the magnitude of a value, where it is below another magnitude, is finite
below_magnitude : (w y : Float) → T (fits binary64 w) → T (is_magnitude y) → lt (abs w) y ≡ true → T (is_magnitude (abs w))
unfolding abs lt fits
below_magnitude nan y f q h = absurd (false≢true h)
below_magnitude (inf s) nan f q h = absurd q
below_magnitude (inf s) (inf t) f q h = absurd q
below_magnitude (inf s) (fin t n d) f q h = absurd (false≢true h)
below_magnitude (fin s zero e) y f q h = f
below_magnitude (fin s (suc m) e) y f q h = f

-- ---- the loop

-- a loop that goes on has a term whose magnitude is below the one before
term_falls : (lasta : Float) (s : Expansion) → goes_on lasta s ≡ true → lt s.a lasta ≡ true
unfolding goes_on
term_falls lasta s h =
    is_true (lt s.a lasta) (and_l (lt s.a lasta) (le (abs (s.sum ⊗ epsilon)) s.a) (subst T (sym h) tt))

-- one iteration of a loop that goes on: the term's magnitude stays finite and falls
next_magnitude : (zsqr : Float) (s : Expansion) → T (is_magnitude s.a) → goes_on s.a (next zsqr s) ≡ true → T (is_magnitude (next zsqr s).a)
unfolding next
next_magnitude zsqr s p h = below_magnitude _ s.a (mul-fits binary64 _ _) p (term_falls _ _ h)

next_falls :
    (zsqr : Float) (s : Expansion) → T (is_magnitude s.a) → goes_on s.a (next zsqr s) ≡ true
    → magnitude_in_units (next zsqr s).a < magnitude_in_units s.a
next_falls zsqr s p h = falls _ _ (next_magnitude zsqr s p h) p (term_falls _ _ h)

-- the loop stops by itself within k iterations; `on` says whether it goes on from s
unfoldable pub Stops : ℕ → Bool → Float → Expansion → Type 0
Stops zero on zsqr s = on ≡ false
Stops (suc k) false zsqr s = Unit
Stops (suc k) true zsqr s = Stops k (goes_on s.a (next zsqr s)) zsqr (next zsqr s)

stopped : (k : ℕ) (zsqr : Float) (s : Expansion) → Stops k false zsqr s
unfolding Stops
stopped zero zsqr s = refl
stopped (suc k) zsqr s = tt

-- a loop stops within k iterations if it does so where its test lets it go on
stops_by_test : (k : ℕ) (zsqr : Float) (s : Expansion) (on : Bool) → (on ≡ true → Stops k true zsqr s) → Stops k on zsqr s
stops_by_test k zsqr s true g = g refl
stops_by_test k zsqr s false g = stopped k zsqr s

stops : (k : ℕ) (zsqr : Float) (s : Expansion) → T (is_magnitude s.a) → magnitude_in_units s.a < k → Stops k true zsqr s
unfolding Stops
stops zero zsqr s p h = absurd (none h)
  where
    none : {n : ℕ} → n < 0 → ⊥
    none h = omega arith
stops (suc k) zsqr s p h =
    stops_by_test k zsqr (next zsqr s) (goes_on s.a (next zsqr s))
    (λ g. stops k zsqr (next zsqr s) (next_magnitude zsqr s p g) (less (next_falls zsqr s p g) h))
  where
    less : {m n : ℕ} → m < n → n < suc k → m < k
    less g h = omega arith

start_magnitude : T (is_magnitude initial_expansion.a)
unfolding of_bits fits
start_magnitude = tt

start_below : magnitude_in_units initial_expansion.a < iteration_limit
unfolding iteration_limit of_bits
start_below = lit< tt

-- for every zsqr, NaN and infinities among them, the iterations of the definition are never used up: it is the source's loop
pub asymptotic_sum_stops : (zsqr : Float) → Stops iteration_limit true zsqr initial_expansion
asymptotic_sum_stops zsqr = stops iteration_limit zsqr initial_expansion start_magnitude start_below

-- ---- the definition, iteration by iteration

-- one iteration more changes nothing where the loop stops without it
more : (k : ℕ) (on : Bool) (zsqr : Float) (s : Expansion) → Stops k on zsqr s → sum_from k on zsqr s ≡ sum_from (suc k) on zsqr s
unfolding Stops sum_from
more zero true zsqr s h = absurd (false≢true (sym h))
more zero false zsqr s h = refl
more (suc k) true zsqr s h = more k (goes_on s.a (next zsqr s)) zsqr (next zsqr s) h
more (suc k) false zsqr s h = refl

-- an iteration leaves the sum at which the loop stops
sum_next :
    (k : ℕ) (zsqr : Float) (s : Expansion) → Stops k true zsqr s
    → sum_from k true zsqr s ≡ sum_from k (goes_on s.a (next zsqr s)) zsqr (next zsqr s)
unfolding Stops sum_from
sum_next zero zsqr s h = absurd (false≢true (sym h))
sum_next (suc k) zsqr s h = more k (goes_on s.a (next zsqr s)) zsqr (next zsqr s) h

sum_stopped : (k : ℕ) (zsqr : Float) (s : Expansion) → sum_from k false zsqr s ≡ s.sum
unfolding sum_from
sum_stopped zero zsqr s = refl
sum_stopped (suc k) zsqr s = refl

-- ---- what holds at the head of each iteration

pub record LoopInvariant (zsqr : Float) (s : Expansion) : Type 0 where
  pub magnitude : T (is_magnitude s.a)
  pub within : magnitude_in_units s.a < iteration_limit
  pub sum_kept : sum_from iteration_limit true zsqr s ≡ asymptotic_sum zsqr

pub invariant_start : (zsqr : Float) → LoopInvariant zsqr initial_expansion
unfolding asymptotic_sum
invariant_start zsqr = record { magnitude = start_magnitude; within = start_below; sum_kept = refl }

module _ (zsqr : Float) (s t : Expansion) (u : LoopInvariant zsqr s) (e : t ≡ next zsqr s) where
  same_sum : (on : Bool) → goes_on s.a t ≡ on → sum_from iteration_limit on zsqr t ≡ asymptotic_sum zsqr
  same_sum on g =
      let stops_here = stops iteration_limit zsqr s u.magnitude u.within in
      let sum_from_lem : Bool → Expansion → Float = λ b r. sum_from iteration_limit b zsqr r in
      let one_iteration : sum_from_lem true s ≡ sum_from_lem (goes_on s.a t) t = rw e (sum_next iteration_limit zsqr s stops_here) in
      sym (one_iteration ∙ ap (λ (b : Bool). sum_from_lem b t) g) ∙ u.sum_kept

  pub magnitude_falls : goes_on s.a t ≡ true → magnitude_in_units t.a < magnitude_in_units s.a
  magnitude_falls g = rw e (next_falls zsqr s u.magnitude (rw e at g))

  pub invariant_next : goes_on s.a t ≡ true → LoopInvariant zsqr t
  invariant_next g =
      record {
        magnitude = rw e (next_magnitude zsqr s u.magnitude (rw e at g));
        within = lt_trans (magnitude_falls g) u.within;
        sum_kept = same_sum true g;
      }

  pub sum_at_stop : goes_on s.a t ≡ false → t.sum ≡ asymptotic_sum zsqr
  sum_at_stop g = sym (sum_stopped iteration_limit zsqr t) ∙ same_sum false g
