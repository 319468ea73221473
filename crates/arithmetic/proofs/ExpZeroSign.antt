-- For `fast` and `near_zero` of `exp`: `reduced` with a k that is +0 or -0 is 1 + (y + x), for the y that it takes from l. Assumes nothing.
use Rattle.std.proofs.Common.{◌≡◌, ℕ, zero, suc, ◌+◌, ◌-◌, ◌*◌, ◌<◌, ◌≤◌, Bool, true, false, cond, not, ◌&&◌, T, ltb, ◌⊎◌, ℤ, pos, sym, refl, ap, ◌∙◌, inl, inr, mul-pos, one-mul, zero-mul, mul-one, arith, le-ltb, lt-ltb}
use lib.Ieee.{Float, nan, inf, fin, binary64, up, down, minus, round, sum, add, sub, mul, div, neg, fits, of_bits}
use lib.Ieee.Fits.{down_pos, neg-fits, add-fits, div-fits}
use lib.Ieee.Scale.{finite}
use Rattle.arithmetic.specs.Operations.{◌⊕◌, ◌⊖◌, ◌⊗◌, one}
use Rattle.arithmetic.specs.Exp.{ln2_hi, ln2_lo, reduced, scale_b}
use Rattle.arithmetic.specs.Laws.Numbers.{lt_or_le}
use Rattle.arithmetic.specs.Laws.Identities.{round_neg}
use Rattle.arithmetic.specs.Laws.Bounds.{round_to_zero}
use Rattle.arithmetic.specs.Laws.Representable.{round_self}
use Rattle.arithmetic.specs.Laws.Sums.{add_is}
use Rattle.arithmetic.specs.Laws.Zeros.{zero_of, zero_by_sign, zero_plus, plus_zero_lem}
use Rattle.arithmetic.specs.Laws.ExpBounds.{fraction, reduced_is}
use Rattle.arithmetic.proofs.ExpGeneral.{biased_exponent, scaled}

-- ---- a zero added to a zero
sum_zeros : (u t : Bool) (c : ℕ) → 0 < c → (v : Bool) × (sum binary64 u 0 t 0 c ≡ zero_of v)
unfolding sum
sum_zeros true true c C = (true, round_to_zero true 0 c C)
sum_zeros true false c C = (false, round_to_zero false 0 c C)
sum_zeros false true c C = (false, round_to_zero false 0 c C)
sum_zeros false false c C = (false, round_to_zero false 0 c C)

zeros_plus : (u t : Bool) (e : ℤ) → (v : Bool) × (zero_of u ⊕ fin t 0 e ≡ zero_of v)
zeros_plus u t e =
    let z = sum_zeros u t (down e) (down_pos e) in
    (z.0, add_is binary64 (zero_of u) (fin t 0 e) tt tt ∙ rw (zero-mul (down e), zero-mul (up e), one-mul (down e)) z.1)

-- ---- an x that is not 0, less a zero; a zero less any z, less x
module _ (t : Bool) (m : ℕ) (e : ℤ) (F : T (fits binary64 (fin t (suc m) e))) where
  abbrev x : Float
  x = fin t (suc m) e

  less_zero : (u : Bool) → x ⊖ zero_of u ≡ x
  unfolding sub neg
  less_zero u = plus_zero_lem (not u) t m e F

  from_zero : (u : Bool) → zero_of u ⊖ x ≡ neg x
  unfolding sub neg
  from_zero u = zero_plus u (not t) m e (neg-fits binary64 x F)

from_zero_less : (u : Bool) (z : Float) → T (fits binary64 z) → (t : Bool) (m : ℕ) (e : ℤ) → T (fits binary64 (fin t (suc m) e))
    → zero_of u ⊖ z ⊖ fin t (suc m) e ≡ neg z ⊖ fin t (suc m) e
unfolding sub neg add
from_zero_less u nan G t m e F = refl
from_zero_less u (inf s) G t m e F = refl
from_zero_less u (fin s zero d) G t m e F =
    let a = zeros_plus u (not s) d in
    let x = fin t (suc m) e in
    let z : neg (fin s zero d) ≡ zero_of (not s) = zero_by_sign (fin (not s) zero d) (neg-fits binary64 (fin s zero d) G) tt (zero-mul (up d)) in
    ap (λ (w : Float). w ⊖ x) a.1 ∙ from_zero t m e F a.0 ∙ sym (from_zero t m e F (not s)) ∙ ap (λ (w : Float). w ⊖ x) (sym z)
from_zero_less u (fin s (suc n) d) G t m e F = rw (from_zero s n d G u) refl

-- ---- a sum with both signs changed is the negative of the sum, or both are +0; so 1 less the first is 1 and the second
opposite : (z w : Float) → z ≡ neg w → one ⊖ z ≡ one ⊕ w
unfolding sub neg
opposite z nan e = rw e
opposite z (inf true) e = rw e
opposite z (inf false) e = rw e
opposite z (fin true m d) e = rw e
opposite z (fin false m d) e = rw e

both_zero : (z w : Float) → z ≡ zero_of false → w ≡ zero_of false → one ⊖ z ≡ one ⊕ w
unfolding sub neg add of_bits
both_zero z w e g = rw (e, g) refl

unlike_signs : (s t : Bool) (a b c : ℕ) → 0 < c → (a < b) ⊎ (b ≤ a) → (b < a) ⊎ (a ≤ b)
    → one ⊖ cond (ltb a b) (round binary64 (not t) (b - a) c) (round binary64 (not s && ltb b a) (a - b) c)
    ≡ one ⊕ cond (ltb a b) (round binary64 t (b - a) c) (round binary64 (s && ltb b a) (a - b) c)
unlike_signs s t a b c C (inl h) k = rw (lt-ltb a b h) (opposite _ _ (round_neg binary64 t (b - a) c))
unlike_signs s t a b c C (inr h) (inl k) = rw (le-ltb a b h, lt-ltb b a k) (above s (a - b))
  where
    above : (s : Bool) (n : ℕ) → one ⊖ round binary64 (not s && true) n c ≡ one ⊕ round binary64 (s && true) n c
    above true n = opposite _ _ (round_neg binary64 true n c)
    above false n = opposite _ _ (round_neg binary64 false n c)
unlike_signs s t a b c C (inr h) (inr k) = let e : a - b ≡ 0 = omega arith in rw (le-ltb a b h, le-ltb b a k, e) (level s)
  where
    level : (s : Bool) → one ⊖ round binary64 (not s && false) 0 c ≡ one ⊕ round binary64 (s && false) 0 c
    level true = both_zero _ _ (round_to_zero false 0 c C) (round_to_zero false 0 c C)
    level false = both_zero _ _ (round_to_zero false 0 c C) (round_to_zero false 0 c C)

one_less_sum : (s t : Bool) (a b c : ℕ) → 0 < c → one ⊖ sum binary64 (not s) a (not t) b c ≡ one ⊕ sum binary64 s a t b c
unfolding sum
one_less_sum true true a b c C = opposite _ _ (round_neg binary64 true (a + b) c)
one_less_sum false false a b c C = opposite _ _ (round_neg binary64 false (a + b) c)
one_less_sum true false a b c C = unlike_signs true false a b c C (lt_or_le a b) (lt_or_le b a)
one_less_sum false true a b c C = unlike_signs false true a b c C (lt_or_le a b) (lt_or_le b a)

one_less : (y x : Float) → one ⊖ (neg y ⊖ x) ≡ one ⊕ (y ⊕ x)
unfolding sub neg add
one_less nan x = opposite _ _ refl
one_less (inf s) nan = opposite _ _ refl
one_less (inf true) (inf true) = opposite _ _ refl
one_less (inf true) (inf false) = opposite _ _ refl
one_less (inf false) (inf true) = opposite _ _ refl
one_less (inf false) (inf false) = opposite _ _ refl
one_less (inf s) (fin t n d) = opposite _ _ refl
one_less (fin s m e) nan = opposite _ _ refl
one_less (fin s m e) (inf t) = opposite _ _ refl
one_less (fin s m e) (fin t n d) = one_less_sum s t _ _ _ (mul-pos (down_pos e) (down_pos d))

-- ---- so a k of 0 may have either sign
k_high : (u : Bool) → zero_of u ⊗ ln2_hi ≡ zero_of u
unfolding mul of_bits
k_high true = refl
k_high false = refl

k_low : (u : Bool) → zero_of u ⊗ ln2_lo ≡ zero_of u
unfolding mul of_bits
k_low true = refl
k_low false = refl

of_zero : (t u : Bool) → reduced (zero_of t) (zero_of u) ≡ one ⊕ (fraction (zero_of t) ⊕ zero_of t)
unfolding reduced add sub mul div neg of_bits
of_zero true true = refl
of_zero true false = refl
of_zero false true = refl
of_zero false false = refl

of_other : (t : Bool) (m : ℕ) (e : ℤ) → T (fits binary64 (fin t (suc m) e)) → (u : Bool)
    → reduced (fin t (suc m) e) (zero_of u) ≡ one ⊖ ((zero_of u ⊖ fraction (fin t (suc m) e)) ⊖ fin t (suc m) e)
of_other t m e F u = reduced_is (fin t (suc m) e) (zero_of u) ∙ rw (k_high u, k_low u, less_zero t m e F u, less_zero t m e F u) refl

reduced_at_zero : (x : Float) → T (fits binary64 x) → T (finite x) → (u : Bool) → reduced x (zero_of u) ≡ one ⊕ (fraction x ⊕ x)
reduced_at_zero nan F p u = absurd p
reduced_at_zero (inf s) F p u = absurd p
reduced_at_zero (fin t zero e) F p u = rw (zero_by_sign (fin t zero e) F p (zero-mul (up e))) (of_zero t u)
reduced_at_zero (fin t (suc m) e) F p u =
    let x = fin t (suc m) e in
    of_other t m e F u
    ∙ ap (λ (z : Float). one ⊖ z) (from_zero_less u (fraction x) (div-fits binary64 _ _) t m e F)
    ∙ one_less (fraction x) x

-- ---- and scaled by 2 ^ 0 it is itself
scale_by_one : (y : Float) → T (fits binary64 y) → scale_b y (pos 0) ≡ y
unfolding scale_b
scale_by_one nan F = refl
scale_by_one (inf s) F = refl
scale_by_one (fin s m e) F =
    rw (mul-one (m * up e), mul-one (down e)) (round_self binary64 (fin s m e) s (m * up e) (down e) (down_pos e) F (refl, refl))

round_zero : (u : Bool) → round binary64 u 0 1 ≡ zero_of u
unfolding round
round_zero u = refl

no_exponent : (u : Bool) → minus (biased_exponent u 0) 1075 ≡ pos 0
no_exponent true = refl
no_exponent false = refl

pub scaled_by_zero : (x : Float) → T (fits binary64 x) → T (finite x) → (u : Bool) → scaled x u 0 ≡ one ⊕ (fraction x ⊕ x)
scaled_by_zero x F p u = rw (no_exponent u, round_zero u, reduced_at_zero x F p u) (scale_by_one _ (add-fits binary64 _ _))
