-- The ratios from which `negative_abs_log_moneyness` takes logarithms are the same for two prices and for 2 ^ k times each; and so is the
-- test by which it chooses between them, although 0.5 * larger may round below the normal range: it does so only where larger is below
-- 2 ^ -1021, and then smaller is above its half in both pairs. Assumes nothing.
use Rattle.std.specs.Prelude.{◌≡◌, ℕ, ◌*◌, ◌/◌, ◌^◌, ◌<◌, ◌≤◌, true, false, T, ◌⊎◌, ◌==◌, nat_le, refl, Float}
use Rattle.std.proofs.Common.{sym, ap, ◌∙◌, subst, inl, inr, le_trans, le_of_eq, le_of_lt, le_of_suc-le-suc, lt_of_lt_of_le, one-mul, zero-add, mul_assoc, mul_comm, mul_left_comm, mul_right_comm, mul-pos, mul-le-mul_right, mul-le-mul_left, le_of_mul-le-mul_right, div-lt_iff_lt-mul, le-mul_of_pos_right, arith, ne_eqb, leb→le, le→leb, pow_pos, pow_mono}
use Rattle.std.specs.Float.{nan, inf, fin}
use Rattle.std.specs.Float.Ieee.{binary64, low, prec, size, fits, le, mul, div, sub, round, of_bits}
use Rattle.std.specs.Float.Ieee.Digits.{size-lt}
use Rattle.std.specs.Float.Ieee.Bits.{is_true}
use Rattle.std.specs.Float.Ieee.Order.{round_mono}
use Rattle.std.specs.Float.Ieee.Scale.{finite}
use Rattle.std.specs.Float.Ieee.Positive.{num, den, den_pos, positive, above, above_of_le, le→cross, own_value}
use Rattle.arithmetic.specs.Laws.Numbers.{lt_or_le}
use Rattle.arithmetic.specs.Laws.Ratio.{leb_ratio}
use Rattle.arithmetic.specs.Basic.{is_sign_minus}
use Rattle.arithmetic.specs.Laws.Times.{Times, positive_sign, num_positive}
use Rattle.arithmetic.specs.Laws.Representable.{round_self, grid_under}
use Rattle.arithmetic.specs.Laws.Compare.{le_times, cross_left}
use Rattle.arithmetic.specs.Laws.Sums.{sub_times, sub_finite, round_finite}
use Rattle.arithmetic.specs.Laws.Products.{mul_is, mul_times, div_is, div_times, product_ratio}
use Rattle.arithmetic.specs.Laws.Extremes.{times_refl}
use Rattle.arithmetic.specs.Operations.{half, min_positive}
use Rattle.arithmetic.specs.Magnitude.{NotOver}

-- a normal number above zero: a value of binary64 that is finite and at least 2 ^ -1022
pub record PositiveNormal (x : Float) : Type 0 where
  pub held : T (fits binary64 x)
  pub bounded : T (finite x)
  pub large : T (le min_positive x)

above_positive : (x : Float) → T (finite x) → T (above x) → T (positive x)
above_positive nan p a = absurd p
above_positive (inf s) p a = absurd p
above_positive (fin true m e) p a = absurd a
above_positive (fin false m e) p a = a

pub normal_positive : (x : Float) → PositiveNormal x → T (positive x)
unfolding of_bits
normal_positive x o = above_positive x o.bounded (above_of_le min_positive x tt o.large)

pub plus : (x : Float) → PositiveNormal x → is_sign_minus x ≡ false
plus x o = positive_sign x (normal_positive x o)

pub num_above : (x : Float) → PositiveNormal x → 0 < num x
num_above x o = num_positive x (normal_positive x o)

pub large_cross : (x : Float) → PositiveNormal x → den x ≤ num x * 2 ^ 1022
unfolding of_bits
large_cross x o = le_trans (le_of_eq (sym (one-mul (den x)))) (le→cross min_positive x tt (normal_positive x o) o.large)

-- ---- a fraction that is at most s rounds to at most s
module _ (s : Float) (o : PositiveNormal s) (a c : ℕ) (C : 0 < c) (h : a * den s ≤ num s * c) where
  rounds_below : T (le (round binary64 false a c) s)
  rounds_below =
      subst (λ (z : Float). T (le (round binary64 false a c) z))
      (round_self binary64 s false (num s) (den s) (den_pos s) o.held (own_value s (normal_positive s o)))
      (round_mono binary64 a c (num s) (den s) C (den_pos s) h)

-- ---- 0.5 * larger against smaller
half_is : (l : Float) → PositiveNormal l → mul binary64 half l ≡ round binary64 false (num half * num l) (den half * den l)
unfolding of_bits
half_is l o = mul_is binary64 half l tt o.bounded ∙ rw (plus l o)

half_finite : (l : Float) → PositiveNormal l → T (finite (mul binary64 half l))
unfolding of_bits
half_finite l o =
    let less : den l ≤ den half * den l = le_trans (le-mul_of_pos_right (den l) (den_pos half)) (le_of_eq (mul_comm (den l) (den half))) in
    subst (λ (z : Float). T (finite z)) (sym (half_is l o))
    (round_finite binary64 false (num half * num l) (den half * den l)
    (grid_under binary64 (num half * num l) (den half * den l) l (mul-pos (den_pos half) (den_pos l)) o.held o.bounded
    (le_trans (le_of_eq (ap (λ (z : ℕ). z * den l) (one-mul (num l)))) (mul-le-mul_left (num l) less))))

half_le : (s l : Float) → PositiveNormal s → PositiveNormal l → num half * num l * den s ≤ num s * (den half * den l) → T (le (mul binary64 half l) s)
half_le s l o q h =
    subst (λ (z : Float). T (le z s)) (sym (half_is l q))
    (rounds_below s o (num half * num l) (den half * den l) (mul-pos (den_pos half) (den_pos l)) h)

chain : (A C ds ns P Q R : ℕ) → R ≡ Q * P → 0 < R → A * R ≤ P * C → ds ≤ ns * Q → A * ds ≤ ns * C
chain A C ds ns P Q R e Z h g =
    le_of_mul-le-mul_right
    (le_trans (le_of_eq (mul_right_comm A ds R))
    (le_trans (mul-le-mul_right ds h)
    (le_trans (mul-le-mul_left (P * C) g)
    (le_of_eq ((let r : P * C * (ns * Q) ≡ ns * C * (Q * P) = simp (mul_assoc, mul_comm, mul_left_comm) in r) ∙ ap (λ (z : ℕ). ns * C * z) (sym e))))))
    Z

-- a fraction A / C below the normal range is below s, which is not
low_half : (A C : ℕ) (s : Float) → 0 < C → PositiveNormal s → size (A * 2 ^ low binary64 / C) < prec binary64 → A * den s ≤ num s * C
low_half A C s Z o h =
    chain A C (den s) (num s) (2 ^ 52) (2 ^ 1022) (2 ^ low binary64) refl (pow_pos (low binary64))
    (le_of_lt ((div-lt_iff_lt-mul Z).0 (lt_of_lt_of_le (size-lt (A * 2 ^ low binary64 / C)) (pow_mono (le_of_suc-le-suc h)))))
    (large_cross s o)

-- ---- the smaller s and the larger l of two prices, and 2 ^ k times each
module _ (k : ℕ) (s l s' l' : Float) (o : PositiveNormal s) (q : PositiveNormal l) (o' : PositiveNormal s') (q' : PositiveNormal l')
    (h : Times k s s') (g : Times k l l') where
  pub half_test : le (mul binary64 half l') s' ≡ le (mul binary64 half l) s
  unfolding of_bits
  half_test = go (lt_or_le (size (A * 2 ^ low binary64 / C)) (prec binary64))
    where
      A : ℕ
      A = num half * num l

      C : ℕ
      C = den half * den l

      A' : ℕ
      A' = num half * num l'

      C' : ℕ
      C' = den half * den l'

      scaled : Times 0 half half
      scaled = times_refl half tt

      both : A * den s ≤ num s * C → le (mul binary64 half l') s' ≡ le (mul binary64 half l) s
      both e =
          let D : 0 < C = mul-pos (den_pos half) (den_pos l) in
          let D' : 0 < C' = mul-pos (den_pos half) (den_pos l') in
          let halves : A' * C ≡ A * 2 ^ k * C' =
          product_ratio (num half) (den half) (num l) (den l) (num half) (den half) (num l') (den l') 1 (2 ^ k) (2 ^ k) (sym (one-mul (2 ^ k)))
          scaled.value g.value
          ∙ sym (mul_assoc A (2 ^ k) C') in
          let smaller : num s' * C' * (C * den s) ≡ num s * C * (2 ^ k * (C' * den s')) =
          ap (λ (z : ℕ). num s' * C' * z) (mul_comm C (den s))
          ∙ cross_left (num s) (den s) (num s') (den s') C C' (2 ^ k) h.value
          ∙ ap (λ (z : ℕ). num s * C * (2 ^ k * z)) (mul_comm (den s') C') in
          let same : nat_le (A' * den s') (num s' * C') ≡ nat_le (A * den s) (num s * C) =
          leb_ratio (C * den s) (2 ^ k * (C' * den s')) (mul-pos D (den_pos s)) (mul-pos (pow_pos k) (mul-pos D' (den_pos s')))
          (A * den s) (num s * C) (A' * den s') (num s' * C') (cross_left A C A' C' (den s) (den s') (2 ^ k) halves) smaller in
          let e' : A' * den s' ≤ num s' * C' = leb→le (A' * den s') (num s' * C') (subst T (sym same) (le→leb (A * den s) (num s * C) e)) in
          is_true (le (mul binary64 half l') s') (half_le s' l' o' q' e')
          ∙ sym (is_true (le (mul binary64 half l) s) (half_le s l o q e))

      go : (size (A * 2 ^ low binary64 / C) < prec binary64) ⊎ (prec binary64 ≤ size (A * 2 ^ low binary64 / C))
          → le (mul binary64 half l') s' ≡ le (mul binary64 half l) s
      go (inl n) = both (low_half A C s (mul-pos (den_pos half) (den_pos l)) o n)
      go (inr y) =
          le_times k (mul binary64 half l) s (mul binary64 half l') s'
          (subst (λ (j : ℕ). Times j (mul binary64 half l) (mul binary64 half l')) (zero-add k)
          (mul_times binary64 0 k half l half l' scaled g (inl y) (half_finite l' q'))) h

  difference : Times k (sub binary64 l s) (sub binary64 l' s')
  difference =
      sub_times binary64 k l s l' s' q.held o.held g h
      (sub_finite binary64 l' s' q'.held o'.held q'.bounded o'.bounded (plus l' q') (plus s' o'))

  pub excess : div binary64 (sub binary64 l' s') s' ≡ div binary64 (sub binary64 l s) s
  excess = div_times binary64 k (sub binary64 l s) s (sub binary64 l' s') s' difference h

  pub ratio : div binary64 s' l' ≡ div binary64 s l
  ratio = div_times binary64 k s l s' l' h g

-- ---- where l is at most 2 ^ 1022 times s, s / l is not subnormal
pub min_positive_is : round binary64 false 1 (2 ^ 1022) ≡ min_positive
unfolding round of_bits
min_positive_is = refl

pub positive_zero : (n : ℕ) → 0 < n → (n == 0) ≡ false
positive_zero n h = ne_eqb n 0 (λ e. omega arith)

quotient_is : (s l : Float) → PositiveNormal s → PositiveNormal l → div binary64 s l ≡ round binary64 false (num s * den l) (num l * den s)
quotient_is s l o q = div_is binary64 s l o.bounded q.bounded ∙ rw (plus s o, plus l q, positive_zero (num l) (num_above l q))

pub ratio_normal : (s l : Float) → PositiveNormal s → PositiveNormal l → NotOver l s → T (le min_positive (div binary64 s l))
ratio_normal s l o q h =
    subst (λ (z : Float). T (le z (div binary64 s l))) min_positive_is
    (subst (λ (z : Float). T (le (round binary64 false 1 (2 ^ 1022)) z)) (sym (quotient_is s l o q))
    (round_mono binary64 1 (2 ^ 1022) (num s * den l) (num l * den s) (pow_pos 1022) (mul-pos (num_above l q) (den_pos s))
    (le_trans (le_of_eq (one-mul (num l * den s))) h)))
