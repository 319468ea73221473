-- `scale_b` by products: one with 2 ^ k, where that is a value of the format; or one with 2 or 1 / 2 before it, for the power above and the power
-- below those. A power is written 2 ^ e / 2 ^ 1075, so that e is a natural number. Assumes nothing.
use Rattle.std.specs.Prelude.{◌≡◌, ℕ, zero, suc, ◌+◌, ◌*◌, ◌^◌, ◌<◌, ◌≤◌, Bool, true, false, cond, not, T, ℤ, negsuc, nat_lt, refl, Float}
use Rattle.std.proofs.Common.{sym, ap, ◌∙◌, subst, le_trans, le_of_lt, mul-le-mul_left, le_of_eq, lt_of_le_of_lt, mul-one, one-mul, mul_assoc, mul_comm, mul_left_comm, mul_right_comm, mul-pos, mul-le-mul, mul-le-mul_right, mul-lt-mul_of_pos_right, le_of_mul-le-mul_right, arith, ltb→lt, nltb→le, lit≤, lit<, pow-add, pow_pos, pow_mono}
use Rattle.std.proofs.Math.Nat.{le-suc, mul-mul-mul_comm}
use Rattle.std.proofs.Math.Dec.{eqb-suc-zero}
use Rattle.std.proofs.Math.Pow.{pow-lt}
use Rattle.std.specs.Float.{nan, inf, fin, binary64}
use Rattle.std.specs.Float.Ieee.{up, down, minus, unlike, odd, round, mul, fits, of_bits}
use Rattle.std.specs.Float.Ieee.Digits.{minus_val}
use Rattle.std.specs.Float.Ieee.Fits.{down_pos}
use Rattle.std.specs.Float.Ieee.Exact.{HasValue, odd_sign, round_exact}
use Rattle.std.specs.Float.Ieee.Scale.{finite, round_same}
use Rattle.std.specs.Float.Ieee.Positive.{num, den, den_pos, positive, positive_of_value, positive-finite}
use Rattle.arithmetic.specs.Operations.{◌⊗◌, half, two}
use Rattle.arithmetic.specs.Basic.{is_sign_minus}
use Rattle.arithmetic.specs.Exp.{scale_b}
use Rattle.arithmetic.specs.Laws.Times.{cross, has_sign, of_cross, rescale}
use Rattle.arithmetic.specs.Laws.Products.{mul_is}
use Rattle.arithmetic.specs.Laws.Patterns.{subnormal, built}
use Rattle.arithmetic.specs.Laws.Representable.{representable}
use Rattle.arithmetic.specs.Laws.Bounds.{AtMost, round_at_most, round_to_zero, round_to_infinity}

-- ---- `scale_b` of y, by any fraction that y equals
scale_b_fin : (s : Bool) (m : ℕ) (e : ℤ) (k : ℤ) → scale_b (fin s m e) k ≡ round binary64 s (m * up e * up k) (down e * down k)
unfolding scale_b
scale_b_fin s m e k = refl

-- products of equal fractions: n / l = a / c and u / d = p / q
in_proportion : (n l a c u d p q : ℕ) → n * c ≡ a * l → u * q ≡ p * d → n * u * (c * q) ≡ a * p * (l * d)
in_proportion n l a c u d p q e g = mul-mul-mul_comm n u c q ∙ ap (λ (z : ℕ). z * (u * q)) e ∙ ap (λ (z : ℕ). a * l * z) g ∙ mul-mul-mul_comm a l p d

scale_b_at : (y : Float) (s : Bool) (a c e : ℕ) → 0 < c → HasValue y s a c → scale_b y (minus e 1075) ≡ round binary64 s (a * 2 ^ e) (c * 2 ^ 1075)
scale_b_at nan s a c e C h = absurd h
scale_b_at (inf t) s a c e C h = absurd h
scale_b_at (fin t m d) s a c e C h =
    let k = minus e 1075 in
    let power : up k * 2 ^ 1075 ≡ 2 ^ e * down k =
    ap (λ (z : ℕ). z * 2 ^ 1075) (sym (one-mul (up k))) ∙ minus_val 1 e 1075 ∙ ap (λ (z : ℕ). z * down k) (one-mul (2 ^ e)) in
    scale_b_fin t m d k
    ∙ ap (λ (b : Bool). round binary64 b (m * up d * up k) (down d * down k)) h.0
    ∙ round_same binary64 s (m * up d * up k) (down d * down k) (a * 2 ^ e) (c * 2 ^ 1075) (mul-pos (down_pos d) (down_pos k)) (mul-pos C (pow_pos 1075))
    (in_proportion (m * up d) (down d) a c (up k) (down k) (2 ^ e) (2 ^ 1075) h.1 power)

-- ---- the product with a power of two
unlike_false : (s : Bool) → unlike s false ≡ s
unlike_false true = refl
unlike_false false = refl

times_inf : (s : Bool) (p : Float) → T (positive p) → mul binary64 (inf s) p ≡ inf s
unfolding mul
times_inf s nan h = absurd h
times_inf s (inf t) h = absurd h
times_inf s (fin true m e) h = absurd h
times_inf s (fin false zero e) h = absurd h
times_inf s (fin false (suc m) e) h = ap (λ (b : Bool). cond b nan (inf (unlike s false))) (eqb-suc-zero m) ∙ ap inf (unlike_false s)

-- a finite y times b / d
pub times_fraction : (y p : Float) (b d : ℕ) → T (finite y) → 0 < b → 0 < d → HasValue p false b d
    → y ⊗ p ≡ round binary64 (is_sign_minus y) (num y * b) (den y * d)
times_fraction y p b d h B D v =
    mul_is binary64 y p h (positive-finite p (positive_of_value p b d v B))
    ∙ ap (λ (s : Bool). round binary64 (unlike (is_sign_minus y) s) (num y * num p) (den y * den p)) (has_sign p false b d v)
    ∙ ap (λ (s : Bool). round binary64 s (num y * num p) (den y * den p)) (unlike_false (is_sign_minus y))
    ∙ round_same binary64 (is_sign_minus y) (num y * num p) (den y * den p) (num y * b) (den y * d) (mul-pos (den_pos y) (den_pos p)) (mul-pos (den_pos y) D)
    (in_proportion (num y) (den y) (num y) (den y) (num p) (den p) b d refl (cross p false b d v))

pub times_power : (y p : Float) (e : ℕ) → HasValue p false (2 ^ e) (2 ^ 1075) → y ⊗ p ≡ scale_b y (minus e 1075)
unfolding mul scale_b
times_power nan p e v = refl
times_power (inf s) p e v = times_inf s p (positive_of_value p (2 ^ e) (2 ^ 1075) v (pow_pos e))
times_power (fin s m d) p e v =
    times_fraction (fin s m d) p (2 ^ e) (2 ^ 1075) tt (pow_pos e) (pow_pos 1075) v
    ∙ sym (scale_b_at (fin s m d) s (m * up d) (down d) e (down_pos d) (refl, refl))

-- ---- with 2 or 1 / 2 first, which is exact but at the ends of the range: an infinite double stays infinite, and what a half loses is far
-- below what the result keeps
two_value : HasValue two false 2 1
unfolding of_bits
two_value = (refl, refl)

half_value : HasValue half false 1 2
unfolding of_bits
half_value = (refl, refl)

quarter_fits : T (fits binary64 (fin false 1 (negsuc 1)))
unfolding fits
quarter_fits = tt

scale_b_inf : (s : Bool) (k : ℤ) → scale_b (inf s) k ≡ inf s
unfolding scale_b
scale_b_inf s k = refl

-- 2 ^ 2098 smallest values are 2 ^ 1024
reaches : (a c w : ℕ) → a * 2 ^ 1074 ≡ w * c → 2 ^ 2098 ≤ w → 2 ^ 1024 * c ≤ a
reaches a c w h b =
    le_of_mul-le-mul_right (le_trans (le_of_eq (mul_right_comm (2 ^ 1024) c (2 ^ 1074))) (le_trans (mul-le-mul_right c b) (le_of_eq (sym h)))) (pow_pos 1074)

-- and 2 ^ 53 of them are no more than 1 / 4
quarter : (n l q : ℕ) → n * 2 ^ 1074 ≡ q * 2 ^ 0 * l → q < 2 ^ 53 → n * 4 ≤ l
quarter n l q h b =
    le_of_mul-le-mul_right
    (le_trans (le_of_eq (mul_assoc n 4 (2 ^ 1072) ∙ h ∙ ap (λ (z : ℕ). z * l) (mul-one q)))
    (le_trans (mul-le-mul_right l (le_trans (le_of_lt b) (lit≤ {m = 2 ^ 53} {n = 2 ^ 1072} tt))) (le_of_eq (mul_comm (2 ^ 1072) l))))
    (pow_pos 1072)

-- the value n / l, which is q * 2 ^ j of the smallest, times b / c
module _ (s : Bool) (n l q j : ℕ) (L : 0 < l) (few : q < 2 ^ 53) (exact : n * 2 ^ 1074 ≡ q * 2 ^ j * l) where
  in_smallest : (b c i : ℕ) → b * 2 ^ j ≡ 2 ^ i * c → n * b * 2 ^ 1074 ≡ q * 2 ^ i * (l * c)
  in_smallest b c i h =
      mul_right_comm n b (2 ^ 1074)
      ∙ ap (λ (z : ℕ). z * b) exact
      ∙ (let e : q * 2 ^ j * l * b ≡ q * (b * 2 ^ j) * l = simp (mul_assoc, mul_comm, mul_left_comm) in e)
      ∙ ap (λ (z : ℕ). q * z * l) h
      ∙ (let e : q * (2 ^ i * c) * l ≡ q * 2 ^ i * (l * c) = simp (mul_assoc, mul_comm, mul_left_comm) in e)

  -- exact, for b / c a power of two whose place is i - j: it moves e to e'
  exact_first : (b c i e e' : ℕ) → 0 < c → b * 2 ^ j ≡ 2 ^ i * c → b * 2 ^ e ≡ 2 ^ e' * c → q * 2 ^ i < 2 ^ 2098
      → scale_b (round binary64 s (n * b) (l * c)) (minus e 1075) ≡ round binary64 s (n * 2 ^ e') (l * 2 ^ 1075)
  exact_first b c i e e' C h g u =
      scale_b_at (round binary64 s (n * b) (l * c)) s (n * b) (l * c) e (mul-pos L C)
      (round_exact binary64 s (n * b) (l * c) q i (mul-pos L C) few u (in_smallest b c i h))
      ∙ round_same binary64 s (n * b * 2 ^ e) (l * c * 2 ^ 1075) (n * 2 ^ e') (l * 2 ^ 1075) (mul-pos (mul-pos L C) (pow_pos 1075)) (mul-pos L (pow_pos 1075))
      (ap (λ (z : ℕ). z * (l * 2 ^ 1075)) (mul_assoc n b (2 ^ e) ∙ ap (λ (z : ℕ). n * z) g) ∙ regroup n (2 ^ e') c l (2 ^ 1075))
    where
      regroup : (n a c l p : ℕ) → n * (a * c) * (l * p) ≡ n * a * (l * c * p)
      regroup n a c l p = simp (mul_assoc, mul_comm)

  doubled : (e : ℕ) → 1075 ≤ e → scale_b (round binary64 s (n * 2) (l * 1)) (minus e 1075) ≡ round binary64 s (n * 2 ^ (1 + e)) (l * 2 ^ 1075)
  doubled e E = go (nat_lt (q * 2 ^ (1 + j)) (2 ^ 2098)) (ltb→lt (q * 2 ^ (1 + j)) (2 ^ 2098)) (nltb→le (q * 2 ^ (1 + j)) (2 ^ 2098))
    where
      next : (i : ℕ) → 2 * 2 ^ i ≡ 2 ^ (1 + i) * 1
      next i = sym (pow-add 2 1 i) ∙ sym (mul-one (2 ^ (1 + i)))

      go : (b : Bool) → (T b → q * 2 ^ (1 + j) < 2 ^ 2098) → (T (not b) → 2 ^ 2098 ≤ q * 2 ^ (1 + j))
          → scale_b (round binary64 s (n * 2) (l * 1)) (minus e 1075) ≡ round binary64 s (n * 2 ^ (1 + e)) (l * 2 ^ 1075)
      go true y x = exact_first 2 1 (1 + j) e (1 + e) (pow_pos 0) (next j) (next e) (y tt)
      go false y x =
          let big : 2 ^ 1024 * (l * 1) ≤ n * 2 = reaches (n * 2) (l * 1) (q * 2 ^ (1 + j)) (in_smallest 2 1 (1 + j) (next j)) (x tt) in
          ap (λ (z : Float). scale_b z (minus e 1075)) (round_to_infinity s (n * 2) (l * 1) (mul-pos L (pow_pos 0)) big)
          ∙ scale_b_inf s (minus e 1075)
          ∙ sym (round_to_infinity s (n * 2 ^ (1 + e)) (l * 2 ^ 1075) (mul-pos L (pow_pos 1075))
          (le_trans (le_of_eq (ap (λ (z : ℕ). 2 ^ 1024 * (z * 2 ^ 1075)) (sym (mul-one l)) ∙ sym (mul_assoc (2 ^ 1024) (l * 1) (2 ^ 1075))))
          (le_trans (mul-le-mul big (pow_mono E)) (le_of_eq (mul_assoc n 2 (2 ^ e) ∙ ap (λ (z : ℕ). n * z) (sym (pow-add 2 1 e)))))))

  -- the smallest values themselves, and others below 1 / 4: nothing of them is left
  vanishes : n * 4 ≤ l → scale_b (round binary64 s (n * 1) (l * 2)) (minus 1 1075) ≡ round binary64 s (n * 2 ^ 0) (l * 2 ^ 1075)
  vanishes small =
      let r = round binary64 s (n * 1) (l * 2) in
      let b : AtMost s (fin false 1 (negsuc 1)) r =
      round_at_most binary64 s (n * 1) (l * 2) (fin false 1 (negsuc 1)) (mul-pos L (pow_pos 1)) quarter_fits tt (first n l small) in
      scale_b_at r s (num r) (den r) 1 (den_pos r) (of_cross r s (num r) (den r) b.is_finite_lem b.sign refl)
      ∙ round_to_zero s (num r * 2 ^ 1) (den r * 2 ^ 1075) (mul-lt-mul_of_pos_right (second (num r) (den r) b.bound (den_pos r)) (pow_pos 1075))
      ∙ sym (round_to_zero s (n * 2 ^ 0) (l * 2 ^ 1075) (mul-lt-mul_of_pos_right (third n l small L) (pow_pos 1075)))
    where
      first : (a c : ℕ) → a * 4 ≤ c → a * 1 * 4 ≤ 1 * 1 * (c * 2)
      first a c h = omega arith

      second : (a c : ℕ) → a * 4 ≤ 1 * 1 * c → 0 < c → a * 2 < c
      second a c h p = omega arith

      third : (a c : ℕ) → a * 4 ≤ c → 0 < c → a * 1 < c
      third a c h p = omega arith

halved_at : (s : Bool) (n l q j : ℕ) → 0 < l → q < 2 ^ 53 → n * 2 ^ 1074 ≡ q * 2 ^ j * l → q * 2 ^ j < 2 ^ 2098
    → scale_b (round binary64 s (n * 1) (l * 2)) (minus 1 1075) ≡ round binary64 s (n * 2 ^ 0) (l * 2 ^ 1075)
halved_at s n l q zero L few exact u = vanishes s n l q 0 L few exact (quarter n l q exact few)
halved_at s n l q (suc i) L few exact u =
    exact_first s n l q (suc i) L few exact 1 2 i 1 0 (pow_pos 1) before refl (lt_of_le_of_lt (mul-le-mul_left q (pow_mono (le-suc i))) u)
  where
    next : (i : ℕ) → suc i ≡ i + 1
    next i = omega arith

    before : 1 * 2 ^ suc i ≡ 2 ^ i * 2
    before = one-mul (2 ^ suc i) ∙ ap (λ (z : ℕ). 2 ^ z) (next i) ∙ pow-add 2 i 1

pub twice : (y : Float) (e : ℕ) → T (fits binary64 y) → 1075 ≤ e → scale_b (y ⊗ two) (minus e 1075) ≡ scale_b y (minus (1 + e) 1075)
unfolding mul scale_b of_bits
twice nan e F E = refl
twice (inf true) e F E = refl
twice (inf false) e F E = refl
twice (fin s m d) e F E =
    let y = fin s m d in
    let o = representable binary64 y F tt in
    ap (λ (z : Float). scale_b z (minus e 1075)) (times_fraction y two 2 1 tt (pow_pos 1) (pow_pos 0) two_value)
    ∙ doubled s (m * up d) (down d) o.digits o.place (down_pos d) o.few o.exact e E
    ∙ sym (scale_b_at y s (m * up d) (down d) (1 + e) (down_pos d) (refl, refl))

pub halved : (y : Float) → T (fits binary64 y) → scale_b (y ⊗ half) (minus 1 1075) ≡ scale_b y (minus 0 1075)
unfolding mul scale_b of_bits
halved nan F = refl
halved (inf true) F = refl
halved (inf false) F = refl
halved (fin s m d) F =
    let y = fin s m d in
    let o = representable binary64 y F tt in
    ap (λ (z : Float). scale_b z (minus 1 1075)) (times_fraction y half 1 2 tt (pow_pos 0) (pow_pos 1) half_value)
    ∙ halved_at s (m * up d) (down d) o.digits o.place (down_pos d) o.few o.exact o.under
    ∙ sym (scale_b_at y s (m * up d) (down d) 0 (down_pos d) (refl, refl))

-- ---- the bit patterns of the powers
one_place_up : (w i : ℕ) → w ≡ 2 ^ i → 2 ^ (1 + i) * 2 ^ 1074 ≡ w * 2 ^ 1075
one_place_up w i h =
    ap (λ (z : ℕ). z * 2 ^ 1074) (pow-add 2 1 i ∙ mul_comm 2 (2 ^ i)) ∙ mul_assoc (2 ^ i) 2 (2 ^ 1074) ∙ ap (λ (z : ℕ). z * 2 ^ 1075) (sym h)

-- below the normal range 2 ^ i of the smallest values are the pattern 2 ^ i
pub low_power : (i : ℕ) → i < 52 → HasValue (of_bits binary64 (2 ^ i)) false (2 ^ (1 + i)) (2 ^ 1075)
low_power i h =
    subst (λ (x : Float). HasValue x false (2 ^ (1 + i)) (2 ^ 1075)) (sym (subnormal (2 ^ i) (pow-lt h)))
    (rescale (odd 53 false (2 ^ i) 0 1074) false (2 ^ i * 2 ^ 0) (2 ^ 1074) (2 ^ (1 + i)) (2 ^ 1075) (pow_pos 1074)
    (one_place_up (2 ^ i * 2 ^ 0) i (mul-one (2 ^ i))) (odd_sign 53 false (2 ^ i) 0 1074))

-- from there on the exponent's field says which power it is
pub high_power : (k : ℕ) → k < 2046 → HasValue (of_bits binary64 (k * 2 ^ 52 + 2 ^ 52)) false (2 ^ (1 + (52 + k))) (2 ^ 1075)
high_power k h =
    subst (λ (x : Float). HasValue x false (2 ^ (1 + (52 + k))) (2 ^ 1075)) (sym (built k (2 ^ 52) h (lit≤ tt) (lit< tt)))
    (rescale (odd 53 false (2 ^ 52) k 1074) false (2 ^ 52 * 2 ^ k) (2 ^ 1074) (2 ^ (1 + (52 + k))) (2 ^ 1075) (pow_pos 1074)
    (one_place_up (2 ^ 52 * 2 ^ k) (52 + k) (sym (pow-add 2 52 k))) (odd_sign 53 false (2 ^ 52) k 1074))
