-- What `product_exponent` and `align` of `mul_add` give: an exponent of the product, and the product and the addend on one scale, exactly where the
-- shift is short, and with the lower one jammed where it is long. Assumes nothing.
use Rattle.std.proofs.Common.{◌≡◌, ℕ, ◌+◌, ◌-◌, ◌*◌, ◌/◌, ◌%◌, ◌^◌, ◌<◌, ◌≤◌, min, Bool, ◌⊎◌, ℤ, pos, negsuc, ◌+ℤ◌, ◌-ℤ◌, sym, refl, ap, ◌∙◌, subst, inl, inr, le_trans, le_of_eq, le_refl, lt_of_lt_of_le, lt_of_le_of_lt, le_of_lt, mul-le-mul_right, mod-lt, mul_assoc, add-mul, mul-le-mul, mul-lt-mul_of_pos_right, one-mul, zero-mul, div-le_self, arith, lit≤, pow_pos, pow_mono, shl_lt}
use Rattle.std.proofs.lemmas.Int.{ints}
use lib.Pow.{split}
use lib.Ieee.{binary64, sum}
use Rattle.arithmetic.specs.declared.mul_add.Parts.{Parts}
use Rattle.arithmetic.specs.declared.mul_add.Term.{Term}
use Rattle.arithmetic.specs.Internal.Pair.{val, jammed}
use Rattle.arithmetic.specs.Internal.Exponent.{above}
use Rattle.arithmetic.specs.Internal.MulAdd.{OperandExponent, TermExponent}
use Rattle.arithmetic.specs.Internal.MulAddSteps.{ProductExponent}
use Rattle.arithmetic.specs.Laws.Numbers.{lt_or_le, pow_split}
use Rattle.arithmetic.proofs.Exponents.{counted, exponent_is}
use Rattle.arithmetic.proofs.Pairs.{min_scale}
use Rattle.arithmetic.proofs.SumJammed.{jam_first, jam_second}

-- ---- an operand's exponent is in the range of a term's
pub operand_term : (e : ℤ) → OperandExponent e → TermExponent e
operand_term e E = exponent_is 2148 1942 e (lit≤ tt) (lit≤ tt) (omega (arith, ints, E.least)) (omega (arith, ints, E.most))

pub above_term : (e : ℤ) → OperandExponent e → above 2148 e ≡ above 1074 e + 1074
above_term e E = omega (arith, ints, (counted E).0, (counted (operand_term e E)).0)

-- ---- the product's exponent: the least one where a factor is 0, else the sum
module _ (u v : Parts) where
  pub product_exponent_zero : u.m * v.m ≡ 0 → ProductExponent u v (negsuc 2147)
  product_exponent_zero z = record {
    value = rw z (zero-mul (2 ^ 0) ∙ sym (zero-mul (2 ^ (above 1074 u.j.value + above 1074 v.j.value))));
    exponent = exponent_is 2148 1942 (negsuc 2147) (lit≤ tt) (lit≤ tt) (omega (arith, ints)) (omega (arith, ints));
    lead = λ k. absurd (omega arith);
  }

  abbrev j : ℕ
  j = above 1074 u.j.value

  abbrev k : ℕ
  k = above 1074 v.j.value

  module _ (e : ℤ) (E : e ≡ u.j.value +ℤ v.j.value) where
    product_term : TermExponent e
    product_term =
        let a = u.exponent in
        let b = v.exponent in
        exponent_is 2148 1942 e (lit≤ tt) (lit≤ tt) (omega (arith, ints, a.least, b.least)) (omega (arith, ints, a.most, b.most))

    pub product_exponent_sum : (u.m ≡ 0 → ⊥) → (v.m ≡ 0 → ⊥) → ProductExponent u v e
    product_exponent_sum U W =
        let is : above 2148 e ≡ j + k = omega (arith, ints, (counted u.exponent).0, (counted v.exponent).0, (counted product_term).0) in
        record {
          value = ap (λ (y : ℕ). u.m * v.m * 2 ^ y) is;
          exponent = product_term;
          lead = λ h. lead (lt_or_le 0 j) (subst (λ (y : ℕ). 1074 < y) is h);
        }
      where
        lead : (0 < j) ⊎ (j ≤ 0) → 1074 < j + k → 2 ^ 52 ≤ u.m * v.m
        lead (inl p) h = let l : 1 ≤ v.m = omega arith in mul-le-mul (u.lead p) l
        lead (inr p) h =
            let l : 1 ≤ u.m = omega arith in
            le_trans (v.lead (omega arith)) (le_trans (le_of_eq (sym (one-mul v.m))) (mul-le-mul_right v.m l))

-- ---- jamming
-- n * 2 ^ x, and n jammed at the scale 2 ^ e, each as a multiple of 2 ^ (e + 1) and a rest
module _ (n d x e : ℕ) (E : d + x ≡ e) where
  abbrev q : ℕ
  q = n / 2 ^ (d + 1)

  abbrev rest : ℕ
  rest = n % 2 ^ (d + 1)

  scale : 2 ^ (d + 1) * 2 ^ x ≡ 2 ^ (e + 1)
  scale = pow_split (d + 1) x (e + 1) (omega arith)

  exact_parts : n * 2 ^ x ≡ q * 2 ^ (e + 1) + rest * 2 ^ x
  exact_parts =
      ap (λ (y : ℕ). y * 2 ^ x) (sym (split n (d + 1))) ∙ add-mul (q * 2 ^ (d + 1)) rest (2 ^ x)
      ∙ ap (λ (y : ℕ). y + rest * 2 ^ x) (mul_assoc q (2 ^ (d + 1)) (2 ^ x) ∙ ap (λ (y : ℕ). q * y) scale)

  jammed_parts : jammed n d * 2 ^ e ≡ q * 2 ^ (e + 1) + min 1 rest * 2 ^ e
  jammed_parts =
      add-mul (q * 2) (min 1 rest) (2 ^ e)
      ∙ ap (λ (y : ℕ). y + min 1 rest * 2 ^ e) (mul_assoc q 2 (2 ^ e) ∙ ap (λ (y : ℕ). q * y) (pow_split 1 e (e + 1) (omega arith)))

  exact_rest_lt : rest * 2 ^ x < 2 ^ (e + 1)
  exact_rest_lt = lt_of_lt_of_le (mul-lt-mul_of_pos_right (mod-lt n (pow_pos (d + 1))) (pow_pos x)) (le_of_eq scale)

  jammed_rest_lt : min 1 rest * 2 ^ e < 2 ^ (e + 1)
  jammed_rest_lt =
      lt_of_le_of_lt (mul-le-mul_right (2 ^ e) (one rest))
      (lt_of_lt_of_le (twice (2 ^ e) (pow_pos e)) (le_of_eq (pow_split e 1 (e + 1) refl)))
    where
      one : (y : ℕ) → min 1 y ≤ 1
      one y = omega arith

      twice : (y : ℕ) → 0 < y → 1 * y < y * 2
      twice y h = omega arith

  alike : min 1 (rest * 2 ^ x) ≡ min 1 (min 1 rest * 2 ^ e)
  alike = min_scale rest (2 ^ x) (pow_pos x) ∙ sym (min_scale (min 1 rest) (2 ^ e) (pow_pos e) ∙ again rest)
    where
      again : (y : ℕ) → min 1 (min 1 y) ≡ min 1 y
      again y = omega arith

  -- the other term, a or b, is M * 2 ^ (e + 1); the sum with the jammed term is the same, whichever comes first
  module _ (a b M : ℕ) (wide : (e ≤ 1072) ⊎ (q + 2 ^ 54 < M)) (A : a ≡ M * 2 ^ (e + 1)) (B : b ≡ M * 2 ^ (e + 1)) (s t : Bool) where
    first : sum binary64 s (n * 2 ^ x) t a (2 ^ 2148) ≡ sum binary64 s (jammed n d * 2 ^ e) t b (2 ^ 2148)
    first = rw (exact_parts, jammed_parts, A, B) (jam_first e M q (rest * 2 ^ x) (min 1 rest * 2 ^ e) exact_rest_lt jammed_rest_lt alike wide s t)

    second : sum binary64 s a t (n * 2 ^ x) (2 ^ 2148) ≡ sum binary64 s b t (jammed n d * 2 ^ e) (2 ^ 2148)
    second = rw (exact_parts, jammed_parts, A, B) (jam_second e M q (rest * 2 ^ x) (min 1 rest * 2 ^ e) exact_rest_lt jammed_rest_lt alike wide s t)

jammed_small : (n d : ℕ) → n < 2 ^ 106 → jammed n d < 2 ^ 127
jammed_small n d h =
    lt_of_lt_of_le (go (n / 2 ^ (d + 1)) (n % 2 ^ (d + 1)) (div-le_self n (2 ^ (d + 1)))) (lit≤ {m = 2 ^ 108} {n = 2 ^ 127} tt)
  where
    go : (q r : ℕ) → q ≤ n → q * 2 + min 1 r < 324518553658426726783156020576256
    go q r a = omega arith

-- a shift up to a common scale
shifted : (n d x e : ℕ) → d + x ≡ e → n * 2 ^ e ≡ n * 2 ^ d * 2 ^ x
shifted n d x e h = ap (λ (y : ℕ). n * y) (sym (pow_split d x e h)) ∙ sym (mul_assoc n (2 ^ d) (2 ^ x))

-- n * 2 ^ d, for an n of j digits and a d of at most k
shift_lt : (n j d k : ℕ) → n < 2 ^ j → d ≤ k → n * 2 ^ d < 2 ^ (j + k)
shift_lt n j d k h l = lt_of_lt_of_le (shl_lt j d h) (pow_mono {j = j + k} (omega arith))

-- ---- a and b at the scale 2 ^ e serve as the terms of the product p and the addend w
pub record Scaled (p : Term) (w : Parts) (a b : ℕ) (e : ℤ) : Type 0 where
  pub same : (s t : Bool)
      → sum binary64 s (val p.v * 2 ^ above 2148 p.e.value) t (w.m * 2 ^ above 2148 w.j.value) (2 ^ 2148)
      ≡ sum binary64 s (a * 2 ^ above 2148 e) t (b * 2 ^ above 2148 e) (2 ^ 2148)
  pub first_small : a < 2 ^ 127
  pub second_small : b < 2 ^ 127
  pub exponent : TermExponent e

-- ---- the four ways to one scale, where the exponents are x and y, counted from -2148 on
module _ (p : Term) (w : Parts) (small : val p.v < 2 ^ 106) (lead : 1074 < above 2148 p.e.value → 2 ^ 52 ≤ val p.v) where
  abbrev n : ℕ
  n = val p.v

  abbrev x : ℕ
  x = above 2148 p.e.value

  abbrev y : ℕ
  y = above 2148 w.j.value

  y_is : y ≡ above 1074 w.j.value + 1074
  y_is = above_term w.j.value w.exponent

  -- how far they lie apart, and what a lowered exponent is
  apart_above : (d : ℕ) → pos d ≡ w.j.value -ℤ p.e.value → d + x ≡ y
  apart_above d D = omega (arith, ints, (counted p.exponent).0, (counted (operand_term w.j.value w.exponent)).0)

  apart_below : (d : ℕ) → pos d ≡ p.e.value -ℤ w.j.value → d + y ≡ x
  apart_below d D = omega (arith, ints, (counted p.exponent).0, (counted (operand_term w.j.value w.exponent)).0)

  addend_lowered : (e : ℤ) → e ≡ w.j.value -ℤ pos 64 → TermExponent e × (above 2148 e ≡ y - 64)
  addend_lowered e E =
      let o = w.exponent in
      let t = exponent_is 2148 1942 e (lit≤ tt) (lit≤ tt) (omega (arith, ints, o.least)) (omega (arith, ints, o.most)) in
      (t, omega (arith, ints, (counted t).0, (counted (operand_term w.j.value o)).0))

  -- within a pair: the product shifted by 20 at most
  pub product_fits : (d : ℕ) → d ≤ 20 → n * 2 ^ d < 2 ^ 128
  product_fits d h = lt_of_lt_of_le (shift_lt n 106 d 20 small h) (lit≤ tt)

  -- the addend lies above, and is shifted up
  pub near_above : (d : ℕ) → pos d ≡ w.j.value -ℤ p.e.value → d < 64 → (b : ℕ) → b ≡ w.m * 2 ^ d → Scaled p w n b p.e.value
  near_above d D h b v = record {
    same = λ s t. ap (λ (m : ℕ). sum binary64 s (n * 2 ^ x) t m (2 ^ 2148)) (shifted w.m d x y (apart_above d D) ∙ ap (λ (m : ℕ). m * 2 ^ x) (sym v));
    first_small = lt_of_lt_of_le small (lit≤ tt);
    second_small = subst (λ (m : ℕ). m < 2 ^ 127) (sym v) (lt_of_lt_of_le (shift_lt w.m 53 d 64 w.small (le_of_lt h)) (lit≤ tt));
    exponent = p.exponent;
  }

  -- it lies far above, and the product is jammed
  pub far_above : (d : ℕ) → pos d ≡ w.j.value -ℤ p.e.value → 64 ≤ d → (a b : ℕ) → a ≡ jammed n (d - 64) → b ≡ w.m * 2 ^ 64
      → (e : ℤ) → e ≡ w.j.value -ℤ pos 64 → Scaled p w a b e
  far_above d D h a b v z e E =
      let far = apart_above d D in
      record {
        same = λ s t. rw (v, z, (addend_lowered e E).1)
            (first n (d - 64) x (y - 64) (omega arith)
            (w.m * 2 ^ y) (w.m * 2 ^ 64 * 2 ^ (y - 64)) (w.m * 2 ^ 63) (go (lt_or_le y 1137)) half
            (sym (shifted w.m 64 (y - 64) y (omega arith)) ∙ half) s t);
        first_small = subst (λ (m : ℕ). m < 2 ^ 127) (sym v) (jammed_small n (d - 64) small);
        second_small = subst (λ (m : ℕ). m < 2 ^ 127) (sym z) (lt_of_lt_of_le (shift_lt w.m 53 64 64 w.small (le_refl 64)) (lit≤ tt));
        exponent = (addend_lowered e E).0;
      }
    where
      half : w.m * 2 ^ y ≡ w.m * 2 ^ 63 * 2 ^ (y - 64 + 1)
      half = let a = y_is in shifted w.m 63 (y - 64 + 1) y (omega arith)

      wide : (q p : ℕ) → q ≤ p → p < 81129638414606681695789005144064 → 4503599627370496 ≤ w.m → q + 18014398509481984 < w.m * 9223372036854775808
      wide q p a b d = omega arith

      go : (y < 1137) ⊎ (1137 ≤ y) → (y - 64 ≤ 1072) ⊎ (n / 2 ^ (d - 64 + 1) + 2 ^ 54 < w.m * 2 ^ 63)
      go (inl a) = inl (omega arith)
      go (inr a) =
          let i = d - 64 + 1 in
          let z = y_is in
          inr (wide (n / 2 ^ i) n (div-le_self n (2 ^ i)) small (w.lead (omega arith)))

  -- the addend lies below, and the product is shifted up
  pub near_below : (d : ℕ) → pos d ≡ p.e.value -ℤ w.j.value → d ≤ 20 → (a b : ℕ) → a ≡ n * 2 ^ d → b ≡ w.m → Scaled p w a b w.j.value
  near_below d D h a b v z = record {
    same = λ s t. rw z
        (ap (λ (m : ℕ). sum binary64 s m t (w.m * 2 ^ y) (2 ^ 2148)) (shifted n d y x (apart_below d D) ∙ ap (λ (m : ℕ). m * 2 ^ y) (sym v)));
    first_small = subst (λ (m : ℕ). m < 2 ^ 127) (sym v) (lt_of_lt_of_le (shift_lt n 106 d 20 small h) (lit≤ tt));
    second_small = subst (λ (m : ℕ). m < 2 ^ 127) (sym z) (lt_of_lt_of_le w.small (lit≤ tt));
    exponent = operand_term w.j.value w.exponent;
  }

  -- it lies far below, and is jammed
  module _ (d : ℕ) (D : pos d ≡ p.e.value -ℤ w.j.value) (h : 20 < d) (e : ℤ) (E : e ≡ p.e.value -ℤ pos 20) where
    far : d + y ≡ x
    far = apart_below d D

    product_lowered : TermExponent e × (above 2148 e ≡ x - 20)
    product_lowered =
        let o = w.exponent in
        let q = p.exponent in
        let t = exponent_is 2148 1942 e (lit≤ tt) (lit≤ tt) (omega (arith, ints, o.least)) (omega (arith, ints, q.most)) in
        (t, omega (arith, ints, (counted t).0, (counted q).0))

    pub far_below : (a b : ℕ) → a ≡ n * 2 ^ 20 → b ≡ jammed w.m (d - 20) → Scaled p w a b e
    far_below a b v z =
        let l = y_is in
        let i = far in
        record {
          same = λ s t. rw (v, z, product_lowered.1)
              (second w.m (d - 20) y (x - 20) (omega arith) (n * 2 ^ x) (n * 2 ^ 20 * 2 ^ (x - 20)) (n * 2 ^ 19)
              (inr (wide (w.m / 2 ^ (d - 20 + 1)) n (div-le_self w.m (2 ^ (d - 20 + 1))) w.small (lead (omega arith))))
              half (sym (shifted n 20 (x - 20) x (omega arith)) ∙ half) s t);
          first_small = subst (λ (m : ℕ). m < 2 ^ 127) (sym v) (lt_of_lt_of_le (shift_lt n 106 20 20 small (le_refl 20)) (lit≤ tt));
          second_small = subst (λ (m : ℕ). m < 2 ^ 127) (sym z) (jammed_small w.m (d - 20) (lt_of_lt_of_le w.small (lit≤ tt)));
          exponent = product_lowered.0;
        }
      where
        half : n * 2 ^ x ≡ n * 2 ^ 19 * 2 ^ (x - 20 + 1)
        half = let i = far in shifted n 19 (x - 20 + 1) x (omega arith)

        wide : (q p : ℕ) → q ≤ w.m → w.m < 9007199254740992 → 4503599627370496 ≤ p → q + 18014398509481984 < p * 524288
        wide q p a b d = omega arith
