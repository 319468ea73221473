-- Bounds by powers of two: sizes, whatever the sign, and bounds from below of what is above 0, through sums, products and quotients; and tests of
-- constants. Assumes nothing.
use Rattle.std.specs.Prelude.{◌≡◌, ℕ, suc, ◌+◌, ◌*◌, ◌^◌, ◌<◌, ◌≤◌, max, Bool, true, false, not, ◌&&◌, T, nat_le, refl, Float}
use Rattle.std.proofs.Common.{sym, ap, ◌∙◌, subst, inl, inr, zero-le, le_trans, le_of_eq, lt_of_lt_of_le, mul-one, one-mul, mul-pos, mul-le-mul, mul-le-mul_left, mul-le-mul_right, zero-mul, pow-suc, arith, lt-ltb, leb→le, lit≤, pow-add, pow_pos, pow_mono}
use Rattle.std.proofs.Math.Nat.{mul-mul-mul_comm}
use Rattle.std.specs.Float.{nan, inf, fin, binary64}
use Rattle.std.specs.Float.Ieee.{up, down, le, of_bits, unlike, round, neg}
use Rattle.std.specs.Float.Ieee.Fits.{and_l, and_r, down_pos}
use Rattle.std.specs.Float.Ieee.Order.{le_of_values}
use Rattle.std.specs.Float.Ieee.Bits.{is_false}
use Rattle.std.specs.Float.Ieee.Scale.{finite}
use Rattle.std.specs.Float.Ieee.Positive.{num, den, den_pos}
use Rattle.arithmetic.specs.Operations.{◌⊕◌, ◌⊖◌, ◌⊗◌, ◌⊘◌, plus_zero, one}
use Rattle.arithmetic.specs.Basic.{is_sign_minus}
use Rattle.arithmetic.specs.Laws.Numbers.{lt_or_le}
use Rattle.arithmetic.specs.Laws.Times.{neg_finite, neg_num, neg_den}
use Rattle.arithmetic.specs.Laws.Sums.{add_is}
use Rattle.arithmetic.specs.Laws.Products.{mul_is, div_is}
use Rattle.arithmetic.specs.Laws.ScaledRatios.{positive_zero}
use Rattle.arithmetic.specs.Laws.Sizes.{grain_held, power_held, round_upper, round_lower, apart_by, apart_le, sum_size, sum_alike, sub_is, Size}

-- ---- sizes in powers of two
pub record Small (k : ℕ) (x : Float) : Type 0 where
  pub is_finite_lem : T (finite x)
  pub bound : num x ≤ 2 ^ k * den x

pub size_small : {a : ℕ} (k : ℕ) {x : Float} → Size a x → a ≤ 64 * 2 ^ k → Small k x
size_small {a} k {x} h l = record { is_finite_lem = h.is_finite_lem; bound = go (num x) (den x) (2 ^ k) h.bound (mul-le-mul_right (den x) l) }
  where
    go : (n d p : ℕ) → n * 64 ≤ a * d → a * d ≤ 64 * p * d → n ≤ p * d
    go n d p h g = omega arith

pub small_widen : {j : ℕ} (k : ℕ) {x : Float} → Small j x → j ≤ k → Small k x
small_widen k {x} h l = record { is_finite_lem = h.is_finite_lem; bound = le_trans h.bound (mul-le-mul_right (den x) (pow_mono l)) }

pub small_round : (s : Bool) (a c k : ℕ) → 0 < c → k ≤ 1023 → a ≤ 2 ^ k * c → Small k (round binary64 s a c) × (is_sign_minus (round binary64 s a c) ≡ s)
small_round s a c k C K h =
    let u = round_upper s a c (2 ^ k) 1 C (pow_pos 0) (power_held k K) (le_trans (le_of_eq (mul-one a)) h) in
    (record { is_finite_lem = u.0; bound = le_trans (le_of_eq (sym (mul-one (num (round binary64 s a c))))) u.2 }, u.1)

pub zero_small : (k : ℕ) → Small k plus_zero
unfolding of_bits
zero_small k = record { is_finite_lem = tt; bound = zero-le }

-- as a comparison with 1
pub small_le : (r : Float) → Small 0 r → T (le r one)
unfolding le of_bits
small_le nan h = absurd h.is_finite_lem
small_le (inf s) h = absurd h.is_finite_lem
small_le (fin false m e) h =
    le_of_values (fin false m e) one (m * up e) (down e) 1 1 (down_pos e) (pow_pos 0) (refl, refl) (refl, refl)
    (le_trans (le_of_eq (mul-one (m * up e))) h.bound)
small_le (fin true m e) h = let d = down_pos e in rw (lt-ltb 0 (m * up e * 1 + 1 * down e) (omega arith)) tt

pub small_neg : {k : ℕ} {x : Float} → Small k x → Small k (neg x)
small_neg {k} {x} h = record { is_finite_lem = neg_finite x h.is_finite_lem; bound = rw (neg_num x, neg_den x) h.bound }

product_le : (j k n d m e : ℕ) → n ≤ 2 ^ j * d → m ≤ 2 ^ k * e → n * m ≤ 2 ^ (j + k) * (d * e)
product_le j k n d m e h g =
    le_trans (mul-le-mul h g) (le_of_eq (mul-mul-mul_comm (2 ^ j) d (2 ^ k) e ∙ ap (λ (z : ℕ). z * (d * e)) (sym (pow-add 2 j k))))

pub small_mul : {j k : ℕ} {x y : Float} → Small j x → Small k y → j + k ≤ 1023 → Small (j + k) (x ⊗ y)
small_mul {j} {k} {x} {y} h g K =
    subst (Small (j + k)) (sym (mul_is binary64 x y h.is_finite_lem g.is_finite_lem))
    (small_round (unlike (is_sign_minus x) (is_sign_minus y)) (num x * num y) (den x * den y) (j + k) (mul-pos (den_pos x) (den_pos y)) K
    (product_le j k (num x) (den x) (num y) (den y) h.bound g.bound)).0

sum_le : {k : ℕ} (x y : Float) → Small k x → Small k y → num x * den y + num y * den x ≤ 2 ^ suc k * (den x * den y)
sum_le {k} x y h g =
    le_trans (less (2 ^ k) (num x) (num y) (den x) (den y) (mul-le-mul_right (den y) h.bound) (mul-le-mul_right (den x) g.bound))
    (le_of_eq (ap (λ (z : ℕ). z * (den x * den y)) (sym (pow-suc 2 k))))
  where
    less : (p n m d e : ℕ) → n * e ≤ p * d * e → m * d ≤ p * e * d → n * e + m * d ≤ p * 2 * (d * e)
    less p n m d e h g = omega arith

small_add_same : {k : ℕ} {x y : Float} → Small k x → Small k y → suc k ≤ 1023 → Small (suc k) (x ⊕ y)
small_add_same {k} {x} {y} h g K =
    let s = is_sign_minus x in
    let t = is_sign_minus y in
    let z = sum_size s t (num x * den y) (num y * den x) (den x * den y) in
    subst (Small (suc k)) (sym (add_is binary64 x y h.is_finite_lem g.is_finite_lem ∙ z.1))
    (small_round z.0 (apart_by s t (num x * den y) (num y * den x)) (den x * den y) (suc k) (mul-pos (den_pos x) (den_pos y)) K
    (le_trans (apart_le s t (num x * den y) (num y * den x)) (sum_le x y h g))).0

pub small_add : {j k : ℕ} {x y : Float} → Small j x → Small k y → suc (max j k) ≤ 1023 → Small (suc (max j k)) (x ⊕ y)
small_add {j} {k} h g K = small_add_same (small_widen (max j k) h (omega arith)) (small_widen (max j k) g (omega arith)) K

pub small_sub : {j k : ℕ} {x y : Float} → Small j x → Small k y → suc (max j k) ≤ 1023 → Small (suc (max j k)) (x ⊖ y)
small_sub {j} {k} {x} {y} h g K = subst (Small (suc (max j k))) (sym (sub_is x y)) (small_add h (small_neg g) K)

-- ---- values that are not negative, and those that are 2 ^ -j at least
pub record Plus (k : ℕ) (x : Float) : Type 0 where
  pub small : Small k x
  pub sign : is_sign_minus x ≡ false

pub record Between (j k : ℕ) (x : Float) : Type 0 where
  pub plus : Plus k x
  pub least : den x ≤ num x * 2 ^ j

plus_round : (a c k : ℕ) → 0 < c → k ≤ 1023 → a ≤ 2 ^ k * c → Plus k (round binary64 false a c)
plus_round a c k C K h = let u = small_round false a c k C K h in record { small = u.0; sign = u.1 }

plus_widen : {j : ℕ} (k : ℕ) {x : Float} → Plus j x → j ≤ k → Plus k x
plus_widen k h l = record { small = small_widen k h.small l; sign = h.sign }

pub between_widen : {i j : ℕ} (k : ℕ) {x : Float} → Between i j x → j ≤ k → Between i k x
between_widen k h l = record { plus = plus_widen k h.plus l; least = h.least }

-- a product of two of one sign
pub alike_mul : {j k : ℕ} {x y : Float} → Small j x → Small k y → unlike (is_sign_minus x) (is_sign_minus y) ≡ false → j + k ≤ 1023 → Plus (j + k) (x ⊗ y)
alike_mul {j} {k} {x} {y} h g s K =
    subst (Plus (j + k)) (sym (mul_is binary64 x y h.is_finite_lem g.is_finite_lem ∙ rw s refl))
    (plus_round (num x * num y) (den x * den y) (j + k) (mul-pos (den_pos x) (den_pos y)) K
    (product_le j k (num x) (den x) (num y) (den y) h.bound g.bound))

pub plus_mul : {j k : ℕ} {x y : Float} → Plus j x → Plus k y → j + k ≤ 1023 → Plus (j + k) (x ⊗ y)
plus_mul h g K = alike_mul h.small g.small (rw (h.sign, g.sign) refl) K

alike : (s : Bool) → unlike s s ≡ false
alike true = refl
alike false = refl

pub square_is : (x : Float) → T (finite x) → x ⊗ x ≡ round binary64 false (num x * num x) (den x * den x)
square_is x p = mul_is binary64 x x p p ∙ rw (alike (is_sign_minus x)) refl

pub small_square : {k : ℕ} {x : Float} → Small k x → k + k ≤ 1023 → Plus (k + k) (x ⊗ x)
small_square {k} {x} h K = alike_mul h h (alike (is_sign_minus x)) K

between_round : (a c j k : ℕ) → 0 < c → j ≤ 1074 → k ≤ 1023 → a ≤ 2 ^ k * c → c ≤ a * 2 ^ j → Between j k (round binary64 false a c)
between_round a c j k C J K h l =
    let z = round binary64 false a c in
    let u : Plus k z = plus_round a c k C K h in
    let lower : 1 * den z ≤ num z * 2 ^ j =
    round_lower false a c 1 (2 ^ j) C (pow_pos j) (grain_held 1 j (lit≤ tt) J) u.small.is_finite_lem (le_trans (le_of_eq (one-mul c)) l) in
    record { plus = u; least = le_trans (le_of_eq (sym (one-mul (den z)))) lower }

-- of two that are not negative the sum is bounded as the second is, and as the first is
module _ {j k : ℕ} {x y : Float} (h : Plus k x) (g : Plus k y) (J : j ≤ 1074) (K : suc k ≤ 1023) where
  both_add : den x * den y ≤ (num x * den y + num y * den x) * 2 ^ j → Between j (suc k) (x ⊕ y)
  both_add l =
      subst (Between j (suc k))
      (sym (add_is binary64 x y h.small.is_finite_lem g.small.is_finite_lem ∙ rw (h.sign, g.sign)
      (sum_alike false (num x * den y) (num y * den x) (den x * den y))))
      (between_round (num x * den y + num y * den x) (den x * den y) j (suc k) (mul-pos (den_pos x) (den_pos y)) J K (sum_le x y h.small g.small) l)

pub between_add : {i j k : ℕ} {x y : Float} → Plus i x → Between j k y → j ≤ 1074 → suc (max i k) ≤ 1023 → Between j (suc (max i k)) (x ⊕ y)
between_add {i} {j} {k} {x} {y} h g J K =
    both_add (plus_widen (max i k) h (omega arith)) (plus_widen (max i k) g.plus (omega arith)) J K
    (least_le (num x) (den x) (num y) (den y) (2 ^ j) (mul-le-mul_left (den x) g.least))
  where
    least_le : (n d m e p : ℕ) → d * e ≤ d * (m * p) → d * e ≤ (n * e + m * d) * p
    least_le n d m e p h = omega arith

pub between_add_plus : {i j k : ℕ} {x y : Float} → Between j k x → Plus i y → j ≤ 1074 → suc (max k i) ≤ 1023 → Between j (suc (max k i)) (x ⊕ y)
between_add_plus {i} {j} {k} {x} {y} g h J K =
    both_add (plus_widen (max k i) g.plus (omega arith)) (plus_widen (max k i) h (omega arith)) J K
    (least_le (num x) (den x) (num y) (den y) (2 ^ j) (mul-le-mul_right (den y) g.least))
  where
    least_le : (n d m e p : ℕ) → d * e ≤ n * p * e → d * e ≤ (n * e + m * d) * p
    least_le n d m e p h = omega arith

-- a square
pub between_square : (j : ℕ) {k : ℕ} {x : Float} → Small k x → den x ≤ num x * 2 ^ j → j + j ≤ 1074 → k + k ≤ 1023 → Between (j + j) (k + k) (x ⊗ x)
between_square j {k} {x} h l J K =
    subst (Between (j + j) (k + k)) (sym (square_is x h.is_finite_lem))
    (between_round (num x * num x) (den x * den x) (j + j) (k + k) (mul-pos (den_pos x) (den_pos x)) J K
    (product_le k k (num x) (den x) (num x) (den x) h.bound h.bound)
    (le_trans (mul-le-mul l l) (le_of_eq (mul-mul-mul_comm (num x) (2 ^ j) (num x) (2 ^ j) ∙ ap (λ (z : ℕ). num x * num x * z) (sym (pow-add 2 j j))))))

-- a quotient
module _ {i j k : ℕ} {x y : Float} (h : Small i x) (g : Between j k y) (K : i + j ≤ 1023) where
  over : 0 < num y
  over = some (num y) (2 ^ j) (lt_of_lt_of_le (den_pos y) g.least)
    where
      some : (n p : ℕ) → 0 < n * p → 0 < n
      some n p h = elim (lt_or_le 0 n) [ inl l ↦ l | inr l ↦ absurd (nothing n p h l) ]
        where
          nothing : (n p : ℕ) → 0 < n * p → n ≤ 0 → ⊥
          nothing n p h l = let z : n * p ≤ 0 * p = mul-le-mul_right p l in let e : 0 * p ≡ 0 = zero-mul p in omega arith

  quotient_is : x ⊘ y ≡ round binary64 (unlike (is_sign_minus x) (is_sign_minus y)) (num x * den y) (num y * den x)
  quotient_is = div_is binary64 x y h.is_finite_lem g.plus.small.is_finite_lem ∙ rw (positive_zero (num y) over) refl

  quotient_le : num x * den y ≤ 2 ^ (i + j) * (num y * den x)
  quotient_le =
      le_trans (mul-le-mul h.bound g.least)
      (le_of_eq (go (2 ^ i) (2 ^ j) (den x) (num y) ∙ ap (λ (z : ℕ). z * (num y * den x)) (sym (pow-add 2 i j))))
    where
      go : (p q d m : ℕ) → p * d * (m * q) ≡ p * q * (m * d)
      go p q d m = omega arith

  quotient_round : Small (i + j) (x ⊘ y) × (is_sign_minus (x ⊘ y) ≡ unlike (is_sign_minus x) (is_sign_minus y))
  quotient_round =
      subst (λ (z : Float). Small (i + j) z × (is_sign_minus z ≡ unlike (is_sign_minus x) (is_sign_minus y))) (sym quotient_is)
      (small_round (unlike (is_sign_minus x) (is_sign_minus y)) (num x * den y) (num y * den x) (i + j) (mul-pos over (den_pos x)) K quotient_le)

pub small_div : {i j k : ℕ} {x y : Float} → Small i x → Between j k y → i + j ≤ 1023 → Small (i + j) (x ⊘ y)
small_div h g K = (quotient_round h g K).0

pub plus_div : {i j k : ℕ} {x y : Float} → Plus i x → Between j k y → i + j ≤ 1023 → Plus (i + j) (x ⊘ y)
plus_div h g K =
    let q = quotient_round h.small g K in
    record { small = q.0; sign = q.1 ∙ rw (h.sign, g.plus.sign) refl }

-- ---- tests for constants
abbrev pub small_test : ℕ → Float → Bool
small_test k x = finite x && nat_le (num x) (2 ^ k * den x)

abbrev pub between_test : ℕ → ℕ → Float → Bool
between_test j k x = small_test k x && (not (is_sign_minus x) && nat_le (den x) (num x * 2 ^ j))

pub small_of : (k : ℕ) (x : Float) → T (small_test k x) → Small k x
small_of k x t = record { is_finite_lem = and_l (finite x) _ t; bound = leb→le (num x) (2 ^ k * den x) (and_r (finite x) _ t) }

pub between_of : (j k : ℕ) (x : Float) → T (between_test j k x) → Between j k x
between_of j k x t =
    let u = and_r (small_test k x) _ t in
    record {
      plus = record { small = small_of k x (and_l (small_test k x) _ t); sign = is_false (is_sign_minus x) (and_l (not (is_sign_minus x)) _ u) };
      least = leb→le (den x) (num x * 2 ^ j) (and_r (not (is_sign_minus x)) _ u);
    }
