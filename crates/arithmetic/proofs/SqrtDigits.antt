-- What `by_digits` and `is_closest` of `sqrt` give: the whole number nearest to √(w * 2 ^ 52), digit by digit, and by a test of one that is given.
-- 67108864 is 2 ^ 26, 4503599627370496 is 2 ^ 52, 18014398509481984 is 2 ^ 54. Assumes nothing.
use Rattle.std.proofs.Common.{◌≡◌, ℕ, zero, suc, ◌+◌, ◌-◌, ◌*◌, ◌/◌, ◌%◌, ◌^◌, ◌<◌, ◌≤◌, sym, ap, ◌∙◌, subst, lt_of_lt_of_le, mul_assoc, mul-le-mul, arith, pow_mono, pow-add}
use Rattle.arithmetic.specs.Internal.Sqrt.{Radicand, Closest}
use Rattle.arithmetic.specs.Laws.WholeRoots.{Nearest, nearest_root}
use Rattle.arithmetic.specs.Laws.SqrtNearest.{near_low, near_high}

-- ---- the upper 2i of the 106 digits of w * 2 ^ 52 are r² + e, and r is their whole root; rest are the digits of w below them
pub record Upper (w i r e rest : ℕ) : Type 0 where
  pub value : w * 4 ^ i ≡ (r * r + e) * 18014398509481984 + rest
  pub rest_lt : rest < 18014398509481984
  pub e_le : e ≤ 2 * r
  pub r_lt : r < 2 ^ i

-- so no product and no sum of `by_digits` overflows
abbrev pub Small : ℕ → ℕ → ℕ → Type 0
Small r e rest = (r < 9007199254740992) × (e ≤ 2 * r) × (rest < 18014398509481984)

pub small : {w i r e rest : ℕ} → Upper w i r e rest × (i ≤ 53) → Small r e rest
small h = (lt_of_lt_of_le h.0.r_lt (pow_mono h.1), h.0.e_le, h.0.rest_lt)

pub upper_none : (w : ℕ) → w < 18014398509481984 → Upper w 0 0 0 w
upper_none w h = record { value = omega arith; rest_lt = h; e_le = omega arith; r_lt = omega arith }

-- two digits more of w, and 0 or 1 for the root's next
module _ (w i r e rest : ℕ) (u : Upper w i r e rest) where
  double : r * 2 + 1 < 2 ^ (i + 1)
  double = let h = u.r_lt in rw (pow-add 2 i 1) (omega arith)

  taken : w * 4 ^ (i + 1) ≡ (2 * r * (2 * r) + (4 * e + rest / 4503599627370496)) * 18014398509481984 + rest % 4503599627370496 * 4
  taken = rw (pow-add 4 i 1, ← mul_assoc w (4 ^ i) 4, u.value) (go (rest / 4503599627370496) (rest % 4503599627370496) (omega arith))
    where
      go : (h l : ℕ) → rest ≡ h * 4503599627370496 + l
          → ((r * r + e) * 18014398509481984 + rest) * 4 ≡ (2 * r * (2 * r) + (4 * e + h)) * 18014398509481984 + l * 4
      go h l a = omega arith

  pub next_0 : 4 * e + rest / 4503599627370496 ≤ 2 * (2 * r)
      → Upper w (i + 1) (2 * r) (4 * e + rest / 4503599627370496) (rest % 4503599627370496 * 4)
  next_0 h = let d = double in record { value = taken; rest_lt = omega arith; e_le = h; r_lt = omega arith }

  pub next_1 : 2 * (2 * r) < 4 * e + rest / 4503599627370496
      → Upper w (i + 1) (2 * r + 1) (4 * e + rest / 4503599627370496 - 2 * (2 * r) - 1) (rest % 4503599627370496 * 4)
  next_1 h =
      let d = double in
      let a = u.e_le in
      let b = u.rest_lt in
      record {
        value = taken ∙ ap (λ (x : ℕ). x * 18014398509481984 + rest % 4503599627370496 * 4) (go (4 * e + rest / 4503599627370496) h);
        rest_lt = omega arith;
        e_le = omega arith;
        r_lt = omega arith;
      }
    where
      go : (f : ℕ) → 2 * (2 * r) < f → 2 * r * (2 * r) + f ≡ (2 * r + 1) * (2 * r + 1) + (f - 2 * (2 * r) - 1)
      go f k = omega arith

-- all digits: w * 2 ^ 52 is r² + e, and the nearest is r + 1 where e is above r, else r
all : (w i r e rest : ℕ) → Upper w i r e rest → i ≡ 53 → w * 4503599627370496 ≡ r * r + e
all w i r e rest u g = go (r * r) (subst (λ (j : ℕ). w * 4 ^ j ≡ (r * r + e) * 18014398509481984 + rest) g u.value) u.rest_lt
  where
    go : (s : ℕ) → w * 4 ^ 53 ≡ (s + e) * 18014398509481984 + rest → rest < 18014398509481984 → w * 4503599627370496 ≡ s + e
    go s a b = omega arith

pub nearest_above : (w i r e rest : ℕ) → Upper w i r e rest → i ≡ 53 → r < e → Nearest (w * 4503599627370496) (r + 1)
nearest_above w i r e rest u g h = let a = all w i r e rest u g in let b = u.e_le in omega arith

pub nearest_itself : (w i r e rest : ℕ) → 0 < w → Upper w i r e rest → i ≡ 53 → e ≤ r → Nearest (w * 4503599627370496) r
nearest_itself w i zero e rest p u g h = let a = all w i zero e rest u g in omega arith
nearest_itself w i (suc r) e rest p u g h = let a = all w i (suc r) e rest u g in omega arith

-- ---- the products that `is_closest` forms, for a q below 2 ^ 53, fit in 64 bits
module _ (q : ℕ) (h : q < 9007199254740992) where
  pub upper_square : q / 67108864 * (q / 67108864) ≤ 18014398241046529
  upper_square = let s : q / 67108864 ≤ 134217727 = omega arith in mul-le-mul s s

  pub cross_product : 2 * (q / 67108864) * (q % 67108864) ≤ 18014398106828802
  cross_product =
      let s : 2 * (q / 67108864) ≤ 268435454 = omega arith in
      let d : q % 67108864 ≤ 67108863 = omega arith in
      mul-le-mul s d

  pub lower_square : q % 67108864 * (q % 67108864) ≤ 4503599493152769
  lower_square = let d : q % 67108864 ≤ 67108863 = omega arith in mul-le-mul d d

-- ---- what `is_closest` tests, with q = s * 2 ^ 26 + d: w * 2 ^ 52 + q + d² = q² + a
pub tested : (w q : ℕ)
    → let s = q / 67108864 in
    let d = q % 67108864 in
    let n = (w - s * s) * 67108864 + s in
    let a = (n - 2 * s * d) * 67108864 + d in
    s * s ≤ w → 2 * s * d ≤ n → d * d < a → a ≤ d * d + 2 * q → Nearest (w * 4503599627370496) q
tested w q h k lo hi =
    let s = q / 67108864 in
    let d = q % 67108864 in
    go s d (w - s * s) (omega arith) (omega arith) ((w - s * s) * 67108864 + s - 2 * s * d) (omega arith) lo hi
  where
    sum : (s d e v : ℕ) → w ≡ s * s + e → q ≡ s * 67108864 + d → v + 2 * s * d ≡ e * 67108864 + s
        → w * 4503599627370496 + q + d * d ≡ (s * 67108864 + d) * (s * 67108864 + d) + (v * 67108864 + d)
    sum s d e v a b c = omega arith

    ends : (Q x a : ℕ) → w * 4503599627370496 + q + x ≡ Q + a → x < a → a ≤ x + 2 * q
        → (Q < w * 4503599627370496 + q) × (w * 4503599627370496 ≤ Q + q)
    ends Q x a e l u = (omega arith, omega arith)

    go : (s d e : ℕ) → w ≡ s * s + e → q ≡ s * 67108864 + d → (v : ℕ) → v + 2 * s * d ≡ e * 67108864 + s
        → d * d < v * 67108864 + d → v * 67108864 + d ≤ d * d + 2 * q → Nearest (w * 4503599627370496) q
    go s d e a b v c l u =
        subst (λ (z : ℕ). (z * z < w * 4503599627370496 + q) × (w * 4503599627370496 ≤ z * z + q)) (sym b)
        (ends ((s * 67108864 + d) * (s * 67108864 + d)) (d * d) (v * 67108864 + d) (sum s d e v a b c) l u)

pub closest_of : (w r : ℕ) → Radicand w → Nearest (w * 4503599627370496) r → Closest w r
closest_of w r (lo, hi) h = (
  sym (nearest_root (w * 4503599627370496) r (omega arith) (omega arith) h),
  near_low (w * 4503599627370496) r (omega arith) h.1,
  near_high (w * 4503599627370496) r (omega arith) h.0,
)
