-- For `round_magnitude` of `mul_add`: `round` at a fraction whose denominator is 2 ^ 2148, and what it sees of its numerator: the digits above a place, and
-- whether all below are 0. Assumes nothing.
use Rattle.std.proofs.Common.{◌≡◌, ℕ, ◌+◌, ◌-◌, ◌*◌, ◌/◌, ◌%◌, ◌^◌, ◌<◌, ◌≤◌, min, Bool, ◌⊎◌, sym, ap, ◌∙◌, inl, inr, le_trans, le_of_eq, lt_of_lt_of_le, add_assoc, mod-lt, mul_assoc, mul_comm, div-lt_iff_lt-mul, add-mul, eq-zero-or-pos, mul-pos, one-mul, le-div_iff_mul-le, zero-mul, mul_left_comm, arith, pow_pos, pow_mono, pow-add}
use Prim.Native.Nat.{compare}
use native.Mathlib.Nat.{div-eq_of_lt, div-div-eq-div-mul}
use lib.Arith.{le-zero, digits_lt, digits_div, digits_mod, mod-mul}
use lib.Pow.{split}
use lib.Ieee.{binary64, size, nearest, units, round}
use lib.Ieee.Digits.{size-lt, size-le, size_reaches}
use lib.Ieee.Fits.{round_is}
use lib.Ieee.Nearest.{closest, closest_same, div_same}
use Rattle.arithmetic.specs.Laws.Numbers.{cmp_lt, cmp_gt, lt_or_le, pow_split, size_is}

-- ---- the multiple of 2 * H nearest to a number depends on its multiples of H and on whether anything is left
between : (H q r : ℕ) → r < H → 0 < r → closest (q * H + r) (2 * H) ≡ closest (q * 2 + 1) 4
between H q r R P =
    let n = q * H + r in
    let d : n / (2 * H) ≡ q / 2 = ap (λ (x : ℕ). n / x) (mul_comm 2 H) ∙ sym (div-div-eq-div-mul n H 2) ∙ ap (λ (x : ℕ). x / 2) (digits_div q R) in
    let m : n % (2 * H) ≡ q % 2 * H + r =
    mod-mul n (pow_pos 1) (omega arith) ∙ ap (λ (x : ℕ). x % 2 * H + n % H) (digits_div q R) ∙ ap (λ (x : ℕ). q % 2 * H + x) (digits_mod q R) in
    let four : (q * 2 + 1) / 4 ≡ q / 2 = omega arith in
    rw (d, m, four) (go (eq-zero-or-pos (q % 2)))
  where
    go : (q % 2 ≡ 0) ⊎ (0 < q % 2) → nearest (q / 2) (compare ((q % 2 * H + r) * 2) (2 * H)) ≡ nearest (q / 2) (compare ((q * 2 + 1) % 4 * 2) 4)
    go (inl e) =
        let z : q % 2 * H ≡ 0 = ap (λ (x : ℕ). x * H) e ∙ zero-mul H in
        ap (nearest (q / 2)) (cmp_lt ((q % 2 * H + r) * 2) (2 * H) (omega arith) ∙ sym (cmp_lt ((q * 2 + 1) % 4 * 2) 4 (omega arith)))
    go (inr e) =
        let o : q % 2 ≡ 1 = omega arith in
        let z : q % 2 * H ≡ H = ap (λ (x : ℕ). x * H) o ∙ one-mul H in
        ap (nearest (q / 2)) (cmp_gt ((q % 2 * H + r) * 2) (2 * H) (omega arith) ∙ sym (cmp_gt ((q * 2 + 1) % 4 * 2) 4 (omega arith)))

pub closest_jam : (H q r : ℕ) → r < H → closest (q * H + r) (2 * H) ≡ closest (q * 2 + min 1 r) 4
closest_jam H q r R = go (eq-zero-or-pos r)
  where
    go : (r ≡ 0) ⊎ (0 < r) → closest (q * H + r) (2 * H) ≡ closest (q * 2 + min 1 r) 4
    go (inl e) =
        let a : q * H + r ≡ q * H = omega arith in
        let b : q * 2 + min 1 r ≡ q * 2 = omega arith in
        let c : q * H * 4 ≡ q * 2 * (2 * H) = simp (mul_assoc, mul_comm, mul_left_comm) (omega arith) in
        ap (λ (x : ℕ). closest x (2 * H)) a ∙ closest_same (q * H) (2 * H) (q * 2) 4 (omega arith) (pow_pos 2) c ∙ ap (λ (x : ℕ). closest x 4) (sym b)
    go (inr p) = let b : q * 2 + 1 ≡ q * 2 + min 1 r = omega arith in between H q r R p ∙ ap (λ (x : ℕ). closest x 4) b

-- ---- at a coarser place too: 2 ^ j multiples of G at once
pub closest_coarse : (G q r r' j : ℕ) → r < G → r' < G → min 1 r ≡ min 1 r' → closest (q * G + r) (2 * (2 ^ j * G)) ≡ closest (q * G + r') (2 * (2 ^ j * G))
closest_coarse G q r r' j R R' e = at r R ∙ ap (λ (x : ℕ). closest (q / 2 ^ j * 2 + x) 4) (same (q % 2 ^ j * G)) ∙ sym (at r' R')
  where
    same : (x : ℕ) → min 1 (x + r) ≡ min 1 (x + r')
    same x = omega arith

    at : (t : ℕ) → t < G → closest (q * G + t) (2 * (2 ^ j * G)) ≡ closest (q / 2 ^ j * 2 + min 1 (q % 2 ^ j * G + t)) 4
    at t T =
        let a = ap (λ (x : ℕ). x * G) (sym (split q j)) ∙ add-mul (q / 2 ^ j * 2 ^ j) (q % 2 ^ j) G in
        let b = mul_assoc (q / 2 ^ j) (2 ^ j) G in
        let c : q * G + t ≡ q / 2 ^ j * (2 ^ j * G) + (q % 2 ^ j * G + t) = omega arith in
        ap (λ (x : ℕ). closest x (2 * (2 ^ j * G))) c
        ∙ closest_jam (2 ^ j * G) (q / 2 ^ j) (q % 2 ^ j * G + t) (digits_lt (mod-lt q (pow_pos j)) T)

-- ---- a number with its last j digits dropped
pub size_div : (n j : ℕ) → size (n / 2 ^ j) ≡ size n - j
size_div n j = go (lt_or_le j (size n))
  where
    go : (j < size n) ⊎ (size n ≤ j) → size (n / 2 ^ j) ≡ size n - j
    go (inl l) =
        let i = size n - j - 1 in
        let e : i + 1 ≡ size n - j = omega arith in
        size_is (n / 2 ^ j) i
        ((le-div_iff_mul-le (pow_pos j)).1 (le_trans (le_of_eq (sym (pow-add 2 i j))) (size_reaches n (i + j) (omega arith))))
        ((div-lt_iff_lt-mul (pow_pos j)).1 (lt_of_lt_of_le (size-lt n) (le_of_eq (sym (pow_split (i + 1) j (size n) (omega arith))))))
        ∙ e
    go (inr l) =
        let e : 0 ≡ size n - j = omega arith in
        ap size (div-eq_of_lt (lt_of_lt_of_le (size-lt n) (pow_mono l))) ∙ le-zero (size-le 0 0 (pow_pos 0)) ∙ e

-- ---- `round` of n units of 2 ^ -2148
-- how many digits it drops
abbrev pub dropped : ℕ → ℕ
dropped n = size (n / 2 ^ 1074) - 53

pub round_at : (s : Bool) (n : ℕ) → round binary64 s n (2 ^ 2148) ≡ units binary64 s (closest n (2 ^ (1074 + dropped n))) (dropped n)
round_at s n =
    round_is binary64 s n (2 ^ 2148)
    ∙ ap (λ (k : ℕ). units binary64 s (closest (n * 2 ^ 1074) (2 ^ 2148 * 2 ^ k)) k)
    (ap (λ (x : ℕ). size x - 53) (div_same (n * 2 ^ 1074) (2 ^ 2148) n (2 ^ 1074) (pow_pos 2148) (pow_pos 1074) (mul_assoc n (2 ^ 1074) (2 ^ 1074))))
    ∙ ap (λ (x : ℕ). units binary64 s x (dropped n))
    (closest_same (n * 2 ^ 1074) (2 ^ 2148 * 2 ^ dropped n) n (2 ^ (1074 + dropped n))
    (mul-pos (pow_pos 2148) (pow_pos (dropped n))) (pow_pos (1074 + dropped n)) (cross (dropped n)))
  where
    cross : (k : ℕ) → n * 2 ^ 1074 * 2 ^ (1074 + k) ≡ n * (2 ^ 2148 * 2 ^ k)
    cross k =
        mul_assoc n (2 ^ 1074) (2 ^ (1074 + k))
        ∙ ap (λ (x : ℕ). n * x) (pow_split 1074 (1074 + k) (2148 + k) (sym (add_assoc 1074 1074 k)) ∙ pow-add 2 2148 k)
