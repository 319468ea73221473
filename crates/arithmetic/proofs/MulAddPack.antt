-- What `round_guarded` and `pack` of `mul_add` give: m / 4 to the nearest whole number q, and the bit pattern of q * 2 ^ k units, for a q of 53 digits, or
-- fewer where k is 0: k * 2 ^ 52 + q below the sign. Assumes nothing.
use Rattle.std.proofs.Common.{◌≡◌, ℕ, suc, ◌+◌, ◌-◌, ◌*◌, ◌/◌, ◌%◌, ◌^◌, ◌<◌, ◌≤◌, min, Bool, true, false, cond, ◌⊎◌, sym, refl, ap, ◌∙◌, subst, inl, inr, le_trans, le_of_eq, lt_of_le_of_lt, mul-le-mul_right, mod-eq_of_lt, eq-zero-or-pos, add-one, arith, lit<, pow_pos, pow_mono, pow-add, le-ltb, lt-ltb}
use Prim.Native.Nat.{compare}
use lib.Bits.{bit_and, and_mask}
use lib.Ieee.{Float, inf, binary64, odd, units, of_fields, of_bits}
use lib.Ieee.Fits.{odd-fits, nearest-le}
use lib.Ieee.Bits.{of_bits-fits}
use lib.Ieee.Exact.{HasValue, odd_sign}
use lib.Ieee.Nearest.{closest, nearest-ge}
use Rattle.arithmetic.specs.Laws.Numbers.{cmp_lt, cmp_gt, lt_or_le, pow_split}
use Rattle.arithmetic.specs.Laws.Patterns.{signed_is, read_zero, read_more, value_unique}
use Rattle.arithmetic.specs.Laws.Representable.{value_under}

infinity_pattern : (s : Bool) → of_bits binary64 (cond s (2 ^ 63) 0 + 2047 * 2 ^ 52) ≡ inf s
unfolding of_bits
infinity_pattern true = refl
infinity_pattern false = refl

module _ (q k : ℕ) (Q : q ≤ 2 ^ 53) (lead : 0 < k → 2 ^ 52 ≤ q) where
  no_shift : q < 2 ^ 52 → k ≡ 0
  no_shift a = go (eq-zero-or-pos k)
    where
      go : (k ≡ 0) ⊎ (0 < k) → k ≡ 0
      go (inl e) = e
      go (inr p) = let b = lead p in omega arith

  pattern_value : (s : Bool) → k * 2 ^ 52 + q < 2047 * 2 ^ 52 → HasValue (of_bits binary64 (cond s (2 ^ 63) 0 + (k * 2 ^ 52 + q))) s (q * 2 ^ k) (2 ^ 1074)
  pattern_value s h =
      subst (λ (v : Float). HasValue v s (q * 2 ^ k) (2 ^ 1074)) (sym (signed_is s (k * 4503599627370496 + q) (omega arith)))
      (go (lt_or_le q (2 ^ 52)) (lt_or_le q (2 ^ 53)))
    where
      r : ℕ
      r = k * 4503599627370496 + q

      -- with r as the bits under the sign
      Holds : Type 0
      Holds = HasValue (of_fields binary64 s (r / 4503599627370496) (r % 4503599627370496)) s (q * 2 ^ k) (2 ^ 1074)

      -- the fields x and t
      at : (x t : ℕ) → suc x < 2047 → r / 4503599627370496 ≡ suc x → r % 4503599627370496 ≡ t → (4503599627370496 + t) * 2 ^ x ≡ q * 2 ^ k → Holds
      at x t a b d e = rw (b, d, ← e) (read_more s x t a)

      go : (q < 2 ^ 52) ⊎ (2 ^ 52 ≤ q) → (q < 2 ^ 53) ⊎ (2 ^ 53 ≤ q) → Holds
      go (inl a) b =
          let e : k ≡ 0 = no_shift a in
          let f : r / 4503599627370496 ≡ 0 = omega arith in
          let g : r % 4503599627370496 ≡ q = omega arith in
          rw (f, g, e) (read_zero s q)
      go (inr a) (inl b) =
          let e : 4503599627370496 + (q - 4503599627370496) ≡ q = omega arith in
          at k (q - 4503599627370496) (omega arith) (omega arith) (omega arith) (rw e)
      go (inr a) (inr b) =
          let e : q ≡ 2 ^ 53 = omega arith in
          at (k + 1) 0 (omega arith) (omega arith) (omega arith) (pow_split 52 (k + 1) (53 + k) (omega arith) ∙ pow-add 2 53 k ∙ rw e)

  out_of_range : 2047 * 2 ^ 52 ≤ k * 2 ^ 52 + q → 2 ^ 2098 ≤ q * 2 ^ k
  out_of_range h = go (lt_or_le k 2046)
    where
      reach : (i : ℕ) → 2098 ≤ i + k → 2 ^ i ≤ q → 2 ^ 2098 ≤ q * 2 ^ k
      reach i a b = le_trans (pow_mono a) (le_trans (le_of_eq (pow-add 2 i k)) (mul-le-mul_right (2 ^ k) b))

      go : (k < 2046) ⊎ (2046 ≤ k) → 2 ^ 2098 ≤ q * 2 ^ k
      go (inl a) = reach 53 (omega arith) (omega arith)
      go (inr a) = reach 52 (omega arith) (lead (omega arith))

  finite_pattern : (s : Bool) → k * 2 ^ 52 + q < 2047 * 2 ^ 52 → of_bits binary64 (cond s (2 ^ 63) 0 + (k * 2 ^ 52 + q)) ≡ units binary64 s q k
  unfolding units
  finite_pattern s h =
      let b = of_bits binary64 (cond s (2 ^ 63) 0 + (k * 2 ^ 52 + q)) in
      let held = of_bits-fits binary64 (cond s (2 ^ 63) 0 + (k * 2 ^ 52 + q)) in
      let v = pattern_value s h in
      let r = value_under binary64 b s (q * 2 ^ k) held v in
      value_unique binary64 b (odd 54 s q k 1074) s (q * 2 ^ k) (2 ^ 1074) (pow_pos 1074)
      held (odd-fits binary64 54 s q k (lt_of_le_of_lt Q (lit< tt)) Q r) v (odd_sign 54 s q k 1074)
      ∙ sym (ap (λ (b : Bool). cond b (odd 54 s q k 1074) (inf s)) (lt-ltb (q * 2 ^ k) (2 ^ 2098) r))

  infinite_pattern : (s : Bool) → 2047 * 2 ^ 52 ≤ k * 2 ^ 52 + q → of_bits binary64 (cond s (2 ^ 63) 0 + 2047 * 2 ^ 52) ≡ units binary64 s q k
  unfolding units
  infinite_pattern s h = infinity_pattern s ∙ sym (ap (λ (b : Bool). cond b (odd 54 s q k 1074) (inf s)) (le-ltb (q * 2 ^ k) (2 ^ 2098) (out_of_range h)))

-- ---- m / 4, rounded, is such a q
round_guarded_most : (m : ℕ) → m < 2 ^ 55 → closest m 4 ≤ 2 ^ 53
round_guarded_most m h = le_trans (nearest-le (m / 4) (compare (m % 4 * 2) 4)) (omega arith)

round_guarded_least : (m : ℕ) → 2 ^ 54 ≤ m → 2 ^ 52 ≤ closest m 4
round_guarded_least m h = let a : 4503599627370496 ≤ m / 4 = omega arith in le_trans a (nearest-ge (m / 4) (compare (m % 4 * 2) 4))

-- by its last two bits
pub round_guarded_under : (m : ℕ) → bit_and m 3 < 2 → m / 4 ≡ closest m 4
round_guarded_under m h = let e = and_mask m 2 in rw (cmp_lt (m % 4 * 2) 4 (omega arith))

pub round_guarded_tie : (m : ℕ) → bit_and m 3 ≡ 2 → m / 4 + bit_and (m / 4) 1 ≡ closest m 4
round_guarded_tie m h = let e : m % 4 ≡ 2 = sym (and_mask m 2) ∙ h in rw (e, and_mask (m / 4) 1)

pub round_guarded_over : (m : ℕ) → (bit_and m 3 ≡ 2 → ⊥) → 2 ≤ bit_and m 3 → m / 4 + 1 ≡ closest m 4
round_guarded_over m n h = let e = and_mask m 2 in rw (cmp_gt (m % 4 * 2) 4 (omega arith)) (add-one (m / 4))

-- ---- the bits under the sign, as `pack` adds them up from k and q, for a q that is m / 4 rounded
abbrev magnitude : ℕ → ℕ → ℕ
magnitude k q = k * 2 ^ 52 % 2 ^ 64 + q

pub record Packed (m k q : ℕ) : Type 0 where
  pub fits : magnitude k q < 2 ^ 64
  pub value : (s : Bool) → of_bits binary64 (cond s (2 ^ 63) 0 + min (magnitude k q) (2047 * 2 ^ 52)) ≡ units binary64 s (closest m 4) k

pub packed : (m k q : ℕ) → m < 2 ^ 55 → k ≤ 3091 → (0 < k → 2 ^ 54 ≤ m) → q ≡ closest m 4 → Packed m k q
packed m k q M K lead e = record {
  fits = room k n (magnitude k q) K most is;
  value = λ s. rw is (go s (lt_or_le (k * 2 ^ 52 + n) (2047 * 2 ^ 52)));
}
  where
    n : ℕ
    n = closest m 4

    most : n ≤ 2 ^ 53
    most = round_guarded_most m M

    least : 0 < k → 2 ^ 52 ≤ n
    least p = round_guarded_least m (lead p)

    shifted : (k : ℕ) → k ≤ 3091 → k * 4503599627370496 < 18446744073709551616
    shifted k h = omega arith

    is : magnitude k q ≡ k * 2 ^ 52 + n
    is = ap (λ (x : ℕ). x + q) (mod-eq_of_lt (shifted k K)) ∙ ap (λ (x : ℕ). k * 2 ^ 52 + x) e

    room : (k q x : ℕ) → k ≤ 3091 → q ≤ 9007199254740992 → x ≡ k * 4503599627370496 + q → x < 18446744073709551616
    room k q x a b d = omega arith

    bits : Bool → ℕ → Float
    bits s x = of_bits binary64 (cond s (2 ^ 63) 0 + x)

    lower : (x y : ℕ) → x < y → min x y ≡ x
    lower x y h = omega arith

    upper : (x y : ℕ) → y ≤ x → min x y ≡ y
    upper x y h = omega arith

    go : (s : Bool) → (k * 2 ^ 52 + n < 2047 * 2 ^ 52) ⊎ (2047 * 2 ^ 52 ≤ k * 2 ^ 52 + n)
        → bits s (min (k * 2 ^ 52 + n) (2047 * 2 ^ 52)) ≡ units binary64 s n k
    go s (inl h) = ap (bits s) (lower (k * 2 ^ 52 + n) (2047 * 2 ^ 52) h) ∙ finite_pattern n k most least s h
    go s (inr h) = ap (bits s) (upper (k * 2 ^ 52 + n) (2047 * 2 ^ 52) h) ∙ infinite_pattern n k most least s h
