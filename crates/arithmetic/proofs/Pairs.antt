-- What the functions of `pair` give, on numbers of at most 128 digits. Assumes nothing.
use Rattle.std.proofs.Common.{◌≡◌, ℕ, zero, suc, ◌+◌, ◌-◌, ◌*◌, ◌/◌, ◌%◌, ◌^◌, ◌<◌, ◌≤◌, min, max, ◌⊎◌, sym, refl, ap, ◌∙◌, subst, inl, inr, le_trans, lt_of_le_of_lt, lt_of_lt_of_le, add-zero, mod-lt, mod-eq_of_lt, mul_assoc, eq-zero-or-pos, mul-pos, zero-mul, div-add-mod', div-mul-le_self, div-le_self, mul-div_cancel, add-one, arith, lit<, pow_pos, pow_mono}
use native.Mathlib.Nat.{mul-mod_left, mul-add-mod_self_right}
use native.Mathlib.Nat.{div-eq_of_lt, div-div-eq-div-mul}
use Rattle.std.proofs.lemmas.Nat.{or_block}
use lib.Bits.{bit_or, or_zero_r}
use lib.Arith.{le-zero, digits_lt, digits_div, mod-mul}
use lib.Pow.{mod-pow-add}
use lib.Pow as Pow
use lib.Count.{count_leading_zeros, leading_of_zero, leading_top}
use lib.Ieee.{size}
use lib.Ieee.Digits.{size-le}
use Rattle.arithmetic.specs.declared.pair.Pair.{Pair}
use Rattle.arithmetic.specs.Internal.Pair.{val, jammed}
use Rattle.arithmetic.specs.Laws.Numbers.{pow_split, size_is}

-- ---- at most 128 digits
pub val_lt : (v : Pair) → v.hi < 2 ^ 64 → v.lo < 2 ^ 64 → val v < 2 ^ 128
val_lt v H L = digits_lt {q = v.hi} {m = 2 ^ 64} {r = v.lo} {c = 2 ^ 64} H L

pub val_size : (v : Pair) → v.hi < 2 ^ 64 → v.lo < 2 ^ 64 → size (val v) ≤ 128
val_size v H L = size-le (val v) 128 (val_lt v H L)

-- ---- the last bits jammed
pub min_scale : (a x : ℕ) → 0 < x → min 1 (a * x) ≡ min 1 a
min_scale a x X = go (eq-zero-or-pos a)
  where
    go : (a ≡ 0) ⊎ (0 < a) → min 1 (a * x) ≡ min 1 a
    go (inl p) = let z = ap (λ (y : ℕ). y * x) p ∙ zero-mul x in omega arith
    go (inr p) = let z = mul-pos p X in omega arith

-- x shifted up by the rest of a number's digits has no bit above them
low_shifted : (E F x : ℕ) → 0 < E → 0 < F → x * E % (F * E) ≡ x % F * E
low_shifted E F x P Q =
    mod-mul (x * E) Q P
    ∙ ap (λ (y : ℕ). y + x * E % E) (ap (λ (y : ℕ). y % F * E) (mul-div_cancel x P))
    ∙ ap (λ (y : ℕ). x % F * E + y) (mul-mod_left x E) ∙ add-zero (x % F * E)

-- of a number n of W digits the even part, and whether anything was cut from its lower word l
pub even_part : (W n d : ℕ) → n < 2 ^ W → n / 2 ^ d / 2 * 2 % 2 ^ W ≡ n / 2 ^ (d + 1) * 2
even_part W n d N =
    let e : n / 2 ^ d / 2 ≡ n / 2 ^ (d + 1) = div-div-eq-div-mul n (2 ^ d) 2 ∙ ap (λ (x : ℕ). n / x) (pow_split d 1 (d + 1) refl) in
    let least : n / 2 ^ d / 2 * 2 ≤ n = le_trans (div-mul-le_self (n / 2 ^ d) 2) (div-le_self n (2 ^ d)) in
    mod-eq_of_lt (lt_of_le_of_lt least N) ∙ ap (λ (x : ℕ). x * 2) e

pub sticky_digit : (l d : ℕ) → d < 64 → min (l * 2 ^ (63 - d) % 2 ^ 64) 1 ≡ min 1 (l % 2 ^ (d + 1))
sticky_digit l d h =
    let e : 2 ^ (d + 1) * 2 ^ (63 - d) ≡ 2 ^ 64 = pow_split (d + 1) (63 - d) 64 (omega arith) in
    let cut : l * 2 ^ (63 - d) % 2 ^ 64 ≡ l % 2 ^ (d + 1) * 2 ^ (63 - d) =
    ap (λ (x : ℕ). l * 2 ^ (63 - d) % x) (sym e) ∙ low_shifted (2 ^ (63 - d)) (2 ^ (d + 1)) l (pow_pos (63 - d)) (pow_pos (d + 1)) in
    ap (λ (x : ℕ). min x 1) cut ∙ turned (l % 2 ^ (d + 1) * 2 ^ (63 - d)) ∙ min_scale (l % 2 ^ (d + 1)) (2 ^ (63 - d)) (pow_pos (63 - d))
  where
    turned : (x : ℕ) → min x 1 ≡ min 1 x
    turned x = omega arith

-- a word
pub jam_word : (n d : ℕ) → n < 2 ^ 64 → d < 64 → n / 2 ^ d / 2 * 2 % 2 ^ 64 + min (n * 2 ^ (63 - d) % 2 ^ 64) 1 ≡ jammed n d
jam_word n d N h = ap (λ (x : ℕ). x + min (n * 2 ^ (63 - d) % 2 ^ 64) 1) (even_part 64 n d N) ∙ ap (λ (x : ℕ). n / 2 ^ (d + 1) * 2 + x) (sticky_digit n d h)

pub jam_word_far : (n d : ℕ) → n < 2 ^ 64 → 64 ≤ d → min n 1 ≡ jammed n d
jam_word_far n d N h =
    let under : n < 2 ^ (d + 1) = lt_of_lt_of_le N (pow_mono {i = 64} {j = d + 1} (omega arith)) in
    rw (div-eq_of_lt under, mod-eq_of_lt under) (omega arith)

-- a pair of the halves h and l
module _ (h l : ℕ) (L : l < 2 ^ 64) where
  abbrev n : ℕ
  n = h * 2 ^ 64 + l

  pub jam_pair : (d : ℕ) → n < 2 ^ 128 → d < 64 → n / 2 ^ d / 2 * 2 % 2 ^ 128 + min (l * 2 ^ (63 - d) % 2 ^ 64) 1 ≡ jammed n d
  jam_pair d N i =
      let e : 2 ^ 64 ≡ 2 ^ (63 - d) * 2 ^ (d + 1) = sym (pow_split (63 - d) (d + 1) 64 (omega arith)) in
      let same : l % 2 ^ (d + 1) ≡ n % 2 ^ (d + 1) =
      sym (ap (λ (x : ℕ). (h * x + l) % 2 ^ (d + 1)) e
      ∙ ap (λ (x : ℕ). (x + l) % 2 ^ (d + 1)) (sym (mul_assoc h (2 ^ (63 - d)) (2 ^ (d + 1))))
      ∙ mul-add-mod_self_right (h * 2 ^ (63 - d)) (2 ^ (d + 1)) l) in
      ap (λ (x : ℕ). x + min (l * 2 ^ (63 - d) % 2 ^ 64) 1) (even_part 128 n d N)
      ∙ ap (λ (x : ℕ). n / 2 ^ (d + 1) * 2 + x) (sticky_digit l d i ∙ ap (min 1) same)

  -- the lower half jammed into the last bit of the upper
  or_last : bit_or h (min l 1) ≡ h / 2 * 2 + max (h % 2) (min l 1)
  or_last =
      ap (λ (x : ℕ). bit_or x (min l 1)) (sym (div-add-mod' h 2))
      ∙ ap (bit_or (h / 2 * 2 + h % 2)) (over_none (min l 1))
      ∙ or_block 1 (h / 2) 0 (h % 2) (min l 1) (mod-lt h (lit< tt)) (omega arith)
      ∙ ap (λ (x : ℕ). x * 2 + bit_or (h % 2) (min l 1)) (or_zero_r (h / 2))
      ∙ ap (λ (x : ℕ). h / 2 * 2 + x) (bits (h % 2) (min l 1) (mod-lt h (lit< tt)) (omega arith))
    where
      over_none : (x : ℕ) → x ≡ 0 * 2 + x
      over_none x = omega arith

      bits : (a b : ℕ) → a < 2 → b < 2 → bit_or a b ≡ max a b
      bits zero b A B = omega arith
      bits (suc zero) zero A B = refl
      bits (suc zero) (suc zero) A B = refl
      bits (suc zero) (suc (suc b)) A B = absurd (omega arith)
      bits (suc (suc a)) b A B = absurd (omega arith)

  pub jam_pair_far : (d : ℕ) → 64 ≤ d → jammed (bit_or h (min l 1)) (d - 64) ≡ jammed n d
  jam_pair_far d D =
      let k = d - 64 in
      let m = bit_or h (min l 1) in
      let half : m / 2 ≡ h / 2 = omega (arith, or_last) in
      let q : m / 2 ^ (k + 1) ≡ n / 2 ^ (d + 1) =
      by_half m k ∙ ap (λ (x : ℕ). x / 2 ^ k) half ∙ sym (by_half h k) ∙ ap (λ (x : ℕ). x / 2 ^ (k + 1)) (sym (digits_div h L))
      ∙ div-div-eq-div-mul n (2 ^ 64) (2 ^ (k + 1)) ∙ ap (λ (x : ℕ). n / x) (pow_split 64 (k + 1) (d + 1) (omega arith)) in
      let a = h / 2 % 2 ^ k in
      let upper : h % 2 ^ (k + 1) ≡ h / 2 % 2 ^ k * 2 + h % 2 = mod-pow-add h k 1 in
      let left : m % 2 ^ (k + 1) ≡ h / 2 % 2 ^ k * 2 + m % 2 = mod-pow-add m k 1 ∙ ap (λ (x : ℕ). x % 2 ^ k * 2 + m % 2) half in
      let right : n % 2 ^ (d + 1) ≡ h % 2 ^ (k + 1) * 2 ^ 64 + l =
      ap (λ (x : ℕ). n % 2 ^ x) (over d D) ∙ mod-pow-add n (k + 1) 64
      ∙ ap (λ (x : ℕ). x % 2 ^ (k + 1) * 2 ^ 64 + n % 2 ^ 64) (Pow.high h 64 L) ∙ ap (λ (x : ℕ). h % 2 ^ (k + 1) * 2 ^ 64 + x) (Pow.low h 64 L) in
      let r : min 1 (m % 2 ^ (k + 1)) ≡ min 1 (n % 2 ^ (d + 1)) = omega (arith, or_last, upper, left, right) in
      ap (λ (x : ℕ). x * 2 + min 1 (m % 2 ^ (k + 1))) q ∙ ap (λ (x : ℕ). n / 2 ^ (d + 1) * 2 + x) r
    where
      over : (d : ℕ) → 64 ≤ d → d + 1 ≡ d - 64 + 1 + 64
      over d h = omega arith

      by_half : (x k : ℕ) → x / 2 ^ (k + 1) ≡ x / 2 / 2 ^ k
      by_half x k = sym (div-div-eq-div-mul x 2 (2 ^ k) ∙ ap (λ (y : ℕ). x / y) (pow_split 1 k (k + 1) (omega arith)))

-- ---- how many digits, by the zeros that lead
pub digits_of : (n : ℕ) → n < 2 ^ 128 → 128 - count_leading_zeros 128 n ≡ size n
digits_of n N = go (eq-zero-or-pos n)
  where
    go : (n ≡ 0) ⊎ (0 < n) → 128 - count_leading_zeros 128 n ≡ size n
    go (inl e) = rw (e, leading_of_zero 128) (sym (le-zero (size-le 0 0 (pow_pos 0))))
    go (inr p) =
        let (j, e, lo, hi) = leading_top 128 n p N in
        let z : 128 - count_leading_zeros 128 n ≡ j + 1 = omega arith in
        z ∙ sym (size_is n j lo (subst (λ (x : ℕ). n < 2 ^ x) (sym (add-one j)) hi))
