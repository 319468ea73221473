-- What `power` of `exp` gives, and the bits that `fast` puts together: 2 ^ (e - 1075) by its bit pattern, subnormal for an e below 53. Assumes nothing.
use Rattle.std.proofs.Common.{◌≡◌, ℕ, ◌+◌, ◌-◌, ◌*◌, ◌%◌, ◌^◌, ◌<◌, ◌≤◌, false, not, T, sym, ap, ◌∙◌, subst, mod-eq_of_lt, one-mul, arith}
use lib.Pow.{pow-lt}
use lib.Ieee.{binary64, nan_bits, of_bits}
use lib.Ieee.Bits.{nan_bits_is}
use lib.Ieee.Exact.{HasValue}
use Rattle.arithmetic.specs.Laws.Times.{has_finite}
use Rattle.arithmetic.specs.Laws.PowersOfTwo.{low_power, high_power}
use Rattle.arithmetic.specs.Laws.Numbers.{false_not}
use Rattle.arithmetic.specs.Laws.Compare.{finite_no_nan}

-- b is the pattern of 2 ^ (e - 1075)
abbrev pub IsPower : ℕ → ℕ → Type 0
IsPower b e = HasValue (of_bits binary64 b) false (2 ^ e) (2 ^ 1075)

pub pattern_no_nan : (b e : ℕ) → IsPower b e → T (not (nan_bits binary64 b))
pattern_no_nan b e v =
    let finite = has_finite (of_bits binary64 b) false (2 ^ e) (2 ^ 1075) v in
    false_not (nan_bits binary64 b) (nan_bits_is binary64 b ∙ finite_no_nan (of_bits binary64 b) finite)

pub subnormal_power : (e : ℕ) → 0 < e → e < 53 → IsPower (1 * 2 ^ (e - 1) % 2 ^ 64) e
subnormal_power e p h =
    let wide : e - 1 < 64 = omega arith in
    let under : e - 1 < 52 = omega arith in
    let back : 1 + (e - 1) ≡ e = omega arith in
    let pattern : 1 * 2 ^ (e - 1) % 2 ^ 64 ≡ 2 ^ (e - 1) = ap (λ (z : ℕ). z % 2 ^ 64) (one-mul (2 ^ (e - 1))) ∙ mod-eq_of_lt (pow-lt wide) in
    subst (λ (b : ℕ). IsPower b e) (sym pattern) (subst (IsPower (2 ^ (e - 1))) back (low_power (e - 1) under))

-- with the field j
pub power_at_lem : (j : ℕ) → 0 < j → j < 2047 → IsPower (j * 2 ^ 52) (52 + j)
power_at_lem j p h =
    let field : (j - 1) * 4503599627370496 + 4503599627370496 ≡ j * 4503599627370496 = omega arith in
    let under : j - 1 < 2046 = omega arith in
    let back : 1 + (52 + (j - 1)) ≡ 52 + j = omega arith in
    subst (λ (b : ℕ). IsPower b (52 + j)) field (subst (IsPower ((j - 1) * 2 ^ 52 + 2 ^ 52)) back (high_power (j - 1) under))

pub normal_power : (e : ℕ) → 53 ≤ e → e < 2099 → IsPower ((e - 52) * 2 ^ 52) e
normal_power e p h =
    let some : 0 < e - 52 = omega arith in
    let under : e - 52 < 2047 = omega arith in
    let back : 52 + (e - 52) ≡ e = omega arith in
    subst (IsPower ((e - 52) * 2 ^ 52)) back (power_at_lem (e - 52) some under)
