-- How many digits a number takes. Assumes nothing.
use mathlib.Core.Path.{◌≡◌, refl, sym, ap, ◌∙◌, subst}
use Prim.Native.Nat.{ℕ, zero, suc, ◌-◌, ◌*◌, ◌/◌, ◌^◌, ◌≤◌, ◌<◌}
use native.Mathlib.Nat.{lt_of_lt_of_le, lt_of_not-le, not-le_of_lt, le_of_suc-le-suc, not-suc-le-zero, lt_irrefl, le_antisymm, le_trans}
use native.Mathlib.Nat.{pow-suc, div-lt_iff_lt-mul, le-div_iff_mul-le, pow-le-pow_right}
use native.Mathlib.Omega.{arith}
use borrow.Author.Tests.{ltb-true, ltb-false}
use lib.Dec.{ltb, lit<, lit≤}
use Rattle.arithmetic.specs.Laws.Choices.{by_test}
use Rattle.io.specs.Digits.{last_digits, IsDigitCount}
use Rattle.xdr_sheet.specs.Text.{places, decimal, hexadecimal}

-- ---- how many digits a number has: `Fewest` of the kit's `io` says the same as `places`
less_one : (k : ℕ) → suc k - 1 ≡ k
less_one k = omega arith

more : (k : ℕ) → 1 < suc (suc k)
more k = omega arith

one_digit : (n k : ℕ) → n < 10 → IsDigitCount 10 1 n k → 1 ≡ k
one_digit n zero h f = absurd (not-suc-le-zero f.0)
one_digit n (suc zero) h f = refl
one_digit n (suc (suc k)) h f =
    absurd
    (not-le_of_lt h (le_trans (pow-le-pow_right {n = 10} (lit< tt) (le_of_suc-le-suc (more k)))
    (subst (λ (x : ℕ). 10 ^ x ≤ n) (less_one (suc k)) (f.2 (more k)))))

-- one digit less of the number
tenth : (n k : ℕ) → 10 ≤ n → IsDigitCount 10 1 n (suc (suc k)) → IsDigitCount 10 1 (n / 10) (suc k)
tenth n k h f = (
  le_of_suc-le-suc (more k),
  (div-lt_iff_lt-mul (lit< tt)).1 (subst (λ (x : ℕ). n < x) (pow-suc 10 (suc k)) f.1),
  λ g. (le-div_iff_mul-le (lit< tt)).1 (subst (λ (x : ℕ). x ≤ n) (same k g) (f.2 (more k))),
)
  where
    same : (k : ℕ) → 1 < suc k → 10 ^ (suc (suc k) - 1) ≡ 10 ^ (suc k - 1) * 10
    same (suc k) g =
        ap (λ (x : ℕ). 10 ^ x) (less_one (suc (suc k))) ∙ pow-suc 10 (suc k) ∙ ap (λ (x : ℕ). 10 ^ x * 10) (sym (less_one (suc k)))
    same zero g = absurd (lt_irrefl 1 g)

places_is : (f n k : ℕ) → n < 10 ^ suc f → IsDigitCount 10 1 n k → places f n ≡ k
unfolding places
places_is zero n k h f = one_digit n k h f
places_is (suc f) n k h g =
    by_test (λ (p : ℕ). p ≡ k) (ltb n 10) (λ below. one_digit n k (ltb-true n 10 below) g)
    (λ above. more_digits k (ltb-false n 10 above) g (λ j. places_is f (n / 10) j fewer))
  where
    fewer : n / 10 < 10 ^ suc f
    fewer = (div-lt_iff_lt-mul (lit< tt)).1 (subst (λ (x : ℕ). n < x) (pow-suc 10 (suc f)) h)

    more_digits : (k : ℕ) → 10 ≤ n → IsDigitCount 10 1 n k → ((j : ℕ) → IsDigitCount 10 1 (n / 10) j → places f (n / 10) ≡ j)
        → suc (places f (n / 10)) ≡ k
    more_digits zero l g r = absurd (not-suc-le-zero g.0)
    more_digits (suc zero) l g r = absurd (not-le_of_lt g.1 l)
    more_digits (suc (suc k)) l g r = ap suc (r (suc k) (tenth n k l g))

-- what `io::decimal` and `io::hex` put into their digits
pub decimal_is : (n k : ℕ) → n < 2 ^ 64 → IsDigitCount 10 1 n k → last_digits 10 k n ≡ decimal n
unfolding decimal
decimal_is n k h f = ap (λ (x : ℕ). last_digits 10 x n) (sym (places_is 19 n k (lt_of_lt_of_le h (lit≤ tt)) f))

pub sixteen : (n k : ℕ) → n < 2 ^ 64 → IsDigitCount 16 16 n k → k ≡ 16
sixteen n k h f =
    le_antisymm (le_of_suc-le-suc (lt_of_not-le (λ (g : 17 ≤ k). not-le_of_lt h (le_trans (too_large k g) (f.2 g))))) f.0
  where
    too_large : (k : ℕ) → 17 ≤ k → 2 ^ 64 ≤ 16 ^ (k - 1)
    too_large k g = pow-le-pow_right {n = 16} (lit< tt) {i = 16} (omega arith)

pub hexadecimal_is : (n k : ℕ) → n < 2 ^ 64 → IsDigitCount 16 16 n k → last_digits 16 k n ≡ hexadecimal n
unfolding hexadecimal
hexadecimal_is n k h f = ap (λ (x : ℕ). last_digits 16 x n) (sixteen n k h f)
