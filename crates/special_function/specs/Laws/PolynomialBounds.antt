-- Bounds of polynomials by Horner's rule, from bounds of the argument and of the coefficients. Assumes nothing.
use Rattle.std.specs.Prelude.{◌≡◌, List, [], ◌∷◌, Bool, true, ◌&&◌, ℕ, suc, ◌+◌, ◌*◌, ◌≤◌, max, T, length, Float}
use Rattle.std.proofs.Common.{sym, subst, arith}
use Rattle.std.specs.Float.Ieee.Fits.{and_l, and_r}
use Rattle.special_function.specs.Polynomial.{evaluate, nested}
use Rattle.special_function.specs.Laws.Polynomial.{nested_chain}
use Rattle.arithmetic.specs.Laws.PowerBounds.{Small, small_widen, small_mul, small_add, Plus, plus_mul, Between, between_add, between_widen, small_test}
use Rattle.arithmetic.specs.Laws.PowerBounds.{between_test, small_of, between_of}

-- ---- what holds of each coefficient, and of each of a list of constants by a test that is computed
unfoldable pub Each : (Float → Type 0) → List Float → Type 0
Each P [] = Unit {0}
Each P (c ∷ cs) = P c × Each P cs

unfoldable pub each_test : (Float → Bool) → List Float → Bool
each_test test [] = true
each_test test (c ∷ cs) = test c && each_test test cs

pub each_of : (P : Float → Type 0) (test : Float → Bool) → ((x : Float) → T (test x) → P x) → (cs : List Float) → T (each_test test cs) → Each P cs
unfolding Each each_test
each_of P test f [] t = tt
each_of P test f (c ∷ cs) t = (f c (and_l (test c) _ t), each_of P test f cs (and_r (test c) _ t))

pub each_small : (k : ℕ) (cs : List Float) → T (each_test (small_test k) cs) → Each (Small k) cs
each_small k = each_of (Small k) (small_test k) (small_of k)

pub each_between : (j k : ℕ) (cs : List Float) → T (each_test (between_test j k) cs) → Each (Between j k) cs
each_between j k = each_of (Between j k) (between_test j k) (between_of j k)

-- ---- the argument is 2 ^ m at most in size, each coefficient 2 ^ k, and the first value 2 ^ n
pub evaluate_small : (m k n : ℕ) (z : Float) (cs : List Float) (v : Float) → Small m z → Each (Small k) cs → Small n v → k ≤ n
    → n + length cs * (m + 1) ≤ 1023 → Small (n + length cs * (m + 1)) (evaluate v cs z)
unfolding evaluate Each
evaluate_small m k n z [] v Z C W h l = small_widen (n + 0 * (m + 1)) W (omega arith)
evaluate_small m k n z (c ∷ cs) v Z (C, D) W h l =
    let (b, e) = room (length cs) in
    let step : Small (suc (max (n + m) k)) _ = small_add (small_mul W Z (omega arith)) C (omega arith) in
    small_widen (n + length (c ∷ cs) * (m + 1))
    (evaluate_small m k (suc (n + m)) z cs _ Z D (small_widen (suc (n + m)) step (omega arith)) (omega arith) (omega arith)) (omega arith)
  where
    room : (L : ℕ) → (n + suc L * (m + 1) ≡ suc (n + m) + L * (m + 1)) × (suc (n + m) ≤ n + suc L * (m + 1))
    room L = (omega arith, omega arith)

-- the argument is not negative, and each coefficient, and the first value, is 2 ^ -j at least
pub evaluate_between : (j m k n : ℕ) (z : Float) (cs : List Float) (v : Float) → Plus m z → Each (Between j k) cs → Between j n v → k ≤ n → j ≤ 1074
    → n + length cs * (m + 1) ≤ 1023 → Between j (n + length cs * (m + 1)) (evaluate v cs z)
unfolding evaluate Each
evaluate_between j m k n z [] v Z C W h J l = between_widen (n + 0 * (m + 1)) W (omega arith)
evaluate_between j m k n z (c ∷ cs) v Z (C, D) W h J l =
    let (b, e) = room (length cs) in
    let step : Between j (suc (max (n + m) k)) _ = between_add (plus_mul W.plus Z (omega arith)) C J (omega arith) in
    between_widen (n + length (c ∷ cs) * (m + 1))
    (evaluate_between j m k (suc (n + m)) z cs _ Z D (between_widen (suc (n + m)) step (omega arith)) (omega arith) J (omega arith)) (omega arith)
  where
    room : (L : ℕ) → (n + suc L * (m + 1) ≡ suc (n + m) + L * (m + 1)) × (suc (n + m) ≤ n + suc L * (m + 1))
    room L = (omega arith, omega arith)

-- nested calls likewise
pub nested_small : (m k n : ℕ) (z v : Float) (cs : List Float) → Small m z → Each (Small k) cs → Small n v → k ≤ n → n + length cs * (m + 1) ≤ 1023
    → Small (n + length cs * (m + 1)) (nested z (v ∷ cs))
unfolding nested
nested_small m k n z v cs Z C W h l =
    subst (Small (n + length cs * (m + 1))) (sym (nested_chain z v cs)) (evaluate_small m k n z cs v Z C W h l)

pub nested_between : (j m k n : ℕ) (z v : Float) (cs : List Float) → Plus m z → Each (Between j k) cs → Between j n v → k ≤ n → j ≤ 1074
    → n + length cs * (m + 1) ≤ 1023 → Between j (n + length cs * (m + 1)) (nested z (v ∷ cs))
unfolding nested
nested_between j m k n z v cs Z C W h J l =
    subst (Between j (n + length cs * (m + 1))) (sym (nested_chain z v cs)) (evaluate_between j m k n z cs v Z C W h J l)
