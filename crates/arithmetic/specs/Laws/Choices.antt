-- Choices by a test: what holds of both sides holds of the one that is chosen; tests that cannot hold; and what a match has passed. Assumes nothing.
use Rattle.std.specs.Prelude.{◌≡◌, ℕ, zero, suc, ◌+◌, ◌≤◌, Bool, true, false, cond, T, ◌≢◌, refl}
use Rattle.std.proofs.Math.Dec.{not_T}
use Rattle.std.specs.Float.Ieee.Bits.{is_false}
use Rattle.std.proofs.Common.{arith}

pub in_both : {A : Type 0} (P : A → Type 0) (b : Bool) {x y : A} → P x → P y → P (cond b x y)
in_both P true h g = h
in_both P false h g = g

-- and what holds of one side where the test is true, of the other where it is false
pub by_test : {A : Type 0} (P : A → Type 0) (b : Bool) {x y : A} → (b ≡ true → P x) → (b ≡ false → P y) → P (cond b x y)
by_test P true h g = h refl
by_test P false h g = g refl

-- two choices by one test, with the same where it is true
pub on_false : {A : Type 0} (b : Bool) (x : A) {y z : A} → (b ≡ false → y ≡ z) → cond b x y ≡ cond b x z
on_false true x h = refl
on_false false x h = h refl

-- a test that cannot hold
pub refuted : (b : Bool) → (T b → ⊥) → b ≡ false
refuted b n = is_false b (not_T b n)

-- two constructors are never equal: `cc` makes 0 ≡ 1 of such an equation
pub never : {A : Type 0} → ◌≡◌ {A = ℕ} 0 1 → A
never z = absurd (omega arith)

-- a match on the n numbers from s on: what its last arm knows, that k is none of them, and so k is at least s + n
abbrev pub Passed : ℕ → ℕ → ℕ → Type 0
Passed s zero k = Unit
Passed s (suc n) k = Passed s n k × (k ≢ s + n)

pub all_passed : (s n k : ℕ) → s ≤ k → Passed s n k → s + n ≤ k
all_passed s zero k l p = omega arith
all_passed s (suc n) k l p = above (all_passed s n k l p.0) p.1
  where
    above : s + n ≤ k → (k ≢ s + n) → s + suc n ≤ k
    above h g = omega arith
