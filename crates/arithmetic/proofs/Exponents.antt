-- Exponents by what they are counted from -l on, and the range of one that `omega` bounds. Assumes nothing.
use Rattle.std.proofs.Common.{◌≡◌, ℕ, ◌+◌, ◌≤◌, ℤ, pos, negsuc, ◌+ℤ◌, neg_ℤ, ◌≤ℤ◌, arith}
use Rattle.std.proofs.lemmas.Int.{ints}
use Rattle.arithmetic.specs.Internal.Exponent.{limit, Exponent, above}

pub above_is : (l : ℕ) (e : ℤ) → neg_ℤ (pos l) ≤ℤ e → pos (above l e) ≡ e +ℤ pos l
above_is l (pos n) h = omega (arith, ints)
above_is l (negsuc n) h = omega (arith, ints)

-- as `omega` reads it
pub counted : {l h : ℕ} {e : ℤ} → Exponent l h e → (pos (above l e) ≡ e +ℤ pos l) × (above l e ≤ l + h)
counted {l} {h} {e} E = let is = above_is l e E.least in let most = E.most in (is, omega (arith, ints))

pub exponent_is : (l h : ℕ) (e : ℤ) → l ≤ limit → h ≤ limit → neg_ℤ (pos l) ≤ℤ e → e ≤ℤ pos h → Exponent l h e
exponent_is l h e L H least most = record { in_range = record { least = omega (arith, ints); most = omega (arith, ints) }; least = least; most = most }
