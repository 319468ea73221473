-- What `sum_terms` of `mul_add` gives: `sum` of the terms a * 2 ^ e and b * 2 ^ e, by their order, as one magnitude v * 2 ^ e that is rounded.
-- Assumes nothing.
use Rattle.std.proofs.Common.{◌≡◌, ℕ, ◌+◌, ◌-◌, ◌*◌, ◌^◌, Bool, true, false, ◌&&◌, ltb, add-mul, pow_pos}
use mathlib.Core.Bool.{beq}
use lib.Ieee.{binary64, round, sum}
use Rattle.arithmetic.specs.Laws.Numbers.{ltb_mul, sub_mul}

module _ (a b e : ℕ) (s t : Bool) where
  pub sum_alike : (v : ℕ) → v ≡ a + b → beq s t ≡ true
      → round binary64 s (v * 2 ^ e) (2 ^ 2148) ≡ sum binary64 s (a * 2 ^ e) t (b * 2 ^ e) (2 ^ 2148)
  unfolding sum
  sum_alike v p h = rw (p, h, add-mul a b (2 ^ e))

  pub sum_less : (v : ℕ) → v ≡ b - a → beq s t ≡ false → ltb a b ≡ true
      → round binary64 t (v * 2 ^ e) (2 ^ 2148) ≡ sum binary64 s (a * 2 ^ e) t (b * 2 ^ e) (2 ^ 2148)
  unfolding sum
  sum_less v p h l = rw (p, h, ltb_mul a b (2 ^ e) (pow_pos e), l, sub_mul b a (2 ^ e))

  pub sum_more : (v : ℕ) (u : Bool) → v ≡ a - b → u ≡ (s && ltb b a) → beq s t ≡ false → ltb a b ≡ false
      → round binary64 u (v * 2 ^ e) (2 ^ 2148) ≡ sum binary64 s (a * 2 ^ e) t (b * 2 ^ e) (2 ^ 2148)
  unfolding sum
  sum_more v u p q h l = rw (p, q, h, ltb_mul a b (2 ^ e) (pow_pos e), l, ltb_mul b a (2 ^ e) (pow_pos e), sub_mul a b (2 ^ e))
