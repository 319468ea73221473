-- A quote with a discount factor (REQUIREMENTS 14.7): the price is divided by the factor, rounded once, and the quotient is solved as a price that is not
-- discounted. Definitions only.
use Rattle.std.specs.Prelude.{◌≡◌, ℕ, not, ◌&&◌, ◌||◌, cond, ℤ, eqb, Float}
use Rattle.std.specs.Float.Ieee.{lt}
use Rattle.arithmetic.specs.Operations.{◌⊘◌, bits, plus_zero}
use Rattle.arithmetic.specs.Basic.{is_finite}
use Rattle.inverse_gaussian.specs.Counted.{Counted, at_once}
use Rattle.explicit_black.specs.Quote.{Outcome, refused, Reply, reply, from_figures}
use Rattle.explicit_black.specs.Demand.{Exactly, compared}

-- tests 1 to 4, where test 2 includes the factor, then test 15: the number of the first that applies, or 0
unfoldable pub discounted_refusal : ℕ → Float → Float → Float → Float → Float → ℕ
discounted_refusal side price forward strike time factor =
    cond (not (eqb side 0 || eqb side 1)) 1
    (cond (not (is_finite price && is_finite forward && is_finite strike && is_finite time && is_finite factor)) 2
    (cond (not (lt plus_zero forward && lt plus_zero strike)) 3
    (cond (lt time plus_zero) 4
    (cond (not (lt plus_zero factor)) 15
    0))))

-- these tests, and what passes them, with the price divided by the factor
unfoldable pub from_discounted_quote : ℕ → Float → Float → Float → Float → Float → Counted Outcome
from_discounted_quote side price forward strike time factor =
    let number = discounted_refusal side price forward strike time factor in
    cond (eqb number 0) (from_figures side (price ⊘ factor) forward strike time) (at_once (refused number))

unfoldable pub implied_black_volatility_discounted : ℕ → Float → Float → Float → Float → Float → Reply
implied_black_volatility_discounted side price forward strike time factor = reply time (from_discounted_quote side price forward strike time factor)

-- ---- What demand 3 says of two such quotes, with figures of any bits.

-- what is compared of a quote with figures of these bits
abbrev pub discounted_at_bits : ℕ → ℕ → ℕ → ℕ → ℕ → ℕ → Counted Outcome
discounted_at_bits side p f k t d = compared (implied_black_volatility_discounted side (bits p) (bits f) (bits k) (bits t) (bits d))

pub record DiscountedAgree (n : ℤ) (p f k t d p' f' k' t' d' : ℕ) : Type 0 where
  -- The second has the first's side, whatever number that is, and its forward and strike are exactly 4 ^ n times the first's.
  pub same_side : (side : ℕ) → Exactly n (bits f) (bits f') → Exactly n (bits k) (bits k')
      → discounted_at_bits side p' f' k' t' d' ≡ discounted_at_bits side p f k t d
  -- The first is a call or a put, and the second is on the other side, with forward and strike exactly 4 ^ n times the first's strike and forward.
  pub other_side : Exactly n (bits k) (bits f') → Exactly n (bits f) (bits k')
      → (discounted_at_bits 1 p' f' k' t' d' ≡ discounted_at_bits 0 p f k t d) × (discounted_at_bits 0 p' f' k' t' d' ≡ discounted_at_bits 1 p f k t d)
