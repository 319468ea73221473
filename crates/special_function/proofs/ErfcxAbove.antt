-- `erfcx` above the threshold is bounded. In specs/ this stands inside the law of `erfcx_cody`, so that an edit of where a range ends is refused there by
-- that law. Assumes nothing.
use Rattle.std.specs.Prelude.{◌*◌, ◌^◌, ◌≤◌, Float}
use Rattle.std.proofs.Common.{arith, lit≤}
use Rattle.std.specs.Float.Ieee.{le, of_bits}
use Rattle.std.specs.Float.Ieee.Positive.{num, den}
use Rattle.arithmetic.specs.Operations.{◌⊗◌, one}
use Rattle.arithmetic.specs.Basic.{recip}
use Rattle.arithmetic.specs.Laws.Choices.{by_test}
use Rattle.arithmetic.specs.Laws.PowerBounds.{Small, small_widen, small_sub, small_div, Plus, plus_div, Between, between_square, small_of, between_of}
use Rattle.special_function.specs.ErrorFunction.{four, one_over_sqrt_pi, erfcx_cody_above_threshold}
use Rattle.special_function.specs.Laws.ErfcxBounds.{cd_small, pq_small, past_four}

pub above_small : (y : Float) → Plus 3 y → Small 44 (erfcx_cody_above_threshold y)
unfolding erfcx_cody_above_threshold of_bits
above_small y h =
    by_test (Small 44) (le y four) (λ e. cd_small y h)
    (λ e.
    let l : den y ≤ num y * 2 ^ 0 = omega (arith, past_four y h e) in
    let Y : Between 0 3 y = record { plus = h; least = l } in
    let z : Plus 0 (recip (y ⊗ y)) = plus_div (between_of 0 0 one tt).plus (between_square 0 h.small l (lit≤ tt) (lit≤ tt)) (lit≤ tt) in
    small_widen 44 (small_div (small_sub (small_of 0 one_over_sqrt_pi tt) (pq_small (recip (y ⊗ y)) z) (lit≤ tt)) Y (lit≤ tt)) (lit≤ tt))
