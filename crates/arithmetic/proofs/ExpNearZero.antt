-- What `near_zero` of `exp` gives, for an x near 0: |x| is below 11 / 32, x / ln 2 at most 127 / 256, and so k is 0. Assumes nothing.
use Rattle.std.proofs.Common.{◌≡◌, ℕ, ◌+◌, ◌-◌, ◌*◌, ◌<◌, ◌≤◌, false, T, negsuc, sym, refl, ap, ◌∙◌, le_of_lt, arith, lit≤}
use lib.Ieee.{Float, fin, binary64, neg, lt, fits, of_bits}
use lib.Ieee.Bits.{is_true}
use lib.Ieee.Fits.{and_l, and_r}
use lib.Ieee.Scale.{finite}
use lib.Ieee.Positive.{num, den, den_pos}
use Rattle.arithmetic.specs.Operations.{◌⊕◌, ◌⊗◌, one}
use Rattle.arithmetic.specs.Basic.{is_sign_minus}
use Rattle.arithmetic.specs.Exp.{inv_ln2, half_away, exp}
use Rattle.arithmetic.specs.Internal.WholePart.{whole_part}
use Rattle.arithmetic.specs.Internal.Exp.{near_limit, near_zero}
use Rattle.arithmetic.specs.Laws.Bounds.{AtMost}
use Rattle.arithmetic.specs.Laws.Compare.{finite_no_nan}
use Rattle.arithmetic.specs.Laws.ExpBounds.{fraction}
use Rattle.arithmetic.proofs.ExpGeneral.{product_at_most, half_away_round, exp_is}
use Rattle.arithmetic.proofs.ExpZeroSign.{scaled_by_zero}
use Rattle.arithmetic.proofs.ExpFast.{between_limits, between_thresholds, floor_is}

abbrev limit : Float
limit = fin false 11 (negsuc 4)

abbrev quotient : Float
quotient = fin false 127 (negsuc 7)

within_limit : (x : Float) → T (near_zero x) → T (finite x) × (num x * den limit < num limit * den x)
unfolding neg of_bits
within_limit x h =
    let under = lt x near_limit in
    let over = lt (neg near_limit) x in
    between_limits x 11 (negsuc 4) (is_true under (and_l under over h)) (is_true over (and_r under over h))

quotient_fits : T (fits binary64 quotient)
unfolding fits
quotient_fits = tt

limit_times : num limit * num inv_ln2 * den quotient ≤ num quotient * (den limit * den inv_ln2)
unfolding of_bits
limit_times = lit≤ tt

pub near_is : (x : Float) → T (fits binary64 x) → T (near_zero x) → one ⊕ (fraction x ⊕ x) ≡ exp x
near_is x F h =
    let s = is_sign_minus x in
    let v = x ⊗ inv_ln2 in
    let (p, b) = within_limit x h in
    let small : AtMost s quotient v = product_at_most x limit quotient p (le_of_lt b) quotient_fits tt limit_times in
    let part : 0 ≡ whole_part (half_away s x) =
    floor_is s 0 (num v) (den v) (den_pos v) (lit≤ tt) (rest (num v) (den v) (den_pos v) small.bound)
    ∙ ap whole_part (sym (half_away_round s x small.is_finite_lem small.sign)) in
    let between = between_thresholds x p (wide (num x) (den x) b) in
    sym (scaled_by_zero x F p s) ∙ exp_is x (finite_no_nan x p) between.0 between.1 s (half_away s x) 0 refl refl part
  where
    rest : (n d : ℕ) → 0 < d → n * 256 ≤ 127 * d → (n - 0 * d + (0 * d - n)) * 65536 < 32767 * d
    rest n d D h = omega arith

    wide : (n d : ℕ) → n * den limit < num limit * d → n * 1 ≤ 708 * d
    wide n d h = omega arith
