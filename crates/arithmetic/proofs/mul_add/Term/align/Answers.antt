-- `Term::align` meets its contract: a law of `MulAddAlign` for each of the four ways to one scale. Assumes nothing.
use Rattle.std.proofs.Common.{ℕ, ◌-◌, ◌*◌, ◌^◌, ap, ◌∙◌, add-zero, arith}
use Rattle.arithmetic.specs.Internal.Pair.{jammed}
use Rattle.arithmetic.proofs.MulAddAlign.{product_fits, near_above, far_above, near_below, far_below}
use Rattle.arithmetic.proofs.mul_add.Term.align.Goals as goal

pub returns-then-d-lt-WORD : goal.returns-then-d-lt-WORD
returns-then-d-lt-WORD c =
    let a = c.args in
    let b = c.shl.ensures ∙ ap (λ (n : ℕ). n * 2 ^ c.distance-d.result) c.from-b.ensures in
    (near_above a.self a.w c.requires.small c.requires.lead _ c.distance-d.ensures.0 c.if-d-lt-WORD.true _ b).same

pub returns-then-le : goal.returns-then-le
returns-then-le c =
    let a = c.args in
    (far_above a.self a.w c.requires.small c.requires.lead _ c.distance-d.ensures.0 c.if-d-lt-WORD.false _ _ c.jam.ensures (add-zero (a.w.m * 2 ^ 64)) _ c.lowered.ensures).same

pub shl-requires-then-d-le-HEADROOM : goal.shl-requires-then-d-le-HEADROOM
shl-requires-then-d-le-HEADROOM c =
    let few = c.if-d-le-HEADROOM.true in
    (omega (arith, few), product_fits c.args.self c.args.w c.requires.small c.requires.lead c.distance-d-2.result few)

pub invariant_of-result-then-d-le-HEADROOM : goal.invariant_of-result-then-d-le-HEADROOM
invariant_of-result-then-d-le-HEADROOM c =
    let a = c.args in
    let r = near_below a.self a.w c.requires.small c.requires.lead _ c.distance-d-2.ensures.0 c.if-d-le-HEADROOM.true
    _ _ c.shl-then-d-le-HEADROOM.ensures c.from-b.ensures in
    record { small_a = r.first_small; small_b = r.second_small; exponent = r.exponent }

pub returns-then-d-le-HEADROOM : goal.returns-then-d-le-HEADROOM
returns-then-d-le-HEADROOM c =
    let a = c.args in
    (near_below a.self a.w c.requires.small c.requires.lead _ c.distance-d-2.ensures.0 c.if-d-le-HEADROOM.true
    _ _ c.shl-then-d-le-HEADROOM.ensures c.from-b.ensures).same

pub returns : goal.returns
returns c =
    let a = c.args in
    let b = c.jam-2.ensures ∙ ap (λ (n : ℕ). jammed n (c.distance-d-2.result - 20)) c.from-b.ensures in
    (far_below a.self a.w c.requires.small c.requires.lead _ c.distance-d-2.ensures.0 c.if-d-le-HEADROOM.false
    _ c.lowered-2.ensures _ _ c.shl-2.ensures b).same
