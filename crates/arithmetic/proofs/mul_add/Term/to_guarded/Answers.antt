-- `Term::to_guarded` meets its contract: `guarded_zero`, or what `to_guarded_above` ensures. Assumes nothing.
use Rattle.std.proofs.Common.{ℕ, ◌≤◌, pos, negsuc, ◌+ℤ◌, ◌≤ℤ◌, sym, ap, ◌∙◌, arith, rules}
use Rattle.std.proofs.lemmas.Int.{ints}
use lib.Ieee.{size}
use Rattle.arithmetic.specs.Internal.Pair.{val}
use Rattle.arithmetic.proofs.Pairs.{val_size}
use Rattle.arithmetic.proofs.MulAddGuarded.{guarded_zero, last_normal}
use Rattle.arithmetic.proofs.mul_add.Term.to_guarded.Goals as goal

pub returns-then-n-eq0 : goal.returns-then-n-eq0
returns-then-n-eq0 c =
    let cut = guarded_zero (val c.args.self.v) _ (sym c.digits-n.ensures ∙ c.if-n-eq0.true) in
    record { count = cut.count; same = cut.same }

pub raised-end-requires : goal.raised-end-requires
raised-end-requires c =
    let few : size (val c.args.self.v) ≤ 128 = val_size c.args.self.v (search rules) (search rules) in
    let n = c.digits-n.ensures in
    let e = c.args.self.exponent in
    record {
      n_in_range = record { least = omega (arith, ints); most = omega (arith, ints) };
      sum_in_range = record { least = omega (arith, ints, e.least); most = omega (arith, ints, e.most) };
    }

pub to_guarded_above-requires : goal.to_guarded_above-requires
to_guarded_above-requires c =
    let few : size (val c.args.self.v) ≤ 128 = val_size c.args.self.v (search rules) (search rules) in
    let end_is = c.raised-end.ensures ∙ ap (λ (n : ℕ). c.args.self.e.value +ℤ pos n) c.digits-n.ensures in
    let normal : negsuc 1020 ≤ℤ c.raised-end.result.value = search rules in
    last_normal (val c.args.self.v) _ c.args.self.exponent few (λ z. c.if-n-eq0.false (c.digits-n.ensures ∙ z)) c.raised-end.result.value end_is normal
    _ c.lowered.ensures
