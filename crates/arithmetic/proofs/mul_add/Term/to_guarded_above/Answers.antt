-- `Term::to_guarded_above` meets its contract, by the laws of `MulAddGuarded`. Assumes nothing.
use Rattle.std.proofs.Common.{◌≤◌, refl, rules}
use lib.Ieee.{size}
use Rattle.arithmetic.specs.Internal.Pair.{val}
use Rattle.arithmetic.proofs.Pairs.{val_size}
use Rattle.arithmetic.proofs.MulAddGuarded.{sticky_apart, cut_jam, cut_up}
use Rattle.arithmetic.proofs.mul_add.Term.to_guarded_above.Goals as goal

pub distance-requires-clause-difference_in_range : goal.distance-requires-clause-difference_in_range
distance-requires-clause-difference_in_range c =
    let few : size (val c.args.self.v) ≤ 128 = val_size c.args.self.v (search rules) (search rules) in
    sticky_apart _ few _ _ c.args.self.exponent c.requires _ c.lowered-sticky.ensures

pub invariant_of-result : goal.invariant_of-result
invariant_of-result c =
    let few : size (val c.args.self.v) ≤ 128 = val_size c.args.self.v (search rules) (search rules) in
    let r = c.jam-m.result in
    let cut = cut_jam _ few _ _ c.args.self.exponent c.requires _ c.lowered-sticky.ensures _ c.distance.ensures.0 r.hi r.lo c.jam-m.ensures in
    record { short = cut.short; exponent = cut.exponent; lead = cut.lead }

pub returns-then-le : goal.returns-then-le
returns-then-le c =
    let few : size (val c.args.self.v) ≤ 128 = val_size c.args.self.v (search rules) (search rules) in
    let r = c.jam-m.result in
    let cut = cut_jam _ few _ _ c.args.self.exponent c.requires _ c.lowered-sticky.ensures _ c.distance.ensures.0 r.hi r.lo c.jam-m.ensures in
    record { count = cut.count; same = cut.same }

pub invariant_of-result-2 : goal.invariant_of-result-2
invariant_of-result-2 c =
    let few : size (val c.args.self.v) ≤ 128 = val_size c.args.self.v (search rules) (search rules) in
    let v = c.args.self.v in
    let cut = cut_up _ few _ _ c.args.self.exponent c.requires _ c.lowered-sticky.ensures _ c.distance-2.ensures.0 v.hi v.lo refl in
    record { short = cut.short; exponent = cut.exponent; lead = cut.lead }

pub returns : goal.returns
returns c =
    let few : size (val c.args.self.v) ≤ 128 = val_size c.args.self.v (search rules) (search rules) in
    let v = c.args.self.v in
    let cut = cut_up _ few _ _ c.args.self.exponent c.requires _ c.lowered-sticky.ensures _ c.distance-2.ensures.0 v.hi v.lo refl in
    record { count = cut.count; same = cut.same }
