-- `place::Shared::solve_place` meets its contract where tests 5 and 6 decide the total. Assumes nothing.
use Rattle.std.proofs.Common.{sym, ap}
use Rattle.ladder.specs.Ladder.{roots_after}
use Rattle.ladder.specs.Laws.Places.{decided_total, decided_root}
use Rattle.ladder.proofs.place.Shared.solve_place.Goals as goal

pub returns-in-Some : goal.returns-in-Some
returns-in-Some c =
    let passes = sym c.in_ok-first_refusal.ensures in
    let known = rw (c.in_ok-total.was, c.in-Some.is, c.intrinsic_value-intrinsic.ensures, c.price_bound.ensures) at c.bound_tests-tested.ensures in (
      decided_total _ _ _ _ _ passes _ _ _ c.args.self.time_rooted c.volatility.ensures known,
      ap (λ taken. roots_after taken c.args.roots.now.taken) (sym (decided_root _ _ _ _ _ passes _ known)),
    )
