-- `ladder::solve_places` meets its contract. Invariant: the first i places are solved and written. Assumes nothing.
use Rattle.ladder.proofs.Places.{nothing_yet, room, one_more, all_places}
use Rattle.ladder.proofs.ladder.solve_places.Goals as goal

pub loop-i-init : goal.loop-i-init
loop-i-init c = nothing_yet _ _ _ _ _ _ _ _ _ c.requires c.none-roots.ensures

pub solve_place-requires : goal.solve_place-requires
solve_place-requires c = room c.loop-i.invariant c.loop-i-test.true

pub loop-i-preserved : goal.loop-i-preserved
loop-i-preserved c =
    let solved = c.solve_place.ensures in
    one_more c.loop-i.invariant _ _ _ _ _ _ _ _ c.loop-i-test.true solved.0 solved.1 c.from-place.ensures

pub returns : goal.returns
returns c = all_places c.loop-i.invariant c.taken.ensures c.loop-i-test.false
