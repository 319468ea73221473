-- What the code hands back, with the four slices as they then are, in the types of the definitions: the contracts speak through it. Definitions only.
use Rattle.std.specs.Prelude.{ℕ, List, Float, Result, Ok, Err}
use Rattle.explicit_black.specs.declared.refusal.Refused.{Refused}
use Rattle.explicit_black.specs.Refusal.{number}
use Rattle.ladder.specs.Ladder.{LadderReply, solved, refused, Ladder}

abbrev pub view_ladder_reply : Result ℕ Refused → LadderReply
view_ladder_reply (Ok roots) = solved roots
view_ladder_reply (Err r) = refused (number r.refusal) r.count

abbrev pub view_ladder : Result ℕ Refused → List Float → List Float → List ℕ → List ℕ → Ladder
view_ladder r totals volatilities counts refusals =
    record { result = view_ladder_reply r; totals = totals; volatilities = volatilities; counts = counts; refusals = refusals }
