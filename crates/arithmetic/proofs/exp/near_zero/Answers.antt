-- `exp::near_zero` meets its contract, by the law of `ExpNearZero`. Assumes nothing.
use denote.Floats.{passes}
use lib.Ieee.{neg, of_bits}
use Rattle.arithmetic.proofs.ExpNearZero.{near_is}
use Rattle.arithmetic.proofs.exp.near_zero.Goals as goal

pub returns : goal.returns
unfolding neg of_bits
returns c = near_is c.args.x (passes _ c.well_formed.0.1) c.requires
