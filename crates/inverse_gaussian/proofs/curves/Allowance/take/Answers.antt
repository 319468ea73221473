-- `curves::Allowance::take` meets its contract. Assumes nothing.
use mathlib.Core.Path.{refl}
use Rattle.inverse_gaussian.specs.Laws.Counted.{tick_some, tick_none}
use Rattle.inverse_gaussian.proofs.curves.Allowance.take.Goals as goal

pub returns-then-self-eq0-clause-metered : goal.returns-then-self-eq0-clause-metered
returns-then-self-eq0-clause-metered c = tick_none _ _ c.if-self-eq0.true

pub returns-clause-metered : goal.returns-clause-metered
returns-clause-metered c = tick_some _ _ _ c.if-self-eq0.false refl refl
