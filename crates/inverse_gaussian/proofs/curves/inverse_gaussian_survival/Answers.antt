-- `curves::inverse_gaussian_survival` meets its contract. Assumes nothing.
use mathlib.Core.Path.{sym}
use lib.Ieee.{binary64}
use Rattle.arithmetic.specs.Sqrt.{sqrt}
use Rattle.arithmetic.specs.Laws.Identities.{div_neg}
use Rattle.inverse_gaussian.specs.Curves.{inverse_gaussian_survival, inverse_gaussian_pdf}
use Rattle.inverse_gaussian.specs.Laws.Counted.{taken, not_taken}
use Rattle.inverse_gaussian.specs.Laws.Metered.{passed_on}
use Rattle.inverse_gaussian.proofs.curves.inverse_gaussian_survival.Goals as goal

pub returns-in_err-take-clause-metered : goal.returns-in_err-take-clause-metered
returns-in_err-take-clause-metered c = passed_on _ _ _ c.from_residual.ensures.0 (not_taken _ _ _ c.in_err-take.ensures.metered)

pub returns-clause-metered : goal.returns-clause-metered
unfolding inverse_gaussian_survival inverse_gaussian_pdf
returns-clause-metered c = taken _ _ c.in_ok-take.ensures.metered
    (rw (
      c.exp.ensures,
      c.normalised_black-black.ensures,
      c.recip-exponent.ensures,
      c.recip-inv_sqrt_x.ensures,
      c.sqrt-sqrt_x.ensures,
      sym (div_neg binary64 (sqrt c.args.x) c.args.mu),
    ))
