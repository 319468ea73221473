-- `curves::inverse_gaussian_cdf` meets its contract. Assumes nothing.
use Rattle.special_function.specs.Laws.SharedExponential.{pdf_of_square}
use Rattle.inverse_gaussian.specs.Curves.{inverse_gaussian_cdf, inverse_gaussian_pdf}
use Rattle.inverse_gaussian.specs.Laws.Counted.{taken, not_taken}
use Rattle.inverse_gaussian.specs.Laws.Metered.{passed_on}
use Rattle.inverse_gaussian.proofs.curves.inverse_gaussian_cdf.Goals as goal

pub returns-in_err-take-clause-metered : goal.returns-in_err-take-clause-metered
returns-in_err-take-clause-metered c = passed_on _ _ _ c.from_residual.ensures.0 (not_taken _ _ _ c.in_err-take.ensures.metered)

pub returns-clause-metered : goal.returns-clause-metered
unfolding inverse_gaussian_cdf inverse_gaussian_pdf
returns-clause-metered c = taken _ _ c.in_ok-take.ensures.metered
    (rw (
      c.erfcx_cody.ensures,
      c.norm_cdf.ensures,
      c.exp-exponential.ensures,
      c.recip-inv_sqrt_x.ensures,
      c.sqrt-sqrt_x.ensures,
      pdf_of_square,
    ))
