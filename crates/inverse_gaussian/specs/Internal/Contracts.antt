-- Names for what the contracts of inner steps say. Definitions only.
use Rattle.std.specs.Prelude.{Float}
use Rattle.inverse_gaussian.specs.Counted.{Counted, Sample, sample, at_once, tick}
use Rattle.inverse_gaussian.specs.Curves.{inverse_gaussian_pdf}

-- one evaluation: the curve and the density at x, where the mean is mu
abbrev pub evaluated : (Float → Float → Float) → Float → Float → Counted Sample
evaluated curve x mu = tick (at_once (sample (curve x mu) (inverse_gaussian_pdf x mu)))
