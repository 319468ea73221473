-- `ln::series` meets its contract: it is its definition, and NaN where its odd terms are. Assumes nothing.
use Rattle.std.proofs.Common.{refl}
use Rattle.arithmetic.specs.Ln.{series}
use Rattle.arithmetic.proofs.LnPaths.{series_is_nan}
use Rattle.arithmetic.proofs.ln.series.Goals as goal

pub returns-then-is_nan : goal.returns-then-is_nan
returns-then-is_nan c = series_is_nan c.args.f c.args.k c.args.kl c.if-is_nan.ensures.value

pub returns : goal.returns
unfolding series
returns c = refl
