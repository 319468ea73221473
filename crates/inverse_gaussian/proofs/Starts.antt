-- From the point where a search starts, its doubling and its halving stop before their turns are used up, so that the definitions follow the source.
-- Assumes nothing.
use mathlib.Core.Path.{◌≡◌, refl, subst, sym}
use mathlib.Core.Bool.{true}
use lib.Dec.{T}
use lib.Ieee.{Float, binary64, fits, neg}
use lib.Ieee.Bits.{is_true}
use Rattle.special_function.specs.NormalDistribution.{inverse_norm_cdf}
use Rattle.inverse_gaussian.specs.Loops.{go, Ends}
use Rattle.inverse_gaussian.specs.Curves.{finite_positive, starting_point}
use Rattle.inverse_gaussian.specs.Curves.{inverse_gaussian_quantile_initial_guess, inverse_gaussian_quantile_initial_guess_from_z}
use Rattle.inverse_gaussian.specs.Bracket.{doubled_from, doubling_loop, doublings, halved, halving_loop, halvings}
use Rattle.inverse_gaussian.specs.Survival.{capped_from, survival_doubling_loop, survival_halving_loop}
use Rattle.inverse_gaussian.specs.Laws.Roots.{guess_fits}
use Rattle.inverse_gaussian.specs.Laws.DoublingEnds.{ends_below, survival_ends_below}
use Rattle.inverse_gaussian.specs.Laws.HalvingEnds.{ends_above, survival_ends_above}
use Rattle.inverse_gaussian.proofs.Searches.{start_finite_positive}

-- where `inverse_gaussian_quantile_bracketed` and `inverse_gaussian_quantile_from_survival` start
abbrev quantile_start : Float → Float → Float
quantile_start p mu = starting_point (inverse_gaussian_quantile_initial_guess p mu) mu

abbrev survival_start : Float → Float → Float
survival_start p mu = starting_point (inverse_gaussian_quantile_initial_guess_from_z (neg (inverse_norm_cdf p)) mu) mu

-- mu finite and above 0, and a value of binary64
module _ (p mu : Float) (h : finite_positive mu ≡ true) (f : fits binary64 mu ≡ true) where
  quantile_fits : fits binary64 (quantile_start p mu) ≡ true
  unfolding inverse_gaussian_quantile_initial_guess
  quantile_fits = is_true _ (guess_fits (inverse_norm_cdf p) mu (subst T (sym f) tt))

  quantile_finite_positive : finite_positive (quantile_start p mu) ≡ true
  quantile_finite_positive = start_finite_positive (inverse_gaussian_quantile_initial_guess p mu) mu (quantile_start p mu) h refl

  quantile_doubling_ends : Ends (doubling_loop mu p) doublings (go (doubled_from (quantile_start p mu)))
  quantile_doubling_ends = ends_below mu p (quantile_start p mu) quantile_finite_positive quantile_fits

  quantile_halving_ends : Ends (halving_loop mu p) halvings (halved (quantile_start p mu) (quantile_start p mu))
  quantile_halving_ends = ends_above mu p (quantile_start p mu) quantile_finite_positive quantile_fits

  survival_fits : fits binary64 (survival_start p mu) ≡ true
  survival_fits = is_true _ (guess_fits (neg (inverse_norm_cdf p)) mu (subst T (sym f) tt))

  survival_finite_positive : finite_positive (survival_start p mu) ≡ true
  survival_finite_positive =
      start_finite_positive (inverse_gaussian_quantile_initial_guess_from_z (neg (inverse_norm_cdf p)) mu) mu (survival_start p mu) h refl

  survival_doubling_ends : Ends (survival_doubling_loop mu p) doublings (go (capped_from (survival_start p mu)))
  survival_doubling_ends = survival_ends_below mu p (survival_start p mu) survival_finite_positive survival_fits

  survival_halving_ends : Ends (survival_halving_loop mu p) halvings (halved (survival_start p mu) (survival_start p mu))
  survival_halving_ends = survival_ends_above mu p (survival_start p mu) survival_finite_positive survival_fits
