-- The root that a search finds is a value of binary64, if mu is. Assumes nothing.
use Rattle.std.specs.Prelude.{◌≡◌, true, ◌||◌, T, Float}
use Rattle.std.proofs.Common.{sym, subst}
use Prim.Native.Nat.{ℕ, zero, suc}
use Rattle.std.specs.Float.{binary64}
use Rattle.std.specs.Float.Ieee.{neg, lt, le, eq, fits}
use Rattle.std.specs.Float.Ieee.Positive.{positive}
use Rattle.std.specs.Float.Ieee.Fits.{and_l, and_r, cond-fits, add-fits, sub-fits, mul-fits}
use Rattle.std.specs.Float.Ieee.Bits.{is_true, of_bits-fits}
use Rattle.arithmetic.specs.Operations.{◌⊕◌, ◌⊖◌, ◌⊗◌, plus_zero, half, one, two, min_positive, max_finite}
use Rattle.arithmetic.specs.Basic.{abs, signum, max, is_finite}
use Rattle.arithmetic.specs.Ln.{ln}
use Rattle.arithmetic.specs.Laws.Choices.{in_both}
use Rattle.arithmetic.specs.Laws.Compare.{above_zero}
use Rattle.arithmetic.specs.Laws.ExpFits.{exp_fits}
use Rattle.special_function.specs.NormalDistribution.{inverse_norm_cdf}
use Rattle.inverse_gaussian.specs.declared.bracket.Bracket.{Bracket}
use Rattle.inverse_gaussian.specs.Counted.{Option, some, none, Counted, or_else}
use Rattle.inverse_gaussian.specs.Loops.{Next, go, stop, Loop, step, iterate}
use Rattle.inverse_gaussian.specs.Curves.{finite_positive, inverse_gaussian_pdf, inverse_gaussian_cdf}
use Rattle.inverse_gaussian.specs.Curves.{inverse_gaussian_quantile_initial_guess, inverse_gaussian_quantile_initial_guess_from_z, starting_point}
use Rattle.inverse_gaussian.specs.Bracket.{doubled, doubled_from, widened, doubling_loop, doublings, bracket_quantile_from_below}
use Rattle.inverse_gaussian.specs.Bracket.{halved, lowered, halving_loop, halvings, bracket_quantile_from_above}
use Rattle.inverse_gaussian.specs.Bracket.{tolerance, bracket_midpoint, bracket_is_tight, narrowed, inside, chosen}
use Rattle.inverse_gaussian.specs.Newton.{nrstep, converged, after_move, first, later, newton_loop, steps, initial_x, inverse_gaussian_quantile_actuar}
use Rattle.inverse_gaussian.specs.Quantile.{bracket_at, floor, raised, clamped, continue_at, moved, tight_or, iteration, iteration_loop, iterations}
use Rattle.inverse_gaussian.specs.Quantile.{inverse_gaussian_quantile_bracketed, solvable, filtered, inverse_gaussian_quantile}
use Rattle.inverse_gaussian.specs.Survival.{survival_newton, survival_moved, survival_tight_or, survival_iteration, survival_iteration_loop}
use Rattle.inverse_gaussian.specs.Survival.{survival_iterations, survival_iterations_in, survival_search, inverse_gaussian_quantile_from_survival}

-- ---- what is finite and above 0 is `positive` of lib.Ieee
pub finite_positive_positive : (x : Float) → finite_positive x ≡ true → T (positive x)
finite_positive_positive x h =
    let t : T (finite_positive x) = subst T (sym h) tt in
    above_zero x (and_l (is_finite x) _ t) (is_true (lt plus_zero x) (and_r (is_finite x) _ t))

-- ---- an invariant I of a loop's states, with J of its results
module _ {S R : Type 0} (I : S → Type 0) (J : R → Type 0) where
  abbrev Preserved : Next S R → Type 0
  Preserved (go s) = I s
  Preserved (stop r) = J r

  result_has : (l : Loop S R) → ((s : S) → I s → J (l.out s)) → ((s : S) (v : Float) → I s → Preserved (l.advance s v))
      → (k : ℕ) (n : Next S R) → Preserved n → J (iterate l k n).result
  unfolding iterate
  result_has l out on zero (go s) h = out s h
  result_has l out on zero (stop r) h = h
  result_has l out on (suc k) (go s) h = result_has l out on k (step l s) (on s (l.ask (l.point s)) h)
  result_has l out on (suc k) (stop r) h = h

-- ---- values of binary64
abbrev Fits : Float → Type 0
Fits x = T (fits binary64 x)

-- of a root that may be none, of the bounds of a bracket, and of the point of a bracketed search's state
abbrev RootFits : Option Float → Type 0
RootFits (some x) = Fits x
RootFits none = Unit

abbrev BoundsFit : Bracket → Type 0
BoundsFit b = Fits b.lower × Fits b.upper

abbrev PointFits : Bracket × Float → Type 0
PointFits s = Fits s.1

-- ---- the Newton steps: every root is a product
abbrev StepFits : Next (Float × Float) (Option Float) → Type 0
StepFits = Preserved (λ s. Unit) RootFits

after_move_fits : (mu x dx d : Float) → StepFits (after_move mu x dx d)
unfolding after_move
after_move_fits mu x dx d = in_both StepFits (finite_positive x) (in_both StepFits (converged dx x) (mul-fits binary64 x mu) tt) tt

first_fits : (mu x : Float) (t : Option Float) → StepFits (first mu x t)
unfolding first
first_fits mu x (some dx) = after_move_fits mu (x ⊕ dx) dx (signum dx)
first_fits mu x none = tt

later_fits : (mu x d : Float) (t : Option Float) → StepFits (later mu x d t)
unfolding later
later_fits mu x d (some dx) = in_both StepFits (lt (dx ⊗ d) plus_zero) (mul-fits binary64 x mu) (after_move_fits mu (x ⊕ dx) dx d)
later_fits mu x d none = tt

newton_fits : (p mu : Float) → RootFits (inverse_gaussian_quantile_actuar p mu).result
unfolding inverse_gaussian_quantile_actuar steps
newton_fits p mu =
    result_has (λ s. Unit) RootFits (newton_loop p (ln p) mu) (λ s h. mul-fits binary64 s.0 mu) (λ s v h. later_fits mu s.0 s.1 _) 99 _
    (first_fits mu (initial_x p (ln p) mu) _)

-- ---- the brackets
abbrev BracketFits : Next Bracket Bracket → Type 0
BracketFits = Preserved BoundsFit BoundsFit

doubled_fits : (x : Float) → Fits (doubled x)
unfolding doubled
doubled_fits x = cond-fits binary64 (is_finite (x ⊗ two)) _ _ (mul-fits binary64 _ _) (of_bits-fits binary64 _)

widened_fits : (p : Float) (b : Bracket) (v : Float) → BoundsFit b → BracketFits (widened p b v)
unfolding widened doubled_from
widened_fits p b v h = in_both BracketFits (le p v || eq b.upper max_finite) h (h.1, doubled_fits b.upper)

from_below_fits : (x mu p : Float) → Fits x → BoundsFit (bracket_quantile_from_below x mu p).result
unfolding bracket_quantile_from_below doubled_from
from_below_fits x mu p h = result_has BoundsFit BoundsFit (doubling_loop mu p) (λ b i. i) (widened_fits p) doublings _ (h, doubled_fits x)

halved_fits : (x u : Float) → Fits u → BracketFits (halved x u)
unfolding halved
halved_fits x u h = in_both BracketFits (le (x ⊗ half) min_positive) (of_bits-fits binary64 _, h) (mul-fits binary64 _ _, h)

lowered_fits : (p : Float) (b : Bracket) (v : Float) → BoundsFit b → BracketFits (lowered p b v)
unfolding lowered
lowered_fits p b v h = in_both BracketFits (le v p) h (halved_fits b.lower (b.lower ⊗ two) (mul-fits binary64 _ _))

from_above_fits : (x mu p : Float) → Fits x → BoundsFit (bracket_quantile_from_above x mu p).result
unfolding bracket_quantile_from_above
from_above_fits x mu p h = result_has BoundsFit BoundsFit (halving_loop mu p) (λ b i. i) (lowered_fits p) halvings (halved x x) (halved_fits x x h)

-- ---- the iterations in a bracket
abbrev IterationFits : Next (Bracket × Float) Float → Type 0
IterationFits = Preserved PointFits Fits

midpoint_fits : (b : Bracket) → Fits (bracket_midpoint b)
unfolding bracket_midpoint
midpoint_fits b = cond-fits binary64 (le b.lower plus_zero) _ _ (mul-fits binary64 _ _) (exp_fits _)

chosen_fits : (b : Bracket) (x : Float) → Fits x → Fits (chosen b x)
unfolding chosen
chosen_fits b x h = cond-fits binary64 (inside b x) _ _ h (midpoint_fits b)

continue_fits : (b : Bracket) (x next : Float) → Fits next → IterationFits (continue_at b x next)
unfolding continue_at
continue_fits b x next h = in_both IterationFits (eq next x) (midpoint_fits b) h

moved_fits : (b : Bracket) (x : Float) (t : Option Float) → IterationFits (moved b x t)
unfolding moved
moved_fits b x (some d) =
    let f = sub-fits binary64 x d in
    in_both IterationFits (le (abs d) (tolerance ⊗ max x one)) f (continue_fits b x _ (chosen_fits b _ f))
moved_fits b x none = continue_fits b x _ (midpoint_fits b)

iteration_fits : (pdf p : Float) (s : Bracket × Float) (v : Float) → PointFits s → IterationFits (iteration pdf p s v)
unfolding iteration tight_or
iteration_fits pdf p s v h =
    let e = v ⊖ p in
    let b = narrowed s.0 s.1 (le e plus_zero) in
    in_both IterationFits (eq e plus_zero) h (in_both IterationFits (bracket_is_tight b) (midpoint_fits b) (moved_fits b s.1 (nrstep pdf e)))

iterations_fits : (mu p : Float) (b : Bracket) (x : Float) → Fits x → Fits (iterations mu p b x).result
unfolding iterations
iterations_fits mu p b x h =
    result_has PointFits Fits (iteration_loop mu p) (λ s q. midpoint_fits s.0) (λ s v. iteration_fits (inverse_gaussian_pdf s.1 mu) p s v) 64 (go (b, x))
    h

survival_moved_fits : (b : Bracket) (x : Float) (t : Option Float) → IterationFits (survival_moved b x t)
unfolding survival_moved
survival_moved_fits b x (some d) =
    let f = add-fits binary64 x d in
    in_both IterationFits (le (abs d) (tolerance ⊗ x)) f (chosen_fits b _ f)
survival_moved_fits b x none = midpoint_fits b

survival_iteration_fits : (pdf p : Float) (s : Bracket × Float) (v : Float) → PointFits s → IterationFits (survival_iteration pdf p s v)
unfolding survival_iteration survival_tight_or
survival_iteration_fits pdf p s v h =
    let e = v ⊖ p in
    let b = narrowed s.0 s.1 (lt plus_zero e) in
    in_both IterationFits (eq e plus_zero) h
    (in_both IterationFits (bracket_is_tight b) (midpoint_fits b) (survival_moved_fits b s.1 (survival_newton v p pdf)))

survival_iterations_fits : (mu p : Float) (b : Bracket) (x : Float) → Fits x → Fits (survival_iterations mu p b x).result
unfolding survival_iterations
survival_iterations_fits mu p b x h =
    result_has PointFits Fits (survival_iteration_loop mu p) (λ s q. midpoint_fits s.0)
    (λ s v. survival_iteration_fits (inverse_gaussian_pdf s.1 mu) p s v)
    64 (go (b, x)) h

-- ---- where the searches start
pub guess_fits : (z mu : Float) → T (fits binary64 mu) → T (fits binary64 (starting_point (inverse_gaussian_quantile_initial_guess_from_z z mu) mu))
unfolding starting_point inverse_gaussian_quantile_initial_guess_from_z
guess_fits z mu h = cond-fits binary64 (finite_positive (inverse_gaussian_quantile_initial_guess_from_z z mu)) _ _ (mul-fits binary64 _ _) h

clamped_fits : (b : Bracket) (x : Float) → BoundsFit b → Fits x → Fits (clamped b x)
unfolding clamped
clamped_fits b x h g =
    let f = cond-fits binary64 (lt plus_zero b.lower) _ _ h.0 (of_bits-fits binary64 0x0010_0000_0000_0000) in
    cond-fits binary64 (lt b.upper (raised b x)) _ _ h.1 (cond-fits binary64 (lt x (floor b)) _ _ f g)

-- ---- the whole searches
abbrev BracketFound : Counted Bracket → Type 0
BracketFound c = BoundsFit c.result

bracketed_fits : (p mu : Float) → Fits mu → Fits (inverse_gaussian_quantile_bracketed p mu).result
unfolding inverse_gaussian_quantile_bracketed inverse_gaussian_quantile_initial_guess bracket_at
bracketed_fits p mu h =
    let x = starting_point (inverse_gaussian_quantile_initial_guess p mu) mu in
    let g = guess_fits (inverse_norm_cdf p) mu h in
    let bounds = in_both BracketFound (lt (inverse_gaussian_cdf x mu) p) (from_below_fits x mu p g) (from_above_fits x mu p g) in
    iterations_fits mu p _ _ (clamped_fits _ x bounds g)

filtered_fits : (t : Option Float) (c : Counted Float) → RootFits t → Fits c.result → Fits (or_else (filtered t) c).result
unfolding filtered or_else
filtered_fits none c k h = h
filtered_fits (some y) c k h = in_both (λ t. Fits (or_else t c).result) (finite_positive y) k h

abbrev SearchFits : Counted (Option Float) → Type 0
SearchFits c = RootFits c.result

pub quantile_fits : (p mu x : Float) → T (fits binary64 mu) → (inverse_gaussian_quantile p mu).result ≡ some x → T (fits binary64 x)
unfolding inverse_gaussian_quantile
quantile_fits p mu x h e =
    let c = inverse_gaussian_quantile_bracketed p mu in
    subst RootFits e
    (in_both SearchFits (solvable p mu) (filtered_fits (inverse_gaussian_quantile_actuar p mu).result c (newton_fits p mu) (bracketed_fits p mu h)) tt)

in_bracket_fits : (mu p x : Float) (t : Option Bracket) → Fits x → SearchFits (survival_iterations_in mu p x t)
unfolding survival_iterations_in
in_bracket_fits mu p x (some b) h = survival_iterations_fits mu p b x h
in_bracket_fits mu p x none h = tt

pub from_survival_fits : (p mu x : Float) → T (fits binary64 mu) → (inverse_gaussian_quantile_from_survival p mu).result ≡ some x → T (fits binary64 x)
unfolding inverse_gaussian_quantile_from_survival survival_search
from_survival_fits p mu x h e =
    subst RootFits e (in_both SearchFits (solvable p mu) (in_bracket_fits mu p _ _ (guess_fits (neg (inverse_norm_cdf p)) mu h)) tt)
