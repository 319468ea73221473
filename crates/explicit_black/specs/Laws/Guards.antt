-- THE GUARDS AROUND PROBABILITY (REQUIREMENTS 14.2): no call of the quote entry or of the normalised entry, at any bits, takes one of the two branches of
-- `from_call_price`. So each replies as it would with anything in their place, and without them. b_max is 1 at most where the log-moneyness is not NaN.
-- Assumes nothing.
use Rattle.std.specs.Prelude.{◌≡◌, ℕ, ◌*◌, ◌^◌, ◌≤◌, Bool, true, false, ◌&&◌, cond, T, eqb, Float}
use Rattle.std.proofs.Math.Path.{refl, ap}
use Rattle.std.proofs.Common.{sym, ◌∙◌, subst, inl, inr, zero-mul, arith, true≢false, ltb-false, lit≤}
use Rattle.std.proofs.lemmas.Bool.{false≢true}
use Rattle.std.specs.Float.{nan, inf, fin}
use Rattle.std.specs.Float.Ieee.{binary64, up, down, neg, sub, mul, div, lt, le, eq, is_nan, fits, of_bits}
use Rattle.std.specs.Float.Ieee.Fits.{mul-fits, div-fits}
use Rattle.std.specs.Float.Ieee.Scale.{finite}
use Rattle.std.specs.Float.Ieee.Positive.{num, den, positive}
use Rattle.arithmetic.specs.Operations.{◌⊖◌, ◌⊗◌, ◌⊘◌, bits, plus_zero, half, one, two, min_positive}
use Rattle.arithmetic.specs.Basic.{is_sign_minus, abs, is_finite}
use Rattle.arithmetic.specs.Sqrt.{sqrt}
use Rattle.arithmetic.specs.Exp.{exp}
use Rattle.arithmetic.specs.Laws.Choices.{on_false}
use Rattle.arithmetic.specs.Laws.Compare.{lt_is, not_le, lt_not_le, lt_positive, above_zero, not_le_zero, finite_no_nan}
use Rattle.arithmetic.specs.Laws.Times.{positive_sign}
use Rattle.arithmetic.specs.Laws.Bounds.{AtMost}
use Rattle.arithmetic.specs.Laws.PowerBounds.{Small, small_le}
use Rattle.arithmetic.specs.Laws.ExpFits.{exp_fits}
use Rattle.arithmetic.specs.Laws.ExpBounds.{exp_minus}
use Rattle.arithmetic.specs.Laws.UnitInterval.{next_down_one, quotient_below_one, below_one_le, Inner, at_most_inner, complement}
use Rattle.arithmetic.specs.Laws.UnitInterval.{zero_parts, inner_above, inner_below}
use Rattle.bs_option_price.specs.BsOptionPrice.{negative_abs_log_moneyness}
use Rattle.bs_option_price.specs.Laws.NoNan.{minus_half}
use Rattle.inverse_gaussian.specs.Counted.{Counted, at_once, or_else}
use Rattle.explicit_black.specs.Quote.{Outcome, refused, reply, from_call_price, from_normalised_price, implied_black_volatility_normalised}
use Rattle.explicit_black.specs.Quote.{first_refusal, intrinsic_value, price_bound, bound_tests, normalised_time_value}
use Rattle.explicit_black.specs.Quote.{from_time_value, from_price, from_figures, from_quote, implied_black_volatility_input}
use Rattle.explicit_black.specs.Discount.{discounted_refusal, from_discounted_quote, implied_black_volatility_discounted}
use Rattle.explicit_black.specs.Guards.{guarded_with, guarded, unguarded, survival_threshold, b_max_of, from_call_price_by, from_normalised_price_by}
use Rattle.explicit_black.specs.Guards.{implied_black_volatility_normalised_by, from_time_value_by, from_figures_by, implied_black_volatility_input_by}
use Rattle.explicit_black.specs.Guards.{implied_black_volatility_discounted_by}

-- ---- q is a price divided by its b_max: where the two tests are reached, neither holds
abbrev pub NotTaken : Float → Type 0
NotTaken q = lt q survival_threshold ≡ false → (le (one ⊖ q) plus_zero ≡ false) × (le one (one ⊖ q) ≡ false)

threshold_parts : (is_sign_minus survival_threshold ≡ false) × T (finite survival_threshold)
unfolding of_bits
threshold_parts = (refl, tt)

threshold_cross : (n d : ℕ) → num survival_threshold * d ≤ n * den survival_threshold → d ≤ n * 2 ^ 53
unfolding of_bits
threshold_cross n d h = omega arith

at_most_not_taken : (q : Float) → AtMost false next_down_one q → NotTaken q
at_most_not_taken q h e =
    let c : num survival_threshold * den q ≤ num q * den survival_threshold =
    ltb-false (num q * den survival_threshold) (num survival_threshold * den q)
    (sym (lt_is q survival_threshold h.is_finite_lem threshold_parts.1 ∙ rw (h.sign, threshold_parts.0) refl) ∙ e) in
    let i : Inner 53 (one ⊖ q) = complement 53 (lit≤ tt) q (at_most_inner q h (threshold_cross (num q) (den q) c)) in
    (inner_above (one ⊖ q) i, inner_below (one ⊖ q) i)

nan_not_taken : NotTaken nan
unfolding sub le of_bits
nan_not_taken e = (refl, refl)

-- ---- b_max is 1 at most
minus_half_abs : (x : Float) → is_nan x ≡ false → is_sign_minus (neg half ⊗ abs x) ≡ true
unfolding is_nan abs
minus_half_abs nan n = absurd (true≢false n)
minus_half_abs (inf s) n = minus_half (inf false) (inr refl)
minus_half_abs (fin s m e) n = minus_half (fin false m e) (inl (tt, refl))

pub b_max_small : (x : Float) → is_nan x ≡ false → Small 0 (b_max_of x)
b_max_small x n = exp_minus (neg half ⊗ abs x) (mul-fits binary64 (neg half) (abs x)) (minus_half_abs x n)

pub b_max_at_most_one : (x : Float) → is_nan x ≡ false → T (le (b_max_of x) one)
b_max_at_most_one x n = small_le (b_max_of x) (b_max_small x n)

pub b_max_nan : b_max_of nan ≡ nan
unfolding abs mul exp neg of_bits
b_max_nan = refl

-- ---- a price that passes tests 7 and 8, divided by b_max
nan_over : (b : Float) → nan ⊘ b ≡ nan
unfolding div
nan_over b = refl

over_nan : (p : Float) → p ⊘ nan ≡ nan
unfolding div
over_nan nan = refl
over_nan (inf s) = refl
over_nan (fin s m e) = refl

quotient_at_most : (p b : Float) → T (fits binary64 p) → T (fits binary64 b) → T (finite p) → T (finite b)
    → le p plus_zero ≡ false → le b p ≡ false → AtMost false next_down_one (p ⊘ b)
quotient_at_most p b F G s t h g =
    let P : T (positive p) = not_le_zero p s h in
    let less : lt p b ≡ true = not_le b p t s g in
    quotient_below_one p b F G P (lt_positive p b s (positive_sign p P) t less) less

pub not_over : (b : Float) → T (finite b) → le b (inf false) ≡ false → ⊥
unfolding le lt
not_over nan t g = t
not_over (inf s) t g = t
not_over (fin s m e) t g = true≢false g

over_finite : (p b : Float) → T (fits binary64 p) → T (fits binary64 b) → T (finite b) → le p plus_zero ≡ false → le b p ≡ false
    → NotTaken (p ⊘ b)
unfolding le lt of_bits
over_finite nan b F G t h g = subst NotTaken (sym (nan_over b)) nan_not_taken
over_finite (inf true) b F G t h g = absurd (true≢false h)
over_finite (inf false) b F G t h g = absurd (not_over b t g)
over_finite (fin s m e) b F G t h g = at_most_not_taken (fin s m e ⊘ b) (quotient_at_most (fin s m e) b F G tt t h g)

number_not_taken : (x p : Float) → is_nan x ≡ false → T (fits binary64 p) → le p plus_zero ≡ false → le (b_max_of x) p ≡ false
    → NotTaken (p ⊘ b_max_of x)
number_not_taken x p n F h g = over_finite p (b_max_of x) F (exp_fits (neg half ⊗ abs x)) (b_max_small x n).is_finite_lem h g

-- ---- NEITHER BRANCH IS TAKEN, whatever x is
pub quotient_not_taken : (x p : Float) → T (fits binary64 p) → le p plus_zero ≡ false → le (b_max_of x) p ≡ false → NotTaken (p ⊘ b_max_of x)
unfolding is_nan
quotient_not_taken nan p F h g = subst NotTaken (sym (ap (λ (b : Float). p ⊘ b) b_max_nan ∙ over_nan p)) nan_not_taken
quotient_not_taken (inf s) p F h g = number_not_taken (inf s) p refl F h g
quotient_not_taken (fin s m e) p F h g = number_not_taken (fin s m e) p refl F h g

-- ---- ANYTHING IN PLACE OF THE BRANCHES
-- `by` does as the two branches and the search do, at a probability that is neither at most 0 nor at least 1
abbrev pub Agrees : (Float → Float → Counted Outcome) → Type 0
Agrees by = (probability mu : Float) → le probability plus_zero ≡ false → le one probability ≡ false → by probability mu ≡ guarded probability mu

module _ (by : Float → Float → Counted Outcome) (A : Agrees by) where
  call_price_by : (q mu : Float) → NotTaken q → from_call_price_by by q mu ≡ from_call_price q mu
  unfolding from_call_price_by from_call_price
  call_price_by q mu t = on_false (lt q survival_threshold) _ (λ e. A (one ⊖ q) mu (t e).0 (t e).1)

  normalised_price_by : (x p : Float) → T (fits binary64 p) → from_normalised_price_by by x p ≡ from_normalised_price x p
  unfolding from_normalised_price_by from_normalised_price
  normalised_price_by x p F =
      on_false (le p plus_zero) _ (λ h.
      on_false (le (b_max_of x) p) _ (λ g.
      on_false (eq (abs x) plus_zero) _ (λ e.
      call_price_by (p ⊘ b_max_of x) (two ⊘ abs x) (quotient_not_taken x p F h g))))

  -- of the normalised entry, at any bits
  pub normalised_by : (x p : Float) → T (fits binary64 p) → implied_black_volatility_normalised_by by x p ≡ implied_black_volatility_normalised x p
  unfolding implied_black_volatility_normalised_by implied_black_volatility_normalised
  normalised_by x p F = ap (λ (c : Counted Outcome). reply one (cond (is_finite x && is_finite p) c (at_once (refused 2)))) (normalised_price_by x p F)

  time_value_by : (x v : Float) → T (fits binary64 v) → from_time_value_by by x v ≡ from_time_value x v
  unfolding from_time_value_by from_time_value
  time_value_by x v F = on_false (le v min_positive) _ (λ e. normalised_price_by x v F)

  -- and of a quote, whatever the side
  figures_by : (side : ℕ) (p f k t : Float) → from_figures_by by side p f k t ≡ from_figures side p f k t
  unfolding from_price
  figures_by side p f k t =
      let intrinsic = intrinsic_value side f k in
      ap (or_else (bound_tests p intrinsic (price_bound side f k) t))
      (time_value_by (negative_abs_log_moneyness f k) (normalised_time_value p intrinsic (sqrt f ⊗ sqrt k)) (div-fits binary64 _ _))

  pub input_by : (side : ℕ) (p f k t : Float) → implied_black_volatility_input_by by side p f k t ≡ implied_black_volatility_input side p f k t
  unfolding implied_black_volatility_input_by implied_black_volatility_input from_quote
  input_by side p f k t =
      let number = first_refusal side p f k t in
      ap (λ (c : Counted Outcome). reply t (cond (eqb number 0) c (at_once (refused number)))) (figures_by side p f k t)

  pub discounted_by : (side : ℕ) (p f k t d : Float) → implied_black_volatility_discounted_by by side p f k t d ≡ implied_black_volatility_discounted side p f k t d
  unfolding implied_black_volatility_discounted_by implied_black_volatility_discounted from_discounted_quote
  discounted_by side p f k t d =
      let number = discounted_refusal side p f k t d in
      ap (λ (c : Counted Outcome). reply t (cond (eqb number 0) c (at_once (refused number)))) (figures_by side (p ⊘ d) f k t)

-- ---- WITHOUT THE BRANCHES, and with any outcomes in them
unguarded_agrees : Agrees unguarded
unguarded_agrees probability mu h g = rw (h, g) refl

pub normalised_unguarded : (x p : Float) → T (fits binary64 p) → implied_black_volatility_normalised_by unguarded x p ≡ implied_black_volatility_normalised x p
normalised_unguarded = normalised_by unguarded unguarded_agrees

pub input_unguarded : (side : ℕ) (p f k t : Float) → implied_black_volatility_input_by unguarded side p f k t ≡ implied_black_volatility_input side p f k t
input_unguarded = input_by unguarded unguarded_agrees

pub discounted_unguarded : (side : ℕ) (p f k t d : Float)
    → implied_black_volatility_discounted_by unguarded side p f k t d ≡ implied_black_volatility_discounted side p f k t d
discounted_unguarded = discounted_by unguarded unguarded_agrees

replaced_agrees : (low high : Counted Outcome) → Agrees (guarded_with low high)
replaced_agrees low high probability mu h g = rw (h, g) refl

pub normalised_replaced : (low high : Counted Outcome) (x p : Float) → T (fits binary64 p)
    → implied_black_volatility_normalised_by (guarded_with low high) x p ≡ implied_black_volatility_normalised x p
normalised_replaced low high = normalised_by (guarded_with low high) (replaced_agrees low high)

pub input_replaced : (low high : Counted Outcome) (side : ℕ) (p f k t : Float)
    → implied_black_volatility_input_by (guarded_with low high) side p f k t ≡ implied_black_volatility_input side p f k t
input_replaced low high = input_by (guarded_with low high) (replaced_agrees low high)

pub discounted_replaced : (low high : Counted Outcome) (side : ℕ) (p f k t d : Float)
    → implied_black_volatility_discounted_by (guarded_with low high) side p f k t d ≡ implied_black_volatility_discounted side p f k t d
discounted_replaced low high = discounted_by (guarded_with low high) (replaced_agrees low high)

-- ---- WHERE `by` STANDS: a call that gets as far as the branches is answered by `by`
module _ (by : Float → Float → Counted Outcome) where
  pub price_reached : (x p : Float) → le p plus_zero ≡ false → le (b_max_of x) p ≡ false → eq (abs x) plus_zero ≡ false
      → lt (p ⊘ b_max_of x) survival_threshold ≡ false → from_normalised_price_by by x p ≡ by (one ⊖ p ⊘ b_max_of x) (two ⊘ abs x)
  unfolding from_normalised_price_by from_call_price_by
  price_reached x p h g e l = rw (h, g, e, l) refl

  pub normalised_reached : (x p : Float) → (is_finite x && is_finite p) ≡ true
      → implied_black_volatility_normalised_by by x p ≡ reply one (from_normalised_price_by by x p)
  unfolding implied_black_volatility_normalised_by
  normalised_reached x p f = rw f refl

  pub input_reached : (side : ℕ) (p f k t : Float) → first_refusal side p f k t ≡ 0 → eq t plus_zero ≡ false
      → le (price_bound side f k) p ≡ false →
      let v = normalised_time_value p (intrinsic_value side f k) (sqrt f ⊗ sqrt k) in
      le v min_positive ≡ false → implied_black_volatility_input_by by side p f k t ≡ reply t (from_normalised_price_by by (negative_abs_log_moneyness f k) v)
  unfolding implied_black_volatility_input_by from_time_value_by bound_tests or_else
  input_reached side p f k t n z g m = rw (n, z, g, m) refl

  pub discounted_reached : (side : ℕ) (p f k t d : Float) → discounted_refusal side p f k t d ≡ 0 → eq t plus_zero ≡ false
      → le (price_bound side f k) (p ⊘ d) ≡ false →
      let v = normalised_time_value (p ⊘ d) (intrinsic_value side f k) (sqrt f ⊗ sqrt k) in
      le v min_positive ≡ false
      → implied_black_volatility_discounted_by by side p f k t d ≡ reply t (from_normalised_price_by by (negative_abs_log_moneyness f k) v)
  unfolding implied_black_volatility_discounted_by from_time_value_by bound_tests or_else
  discounted_reached side p f k t d n z g m = rw (n, z, g, m) refl

-- ---- A PRICE BETWEEN 0 AND B_MAX, at a finite log-moneyness other than 0
pub record WithinBound (x p : Float) : Type 0 where
  pub quotient : T (le (p ⊘ b_max_of x) next_down_one)
  pub not_taken : NotTaken (p ⊘ b_max_of x)
  pub same : from_normalised_price x p ≡ from_call_price_by unguarded (p ⊘ b_max_of x) (two ⊘ abs x)

abs_zero : (x : Float) → eq (abs x) plus_zero ≡ eq x plus_zero
unfolding abs eq of_bits
abs_zero nan = refl
abs_zero (inf s) = refl
abs_zero (fin false m e) = refl
abs_zero (fin true m e) = rw (zero-mul (down e)) (and_self (eqb (m * up e * 1) 0))
  where
    and_self : (b : Bool) → (b && true) ≡ (b && b)
    and_self true = refl
    and_self false = refl

under_finite : (p b : Float) → lt plus_zero p ≡ true → lt p b ≡ true → T (finite p)
unfolding lt of_bits
under_finite nan b a u = absurd (false≢true a)
under_finite (inf true) b a u = absurd (false≢true a)
under_finite (inf false) nan a u = absurd (false≢true u)
under_finite (inf false) (inf s) a u = absurd (false≢true u)
under_finite (inf false) (fin s m e) a u = absurd (false≢true u)
under_finite (fin s m e) b a u = tt

pub within_bound : (x p : Float) → T (fits binary64 p) → T (finite x) → eq x plus_zero ≡ false
    → lt plus_zero p ≡ true → lt p (b_max_of x) ≡ true → WithinBound x p
unfolding from_normalised_price
within_bound x p F n z a u =
    let b = b_max_of x in
    let q = p ⊘ b in
    let s : T (finite p) = under_finite p b a u in
    let t : T (finite b) = (b_max_small x (finite_no_nan x n)).is_finite_lem in
    let P : T (positive p) = above_zero p s a in
    let B : T (positive b) = lt_positive p b s (positive_sign p P) t u in
    let most : AtMost false next_down_one q = quotient_below_one p b F (exp_fits (neg half ⊗ abs x)) P B u in
    record {
      quotient = below_one_le q most;
      not_taken = at_most_not_taken q most;
      same =
          rw (
            lt_not_le plus_zero p zero_parts.3 s a,
            lt_not_le p b s t u,
            abs_zero x,
            z,
          ) (sym (call_price_by unguarded unguarded_agrees q (two ⊘ abs x) (at_most_not_taken q most)));
    }

-- at a log-moneyness of 2 ^ -60 b_max is 1 and the quotient 1 - 2 ^ -53 is attained; a price equal to b_max has the quotient 1 there, which would take the
-- first branch
pub quotient_attained :
    let b = b_max_of (bits 0x3C30_0000_0000_0000) in
    (b ≡ one) × (lt next_down_one b ≡ true) × (next_down_one ⊘ b ≡ next_down_one) × (b ⊘ b ≡ one)
unfolding abs neg mul exp div lt of_bits
quotient_attained = (refl, refl, refl, refl)

pub one_taken : (low high : Counted Outcome) (mu : Float) → from_call_price_by (guarded_with low high) one mu ≡ low
unfolding from_call_price_by lt le sub of_bits
one_taken low high mu = refl
