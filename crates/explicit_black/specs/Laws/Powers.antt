-- Why demand 3 (REQUIREMENTS 2.3) says 4 ^ n, and why it limits the ratio of forward and strike. Where figures are doubled the product of their roots
-- is not exactly doubled; beyond the limit the log-moneyness is not kept. Calls that meet every other term of demand 3 are answered otherwise, by
-- computation. Assumes nothing.
use Rattle.std.specs.Prelude.{◌≡◌, refl, ◌*◌, Bool, false, ℤ, pos, negsuc, T, eqb, Float}
use Rattle.std.proofs.Common.{sym, ap, ◌∙◌, subst, inr, true≢false, le→leb, lit≤}
use Rattle.std.specs.Float.{binary64}
use Rattle.std.specs.Float.Ieee.{round, add, sub, mul, div, neg, lt, le, eq, is_nan, of_bits}
use Rattle.std.specs.Float.Ieee.Scale.{finite}
use Rattle.std.specs.Float.Ieee.Positive.{num, den}
use Rattle.arithmetic.specs.Operations.{◌⊖◌, bits, plus_zero, half, one, two, min_positive, infinity}
use Rattle.arithmetic.specs.Basic.{is_sign_minus, abs, max, min}
use Rattle.arithmetic.specs.Sqrt.{sqrt}
use Rattle.arithmetic.specs.Exp.{exp}
use Rattle.arithmetic.specs.Ln.{ln, ln1p}
use Rattle.arithmetic.specs.Magnitude.{NotOver}
use Rattle.arithmetic.specs.Laws.Choices.{in_both, never}
use Rattle.arithmetic.specs.Laws.Times.{Times}
use Rattle.special_function.specs.Erfinv.{erfinv}
use Rattle.special_function.specs.NormalDistribution.{inverse_norm_cdfm_half_for_midrange_probabilities}
use Rattle.special_function.specs.Polynomial.{nested}
use Rattle.bs_option_price.specs.BsOptionPrice.{negative_abs_log_moneyness}
use Rattle.inverse_gaussian.specs.Counted.{Option, some, none, Counted, at_once}
use Rattle.inverse_gaussian.specs.Curves.{finite_positive}
use Rattle.inverse_gaussian.specs.Quantile.{inverse_gaussian_quantile}
use Rattle.inverse_gaussian.specs.Survival.{inverse_gaussian_quantile_from_survival}
use Rattle.explicit_black.specs.Quote.{Outcome, total, refused, implied_normalised_volatility_atm, at_the_money, total_at, from_call_price}
use Rattle.explicit_black.specs.Quote.{from_normalised_price, first_refusal, from_time_value, from_price, from_quote, implied_black_volatility_input}
use Rattle.explicit_black.specs.Demand.{four_up, four_down, Exactly, PairInRange, ComparablePair, ComparableFigures, compared}
use Rattle.explicit_black.specs.Laws.Quote.{compared_input}

-- what is compared of a call at time 1, by its price, forward and strike
unfoldable pub call : Float → Float → Float → Counted Outcome
unfolding implied_black_volatility_input from_quote first_refusal from_price from_time_value from_normalised_price at_the_money implied_normalised_volatility_atm
    negative_abs_log_moneyness erfinv inverse_norm_cdfm_half_for_midrange_probabilities nested sqrt exp ln ln1p max min abs
    add sub mul div neg lt le eq is_nan of_bits
call price forward strike = compared (implied_black_volatility_input 0 price forward strike one)

-- ---- figures: 6 and 12 each with the value below it, 19 and 38
abbrev below_six : Float
below_six = bits 0x4017_FFFF_FFFF_FFFF

abbrev six : Float
six = bits 0x4018_0000_0000_0000

abbrev nineteen : Float
nineteen = bits 0x4033_0000_0000_0000

abbrev below_twelve : Float
below_twelve = bits 0x4027_FFFF_FFFF_FFFF

abbrev twelve : Float
twelve = bits 0x4028_0000_0000_0000

abbrev thirty_eight : Float
thirty_eight = bits 0x4043_0000_0000_0000

-- ---- 4 ^ n is kept: at the money, with a price of half the forward

-- the figures 1 / 2, 1 and 1, each times 4 ^ n
abbrev scaled_call : ℤ → Counted Outcome
scaled_call n =
    let figure = round binary64 false (four_up n) (four_down n) in
    call (round binary64 false (four_up n) (2 * four_down n)) figure figure

-- their total volatility, 1.3489795003921636
abbrev half_of_one : Float
half_of_one = bits 0x3FF5_956B_8752_8A4A

pub fours_kept : (scaled_call (pos 0) ≡ at_once (total half_of_one)) × (scaled_call (pos 1) ≡ at_once (total half_of_one))
    × (scaled_call (negsuc 0) ≡ at_once (total half_of_one))
unfolding call round of_bits
fours_kept = (refl, refl, refl)

-- ---- a factor of 2 is not kept

-- Two calls that meet the terms of demand 3, but that the second's figures are exactly 2 times the first's. Both are answered without an evaluation,
-- and not alike.
pub record Doubled (p f k p' f' k' : Float) (r r' : Outcome) : Type 0 where
  pub first_comparable : ComparableFigures p f k
  pub second_comparable : ComparableFigures p' f' k'
  pub price_doubled : Times 1 p p'
  pub forward_doubled : Times 1 f f'
  pub strike_doubled : Times 1 k k'
  pub first_reply : call p f k ≡ at_once r
  pub second_reply : call p' f' k' ≡ at_once r'
  pub differ : call p' f' k' ≡ call p f k → ⊥

-- the terms of demand 3, each with its proof
pair_in_range : (f k : Float) → T (finite f) → T (le min_positive f) → T (finite k) → T (le min_positive k) → PairInRange f k
pair_in_range f k a b c d = record { forward_finite = a; forward_normal = b; strike_finite = c; strike_normal = d }

pub comparable_pair : (f k : Float) → T (finite f) → T (le min_positive f) → T (finite k) → T (le min_positive k) → NotOver f k → NotOver k f → ComparablePair f k
comparable_pair f k a b c d h i = record { in_range = pair_in_range f k a b c d; forward_not_over = h; strike_not_over = i }

pub comparable : (p f k : Float) → T (finite p) → T (le plus_zero p) → ComparablePair f k → ComparableFigures p f k
comparable p f k a b h = record { price_finite = a; price_not_negative = b; pair = h }

pub times_two : (x y : Float) → T (finite x) → T (finite y) → is_sign_minus y ≡ is_sign_minus x → num y * den x ≡ num x * 2 * den y → Times 1 x y
times_two x y a b c d = record { finite_l = a; finite_r = b; sign = c; value = d }

-- calls with different outcomes are not answered alike
answers_differ : (c d : Counted Outcome) (r s : Outcome) → c ≡ at_once r → d ≡ at_once s → (r ≡ s → ⊥) → d ≡ c → ⊥
answers_differ c d r s h g n e = n (ap (λ (c : Counted Outcome). c.result) (sym h ∙ sym e ∙ g))

-- the total volatility of the figures 1, 2 and 2: 1.3489795003921632, two units in the last place below the other
abbrev half_of_two : Float
half_of_two = bits 0x3FF5_956B_8752_8A48

one_one : call half one one ≡ at_once (total half_of_one)
unfolding call of_bits
one_one = refl

two_two : call one two two ≡ at_once (total half_of_two)
unfolding call of_bits
two_two = refl

pub totals_differ : Doubled half one one one two two (total half_of_one) (total half_of_two)
unfolding of_bits le
totals_differ = record {
  first_comparable = comparable half one one tt tt (comparable_pair one one tt tt tt tt (lit≤ tt) (lit≤ tt));
  second_comparable = comparable one two two tt tt (comparable_pair two two tt tt tt tt (lit≤ tt) (lit≤ tt));
  price_doubled = times_two half one tt tt refl refl;
  forward_doubled = times_two one two tt tt refl refl;
  strike_doubled = times_two one two tt tt refl refl;
  first_reply = one_one;
  second_reply = two_two;
  differ = answers_differ _ _ (total half_of_one) (total half_of_two) one_one two_two (λ e. other (cc));
}
  where
    other : half_of_one ≡ half_of_two → ⊥
    other e = subst (λ (v : Float). T (le half_of_one v)) e tt

-- a normalised price of b_max has an infinite total; with figures doubled it is above b_max, which is refused
at_six : call below_six six nineteen ≡ at_once (total infinity)
unfolding call of_bits
at_six = refl

at_twelve : call below_twelve twelve thirty_eight ≡ at_once (refused 8)
unfolding call of_bits
at_twelve = refl

pub refusals_differ : Doubled below_six six nineteen below_twelve twelve thirty_eight (total infinity) (refused 8)
unfolding of_bits le
refusals_differ = record {
  first_comparable = comparable below_six six nineteen tt tt (comparable_pair six nineteen tt tt tt tt (lit≤ tt) (lit≤ tt));
  second_comparable = comparable below_twelve twelve thirty_eight tt tt (comparable_pair twelve thirty_eight tt tt tt tt (lit≤ tt) (lit≤ tt));
  price_doubled = times_two below_six below_twelve tt tt refl refl;
  forward_doubled = times_two six twelve tt tt refl refl;
  strike_doubled = times_two nineteen thirty_eight tt tt refl refl;
  first_reply = at_six;
  second_reply = at_twelve;
  differ = answers_differ _ _ (total infinity) (refused 8) at_six at_twelve (λ e. never (cc));
}

-- ---- beyond the ratio's limit 4 ^ n is not kept

-- the terms of demand 3, but that the strike is over 2 ^ 1022 times the forward
pub record RatioOver (price forward strike : Float) : Type 0 where
  pub price_finite : T (finite price)
  pub price_not_negative : T (le plus_zero price)
  pub in_range : PairInRange forward strike
  pub forward_not_over : NotOver forward strike
  pub strike_over : NotOver strike forward → ⊥

-- two such calls, the figures of the second exactly 4 times those of the first, which are not answered alike
pub record BeyondRatio (p f k p' f' k' : Float) : Type 0 where
  pub first_over : RatioOver p f k
  pub second_over : RatioOver p' f' k'
  pub price_fourfold : Exactly (pos 1) p p'
  pub forward_fourfold : Exactly (pos 1) f f'
  pub strike_fourfold : Exactly (pos 1) k k'
  pub differ : call p' f' k' ≡ call p f k → ⊥

-- the outcome is refusal 8, which a normalised price below its bound does not have
is_eight : Outcome → Bool
is_eight (total v) = false
is_eight (refused m) = eqb m 8

abbrev eight : Counted Outcome → Bool
eight c = is_eight c.result

abbrev NotEight : Counted Outcome → Type 0
NotEight c = eight c ≡ false

root_not_eight : (r : Option Float) → is_eight (total_at r) ≡ false
unfolding total_at is_eight
root_not_eight (some x) = in_both (λ r. is_eight r ≡ false) (finite_positive x) refl refl
root_not_eight none = refl

price_not_eight : (p mu : Float) → NotEight (from_call_price p mu)
unfolding from_call_price is_eight
price_not_eight p mu =
    in_both NotEight (lt p (bits 0x3EE4_F8B5_88E3_68F1)) (root_not_eight (inverse_gaussian_quantile_from_survival p mu).result)
    (in_both NotEight (le (one ⊖ p) plus_zero) refl
    (in_both NotEight (le one (one ⊖ p)) refl (root_not_eight (inverse_gaussian_quantile (one ⊖ p) mu).result)))

-- the forward 15 * 2 ^ -1000 with the largest price below it, and the strike 9 * 2 ^ 23
abbrev far_forward : Float
far_forward = bits 0x01AE_0000_0000_0000

abbrev far_price : Float
far_price = bits 0x01AD_FFFF_FFFF_FFFF

abbrev far_strike : Float
far_strike = bits 0x4192_0000_0000_0000

-- and each 4 times that
abbrev four_far_forward : Float
four_far_forward = bits 0x01CE_0000_0000_0000

abbrev four_far_price : Float
four_far_price = bits 0x01CD_FFFF_FFFF_FFFF

abbrev four_far_strike : Float
four_far_strike = bits 0x41B2_0000_0000_0000

far_outcome : from_quote 0 far_price far_forward far_strike one ≡ from_call_price (bits 0x3FEF_FFFF_FFFF_FEB5) (bits 0x3F67_1F51_CF0D_A22B)
unfolding call of_bits
far_outcome = refl

far_searched : call far_price far_forward far_strike ≡ from_call_price (bits 0x3FEF_FFFF_FFFF_FEB5) (bits 0x3F67_1F51_CF0D_A22B)
unfolding call
far_searched = compared_input 0 far_price far_forward far_strike one ∙ far_outcome

far_refused : call four_far_price four_far_forward four_far_strike ≡ at_once (refused 8)
unfolding call of_bits
far_refused = refl

ratio_over : (p f k : Float) → T (finite p) → T (le plus_zero p) → PairInRange f k → NotOver f k → (NotOver k f → ⊥) → RatioOver p f k
ratio_over p f k a b r h i = record { price_finite = a; price_not_negative = b; in_range = r; forward_not_over = h; strike_over = i }

-- `Exactly` for the n of 1, from the fraction as it states it
pub exactly_at_one : (x y : Float) → T (finite x) → T (finite y) → num y * den x * four_down (pos 1) ≡ num x * den y * four_up (pos 1)
    → is_sign_minus y ≡ is_sign_minus x → Exactly (pos 1) x y
exactly_at_one x y a b e s = record { finite_x = a; finite_y = b; fraction = e; signs = inr s }

pub ratio_limited : BeyondRatio far_price far_forward far_strike four_far_price four_far_forward four_far_strike
unfolding of_bits le is_eight
ratio_limited = record {
  first_over = ratio_over far_price far_forward far_strike tt tt (pair_in_range _ _ tt tt tt tt) (lit≤ tt) (λ h. le→leb _ _ h);
  second_over = ratio_over four_far_price four_far_forward four_far_strike tt tt (pair_in_range _ _ tt tt tt tt) (lit≤ tt) (λ h. le→leb _ _ h);
  price_fourfold = exactly_at_one far_price four_far_price tt tt refl refl;
  forward_fourfold = exactly_at_one far_forward four_far_forward tt tt refl refl;
  strike_fourfold = exactly_at_one far_strike four_far_strike tt tt refl refl;
  differ = λ e. true≢false (sym (ap eight far_refused) ∙ ap eight (e ∙ far_searched) ∙ price_not_eight _ _);
}
