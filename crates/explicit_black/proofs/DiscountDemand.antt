-- Demand 3 for quotes with discount factors (REQUIREMENTS 14.7): a quote, and one whose factor is equal and whose divided price, forward and strike are
-- exactly 4 ^ n times its own, on the same side or exchanged, have one total volatility or refusal number, and one count. So have quotes whose prices
-- themselves are exactly 4 ^ n times each other, where both divided prices are above 2 ^ -1022, or both are 0. Assumes nothing.
use Rattle.std.specs.Prelude.{◌≡◌, ℕ, ◌*◌, Bool, ℤ, pos, negsuc, T, Float}
use Rattle.std.proofs.Math.Path.{refl}
use Rattle.std.proofs.Common.{sym, ◌∙◌, subst, inl, inr, lit≤}
use Rattle.std.specs.Float.{binary64}
use Rattle.std.specs.Float.Ieee.{div, lt, le, eq, of_bits}
use Rattle.std.specs.Float.Ieee.Fits.{div-fits}
use Rattle.std.specs.Float.Ieee.Bits.{of_bits-fits}
use Rattle.std.specs.Float.Ieee.Scale.{finite}
use Rattle.std.specs.Float.Ieee.Positive.{num, den, positive}
use Rattle.arithmetic.specs.Operations.{◌⊘◌, bits}
use Rattle.arithmetic.specs.Basic.{is_sign_minus}
use Rattle.bs_option_price.specs.Laws.Moneyness.{BoundedRatio}
use Rattle.explicit_black.specs.Price.{AboveOrZero}
use Rattle.explicit_black.specs.Demand.{Exactly, ComparablePair, ComparableFigures, ComparableTimes}
use Rattle.explicit_black.specs.Discount.{from_discounted_quote, discounted_at_bits, DiscountedAgree}
use Rattle.explicit_black.specs.Laws.Powers.{comparable_pair, comparable}
use Rattle.explicit_black.specs.Laws.Demand.{after_tests, ComparableValues, comparable_ratio, call_price, call_forward, call_strike, put_price}
use Rattle.explicit_black.specs.Laws.Demand.{put_forward, put_strike, time_one, comparable_call, comparable_put}
use Rattle.explicit_black.specs.Laws.Discount.{compared_discounted}
use Rattle.explicit_black.specs.Laws.DividedPrices.{dividend_finite, divided_values}
use Rattle.explicit_black.specs.Laws.DiscountDemand.{SameFactor, equal_factors, same_discounted, other_discounted, call_discounted, put_discounted}
use Rattle.explicit_black.specs.Laws.DiscountDemand.{factor_bits}
use Rattle.explicit_black.proofs.Demand.{four_times, same_figures}
use Rattle.explicit_black.proofs.DividedPrices.{scaled_figures}

-- ---- DEMAND 3, for figures of any bits, factors included
module _ (n : ℤ) (p f k t d p' f' k' t' d' : ℕ) (w : ComparableTimes (bits t) (bits t')) (e : T (eq (bits d) (bits d'))) where
  abbrev quotient : Float
  quotient = bits p ⊘ bits d

  abbrev quotient' : Float
  quotient' = bits p' ⊘ bits d'

  factors : SameFactor (bits d) (bits d')
  factors = equal_factors (bits d) (bits d') (of_bits-fits binary64 d) (of_bits-fits binary64 d') e

  module _ (h : ComparablePair (bits f) (bits k)) (h' : ComparablePair (bits f') (bits k')) (P : T (finite (bits p))) (P' : T (finite (bits p')))
      (figures : T (positive (bits d)) → (call : Bool) (f' k' : Float) → BoundedRatio f' k' → Exactly n (bits f) f' → Exactly n (bits k) k'
      → after_tests call quotient' f' k' (bits t') ≡ after_tests call quotient (bits f) (bits k) (bits t)) where
    agree_by : DiscountedAgree n p f k t d p' f' k' t' d'
    agree_by = record {
      same_side = λ side g i. is' side ∙ same_discounted n _ _ _ _ _ _ _ _ _ _ P P' r r' w factors figures side g i ∙ sym (is side);
      other_side = λ g i.
          let q = other_discounted n _ _ _ _ _ _ _ _ _ _ P P' r r' w factors figures g i in
          (is' 1 ∙ q.0 ∙ sym (is 0), is' 0 ∙ q.1 ∙ sym (is 1));
    }
      where
        r : BoundedRatio (bits f) (bits k)
        r = comparable_ratio f k h

        r' : BoundedRatio (bits f') (bits k')
        r' = comparable_ratio f' k' h'

        is : (side : ℕ) → discounted_at_bits side p f k t d ≡ from_discounted_quote side (bits p) (bits f) (bits k) (bits t) (bits d)
        is side = compared_discounted side (bits p) (bits f) (bits k) (bits t) (bits d)

        is' : (side : ℕ) → discounted_at_bits side p' f' k' t' d' ≡ from_discounted_quote side (bits p') (bits f') (bits k') (bits t') (bits d')
        is' side = compared_discounted side (bits p') (bits f') (bits k') (bits t') (bits d')

  -- The divided prices scale exactly; of the divided price, forward, strike and time what demand 3 asks. A price below 0 may divide to minus zero, and where
  -- the factor is below 0 both quotes are refused.
  pub divided_agree : ComparableFigures quotient (bits f) (bits k) → ComparableFigures quotient' (bits f') (bits k') → Exactly n quotient quotient'
      → DiscountedAgree n p f k t d p' f' k' t' d'
  divided_agree h h' x =
      agree_by h.pair h'.pair (dividend_finite (bits p) (bits d) x.finite_x) (dividend_finite (bits p') (bits d') x.finite_y)
      (λ D call a b r' g i.
      let values : ComparableValues quotient (bits f) (bits k) =
      record { held = div-fits binary64 _ _; bounded = x.finite_x; not_negative = h.price_not_negative; pair = comparable_ratio f k h.pair } in
      let values' : ComparableValues quotient' a b =
      record { held = div-fits binary64 _ _; bounded = x.finite_y; not_negative = h'.price_not_negative; pair = r' } in
      same_figures quotient (bits f) (bits k) (bits t) quotient' a b (bits t') values values' w n call x g i)

  module _ (h : ComparableFigures (bits p) (bits f) (bits k)) (h' : ComparableFigures (bits p') (bits f') (bits k')) where
    -- The divided prices scale exactly; of price, forward, strike and time what demand 3 asks.
    pub discounted_agree : Exactly n quotient quotient' → DiscountedAgree n p f k t d p' f' k' t' d'
    discounted_agree x =
        agree_by h.pair h'.pair h.price_finite h'.price_finite
        (λ D call a b r' g i.
        let r = comparable_ratio f k h.pair in
        let values = divided_values (bits p) (bits f) (bits k) (bits d) D h.price_finite h.price_not_negative x.finite_x r in
        let D' = subst (λ (z : Float). T (positive z)) (sym (factors.same D)) D in
        let values' = divided_values (bits p') a b (bits d') D' h'.price_finite h'.price_not_negative x.finite_y r' in
        same_figures quotient (bits f) (bits k) (bits t) quotient' a b (bits t') values values' w n call x g i)

    -- The prices themselves scale exactly, and both divided prices are above 2 ^ -1022, or both are 0. They may be infinite.
    pub scaled_agree : Exactly n (bits p) (bits p') → AboveOrZero quotient quotient' → DiscountedAgree n p f k t d p' f' k' t' d'
    scaled_agree x z =
        agree_by h.pair h'.pair h.price_finite h'.price_finite
        (λ D call a b r' g i.
        let c = factors.same D in
        rw c
        (scaled_figures n (bits p) (bits f) (bits k) (bits t) (bits p') a b (bits t') (bits d) D (comparable_ratio f k h.pair) r' w
        h.price_not_negative h'.price_not_negative x g i (rw c at z) call))

-- ---- calls and puts that agree: the hypotheses are met

call_divided : bits call_discounted ⊘ bits factor_bits ≡ bits 0x3FF0_158E_D230_8159
unfolding div of_bits
call_divided = refl

put_divided : bits put_discounted ⊘ bits factor_bits ≡ bits 0x4010_158E_D230_8159
unfolding div of_bits
put_divided = refl

divided_four_times : Exactly (pos 1) (bits 0x3FF0_158E_D230_8159) (bits 0x4010_158E_D230_8159)
unfolding of_bits
divided_four_times = four_times (bits 0x3FF0_158E_D230_8159) (bits 0x4010_158E_D230_8159) tt tt refl refl

pub discounted_call_and_put_agree : discounted_at_bits 1 put_discounted put_forward put_strike time_one factor_bits
    ≡ discounted_at_bits 0 call_discounted call_forward call_strike time_one factor_bits
unfolding div lt le eq of_bits
discounted_call_and_put_agree =
    ((discounted_agree (pos 1) call_discounted call_forward call_strike time_one factor_bits put_discounted put_forward put_strike time_one factor_bits
    (inr (tt, tt, tt, tt)) tt (comparable _ _ _ tt tt comparable_call.pair) (comparable _ _ _ tt tt comparable_put.pair)
    (rw (call_divided, put_divided) divided_four_times)).other_side
    (four_times (bits call_strike) (bits put_forward) tt tt refl refl)
    (four_times (bits call_forward) (bits put_strike) tt tt refl refl)
    ).0

-- the calls 0 4 480 400 1 and 0 1 120 100 1 with the factor 2 ^ -1023: n is -1, and the first divided price is infinite
abbrev small_factor : ℕ
small_factor = 0x0008_0000_0000_0000

four_down_lem : (x y : Float) → T (finite x) → T (finite y) → num y * den x * 4 ≡ num x * den y * 1 → is_sign_minus y ≡ is_sign_minus x → Exactly (negsuc 0) x y
four_down_lem x y a b e s = record { finite_x = a; finite_y = b; fraction = e; signs = inr s }

pub overflowing_calls_agree : discounted_at_bits 0 call_price call_strike call_forward time_one small_factor
    ≡ discounted_at_bits 0 put_price put_forward put_strike time_one small_factor
unfolding div lt le eq of_bits
overflowing_calls_agree =
    (scaled_agree (negsuc 0) put_price put_forward put_strike time_one small_factor call_price call_strike call_forward time_one small_factor
    (inr (tt, tt, tt, tt)) tt comparable_put (comparable _ _ _ tt tt (comparable_pair _ _ tt tt tt tt (lit≤ tt) (lit≤ tt)))
    (four_down_lem (bits put_price) (bits call_price) tt tt refl refl) (inl (tt, tt))).same_side 0
    (four_down_lem (bits put_forward) (bits call_strike) tt tt refl refl)
    (four_down_lem (bits put_strike) (bits call_forward) tt tt refl refl)
