-- The law of 4 ^ n for prices (REQUIREMENTS 14.1): where forward and strike are exactly 4 ^ n times another's, with one side, volatility and time, the
-- price, where both have one, is exactly 4 ^ n times the other's. That both are refused with one number stands in specs/Laws/Price.antt. Assumes nothing.
use Rattle.std.specs.Prelude.{◌≡◌, refl, ℕ, suc, ℤ, pos, negsuc, Float}
use Rattle.std.proofs.Common.{inl, lit≤}
use Rattle.std.proofs.Math.Dec.{T}
use Rattle.std.specs.Float.Ieee.Scale.{finite}
use Rattle.arithmetic.specs.Operations.{◌⊗◌, bits}
use Rattle.arithmetic.specs.Sqrt.{sqrt}
use Rattle.bs_option_price.specs.Laws.Moneyness.{BoundedRatio}
use Rattle.explicit_black.specs.Price.{price, time_value, price_of, black_price, BothAboveOrZero}
use Rattle.explicit_black.specs.Demand.{Exactly, ComparablePair}
use Rattle.explicit_black.specs.Laws.Demand.{exactly_down, comparable_ratio}
use Rattle.explicit_black.specs.Laws.Powers.{comparable_pair}
use Rattle.explicit_black.specs.Laws.Price.{price_times, times_up, times_down, price_is, flipped}
use Rattle.explicit_black.specs.Laws.PricePowers.{price_at_one, fifth, hundred, hundred_ten, four_hundred, four_hundred_forty, puts_priced}
use Rattle.explicit_black.proofs.Demand.{four_times, exactly_up}

-- for values of binary64
price_exactly : (n : ℤ) (side : ℕ) (f k f' k' s : Float) → BoundedRatio f k → BoundedRatio f' k' → Exactly n f f' → Exactly n k k'
    → BothAboveOrZero (time_value f k s) (time_value f' k' s) → T (finite (price_of side f k s)) → T (finite (price_of side f' k' s))
    → Exactly n (price_of side f k s) (price_of side f' k' s)
price_exactly (pos n) side f k f' k' s h h' e g q p p' =
    times_up n _ _
    (price_times n f k f' k' s h h' (exactly_up n f f' h.forward e) (exactly_up n k k' h.strike g) side q p')
price_exactly (negsuc n) side f k f' k' s h h' e g q p p' =
    times_down n _ _
    (price_times (suc n) f' k' f k s h' h (exactly_down n f f' h'.forward e) (exactly_down n k k' h'.strike g) side
    (flipped (time_value f k s) (time_value f' k' s) q) p)

-- ---- THE LAW OF 4 ^ n, for figures of any bits and a side of any number. Forward and strike of the second are exactly 4 ^ n times the first's.
module _ (n : ℤ) (side v f k t f' k' : ℕ) (h : ComparablePair (bits f) (bits k)) (h' : ComparablePair (bits f') (bits k'))
    (e : Exactly n (bits f) (bits f')) (g : Exactly n (bits k) (bits k')) where
  -- the total volatility of both
  abbrev s : Float
  s = bits v ⊗ sqrt (bits t)

  -- the prices, where both have one, and they and the time values meet the terms of the law
  pub price_scales : (p p' : Float) → black_price side (bits v) (bits f) (bits k) (bits t) ≡ price p
      → black_price side (bits v) (bits f') (bits k') (bits t) ≡ price p'
      → BothAboveOrZero (time_value (bits f) (bits k) s) (time_value (bits f') (bits k') s) → BothAboveOrZero p p' → Exactly n p p'
  price_scales p p' r r' q w =
      let i = (price_is side (bits v) (bits f) (bits k) (bits t) p r).1 in
      let i' = (price_is side (bits v) (bits f') (bits k') (bits t) p' r').1 in
      rw (← i, ← i')
      (price_exactly n side (bits f) (bits k) (bits f') (bits k') s (comparable_ratio f k h) (comparable_ratio f' k' h') e g q
      (rw (← i) at w.first_finite) (rw (← i') at w.second_finite))

-- ---- the puts of specs/Laws/PricePowers.antt meet the terms of the law
pub puts_scale : Exactly (pos 1) (bits 0x402C_9582_7546_DBFA) (bits 0x404C_9582_7546_DBFA)
unfolding price_at_one
puts_scale =
    price_scales (pos 1) 1 fifth hundred hundred_ten 0x3FF0_0000_0000_0000 four_hundred four_hundred_forty
    (comparable_pair _ _ tt tt tt tt (lit≤ tt) (lit≤ tt)) (comparable_pair _ _ tt tt tt tt (lit≤ tt) (lit≤ tt))
    (four_times _ _ tt tt refl refl) (four_times _ _ tt tt refl refl)
    _ _ puts_priced.0 puts_priced.1
    (record { first_finite = tt; second_finite = tt; above_or_zero = inl (tt, tt) })
    (record { first_finite = tt; second_finite = tt; above_or_zero = inl (tt, tt) })
