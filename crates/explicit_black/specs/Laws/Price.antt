-- What the law of 4 ^ n for prices (REQUIREMENTS 14.1) rests on: prices of forwards and strikes scaled by 2 ^ (n + n), and such a scale as `Exactly`. And its
-- first half: where forward and strike are exactly 4 ^ n times another's, with one side, volatility and time, both are refused with one number or neither
-- is. That the price is exactly 4 ^ n times the other's follows in proofs/PriceLaw.antt. Assumes nothing.
use Rattle.std.specs.Prelude.{◌≡◌, refl, ◌⊎◌, ℕ, suc, ◌+◌, ◌*◌, ◌^◌, Bool, true, false, cond, ℤ, pos, negsuc, eqb, Float}
use Rattle.std.proofs.Common.{sym, ap, ◌∙◌, inl, inr, mul-one, mul_right_comm}
use Rattle.std.proofs.Math.Path.{subst}
use Rattle.std.proofs.Math.Dec.{T}
use Rattle.std.specs.Float.Ieee.{binary64, fits, lt, eq}
use Rattle.std.specs.Float.Ieee.Fits.{mul-fits, sub-fits}
use Rattle.std.specs.Float.Ieee.Bits.{is_true}
use Rattle.std.specs.Float.Ieee.Scale.{finite}
use Rattle.std.specs.Float.Ieee.Positive.{num, den}
use Rattle.arithmetic.specs.Operations.{◌⊕◌, ◌⊖◌, ◌⊗◌, ◌⊘◌, bits, plus_zero, two}
use Rattle.arithmetic.specs.Sqrt.{sqrt}
use Rattle.arithmetic.specs.Laws.Numbers.{four_square}
use Rattle.arithmetic.specs.Laws.Choices.{in_both, never}
use Rattle.arithmetic.specs.Laws.Times.{Times}
use Rattle.arithmetic.specs.Laws.Compare.{lt_times}
use Rattle.arithmetic.specs.Laws.Sums.{add_times, sub_times}
use Rattle.arithmetic.specs.Laws.Extremes.{times_zero}
use Rattle.arithmetic.specs.Laws.SqrtBounds.{roots_times}
use Rattle.arithmetic.specs.Laws.ScaledProducts.{product_times}
use Rattle.bs_option_price.specs.BsOptionPrice.{normalised_black, negative_abs_log_moneyness}
use Rattle.bs_option_price.specs.Laws.Moneyness.{BoundedRatio, log_times}
use Rattle.explicit_black.specs.Quote.{first_refusal, intrinsic_value}
use Rattle.explicit_black.specs.Price.{price, refusal, price_refusal, time_value, price_of, black_price, AboveOrZero, BothAboveOrZero}
use Rattle.explicit_black.specs.Demand.{Exactly, ComparablePair}
use Rattle.explicit_black.specs.Laws.Demand.{above_plus_zero, difference_finite, comparable_ratio}

-- ---- a price from its time value v and its intrinsic value i; `zero` tells whether s is 0, `above` whether i is above 0
abbrev price_from : Bool → Bool → Float → Float → Float
price_from zero above v i = cond zero (cond above i plus_zero) (cond above (v ⊕ i) v)

price_from_times : (k : ℕ) (zero above : Bool) (v i v' i' : Float) → T (fits binary64 v) → T (fits binary64 i) → Times k v v' → Times k i i'
    → T (finite (price_from zero above v' i')) → Times k (price_from zero above v i) (price_from zero above v' i')
price_from_times k true true v i v' i' F G hv hi p = hi
price_from_times k true false v i v' i' F G hv hi p = times_zero k
price_from_times k false true v i v' i' F G hv hi p = add_times binary64 k v i v' i' F G hv hi p
price_from_times k false false v i v' i' F G hv hi p = hv

-- ---- forward and strike scaled by 2 ^ (n + n)
module _ (n : ℕ) (f k f' k' : Float) (h : BoundedRatio f k) (h' : BoundedRatio f' k') (hf : Times (n + n) f f') (hk : Times (n + n) k k') where
  pub intrinsic_times : (side : ℕ) → Times (n + n) (intrinsic_value side f k) (intrinsic_value side f' k')
  intrinsic_times side = go (eqb side 0)
    where
      go : (call : Bool) → Times (n + n) (cond call (f ⊖ k) (k ⊖ f)) (cond call (f' ⊖ k') (k' ⊖ f'))
      go true =
          sub_times binary64 (n + n) f k f' k' h.forward.held h.strike.held hf hk (difference_finite f' k' h'.forward h'.strike)
      go false =
          sub_times binary64 (n + n) k f k' f' h.strike.held h.forward.held hk hf (difference_finite k' f' h'.strike h'.forward)

pub one_of : {P Q R : Type 0} → (P × Q) ⊎ R → P ⊎ R
one_of (inl (l, l')) = inl l
one_of (inr z) = inr z

module _ (n : ℕ) (f k f' k' s : Float) (h : BoundedRatio f k) (h' : BoundedRatio f' k') (hf : Times (n + n) f f') (hk : Times (n + n) k k') where
  value_times : BothAboveOrZero (time_value f k s) (time_value f' k' s) → Times (n + n) (time_value f k s) (time_value f' k' s)
  unfolding time_value
  value_times q =
      let x = negative_abs_log_moneyness f k in
      let r = sqrt f ⊗ sqrt k in
      let r' = sqrt f' ⊗ sqrt k' in
      let b = normalised_black (x ⊘ two) (x ⊘ s) (s ⊘ two) in
      let same : time_value f' k' s ≡ r' ⊗ b = rw (log_times (n + n) f k f' k' h h' hf hk) in
      let roots : Times (n + n) r r' = roots_times n f k f' k' h.forward h.strike h'.forward h'.strike hf hk in
      let w : BothAboveOrZero (r ⊗ b) (r' ⊗ b) = subst (BothAboveOrZero (r ⊗ b)) same q in
      subst (Times (n + n) (r ⊗ b)) (sym same) (product_times (n + n) r r' b roots w.first_finite w.second_finite (one_of w.above_or_zero))

  pub price_times : (side : ℕ) → BothAboveOrZero (time_value f k s) (time_value f' k' s) → T (finite (price_of side f' k' s))
      → Times (n + n) (price_of side f k s) (price_of side f' k' s)
  unfolding price_of
  price_times side q p =
      let i = intrinsic_value side f k in
      let i' = intrinsic_value side f' k' in
      let scaled = intrinsic_times n f k f' k' h h' hf hk side in
      let same : lt plus_zero i' ≡ lt plus_zero i = lt_times (n + n) plus_zero i plus_zero i' (times_zero (n + n)) scaled in
      rw same
      (price_from_times (n + n) (eq s plus_zero) (lt plus_zero i) (time_value f k s) i (time_value f' k' s) i' value_fits (intrinsic_fits (eqb side 0))
      (value_times q) scaled (rw same at p))
    where
      value_fits : T (fits binary64 (time_value f k s))
      value_fits = unfold time_value in mul-fits binary64 _ _

      intrinsic_fits : (call : Bool) → T (fits binary64 (cond call (f ⊖ k) (k ⊖ f)))
      intrinsic_fits call = in_both (λ (z : Float). T (fits binary64 z)) call (sub-fits binary64 f k) (sub-fits binary64 k f)

-- ---- from `Times` to `Exactly`
up_fraction : (n nx dx ny dy : ℕ) → ny * dx ≡ nx * 2 ^ (n + n) * dy → ny * dx ≡ nx * dy * 4 ^ n
up_fraction n nx dx ny dy e = e ∙ mul_right_comm nx (2 ^ (n + n)) dy ∙ ap (λ (z : ℕ). nx * dy * z) (sym (four_square n))

pub times_up : (n : ℕ) (x y : Float) → Times (n + n) x y → Exactly (pos n) x y
times_up n x y h = record {
  finite_x = h.finite_l;
  finite_y = h.finite_r;
  fraction = mul-one (num y * den x) ∙ up_fraction n (num x) (den x) (num y) (den y) h.value;
  signs = inr h.sign;
}

pub times_down : (n : ℕ) (x y : Float) → Times (suc n + suc n) y x → Exactly (negsuc n) x y
times_down n x y h = record {
  finite_x = h.finite_r;
  finite_y = h.finite_l;
  fraction = sym (mul-one (num x * den y) ∙ up_fraction (suc n) (num y) (den y) (num x) (den x) h.value);
  signs = inr (sym h.sign);
}

-- ---- a reply that is a price
pub price_is : (side : ℕ) (v f k t p : Float) → black_price side v f k t ≡ price p
    → (eqb (price_refusal side v f k t) 0 ≡ true) × (price_of side f k (v ⊗ sqrt t) ≡ p)
unfolding black_price
price_is side v f k t p e = go (eqb (price_refusal side v f k t) 0) _ _ e
  where
    go : (b : Bool) (q : Float) (m : ℕ) → cond b (price q) (refusal m 0) ≡ price p → (b ≡ true) × (q ≡ p)
    go true q m e = (refl, cc)
    go false q m e = never (cc)

tests_alike : (side : ℕ) (v f k t f' k' : Float) → BoundedRatio f k → BoundedRatio f' k' → price_refusal side v f' k' t ≡ price_refusal side v f k t
unfolding price_refusal first_refusal
tests_alike side v f k t f' k' h h' =
    rw (
      is_true (finite f) h.forward.bounded,
      is_true (finite k) h.strike.bounded,
      is_true (finite f') h'.forward.bounded,
      is_true (finite k') h'.strike.bounded,
      above_plus_zero f h.forward,
      above_plus_zero k h.strike,
      above_plus_zero f' h'.forward,
      above_plus_zero k' h'.strike,
    )

pub turned : (v v' : Float) → AboveOrZero v v' → AboveOrZero v' v
turned v v' (inl (l, l')) = inl (l', l)
turned v v' (inr (z, z')) = inr (z', z)

pub flipped : (v v' : Float) → BothAboveOrZero v v' → BothAboveOrZero v' v
flipped v v' q = record { first_finite = q.second_finite; second_finite = q.first_finite; above_or_zero = turned v v' q.above_or_zero }

-- ---- the law of 4 ^ n, for figures of any bits and a side of any number: forward and strike of the second are exactly 4 ^ n times the first's
module _ (n : ℤ) (side v f k t f' k' : ℕ) (h : ComparablePair (bits f) (bits k)) (h' : ComparablePair (bits f') (bits k'))
    (e : Exactly n (bits f) (bits f')) (g : Exactly n (bits k) (bits k')) where
  -- one number, 0 where there is a price
  pub same_number : price_refusal side (bits v) (bits f') (bits k') (bits t) ≡ price_refusal side (bits v) (bits f) (bits k) (bits t)
  same_number = tests_alike side (bits v) (bits f) (bits k) (bits t) (bits f') (bits k') (comparable_ratio f k h) (comparable_ratio f' k' h')
