-- No price is NaN (REQUIREMENTS 14.1): what is not refused has a price that is a number, although it may be infinite. And the case s = 0 of the definition
-- is what its formula gives there. Assumes nothing.
use Rattle.std.specs.Prelude.{◌≡◌, ℕ, zero, suc, ◌*◌, Bool, true, cond, eqb, Float}
use Rattle.std.proofs.Math.Path.{refl, subst}
use Rattle.std.proofs.Common.{sym, ap, ◌∙◌, mul-zero, mul-pos}
use Rattle.std.proofs.Math.Bool.{false, true≢false}
use Rattle.std.proofs.lemmas.Bool.{false≢true}
use Rattle.std.proofs.Math.Dec.{T, eqb-suc-zero}
use Rattle.std.specs.Float.{nan, inf, fin, binary64}
use Rattle.std.specs.Float.Ieee.{unlike, add, div, lt, eq, is_nan, fits, of_bits}
use Rattle.std.specs.Float.Ieee.Fits.{sub-fits}
use Rattle.std.specs.Float.Ieee.Bits.{is_true, of_bits-fits}
use Rattle.std.specs.Float.Ieee.Scale.{finite}
use Rattle.std.specs.Float.Ieee.Positive.{num, den, den_pos, positive, positive-finite}
use Rattle.arithmetic.specs.Operations.{◌⊕◌, ◌⊖◌, ◌⊗◌, ◌⊘◌, bits, plus_zero, two}
use Rattle.arithmetic.specs.Basic.{is_sign_minus, is_finite}
use Rattle.arithmetic.specs.Sqrt.{sqrt}
use Rattle.arithmetic.specs.Laws.Choices.{in_both, by_test, refuted}
use Rattle.arithmetic.specs.Laws.Times.{positive_sign}
use Rattle.arithmetic.specs.Laws.Compare.{above_zero, finite_no_nan}
use Rattle.arithmetic.specs.Laws.Sums.{sub_finite}
use Rattle.arithmetic.specs.Laws.Products.{mul_is}
use Rattle.arithmetic.specs.Laws.Bounds.{round_to_zero}
use Rattle.arithmetic.specs.Laws.Sizes.{apart_by, sum_size}
use Rattle.arithmetic.specs.Laws.Quotients.{round_no_nan}
use Rattle.arithmetic.specs.Laws.ScaledProducts.{zero_num}
use Rattle.arithmetic.specs.Laws.SqrtBounds.{roots_positive}
use Rattle.arithmetic.specs.Laws.Zeros.{zero_of, plus_zero_is, zero_by_sign, zero_plus}
use Rattle.bs_option_price.specs.BsOptionPrice.{normalised_black}
use Rattle.bs_option_price.specs.Laws.MoneynessBounds.{PositiveValue}
use Rattle.bs_option_price.specs.Laws.NoNan.{time_value_no_nan}
use Rattle.explicit_black.specs.Quote.{first_refusal, intrinsic_value}
use Rattle.explicit_black.specs.Price.{price, price_refusal, time_value, price_of, black_price}
use Rattle.explicit_black.specs.Laws.Quote.{Domain, passed, time_positive}
use Rattle.explicit_black.specs.Laws.Price.{price_is}

-- ---- sums and products that are numbers
add_no_nan : (v i : Float) → is_nan v ≡ false → T (finite i) → is_nan (v ⊕ i) ≡ false
unfolding add is_nan
add_no_nan nan i n p = absurd (true≢false n)
add_no_nan (inf s) nan n p = absurd p
add_no_nan (inf s) (inf t) n p = absurd p
add_no_nan (inf s) (fin t m d) n p = refl
add_no_nan (fin s m e) nan n p = absurd p
add_no_nan (fin s m e) (inf t) n p = absurd p
add_no_nan (fin s m e) (fin t j d) n p =
    let a = num (fin s m e) * den (fin t j d) in
    let b = num (fin t j d) * den (fin s m e) in
    let c = den (fin s m e) * den (fin t j d) in
    let (u, i) = sum_size s t a b c in
    ap is_nan i ∙ round_no_nan binary64 u (apart_by s t a b) c

-- a finite value times a zero is a zero
zero_product : (v : Float) (s : Bool) → T (finite v) → v ⊗ zero_of s ≡ zero_of (unlike (is_sign_minus v) s)
zero_product v s p =
    let z = zero_of s in
    mul_is binary64 v z p tt
    ∙ round_to_zero (unlike (is_sign_minus v) s) (num v * num z) (den v * den z) (rw (mul-zero (num v)) (mul-pos (den_pos v) (den_pos z)))

zero_equal : (s : Bool) → eq (zero_of s) plus_zero ≡ true
unfolding eq of_bits
zero_equal true = refl
zero_equal false = refl

pub above_positive : (x : Float) → is_finite x ≡ true → lt plus_zero x ≡ true → T (positive x)
above_positive x p l = above_zero x (subst T (sym p) tt) l

-- ---- at time zero s is 0
root_of_zero : (s : Bool) → sqrt (zero_of s) ≡ zero_of s
unfolding sqrt
root_of_zero s = refl

zero_time : (v t : Float) → T (finite v) → T (finite t) → T (fits binary64 t) → eq t plus_zero ≡ true → eq (v ⊗ sqrt t) plus_zero ≡ true
zero_time v t p q F e =
    let s = is_sign_minus t in
    let i : t ≡ zero_of s = zero_by_sign t F q (zero_num t q (subst T (sym e) tt)) in
    ap (λ (z : Float). eq (v ⊗ z) plus_zero) (ap sqrt i ∙ root_of_zero s)
    ∙ ap (λ (z : Float). eq z plus_zero) (zero_product v s p)
    ∙ zero_equal (unlike (is_sign_minus v) s)

-- ---- the figures of a record that has a price
refusal_passed : (side : ℕ) (v f k t : Float) → eqb (price_refusal side v f k t) 0 ≡ true → Domain side v f k t × (lt v plus_zero ≡ false)
unfolding price_refusal
refusal_passed side v f k t e =
    let n = first_refusal side v f k t in
    let q = go n (lt v plus_zero) e in
    (passed side v f k t q.0, q.1)
  where
    go : (n : ℕ) (b : Bool) → eqb (cond (eqb n 0) (cond b 11 0) n) 0 ≡ true → (n ≡ 0) × (b ≡ false)
    go zero true e = absurd (false≢true e)
    go zero false e = (refl, refl)
    go (suc n) b e = absurd (false≢true (rw (eqb-suc-zero n, eqb-suc-zero n) at e))

-- the intrinsic value
pub difference_finite : (x y : Float) → PositiveValue x → PositiveValue y → T (finite (x ⊖ y))
difference_finite x y o q =
    sub_finite binary64 x y o.held q.held (positive-finite x o.above) (positive-finite y q.above)
    (positive_sign x o.above) (positive_sign y q.above)

intrinsic_finite : (side : ℕ) (f k : Float) → PositiveValue f → PositiveValue k → T (finite (intrinsic_value side f k))
intrinsic_finite side f k o q = in_both (λ (z : Float). T (finite z)) (eqb side 0) (difference_finite f k o q) (difference_finite k f q o)

module _ (side : ℕ) (v f k t : Float) (F : T (fits binary64 f)) (K : T (fits binary64 k)) (M : T (fits binary64 t)) (h : Domain side v f k t)
    (g : lt v plus_zero ≡ false) where
  forward : PositiveValue f
  forward = record { above = above_positive f h.forward_finite h.forward_above; held = F }

  strike : PositiveValue k
  strike = record { above = above_positive k h.strike_finite h.strike_above; held = K }

  abbrev s : Float
  s = v ⊗ sqrt t

  abbrev intrinsic : Float
  intrinsic = intrinsic_value side f k

  value_number : eq s plus_zero ≡ false → is_nan (time_value f k s) ≡ false
  unfolding time_value
  value_number e =
      let q = subst T (sym h.price_finite) tt in
      let r = subst T (sym h.time_finite) tt in
      let later : eq t plus_zero ≡ false = refuted (eq t plus_zero) (λ z. true≢false (sym (zero_time v t q r M (is_true (eq t plus_zero) z)) ∙ e)) in
      time_value_no_nan f k forward strike v t (finite_no_nan v q) g
      (record { above = time_positive t h.time_finite h.time_not_below later; held = M })

  abbrev IsNumber : Float → Type 0
  IsNumber x = is_nan x ≡ false

  price_number : IsNumber (price_of side f k s)
  unfolding price_of
  price_number =
      let p = intrinsic_finite side f k forward strike in
      let i = finite_no_nan intrinsic p in
      by_test IsNumber (eq s plus_zero) (λ e. in_both IsNumber (lt plus_zero intrinsic) i zero_number)
      (λ e. in_both IsNumber (lt plus_zero intrinsic) (add_no_nan (time_value f k s) intrinsic (value_number e) p) (value_number e))
    where
      zero_number : IsNumber plus_zero
      zero_number = unfold is_nan of_bits in refl

-- ---- NO PRICE IS NaN, for figures of any bits and a side of any number
pub price_no_nan : (side v f k t : ℕ) (p : Float) → black_price side (bits v) (bits f) (bits k) (bits t) ≡ price p → is_nan p ≡ false
price_no_nan side v f k t p e =
    let (n, i) = price_is side (bits v) (bits f) (bits k) (bits t) p e in
    let (h, g) = refusal_passed side (bits v) (bits f) (bits k) (bits t) n in
    subst (λ (z : Float). is_nan z ≡ false) i
    (price_number side (bits v) (bits f) (bits k) (bits t) (of_bits-fits binary64 f) (of_bits-fits binary64 k) (of_bits-fits binary64 t) h g)

-- ---- THE CASE s = 0 of the definition is what the formula gives there: the time value is +0, and adds nothing
half_of_zero : (b : Bool) → eq (zero_of b ⊘ two) plus_zero ≡ true
unfolding div eq of_bits
half_of_zero true = refl
half_of_zero false = refl

value_at_zero : (f k s : Float) → PositiveValue f → PositiveValue k → T (fits binary64 s) → T (finite s) → T (eq s plus_zero) → time_value f k s ≡ plus_zero
unfolding time_value normalised_black
value_at_zero f k s o q F p e =
    let b = is_sign_minus s in
    let i : s ≡ zero_of b = zero_by_sign s F p (zero_num s p e) in
    let r = sqrt f ⊗ sqrt k in
    let above = roots_positive f k o.above o.held q.above q.held in
    rw (i, half_of_zero b, plus_zero_is) (zero_product r false (positive-finite r above) ∙ ap (λ (u : Bool). zero_of (unlike u false)) (positive_sign r above))

zero_sum : (i : Float) → T (positive i) → T (fits binary64 i) → plus_zero ⊕ i ≡ i
zero_sum nan p F = absurd p
zero_sum (inf s) p F = absurd p
zero_sum (fin true m e) p F = absurd p
zero_sum (fin false zero e) p F = absurd p
zero_sum (fin false (suc m) e) p F = ap (λ (z : Float). z ⊕ fin false (suc m) e) plus_zero_is ∙ zero_plus false false m e F

pub formula_at_zero : (side : ℕ) (f k s : Float) → PositiveValue f → PositiveValue k → T (fits binary64 s) → T (finite s) → T (eq s plus_zero) →
    let i = intrinsic_value side f k in
    price_of side f k s ≡ cond (lt plus_zero i) (time_value f k s ⊕ i) (time_value f k s)
unfolding price_of
formula_at_zero side f k s o q F p e =
    let i = intrinsic_value side f k in
    let r = is_true (finite i) (intrinsic_finite side f k o q) in
    rw (is_true (eq s plus_zero) e, value_at_zero f k s o q F p e) (go i (lt plus_zero i) (λ l. zero_sum i (above_positive i r l) held))
  where
    held : T (fits binary64 (intrinsic_value side f k))
    held = in_both (λ (z : Float). T (fits binary64 z)) (eqb side 0) (sub-fits binary64 f k) (sub-fits binary64 k f)

    go : (i : Float) (b : Bool) → (b ≡ true → plus_zero ⊕ i ≡ i) → cond b i plus_zero ≡ cond b (plus_zero ⊕ i) plus_zero
    go i true z = sym (z refl)
    go i false z = refl
