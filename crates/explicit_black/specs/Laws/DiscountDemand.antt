-- What demand 3 for quotes with discount factors (REQUIREMENTS 14.7) rests on: factors that are equal, and quotes whose first refusals are one. And minus zero
-- as price, and why both divided prices are to be above 2 ^ -1022. Demand 3 itself follows in proofs/DiscountDemand.antt. Assumes nothing.
use Rattle.std.specs.Prelude.{◌≡◌, ◌||◌, ◌⊎◌, ℕ, zero, suc, ◌*◌, ◌<◌, Bool, true, false, cond, ℤ, pos, T, eqb, Float}
use Rattle.std.proofs.Math.Path.{refl}
use Rattle.std.proofs.Common.{sym, ap, ◌∙◌, subst, inl, inr, lt_irrefl, zero-mul, eq-zero-or-pos, eqb→eq, lit≤}
use Rattle.std.proofs.Math.Nat.{eq_of_mul-eq-mul_right}
use Rattle.std.proofs.Math.Dec.{eqb-suc-zero}
use Rattle.std.specs.Float.{nan, inf, fin, binary64}
use Rattle.std.specs.Float.Ieee.{fits, sub, div, lt, le, eq, is_nan, of_bits}
use Rattle.std.specs.Float.Ieee.Fits.{div-fits, and_l, eq→eqb}
use Rattle.std.specs.Float.Ieee.Scale.{finite}
use Rattle.std.specs.Float.Ieee.Positive.{num, den, den_pos, positive}
use Rattle.arithmetic.specs.Operations.{◌⊘◌, bits, plus_zero, two, min_positive}
use Rattle.arithmetic.specs.Basic.{is_sign_minus, max, is_finite}
use Rattle.arithmetic.specs.Laws.Times.{num_positive}
use Rattle.arithmetic.specs.Laws.Compare.{above_zero}
use Rattle.arithmetic.specs.Laws.Zeros.{zero_of, zero_by_sign, equal_same}
use Rattle.bs_option_price.specs.Laws.Moneyness.{BoundedRatio}
use Rattle.inverse_gaussian.specs.Counted.{at_once}
use Rattle.explicit_black.specs.Quote.{refused, answer, refusal, volatility_over, reply, first_refusal, from_price, from_figures}
use Rattle.explicit_black.specs.Demand.{Exactly, ComparableFigures, ComparableTimes}
use Rattle.explicit_black.specs.Discount.{discounted_refusal, from_discounted_quote, implied_black_volatility_discounted}
use Rattle.explicit_black.specs.Laws.ZeroPrice.{minus_zero}
use Rattle.explicit_black.specs.Laws.Powers.{comparable_pair, comparable, exactly_at_one}
use Rattle.explicit_black.specs.Laws.Demand.{times_tested, first_refusal_is, after_tests, swapped, exchanged}
use Rattle.explicit_black.specs.Laws.Demand.{zero_after_tests}
use Rattle.explicit_black.specs.Laws.Discount.{test15, factor_not_finite, factor_tested_last, discounted_passed, past_tests}
use Rattle.explicit_black.specs.Laws.DividedPrices.{zero_quotient}

-- ---- two factors that are equal: tests 2 and 15 say the same of them, and they are the same where they are above 0
pub record SameFactor (d d' : Float) : Type 0 where
  pub finite_alike : is_finite d' ≡ is_finite d
  pub above_alike : lt plus_zero d' ≡ lt plus_zero d
  pub same : T (positive d) → d' ≡ d

one_factor : (d d' : Float) → d' ≡ d → SameFactor d d'
one_factor d d' e = record { finite_alike = ap is_finite e; above_alike = ap (lt plus_zero) e; same = λ D. e }

zero_not_above : (v : Float) → T (fits binary64 v) → T (finite v) → num v ≡ 0 → lt plus_zero v ≡ false
unfolding lt of_bits
zero_not_above v F p z = ap (lt plus_zero) (zero_by_sign v F p z) ∙ go (is_sign_minus v)
  where
    go : (s : Bool) → lt plus_zero (zero_of s) ≡ false
    go true = refl
    go false = refl

pub equal_factors : (d d' : Float) → T (fits binary64 d) → T (fits binary64 d') → T (eq d d') → SameFactor d d'
unfolding eq
equal_factors nan d' F F' e = absurd e
equal_factors (inf s) nan F F' e = absurd e
equal_factors (inf true) (inf true) F F' e = one_factor _ _ refl
equal_factors (inf true) (inf false) F F' e = absurd e
equal_factors (inf false) (inf true) F F' e = absurd e
equal_factors (inf false) (inf false) F F' e = one_factor _ _ refl
equal_factors (inf s) (fin t n x) F F' e = absurd e
equal_factors (fin s m x) nan F F' e = absurd e
equal_factors (fin s m x) (inf t) F F' e = absurd e
equal_factors (fin s m x) (fin t n y) F F' e = go (eq-zero-or-pos (num d))
  where
    d : Float
    d = fin s m x

    d' : Float
    d' = fin t n y

    go : (num d ≡ 0) ⊎ (0 < num d) → SameFactor d d'
    go (inr l) = one_factor d d' (sym (equal_same d d' F F' tt tt e (λ z. lt_irrefl 0 (subst (λ (i : ℕ). 0 < i) z l))))
    go (inl z) =
        let cross : num d * den d' ≡ num d' * den d = eqb→eq _ _ (and_l (eqb (num d * den d') (num d' * den d)) _ e) in
        let z' : num d' ≡ 0 =
        eq_of_mul-eq-mul_right (den d) (den_pos d) (num d') 0 (sym cross ∙ ap (λ (i : ℕ). i * den d') z ∙ zero-mul (den d') ∙ sym (zero-mul (den d))) in
        record {
          finite_alike = refl;
          above_alike = zero_not_above d' F' tt z' ∙ sym (zero_not_above d F tt z);
          same = λ D. absurd (lt_irrefl 0 (subst (λ (i : ℕ). 0 < i) z (num_positive d D)));
        }

-- ---- two quotes whose first refusals are one agree where what follows their tests does
after_tests_lem : (side side' : ℕ) (p f k t d p' f' k' t' d' : Float) → discounted_refusal side' p' f' k' t' d' ≡ discounted_refusal side p f k t d
    → (T (positive d) → from_figures side' (p' ⊘ d') f' k' t' ≡ from_figures side (p ⊘ d) f k t)
    → from_discounted_quote side' p' f' k' t' d' ≡ from_discounted_quote side p f k t d
after_tests_lem side side' p f k t d p' f' k' t' d' e same = go (discounted_refusal side p f k t d) refl
  where
    go : (n : ℕ) → discounted_refusal side p f k t d ≡ n → from_discounted_quote side' p' f' k' t' d' ≡ from_discounted_quote side p f k t d
    go zero i =
        let h = discounted_passed side p f k t d i in
        past_tests side' p' f' k' t' d' (discounted_passed side' p' f' k' t' d' (e ∙ i))
        ∙ same (above_zero d (subst T (sym h.factor_finite) tt) h.factor_above)
        ∙ sym (past_tests side p f k t d h)
    go (suc n) i = unfold from_discounted_quote in rw (e, i, eqb-suc-zero n)

-- ---- demand 3 for values of binary64, where it holds of what follows the tests, on the same side, for every forward and strike
module _ (n : ℤ) (p f k t d p' f' k' t' d' : Float) (P : T (finite p)) (P' : T (finite p')) (h : BoundedRatio f k) (h' : BoundedRatio f' k')
    (w : ComparableTimes t t') (c : SameFactor d d')
    (figures : T (positive d) → (call : Bool) (f' k' : Float) → BoundedRatio f' k' → Exactly n f f' → Exactly n k k'
    → after_tests call (p' ⊘ d') f' k' t' ≡ after_tests call (p ⊘ d) f k t) where
  -- the first refusals are one, by side and factor alone
  numbers : (side side' : ℕ) → (eqb side' 0 || eqb side' 1) ≡ (eqb side 0 || eqb side 1)
      → discounted_refusal side' p' f' k' t' d' ≡ discounted_refusal side p f k t d
  numbers side side' e = go (is_finite d) refl
    where
      first : first_refusal side' p' f' k' t' ≡ first_refusal side p f k t
      first =
          let (z, u, v) = times_tested t t' w in
          first_refusal_is side' p' f' k' t' z P' h' v ∙ ap (λ (b : Bool). cond b 0 1) e ∙ sym (first_refusal_is side p f k t z P h u)

      go : (b : Bool) → is_finite d ≡ b → discounted_refusal side' p' f' k' t' d' ≡ discounted_refusal side p f k t d
      go true i =
          factor_tested_last side' p' f' k' t' d' (c.finite_alike ∙ i)
          ∙ ap (λ (n : ℕ). cond (eqb n 0) (test15 d') n) first
          ∙ ap (λ (b : Bool). cond (eqb (first_refusal side p f k t) 0) (cond b 0 15) (first_refusal side p f k t)) c.above_alike
          ∙ sym (factor_tested_last side p f k t d i)
      go false i =
          factor_not_finite side' p' f' k' t' d' (c.finite_alike ∙ i)
          ∙ ap (λ (b : Bool). cond b 2 1) e
          ∙ sym (factor_not_finite side p f k t d i)

  pub same_discounted : (side : ℕ) → Exactly n f f' → Exactly n k k' → from_discounted_quote side p' f' k' t' d' ≡ from_discounted_quote side p f k t d
  same_discounted side g i =
      after_tests_lem side side p f k t d p' f' k' t' d' (numbers side side refl) (λ D. figures D (eqb side 0) f' k' h' g i)

  pub other_discounted : Exactly n k f' → Exactly n f k' → (from_discounted_quote 1 p' f' k' t' d' ≡ from_discounted_quote 0 p f k t d)
      × (from_discounted_quote 0 p' f' k' t' d' ≡ from_discounted_quote 1 p f k t d)
  other_discounted g i = (
    after_tests_lem 0 1 p f k t d p' f' k' t' d' (numbers 0 1 refl) (λ D. exchanged true (p' ⊘ d') f' k' t' h' ∙ figures D true k' f' (swapped f' k' h') i g),
    after_tests_lem 1 0 p f k t d p' f' k' t' d' (numbers 1 0 refl) (λ D. exchanged false (p' ⊘ d') f' k' t' h' ∙ figures D false k' f' (swapped f' k' h') i g),
  )

-- ---- MINUS ZERO AS PRICE IS ZERO, for a side of any number and other figures of any bits, the factor too: the replies are the same
zero_divided : (side : ℕ) (s : Bool) (f k t d : Float) → T (positive d) → from_figures side (zero_of s ⊘ d) f k t ≡ from_figures side (zero_of false) f k t
zero_divided side s f k t d D =
    let z = zero_quotient (zero_of s) d tt D refl in
    zero_after_tests (eqb side 0) (zero_of s ⊘ d) f k t (div-fits binary64 (zero_of s) d) z.bounded z.vanishes

zeros_alike : (side : ℕ) (f k t d : Float) → from_discounted_quote side (zero_of true) f k t d ≡ from_discounted_quote side (zero_of false) f k t d
unfolding from_discounted_quote
zeros_alike side f k t d = rw same (go (discounted_refusal side (zero_of false) f k t d) refl)
  where
    same : discounted_refusal side (zero_of true) f k t d ≡ discounted_refusal side (zero_of false) f k t d
    same = unfold discounted_refusal in refl

    go : (n : ℕ) → discounted_refusal side (zero_of false) f k t d ≡ n
        → cond (eqb n 0) (from_figures side (zero_of true ⊘ d) f k t) (at_once (refused n))
        ≡ cond (eqb n 0) (from_figures side (zero_of false ⊘ d) f k t) (at_once (refused n))
    go zero i =
        let h = discounted_passed side (zero_of false) f k t d i in
        let D = above_zero d (subst T (sym h.factor_finite) tt) h.factor_above in
        zero_divided side true f k t d D ∙ sym (zero_divided side false f k t d D)
    go (suc n) i = rw (eqb-suc-zero n)

pub discounted_of_minus_zero : (side : ℕ) (f k t d : Float)
    → implied_black_volatility_discounted side minus_zero f k t d ≡ implied_black_volatility_discounted side plus_zero f k t d
unfolding implied_black_volatility_discounted of_bits
discounted_of_minus_zero side f k t d = ap (reply t) (zeros_alike side f k t d)

-- the call 0 1.91 100 120 1 1.9 and the put 1 7.640000000000001 480 400 1 1.9: the divided prices are exactly 4 times each other, and the prices are not
abbrev pub call_discounted : ℕ
call_discounted = 0x3FFE_8F5C_28F5_C28F

abbrev pub put_discounted : ℕ
put_discounted = 0x401E_8F5C_28F5_C290

abbrev pub factor_bits : ℕ
factor_bits = 0x3FFE_6666_6666_6666

pub prices_not_scaled : Exactly (pos 1) (bits call_discounted) (bits put_discounted) → ⊥
unfolding of_bits
prices_not_scaled e = absurd (eq→eqb e.fraction)

-- ---- why both quotients are above 2 ^ -1022, and not at least: (2 ^ 53 - 1) * 2 ^ -1075 rounds to 2 ^ -1022, and 4 times it is a value. Two calls at time
-- zero meet every other term of `scaled_agree`; the first has the intrinsic value as its divided price, and the second has not.
abbrev first_price : ℕ
first_price = 0x001F_FFFF_FFFF_FFFF

abbrev second_price : ℕ
second_price = 0x003F_FFFF_FFFF_FFFF

-- 2 ^ -1021 and 2 ^ -1022, and 4 times each
abbrev first_forward : ℕ
first_forward = 0x0020_0000_0000_0000

abbrev first_strike : ℕ
first_strike = 0x0010_0000_0000_0000

abbrev second_forward : ℕ
second_forward = 0x0040_0000_0000_0000

abbrev second_strike : ℕ
second_strike = 0x0030_0000_0000_0000

pub record AtTheLimit : Type 0 where
  pub first_comparable : ComparableFigures (bits first_price) (bits first_forward) (bits first_strike)
  pub second_comparable : ComparableFigures (bits second_price) (bits second_forward) (bits second_strike)
  pub price_scaled : Exactly (pos 1) (bits first_price) (bits second_price)
  pub forward_scaled : Exactly (pos 1) (bits first_forward) (bits second_forward)
  pub strike_scaled : Exactly (pos 1) (bits first_strike) (bits second_strike)
  pub first_quotient : bits first_price ⊘ two ≡ min_positive
  pub second_quotient : bits second_price ⊘ two ≡ bits 0x002F_FFFF_FFFF_FFFF
  pub first_reply : implied_black_volatility_discounted 0 (bits first_price) (bits first_forward) (bits first_strike) plus_zero two ≡ answer plus_zero plus_zero 0
  pub second_reply : implied_black_volatility_discounted 0 (bits second_price) (bits second_forward) (bits second_strike) plus_zero two ≡ refusal 5 0

pub at_the_limit : AtTheLimit
unfolding implied_black_volatility_discounted from_discounted_quote discounted_refusal from_price volatility_over max sub div lt le eq is_nan of_bits
at_the_limit = record {
  first_comparable = comparable _ _ _ tt tt (comparable_pair _ _ tt tt tt tt (lit≤ tt) (lit≤ tt));
  second_comparable = comparable _ _ _ tt tt (comparable_pair _ _ tt tt tt tt (lit≤ tt) (lit≤ tt));
  price_scaled = exactly_at_one _ _ tt tt refl refl;
  forward_scaled = exactly_at_one _ _ tt tt refl refl;
  strike_scaled = exactly_at_one _ _ tt tt refl refl;
  first_quotient = refl;
  second_quotient = refl;
  first_reply = refl;
  second_reply = refl;
}
