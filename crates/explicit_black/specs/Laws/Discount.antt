-- A quote with a discount factor (REQUIREMENTS 14.7): its first refusal, and what holds of every reply; it is the quote of the divided price where that is
-- finite, and is refused where the quotient overflows; with factor 1 it is the quote without one. Assumes nothing.
use Rattle.std.proofs.Math.Path.{◌≡◌, refl, sym, ap}
use Rattle.std.proofs.Common.{◌∙◌, subst, arith, lit≤}
use Rattle.std.specs.Prelude.{◌⊎◌, Bool, not, ◌&&◌, ◌||◌, Float}
use Rattle.std.proofs.Math.Logic.{inl, inr}
use Prim.Native.Nat.{ℕ, zero, suc, ◌≤◌}
use Rattle.std.proofs.Math.Bool.{true, false, cond, true≢false}
use Rattle.std.proofs.Math.Dec.{T, eqb, eqb-suc-zero}
use Rattle.std.specs.Float.{nan, inf, fin, binary64}
use Rattle.std.specs.Float.Ieee.{fits, sub, div, lt, le, eq, is_nan, of_bits}
use Rattle.std.specs.Float.Ieee.Bits.{of_bits-fits}
use Rattle.std.specs.Float.Ieee.Scale.{finite}
use Rattle.std.specs.Float.Ieee.Positive.{positive, positive-finite}
use Rattle.arithmetic.specs.Operations.{◌⊖◌, ◌⊗◌, ◌⊘◌, bits, plus_zero, one}
use Rattle.arithmetic.specs.Basic.{abs, max, takes_first, is_finite}
use Rattle.arithmetic.specs.Sqrt.{sqrt}
use Rattle.arithmetic.specs.Laws.Choices.{in_both, never}
use Rattle.arithmetic.specs.Laws.Compare.{finite_no_nan}
use Rattle.arithmetic.specs.Laws.Extremes.{max_is}
use Rattle.arithmetic.specs.Laws.Quotients.{div_no_nan, over_one}
use Rattle.arithmetic.specs.Laws.SqrtBounds.{roots_positive}
use Rattle.bs_option_price.specs.BsOptionPrice.{negative_abs_log_moneyness}
use Rattle.bs_option_price.specs.Laws.MoneynessBounds.{PositiveValue}
use Rattle.inverse_gaussian.specs.Counted.{Counted, at_once}
use Rattle.explicit_black.specs.Quote.{Outcome, refused, answer, refusal, reply, first_refusal, normalised_time_value}
use Rattle.explicit_black.specs.Quote.{from_time_value, from_figures, from_quote, implied_black_volatility_input}
use Rattle.explicit_black.specs.Discount.{discounted_refusal, from_discounted_quote, implied_black_volatility_discounted}
use Rattle.explicit_black.specs.Demand.{compared}
use Rattle.explicit_black.specs.Laws.Tests.{from_price_is}
use Rattle.explicit_black.specs.Laws.Quote.{Domain, first_of, passed, domain_passes, first_refusal_le, figures_kind, by_number}
use Rattle.explicit_black.specs.Laws.Quote.{OneToNine, FactsOf, kind_facts, refused_facts, kind_count, FiguresAreNumbers, kind_numbers, compared_reply}
use Rattle.explicit_black.specs.Laws.Quote.{kind_refused, NoSearch, money_figures}
use Rattle.explicit_black.specs.Laws.Kinds.{Kind}
use Rattle.explicit_black.specs.Laws.PriceNumbers.{above_positive, difference_finite}
use Rattle.explicit_black.specs.Laws.Demand.{after_tests}

-- ---- infinities as prices
infinite_not_equal : (s : Bool) (y : Float) → T (finite y) → eq (inf s) y ≡ false
unfolding eq
infinite_not_equal s nan p = refl
infinite_not_equal s (inf t) p = absurd p
infinite_not_equal s (fin t m e) p = refl

at_most_infinity : (b : Float) → T (finite b) → le b (inf false) ≡ true
unfolding le lt
at_most_infinity nan p = absurd p
at_most_infinity (inf s) p = absurd p
at_most_infinity (fin s m e) p = refl

not_minus_infinity : (b : Float) → T (finite b) → le b (inf true) ≡ false
unfolding le lt eq
not_minus_infinity nan p = absurd p
not_minus_infinity (inf s) p = absurd p
not_minus_infinity (fin s m e) p = refl

less_finite : (s : Bool) (d : Float) → T (finite d) → inf s ⊖ d ≡ inf s
unfolding sub
less_finite s nan p = absurd p
less_finite s (inf t) p = absurd p
less_finite s (fin t m e) p = refl

over_root : (s : Bool) (r : Float) → T (positive r) → inf s ⊘ r ≡ inf s
unfolding div
over_root s nan p = absurd p
over_root s (inf t) p = absurd p
over_root true (fin false m e) p = refl
over_root false (fin false m e) p = refl
over_root s (fin true m e) p = absurd p

pub zero_finite : T (finite plus_zero)
unfolding of_bits
zero_finite = tt

max_finite_lem : (x y : Float) → T (finite x) → T (finite y) → T (finite (max x y))
max_finite_lem x y p q = subst (λ (z : Float). T (finite z)) (sym (max_is x y p q)) (in_both (λ (z : Float). T (finite z)) (takes_first x y) p q)

infinite_time_value : (x i r : Float) → T (finite i) → T (positive r) → from_time_value x (normalised_time_value (inf true) i r) ≡ at_once (refused 7)
infinite_time_value x i r p q = ap (from_time_value x) value ∙ below
  where
    value : normalised_time_value (inf true) i r ≡ inf true
    value = ap (λ (z : Float). z ⊘ r) (in_both (λ (z : Float). z ≡ inf true) (lt plus_zero i) (less_finite true i p) refl) ∙ over_root true r q

    below : from_time_value x (inf true) ≡ at_once (refused 7)
    below = unfold from_time_value le lt of_bits in refl

-- what follows the tests where the price is infinite: 5 at time zero; else 6 where it is positive, and 7 where it is negative
module _ (call : Bool) (f k t : Float) (forward : PositiveValue f) (strike : PositiveValue k) where
  abbrev intrinsic : Float
  intrinsic = cond call (f ⊖ k) (k ⊖ f)

  abbrev bound : Float
  bound = cond call f k

  abbrev roots : Float
  roots = sqrt f ⊗ sqrt k

  intrinsic_bounded : T (finite intrinsic)
  intrinsic_bounded = in_both (λ (z : Float). T (finite z)) call (difference_finite f k forward strike) (difference_finite k f strike forward)

  bound_bounded : T (finite bound)
  bound_bounded = in_both (λ (z : Float). T (finite z)) call (positive-finite f forward.above) (positive-finite k strike.above)

  pub infinite_figures : (s : Bool) → after_tests call (inf s) f k t ≡ at_once (refused (cond (eq t plus_zero) 5 (cond s 7 6)))
  infinite_figures s =
      from_price_is (inf s) intrinsic bound roots (negative_abs_log_moneyness f k) t
      ∙ rw (
        infinite_not_equal s (max intrinsic plus_zero) (max_finite_lem intrinsic plus_zero intrinsic_bounded zero_finite),
        infinite_not_equal s bound bound_bounded,
      ) (go s (eq t plus_zero))
    where
      past : Bool → Counted Outcome
      past s = from_time_value (negative_abs_log_moneyness f k) (normalised_time_value (inf s) intrinsic roots)

      go : (s z : Bool) → cond z (at_once (refused 5)) (cond (le bound (inf s)) (at_once (refused 6)) (past s))
          ≡ at_once (refused (cond z 5 (cond s 7 6)))
      go s true = refl
      go false false = rw (at_most_infinity bound bound_bounded)
      go true false =
          rw (not_minus_infinity bound bound_bounded)
          (infinite_time_value (negative_abs_log_moneyness f k) intrinsic roots intrinsic_bounded
          (roots_positive f k forward.above forward.held strike.above strike.held))

-- the numbers of a quote's refusals
abbrev pub OneToNineOr15 : ℕ → Type 0
OneToNineOr15 m = OneToNine m ⊎ (m ≡ 15)

-- ---- the first refusal

-- figures that pass tests 1 to 4 and 15
pub record DiscountedDomain (side : ℕ) (price forward strike time factor : Float) : Type 0 where
  pub figures : Domain side price forward strike time
  pub factor_finite : is_finite factor ≡ true
  pub factor_above : lt plus_zero factor ≡ true

-- test 15: its number, or 0
abbrev pub test15 : Float → ℕ
test15 d = cond (lt plus_zero d) 0 15

module _ (side : ℕ) (p f k t d : Float) where
  -- a factor that is NaN or infinite: only test 1 comes before
  pub factor_not_finite : is_finite d ≡ false → discounted_refusal side p f k t d ≡ cond (eqb side 0 || eqb side 1) 2 1
  unfolding discounted_refusal
  factor_not_finite e = rw e (go (eqb side 0 || eqb side 1) (is_finite p && is_finite f && is_finite k && is_finite t) _)
    where
      go : (a b : Bool) (n : ℕ) → cond (not a) 1 (cond (not (b && false)) 2 n) ≡ cond a 2 1
      go true true n = refl
      go true false n = refl
      go false b n = refl

  -- a finite one: tests 1 to 4 are those without it, and test 15 follows
  pub factor_tested_last : is_finite d ≡ true
      → discounted_refusal side p f k t d ≡ cond (eqb (first_refusal side p f k t) 0) (test15 d) (first_refusal side p f k t)
  unfolding discounted_refusal first_refusal
  factor_tested_last e =
      rw e
      (go (eqb side 0 || eqb side 1) (is_finite p && is_finite f && is_finite k && is_finite t) (lt plus_zero f && lt plus_zero k) (lt t plus_zero) (lt plus_zero d))
    where
      go : (a b c u z : Bool) → cond (not a) 1 (cond (not (b && true)) 2 (cond (not c) 3 (cond u 4 (cond (not z) 15 0))))
          ≡ cond (eqb (first_of a b c u) 0) (cond z 0 15) (first_of a b c u)
      go false b c u z = refl
      go true false c u z = refl
      go true true false u z = refl
      go true true true true z = refl
      go true true true false true = refl
      go true true true false false = refl

  -- it is one of 1 to 4 or 15, or there is none
  pub discounted_number : (discounted_refusal side p f k t d ≤ 4) ⊎ (discounted_refusal side p f k t d ≡ 15)
  discounted_number = go (is_finite d) refl
    where
      Number : ℕ → Type 0
      Number m = (m ≤ 4) ⊎ (m ≡ 15)

      go : (b : Bool) → is_finite d ≡ b → Number (discounted_refusal side p f k t d)
      go false e = subst Number (sym (factor_not_finite e)) (inl (in_both (λ m. m ≤ 4) (eqb side 0 || eqb side 1) (lit≤ tt) (lit≤ tt)))
      go true e =
          subst Number (sym (factor_tested_last e))
          (in_both Number (eqb (first_refusal side p f k t) 0) (in_both Number (lt plus_zero d) (inl (lit≤ tt)) (inr refl)) (inl (first_refusal_le side p f k t)))

  pub discounted_passed : discounted_refusal side p f k t d ≡ 0 → DiscountedDomain side p f k t d
  discounted_passed e = go (is_finite d) refl
    where
      both : (n : ℕ) (z : Bool) → ◌≡◌ {A = ℕ} (cond (eqb n 0) (cond z 0 15) n) 0 → (n ≡ 0) × (z ≡ true)
      both zero true h = (refl, refl)
      both zero false h = absurd (omega arith)
      both (suc n) z h = absurd (omega (rw (eqb-suc-zero n) at h, arith))

      neither : (b : Bool) → ◌≡◌ {A = ℕ} (cond b 2 1) 0 → ⊥
      neither true h = omega arith
      neither false h = omega arith

      go : (b : Bool) → is_finite d ≡ b → DiscountedDomain side p f k t d
      go false h = absurd (neither (eqb side 0 || eqb side 1) (sym (factor_not_finite h) ∙ e))
      go true h =
          let (n, z) = both (first_refusal side p f k t) (lt plus_zero d) (sym (factor_tested_last h) ∙ e) in
          record { figures = passed side p f k t n; factor_finite = h; factor_above = z }

  pub discounted_passes : DiscountedDomain side p f k t d → discounted_refusal side p f k t d ≡ 0
  discounted_passes h = factor_tested_last h.factor_finite ∙ rw (domain_passes side p f k t h.figures, h.factor_above)

  -- ---- WHAT HOLDS OF EVERY REPLY
  by_discounted_refusal : (P : Counted Outcome → Type 0) → (DiscountedDomain side p f k t d → (c : Counted Outcome) → Kind 5 c → P c)
      → ((m : ℕ) → OneToNineOr15 m → P (at_once (refused m))) → P (from_discounted_quote side p f k t d)
  unfolding from_discounted_quote
  by_discounted_refusal P past stopped =
      by_number P (discounted_refusal side p f k t d) (from_figures side (p ⊘ d) f k t)
      (λ e. past (discounted_passed e) _ (figures_kind side (p ⊘ d) f k t)) (λ n. stopped _ (go _ n discounted_number))
    where
      go : (m : ℕ) → (m ≡ 0 → ⊥) → (m ≤ 4) ⊎ (m ≡ 15) → OneToNineOr15 m
      go m n (inl h) = inl (omega (arith, n), omega arith)
      go m n (inr h) = inr h

  pub discounted_count : (from_discounted_quote side p f k t d).count ≤ 2263
  discounted_count = by_discounted_refusal (λ c. c.count ≤ 2263) (λ e. kind_count) (λ m h. lit≤ tt)

  pub compared_discounted : compared (implied_black_volatility_discounted side p f k t d) ≡ from_discounted_quote side p f k t d
  unfolding implied_black_volatility_discounted
  compared_discounted = compared_reply t (from_discounted_quote side p f k t d)

  -- a refusal is one of 1 to 9 or 15
  pub discounted_facts : FactsOf OneToNineOr15 (compared (implied_black_volatility_discounted side p f k t d))
  discounted_facts =
      subst (FactsOf OneToNineOr15) (sym compared_discounted) (by_discounted_refusal (FactsOf OneToNineOr15) (λ e. kind_facts (λ m h. inl h)) refused_facts)

  pub discounted_numbers : T (fits binary64 t) → FiguresAreNumbers (implied_black_volatility_discounted side p f k t d)
  unfolding implied_black_volatility_discounted
  discounted_numbers F =
      by_discounted_refusal (λ c. FiguresAreNumbers (reply t c))
      (λ h c. kind_numbers t c h.figures.time_finite h.figures.time_not_below F) (λ m h. tt)

  -- at the money nothing is searched for
  pub discounted_money : eq (abs (negative_abs_log_moneyness f k)) plus_zero ≡ true → (compared (implied_black_volatility_discounted side p f k t d)).count ≡ 0
  unfolding from_discounted_quote
  discounted_money e =
      ap (λ c. c.count) compared_discounted
      ∙ in_both NoSearch (eqb (discounted_refusal side p f k t d) 0) (money_figures side (p ⊘ d) f k t e) refl

  -- ---- THE DIVIDED PRICE is what is solved
  pub past_tests : DiscountedDomain side p f k t d → from_discounted_quote side p f k t d ≡ from_figures side (p ⊘ d) f k t
  unfolding from_discounted_quote
  past_tests h = rw (discounted_passes h)

  -- a refusal past tests 1 to 4 and 15 is one of 5 to 9
  pub discounted_domain_refusals : DiscountedDomain side p f k t d → (m : ℕ)
      → (compared (implied_black_volatility_discounted side p f k t d)).result ≡ refused m → (5 ≤ m) × (m ≤ 9)
  discounted_domain_refusals h m e =
      let q = kind_refused _ m (lit≤ tt) (figures_kind side (p ⊘ d) f k t) (sym (ap (λ c. c.result) (compared_discounted ∙ past_tests h)) ∙ e) in
      (q.0, q.1)

  pub divided_domain : DiscountedDomain side p f k t d → is_finite (p ⊘ d) ≡ true → Domain side (p ⊘ d) f k t
  divided_domain h q =
      let g = h.figures in
      record {
        call_or_put = g.call_or_put;
        price_finite = q;
        forward_finite = g.forward_finite;
        forward_above = g.forward_above;
        strike_finite = g.strike_finite;
        strike_above = g.strike_above;
        time_finite = g.time_finite;
        time_not_below = g.time_not_below;
      }

  pub divided_outcome : DiscountedDomain side p f k t d → is_finite (p ⊘ d) ≡ true → from_discounted_quote side p f k t d ≡ from_quote side (p ⊘ d) f k t
  divided_outcome h q = past_tests h ∙ sym (unfold from_quote in rw (domain_passes side (p ⊘ d) f k t (divided_domain h q)))

  -- where tests 1 to 4 and 15 pass and the quotient is finite, the reply is that of the quotient without a factor
  pub divided_reply : DiscountedDomain side p f k t d → is_finite (p ⊘ d) ≡ true
      → implied_black_volatility_discounted side p f k t d ≡ implied_black_volatility_input side (p ⊘ d) f k t
  unfolding implied_black_volatility_discounted implied_black_volatility_input
  divided_reply h q = ap (reply t) (divided_outcome h q)

  -- ---- A QUOTIENT THAT OVERFLOWS
  module _ (F : T (fits binary64 f)) (K : T (fits binary64 k)) (h : DiscountedDomain side p f k t d) where
    infinite_quotient : is_finite (p ⊘ d) ≡ false → (s : Bool) × (p ⊘ d ≡ inf s)
    infinite_quotient e =
        let number = finite_no_nan p (subst T (sym h.figures.price_finite) tt) in
        go (p ⊘ d) e (div_no_nan binary64 p d number (above_positive d h.factor_finite h.factor_above))
      where
        go : (q : Float) → is_finite q ≡ false → is_nan q ≡ false → (s : Bool) × (q ≡ inf s)
        go nan e n = absurd (unfold is_nan in true≢false n)
        go (inf s) e n = (s, refl)
        go (fin s m x) e n = absurd (true≢false e)

    -- 5 at time zero; else 6 where the quotient is positive, and 7 where it is negative
    pub overflow_refused : is_finite (p ⊘ d) ≡ false
        → implied_black_volatility_discounted side p f k t d ≡ refusal (cond (eq t plus_zero) 5 (cond (lt plus_zero (p ⊘ d)) 6 7)) 0
    unfolding implied_black_volatility_discounted lt of_bits
    overflow_refused e =
        let (s, i) = infinite_quotient e in
        let g = h.figures in
        let forward : PositiveValue f = record { above = above_positive f g.forward_finite g.forward_above; held = F } in
        let strike : PositiveValue k = record { above = above_positive k g.strike_finite g.strike_above; held = K } in
        ap (reply t) (past_tests h ∙ ap (λ (q : Float). from_figures side q f k t) i ∙ infinite_figures (eqb side 0) f k t forward strike s)
        ∙ ap (λ (n : ℕ). refusal (cond (eq t plus_zero) 5 n) 0) (sign s ∙ sym (ap (λ (q : Float). cond (lt plus_zero q) 6 7) i))
      where
        sign : (s : Bool) → ◌≡◌ {A = ℕ} (cond s 7 6) (cond (lt plus_zero (inf s)) 6 7)
        sign true = refl
        sign false = refl

  -- ---- AN ANSWER is that of the divided price
  pub divided_answer : T (fits binary64 f) → T (fits binary64 k) → (v w : Float) (count : ℕ)
      → implied_black_volatility_discounted side p f k t d ≡ answer v w count → implied_black_volatility_input side (p ⊘ d) f k t ≡ answer v w count
  divided_answer F K v w count e = first (discounted_refusal side p f k t d) refl
    where
      second : DiscountedDomain side p f k t d → (b : Bool) → is_finite (p ⊘ d) ≡ b → implied_black_volatility_input side (p ⊘ d) f k t ≡ answer v w count
      second h true i = sym (divided_reply h i) ∙ e
      second h false i = let r = overflow_refused F K h i in never (cc)

      first : (n : ℕ) → discounted_refusal side p f k t d ≡ n → implied_black_volatility_input side (p ⊘ d) f k t ≡ answer v w count
      first zero i = second (discounted_passed i) (is_finite (p ⊘ d)) refl
      first (suc n) i =
          let r : implied_black_volatility_discounted side p f k t d ≡ refusal (suc n) 0 =
          unfold implied_black_volatility_discounted from_discounted_quote in rw (i, eqb-suc-zero n) in
          never (cc)

-- ---- FACTOR 1: the reply of the quote without a factor, whatever the bits of its figures
module _ (side : ℕ) (p f k t : Float) (P : T (fits binary64 p)) where
  same_refusal : discounted_refusal side p f k t one ≡ first_refusal side p f k t
  unfolding lt of_bits
  same_refusal = factor_tested_last side p f k t one refl ∙ go (first_refusal side p f k t)
    where
      go : (n : ℕ) → cond (eqb n 0) (test15 one) n ≡ n
      go zero = refl
      go (suc n) = rw (eqb-suc-zero n)

  one_outcome : from_discounted_quote side p f k t one ≡ from_quote side p f k t
  unfolding from_discounted_quote from_quote
  one_outcome = rw same_refusal (go (first_refusal side p f k t) refl)
    where
      go : (n : ℕ) → first_refusal side p f k t ≡ n
          → cond (eqb n 0) (from_figures side (p ⊘ one) f k t) (at_once (refused n)) ≡ cond (eqb n 0) (from_figures side p f k t) (at_once (refused n))
      go zero e = ap (λ (q : Float). from_figures side q f k t) (over_one p P (subst T (sym (passed side p f k t e).price_finite) tt))
      go (suc n) e = rw (eqb-suc-zero n)

  pub factor_one : implied_black_volatility_discounted side p f k t one ≡ implied_black_volatility_input side p f k t
  unfolding implied_black_volatility_discounted implied_black_volatility_input
  factor_one = ap (reply t) one_outcome

-- ---- FOR FIGURES OF ANY BITS
module _ (side p f k t : ℕ) where
  pub factor_one_at_bits : implied_black_volatility_discounted side (bits p) (bits f) (bits k) (bits t) one
      ≡ implied_black_volatility_input side (bits p) (bits f) (bits k) (bits t)
  factor_one_at_bits = factor_one side (bits p) (bits f) (bits k) (bits t) (of_bits-fits binary64 p)

  pub overflow_at_bits : (d : ℕ) → DiscountedDomain side (bits p) (bits f) (bits k) (bits t) (bits d) → is_finite (bits p ⊘ bits d) ≡ false
      → implied_black_volatility_discounted side (bits p) (bits f) (bits k) (bits t) (bits d)
      ≡ refusal (cond (eq (bits t) plus_zero) 5 (cond (lt plus_zero (bits p ⊘ bits d)) 6 7)) 0
  overflow_at_bits d = overflow_refused side (bits p) (bits f) (bits k) (bits t) (bits d) (of_bits-fits binary64 f) (of_bits-fits binary64 k)
