-- What demand 3 (REQUIREMENTS 2.3) rests on: the tests, what follows them for figures scaled by 2 ^ (n + n), and `Exactly` as such a scale. Demand 3 itself
-- follows in proofs/Demand.antt. Assumes nothing.
use Rattle.std.specs.Prelude.{◌≡◌, ◌||◌, ◌⊎◌, ℕ, suc, ◌+◌, ◌*◌, ◌^◌, ◌<◌, Bool, true, false, not, cond, pos, negsuc, T, eqb, ltb, Float}
use Rattle.std.proofs.Math.Path.{refl}
use Rattle.std.proofs.Common.{sym, ap, ◌∙◌, subst, inl, inr, zero-mul, mul-one, mul_assoc, mul_right_comm, mul-pos, lt_irrefl, arith, eqb→eq, ltb→lt, lt→ltb, lit≤}
use Rattle.std.proofs.Math.Nat.{eq_of_mul-eq-mul_right}
use Rattle.std.specs.Bool.{beq}
use Rattle.std.specs.Float.{nan, inf, fin, binary64}
use Rattle.std.specs.Float.Ieee.{up, down, fits, le, lt, eq, below, level, of_bits}
use Rattle.std.specs.Float.Ieee.Fits.{sub-fits, and_l}
use Rattle.std.specs.Float.Ieee.Bits.{is_true, of_bits-fits}
use Rattle.std.specs.Float.Ieee.Scale.{finite}
use Rattle.std.specs.Float.Ieee.Positive.{num, den, den_pos}
use Rattle.arithmetic.specs.Operations.{◌⊖◌, ◌⊗◌, bits, plus_zero}
use Rattle.arithmetic.specs.Basic.{is_sign_minus}
use Rattle.arithmetic.specs.Sqrt.{sqrt}
use Rattle.arithmetic.specs.Laws.Numbers.{four_square, four_pos}
use Rattle.arithmetic.specs.Laws.Times.{Times}
use Rattle.arithmetic.specs.Laws.Compare.{lt_is}
use Rattle.arithmetic.specs.Laws.Sums.{sub_times, sub_finite}
use Rattle.arithmetic.specs.Laws.Identities.{mul_swap}
use Rattle.arithmetic.specs.Laws.Extremes.{times_zero, times_refl}
use Rattle.arithmetic.specs.Laws.ScaledRatios.{PositiveNormal, plus, num_above}
use Rattle.arithmetic.specs.Laws.SqrtBounds.{roots_times}
use Rattle.arithmetic.specs.Laws.Choices.{refuted}
use Rattle.arithmetic.specs.Laws.Zeros.{zero_of, plus_zero_is, zero_by_sign}
use Rattle.bs_option_price.specs.BsOptionPrice.{negative_abs_log_moneyness}
use Rattle.bs_option_price.specs.Laws.Moneyness.{BoundedRatio, log_times, log_swap}
use Rattle.inverse_gaussian.specs.Counted.{Counted, at_once}
use Rattle.explicit_black.specs.Quote.{Outcome, refused, first_refusal, from_price, from_quote, implied_black_volatility_input}
use Rattle.explicit_black.specs.Demand.{Exactly, ComparablePair, ComparableFigures, ComparableTimes, compared}
use Rattle.explicit_black.specs.Laws.ScaledPrice.{Plain, from_price_times}
use Rattle.explicit_black.specs.Laws.Quote.{compared_input}
use Rattle.explicit_black.specs.Laws.ZeroPrice.{zero_from_price}
use Rattle.explicit_black.specs.Laws.Powers.{comparable_pair, comparable}

-- ---- times: both zero, or both finite and above zero

-- a time that passes tests 2 and 4, and whether it is zero
pub record TimeTested (t : Float) (z : Bool) : Type 0 where
  pub finite_time : finite t ≡ true
  pub no_less : lt t plus_zero ≡ false
  pub is_zero : eq t plus_zero ≡ z

-- no zero is below 0
not_below : (s : Bool) (a b c : ℕ) → a ≡ b → b ≡ 0 * c → T (below s a false b) → ⊥
not_below false a b c e g t = let l = ltb→lt a b t in omega arith
not_below true a b c e g t = let l = ltb→lt 0 (a + b) t in omega (arith, zero-mul c)

zero_time : (t : Float) → T (eq t plus_zero) → TimeTested t true
unfolding eq lt of_bits
zero_time nan h = absurd h
zero_time (inf s) h = absurd h
zero_time (fin s m e) h =
    let a = m * up e * 1 in
    let b = 0 * down e in
    let same : a ≡ b = eqb→eq a b (and_l (eqb a b) (beq s false || eqb a 0) h) in
    record {
      finite_time = refl;
      no_less = refuted (below s a false b) (not_below s a b (down e) same refl);
      is_zero = is_true (level s a false b) h;
    }

positive_time : (t : Float) → T (finite t) → T (lt plus_zero t) → TimeTested t false
unfolding eq lt of_bits
positive_time nan p h = absurd p
positive_time (inf s) p h = absurd p
positive_time (fin true m e) p h = absurd h
positive_time (fin false m e) p h =
    let a = m * up e * 1 in
    let b = 0 * down e in
    let above : b < a = ltb→lt b a h in
    record {
      finite_time = refl;
      no_less = refuted (ltb a b) (λ u. lt_back b a above (ltb→lt a b u));
      is_zero = refuted (level false a false b) (λ u. lt_self b a (sym (eqb→eq a b (and_l (eqb a b) true u))) above);
    }
  where
    lt_self : (a b : ℕ) → a ≡ b → a < b → ⊥
    lt_self a b e h = omega arith

    lt_back : (a b : ℕ) → a < b → b < a → ⊥
    lt_back a b h g = omega arith

pub times_tested : (t t' : Float) → ComparableTimes t t' → (z : Bool) × TimeTested t z × TimeTested t' z
times_tested t t' (inl (a, b)) = (true, zero_time t a, zero_time t' b)
times_tested t t' (inr (a, b, c, d)) = (false, positive_time t a b, positive_time t' c d)

-- ---- figures that pass tests 2, 3 and 4
pub above_plus_zero : (x : Float) → PositiveNormal x → lt plus_zero x ≡ true
above_plus_zero x o =
    let a = 0 * den x in
    let b = num x * 1 in
    let above : a < b = rw (zero-mul (den x), mul-one (num x)) (num_above x o) in
    ap (λ (z : Float). lt z x) plus_zero_is
    ∙ lt_is (zero_of false) x tt o.bounded
    ∙ ap (λ (s : Bool). below false a s b) (plus x o)
    ∙ is_true (ltb a b) (lt→ltb a b above)

-- what follows test 4; `call` tells a call from a put
abbrev pub after_tests : Bool → Float → Float → Float → Float → Counted Outcome
after_tests call p f k t = from_price p (cond call (f ⊖ k) (k ⊖ f)) (cond call f k) (sqrt f ⊗ sqrt k) (negative_abs_log_moneyness f k) t

-- only test 1 can refuse
pub first_refusal_is : (side : ℕ) (p f k t : Float) (z : Bool) → T (finite p) → BoundedRatio f k → TimeTested t z
    → first_refusal side p f k t ≡ cond (eqb side 0 || eqb side 1) 0 1
unfolding first_refusal
first_refusal_is side p f k t z P h w =
    rw (
      is_true (finite p) P,
      is_true (finite f) h.forward.bounded,
      is_true (finite k) h.strike.bounded,
      w.finite_time,
      above_plus_zero f h.forward,
      above_plus_zero k h.strike,
      w.no_less,
    )
    (go (eqb side 0 || eqb side 1))
  where
    go : (b : Bool) → ◌≡◌ {A = ℕ} (cond (not b) 1 0) (cond b 0 1)
    go true = refl
    go false = refl

pub from_quote_is : (side : ℕ) (p f k t : Float) (z : Bool) → T (finite p) → BoundedRatio f k → TimeTested t z
    → from_quote side p f k t ≡ cond (eqb side 0 || eqb side 1) (after_tests (eqb side 0) p f k t) (at_once (refused 1))
unfolding from_quote
from_quote_is side p f k t z P h w = rw (first_refusal_is side p f k t z P h w) (go (eqb side 0 || eqb side 1) (after_tests (eqb side 0) p f k t))
  where
    go : (b : Bool) (c : Counted Outcome) → cond (eqb (cond b 0 1) 0) c (at_once (refused (cond b 0 1))) ≡ cond b c (at_once (refused 1))
    go true c = refl
    go false c = refl

-- ---- a call of forward f and strike k is a put of forward k and strike f
pub swapped : (f k : Float) → BoundedRatio f k → BoundedRatio k f
swapped f k h = record { forward = h.strike; strike = h.forward; not_over = h.not_under; not_under = h.not_over }

pub exchanged : (call : Bool) (p f k t : Float) → BoundedRatio f k → after_tests (not call) p f k t ≡ after_tests call p k f t
exchanged call p f k t h = go call
  where
    roots : sqrt f ⊗ sqrt k ≡ sqrt k ⊗ sqrt f
    roots = mul_swap binary64 (sqrt f) (sqrt k)

    logs : negative_abs_log_moneyness f k ≡ negative_abs_log_moneyness k f
    logs = log_swap 0 k f f k (swapped f k h) h (times_refl k h.strike.bounded) (times_refl f h.forward.bounded)

    go : (call : Bool) → after_tests (not call) p f k t ≡ after_tests call p k f t
    go true = rw (roots, logs)
    go false = rw (roots, logs)

-- ---- from `Exactly` to `Times`
up_value : (n nx dx ny dy : ℕ) → ny * dx * 1 ≡ nx * dy * 4 ^ n → ny * dx ≡ nx * 2 ^ (n + n) * dy
up_value n nx dx ny dy e = sym (mul-one (ny * dx)) ∙ e ∙ ap (λ (z : ℕ). nx * dy * z) (four_square n) ∙ mul_right_comm nx dy (2 ^ (n + n))

-- 2 ^ k times each other with one sign, or both zero
pub data Related (k : ℕ) (x y : Float) : Type 0 where
  related_times : Times k x y → Related k x y
  vanish : num x ≡ 0 → num y ≡ 0 → Related k x y

vanishes : (n m d c : ℕ) → 0 < c → n ≡ 0 → m * c ≡ n * d → m ≡ 0
vanishes n m d c C z e = eq_of_mul-eq-mul_right c C m 0 (e ∙ ap (λ (u : ℕ). u * d) z ∙ zero-mul d ∙ sym (zero-mul c))

-- what is 2 ^ k times a zero is a zero
pub zero_times : (k : ℕ) (x y : Float) → num y * den x ≡ num x * 2 ^ k * den y → num x ≡ 0 → num y ≡ 0
zero_times k x y v z = vanishes (num x) (num y) (2 ^ k * den y) (den x) (den_pos x) z (v ∙ mul_assoc (num x) (2 ^ k) (den y))

pub upward : (n : ℕ) (x y : Float) → Exactly (pos n) x y → Related (n + n) x y
upward n x y h = go h.signs
  where
    v : num y * den x ≡ num x * 2 ^ (n + n) * den y
    v = up_value n (num x) (den x) (num y) (den y) h.fraction

    go : (num x ≡ 0) ⊎ (is_sign_minus y ≡ is_sign_minus x) → Related (n + n) x y
    go (inl z) = vanish z (zero_times (n + n) x y v z)
    go (inr s) = related_times (record { finite_l = h.finite_x; finite_r = h.finite_y; sign = s; value = v })

pub downward : (n : ℕ) (x y : Float) → Exactly (negsuc n) x y → Related (suc n + suc n) y x
downward n x y h = go h.signs
  where
    v : num x * den y ≡ num y * 2 ^ (suc n + suc n) * den x
    v = up_value (suc n) (num y) (den y) (num x) (den x) (sym h.fraction)

    u : num y * (den x * 4 ^ suc n) ≡ num x * den y
    u = sym (mul_assoc (num y) (den x) (4 ^ suc n)) ∙ h.fraction ∙ mul-one (num x * den y)

    go : (num x ≡ 0) ⊎ (is_sign_minus y ≡ is_sign_minus x) → Related (suc n + suc n) y x
    go (inl z) = vanish (vanishes (num x) (num y) (den y) (den x * 4 ^ suc n) (mul-pos (den_pos x) (four_pos (suc n))) z u) z
    go (inr s) = related_times (record { finite_l = h.finite_y; finite_r = h.finite_x; sign = sym s; value = v })

pub normal_times : (k : ℕ) (x y : Float) → PositiveNormal x → Related k x y → Times k x y
normal_times k x y o (related_times h) = h
normal_times k x y o (vanish e g) = absurd (lt_irrefl 0 (subst (λ (z : ℕ). 0 < z) e (num_above x o)))

-- `Exactly` of normal values above zero as `Times`, downward from y to x; upward from x to y in proofs/Demand.antt
pub exactly_down : (n : ℕ) (x y : Float) → PositiveNormal y → Exactly (negsuc n) x y → Times (suc n + suc n) y x
exactly_down n x y o h = normal_times (suc n + suc n) y x o (downward n x y h)

-- ---- prices that are zero, of either sign, and prices with the sign clear

-- the figures of a quote within the limits of demand 3, values of binary64
pub record ComparableValues (p f k : Float) : Type 0 where
  pub held : T (fits binary64 p)
  pub bounded : T (finite p)
  pub not_negative : T (le plus_zero p)
  pub pair : BoundedRatio f k

pub clear_or_zero : (p : Float) → T (finite p) → T (le plus_zero p) → (is_sign_minus p ≡ false) ⊎ (num p ≡ 0)
unfolding le of_bits
clear_or_zero nan b h = absurd b
clear_or_zero (inf s) b h = absurd b
clear_or_zero (fin false m e) b h = inl refl
clear_or_zero (fin true m e) b h =
    let a = 0 * down e in
    let c = m * up e * 1 in
    let same : a ≡ c = eqb→eq a c (and_l (eqb a c) (false || eqb a 0) h) in
    inr (sym (mul-one (m * up e)) ∙ sym same ∙ zero-mul (down e))

pub zero_after_tests : (call : Bool) (p f k t : Float) → T (fits binary64 p) → T (finite p) → num p ≡ 0
    → after_tests call p f k t ≡ after_tests call (zero_of false) f k t
zero_after_tests call p f k t F b e =
    let s = is_sign_minus p in
    ap (λ (q : Float). after_tests call q f k t) (zero_by_sign p F b e)
    ∙ zero_from_price s (cond call (f ⊖ k) (k ⊖ f)) (cond call f k) (sqrt f ⊗ sqrt k) (negative_abs_log_moneyness f k) t

zero_plain : Plain (zero_of false)
zero_plain = record { held = (unfold fits in tt); bounded = tt; clear = refl }

pub difference_finite : (b c : Float) → PositiveNormal b → PositiveNormal c → T (finite (b ⊖ c))
difference_finite b c o q = sub_finite binary64 b c o.held q.held o.bounded q.bounded (plus b o) (plus c q)

-- ---- what follows test 4, for figures scaled by 2 ^ (n + n)
module _ (n : ℕ) (f k t f' k' t' : Float) (z : Bool) (h : BoundedRatio f k) (h' : BoundedRatio f' k') (w : TimeTested t z) (w' : TimeTested t' z)
    (hf : Times (n + n) f f') (hk : Times (n + n) k k') where
  -- b is the bound of the price and c the other of forward and strike
  bound_times : (p b c p' b' c' : Float) → Plain p → Plain p' → PositiveNormal b → PositiveNormal c → PositiveNormal b' → PositiveNormal c'
      → Times (n + n) p p' → Times (n + n) b b' → Times (n + n) c c'
      → from_price p' (b' ⊖ c') b' (sqrt f' ⊗ sqrt k') (negative_abs_log_moneyness f' k') t'
      ≡ from_price p (b ⊖ c) b (sqrt f ⊗ sqrt k) (negative_abs_log_moneyness f k) t
  bound_times p b c p' b' c' o o' B C B' C' hp hb hc =
      from_price_times (n + n) p (b ⊖ c) b _ _ t p' (b' ⊖ c') b' _ _ t' o o' (sub-fits binary64 b c) (sub-fits binary64 b' c') hp
      (sub_times binary64 (n + n) b c b' c' B.held C.held hb hc (difference_finite b' c' B' C'))
      hb
      (roots_times n f k f' k' h.forward h.strike h'.forward h'.strike hf hk)
      (log_times (n + n) f k f' k' h h' hf hk)
      (w'.is_zero ∙ sym w.is_zero)

  plain_price : (call : Bool) (p p' : Float) → Plain p → Plain p' → Times (n + n) p p' → after_tests call p' f' k' t' ≡ after_tests call p f k t
  plain_price true p p' o o' hp = bound_times p f k p' f' k' o o' h.forward h.strike h'.forward h'.strike hp hf hk
  plain_price false p p' o o' hp = bound_times p k f p' k' f' o o' h.strike h.forward h'.strike h'.forward hp hk hf

  any_price : (call : Bool) (p p' : Float) → ComparableValues p f k → ComparableValues p' f' k' → Related (n + n) p p'
      → after_tests call p' f' k' t' ≡ after_tests call p f k t
  any_price call p p' o o' q = go q
    where
      both_zero : num p ≡ 0 → num p' ≡ 0 → after_tests call p' f' k' t' ≡ after_tests call p f k t
      both_zero e e' =
          zero_after_tests call p' f' k' t' o'.held o'.bounded e'
          ∙ plain_price call (zero_of false) (zero_of false) zero_plain zero_plain (subst (λ (x : Float). Times (n + n) x x) plus_zero_is (times_zero (n + n)))
          ∙ sym (zero_after_tests call p f k t o.held o.bounded e)

      plain : (x : Float) → T (fits binary64 x) → T (finite x) → is_sign_minus x ≡ false → Plain x
      plain x F b c = record { held = F; bounded = b; clear = c }

      go : Related (n + n) p p' → after_tests call p' f' k' t' ≡ after_tests call p f k t
      go (vanish e e') = both_zero e e'
      go (related_times g) = elim (clear_or_zero p o.bounded o.not_negative) [
        | inl c ↦ plain_price call p p' (plain p o.held o.bounded c) (plain p' o'.held o'.bounded (g.sign ∙ c)) g
        | inr e ↦ both_zero e (zero_times (n + n) p p' g.value e)
      ]

-- ---- demand 3 for values of binary64, upward: what follows test 4
pub scaled_up : (n : ℕ) (p f k t p' f' k' t' : Float) → ComparableValues p f k → ComparableValues p' f' k' → (z : Bool) → TimeTested t z → TimeTested t' z
    → Related (n + n) p p' → Related (n + n) f f' → Related (n + n) k k' → (call : Bool) → after_tests call p' f' k' t' ≡ after_tests call p f k t
scaled_up n p f k t p' f' k' t' o o' z w w' hp hf hk call =
    let tf = normal_times (n + n) f f' o.pair.forward hf in
    let tk = normal_times (n + n) k k' o.pair.strike hk in
    any_price n f k t f' k' t' z o.pair o'.pair w w' tf tk call p p' o o' hp

-- ---- figures of any bits

-- what is compared of a quote with figures of these bits
abbrev pub input_at_bits : ℕ → ℕ → ℕ → ℕ → ℕ → Counted Outcome
input_at_bits side p f k t = compared (implied_black_volatility_input side (bits p) (bits f) (bits k) (bits t))

pub input_at_bits_is : (side p f k t : ℕ) → input_at_bits side p f k t ≡ from_quote side (bits p) (bits f) (bits k) (bits t)
input_at_bits_is side p f k t = compared_input side (bits p) (bits f) (bits k) (bits t)

pub comparable_ratio : (f k : ℕ) → ComparablePair (bits f) (bits k) → BoundedRatio (bits f) (bits k)
comparable_ratio f k h =
    let r = h.in_range in
    record {
      forward = record { held = of_bits-fits binary64 f; bounded = r.forward_finite; large = r.forward_normal };
      strike = record { held = of_bits-fits binary64 k; bounded = r.strike_finite; large = r.strike_normal };
      not_over = h.forward_not_over;
      not_under = h.strike_not_over;
    }

pub comparable_values : (p f k : ℕ) → ComparableFigures (bits p) (bits f) (bits k) → ComparableValues (bits p) (bits f) (bits k)
comparable_values p f k h = record {
  held = of_bits-fits binary64 p;
  bounded = h.price_finite;
  not_negative = h.price_not_negative;
  pair = comparable_ratio f k h.pair;
}

-- ---- the call 0 1 100 120 1 and the put 1 4 480 400 1 of REQUIREMENTS 12.2 meet the hypotheses

-- the bits of 1, 100 and 120, and of 4, 480 and 400
abbrev pub call_price : ℕ
call_price = 0x3FF0_0000_0000_0000

abbrev pub call_forward : ℕ
call_forward = 0x4059_0000_0000_0000

abbrev pub call_strike : ℕ
call_strike = 0x405E_0000_0000_0000

abbrev pub put_price : ℕ
put_price = 0x4010_0000_0000_0000

abbrev pub put_forward : ℕ
put_forward = 0x407E_0000_0000_0000

abbrev pub put_strike : ℕ
put_strike = 0x4079_0000_0000_0000

abbrev pub time_one : ℕ
time_one = 0x3FF0_0000_0000_0000

pub comparable_call : ComparableFigures (bits call_price) (bits call_forward) (bits call_strike)
unfolding of_bits le
comparable_call = comparable _ _ _ tt tt (comparable_pair _ _ tt tt tt tt (lit≤ tt) (lit≤ tt))

pub comparable_put : ComparableFigures (bits put_price) (bits put_forward) (bits put_strike)
unfolding of_bits le
comparable_put = comparable _ _ _ tt tt (comparable_pair _ _ tt tt tt tt (lit≤ tt) (lit≤ tt))
