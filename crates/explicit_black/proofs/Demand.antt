-- Demand 3 (REQUIREMENTS 2.3): a quote, and one whose figures are exactly 4 ^ n times its figures, on the same side or exchanged, have one total
-- volatility or refusal number, and one count. What it needs beside these stands in specs/Laws/Demand.antt. Assumes nothing.
use Rattle.std.specs.Prelude.{◌≡◌, ◌||◌, ℕ, suc, ◌+◌, ◌*◌, T, Bool, true, false, not, cond, ℤ, pos, negsuc, eqb, Float}
use Rattle.std.proofs.Math.Path.{refl}
use Rattle.std.proofs.Common.{sym, ap, ◌∙◌, inr}
use Rattle.std.specs.Float.Ieee.{lt, of_bits}
use Rattle.std.specs.Float.Ieee.Scale.{finite}
use Rattle.std.specs.Float.Ieee.Positive.{num, den}
use Rattle.arithmetic.specs.Basic.{is_sign_minus}
use Rattle.arithmetic.specs.Operations.{bits}
use Rattle.arithmetic.specs.Laws.Times.{Times}
use Rattle.arithmetic.specs.Laws.ScaledRatios.{PositiveNormal}
use Rattle.inverse_gaussian.specs.Counted.{Counted, at_once}
use Rattle.explicit_black.specs.Quote.{Outcome, refused, from_quote}
use Rattle.explicit_black.specs.Demand.{Exactly, ComparableFigures, ComparableTimes}
use Rattle.explicit_black.specs.Laws.Demand.{times_tested, after_tests, from_quote_is, swapped, exchanged, upward, downward, normal_times}
use Rattle.explicit_black.specs.Laws.Demand.{ComparableValues, scaled_up, input_at_bits, input_at_bits_is, comparable_values, call_price, call_forward}
use Rattle.explicit_black.specs.Laws.Demand.{call_strike, put_price, put_forward, put_strike, time_one, comparable_call, comparable_put}

-- ---- from `Exactly` to `Times`
pub four_times : (x y : Float) → T (finite x) → T (finite y) → num y * den x * 1 ≡ num x * den y * 4 → is_sign_minus y ≡ is_sign_minus x
    → Exactly (pos 1) x y
four_times x y a b e s = record { finite_x = a; finite_y = b; fraction = e; signs = inr s }

-- of normal values above zero, upward from x to y
pub exactly_up : (n : ℕ) (x y : Float) → PositiveNormal x → Exactly (pos n) x y → Times (n + n) x y
exactly_up n x y o h = normal_times (n + n) x y o (upward n x y h)

-- ---- demand 3 for values of binary64: what follows test 4, then the quotes
module _ (p f k t p' f' k' t' : Float) (o : ComparableValues p f k) (o' : ComparableValues p' f' k') (w : ComparableTimes t t') where
  pub same_figures : (n : ℤ) (call : Bool) → Exactly n p p' → Exactly n f f' → Exactly n k k' → after_tests call p' f' k' t' ≡ after_tests call p f k t
  same_figures (pos n) call hp hf hk =
      let (z, u, v) = times_tested t t' w in
      scaled_up n p f k t p' f' k' t' o o' z u v (upward n p p' hp) (upward n f f' hf) (upward n k k' hk) call
  same_figures (negsuc n) call hp hf hk =
      let (z, u, v) = times_tested t t' w in
      sym (scaled_up (suc n) p' f' k' t' p f k t o' o z v u (downward n p p' hp) (downward n f f' hf) (downward n k k' hk) call)

  pub same_outcome : (n : ℤ) (side : ℕ) → Exactly n p p' → Exactly n f f' → Exactly n k k' → from_quote side p' f' k' t' ≡ from_quote side p f k t
  same_outcome n side hp hf hk =
      let (z, u, v) = times_tested t t' w in
      from_quote_is side p' f' k' t' z o'.bounded o'.pair v
      ∙ ap (λ (c : Counted Outcome). cond (eqb side 0 || eqb side 1) c (at_once (refused 1))) (same_figures n (eqb side 0) hp hf hk)
      ∙ sym (from_quote_is side p f k t z o.bounded o.pair u)

module _ (p f k t p' f' k' t' : Float) (o : ComparableValues p f k) (o' : ComparableValues p' f' k') (w : ComparableTimes t t') where
  other_figures : (n : ℤ) (call : Bool) → Exactly n p p' → Exactly n k f' → Exactly n f k' → after_tests (not call) p' f' k' t' ≡ after_tests call p f k t
  other_figures n call hp hk hf =
      let pair = swapped f' k' o'.pair in
      let o'' : ComparableValues p' k' f' = record { held = o'.held; bounded = o'.bounded; not_negative = o'.not_negative; pair = pair } in
      exchanged call p' f' k' t' o'.pair ∙ same_figures p f k t p' k' f' t' o o'' w n call hp hf hk

  pub other_outcome : (n : ℤ) → Exactly n p p' → Exactly n k f' → Exactly n f k'
      → (from_quote 1 p' f' k' t' ≡ from_quote 0 p f k t) × (from_quote 0 p' f' k' t' ≡ from_quote 1 p f k t)
  other_outcome n hp hk hf =
      let (z, u, v) = times_tested t t' w in (
        from_quote_is 1 p' f' k' t' z o'.bounded o'.pair v ∙ other_figures n true hp hk hf ∙ sym (from_quote_is 0 p f k t z o.bounded o.pair u),
        from_quote_is 0 p' f' k' t' z o'.bounded o'.pair v ∙ other_figures n false hp hk hf ∙ sym (from_quote_is 1 p f k t z o.bounded o.pair u),
      )

-- ---- DEMAND 3, for figures of any bits
module _ (n : ℤ) (p f k t p' f' k' t' : ℕ) (h : ComparableFigures (bits p) (bits f) (bits k)) (h' : ComparableFigures (bits p') (bits f') (bits k'))
    (w : ComparableTimes (bits t) (bits t')) (e : Exactly n (bits p) (bits p')) where
  -- The second quote has the first's side, whatever number that is, and its price, forward and strike are exactly 4 ^ n times the first's.
  pub same_side : (side : ℕ) → Exactly n (bits f) (bits f') → Exactly n (bits k) (bits k') → input_at_bits side p' f' k' t' ≡ input_at_bits side p f k t
  same_side side g i =
      let o = comparable_values p f k h in
      let o' = comparable_values p' f' k' h' in
      input_at_bits_is side p' f' k' t'
      ∙ same_outcome (bits p) (bits f) (bits k) (bits t) (bits p') (bits f') (bits k') (bits t') o o' w n side e g i
      ∙ sym (input_at_bits_is side p f k t)

  -- The first is a call or a put, and the second is on the other side, with price, forward and strike exactly 4 ^ n times the first's price, strike and
  -- forward.
  pub other_side : Exactly n (bits k) (bits f') → Exactly n (bits f) (bits k')
      → (input_at_bits 1 p' f' k' t' ≡ input_at_bits 0 p f k t) × (input_at_bits 0 p' f' k' t' ≡ input_at_bits 1 p f k t)
  other_side g i =
      let o = comparable_values p f k h in
      let o' = comparable_values p' f' k' h' in
      let q = other_outcome (bits p) (bits f) (bits k) (bits t) (bits p') (bits f') (bits k') (bits t') o o' w n e g i in (
        input_at_bits_is 1 p' f' k' t' ∙ q.0 ∙ sym (input_at_bits_is 0 p f k t),
        input_at_bits_is 0 p' f' k' t' ∙ q.1 ∙ sym (input_at_bits_is 1 p f k t),
      )

-- ---- the call 0 1 100 120 1 and the put 1 4 480 400 1 of REQUIREMENTS 12.2 agree: the hypotheses are met
pub call_and_put_agree : input_at_bits 1 put_price put_forward put_strike time_one ≡ input_at_bits 0 call_price call_forward call_strike time_one
unfolding of_bits lt
call_and_put_agree =
    (other_side (pos 1) call_price call_forward call_strike time_one put_price put_forward put_strike time_one comparable_call comparable_put
    (inr (tt, tt, tt, tt))
    (four_times (bits call_price) (bits put_price) tt tt refl refl)
    (four_times (bits call_strike) (bits put_forward) tt tt refl refl)
    (four_times (bits call_forward) (bits put_strike) tt tt refl refl)
    ).0
