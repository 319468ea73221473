-- What holds of every reply: how many evaluations it counts, which refusals it has, and that its figures are numbers. Assumes nothing.
use Rattle.std.specs.Prelude.{◌≡◌, ◌⊎◌, ℕ, zero, suc, ◌≤◌, ◌<◌, Bool, not, cond, ◌&&◌, ◌||◌, T, Float}
use Rattle.std.proofs.Math.Path.{refl}
use Rattle.std.proofs.Common.{sym, ap, ◌∙◌, subst, inl, inr, arith, ne_eqb, true≢false}
use Rattle.std.proofs.Math.Bool.{true, false}
use Rattle.std.proofs.lemmas.Bool.{false≢true}
use Rattle.std.proofs.Math.Dec.{eqb, eqb-suc-zero, lit≤}
use Rattle.std.specs.Float.{binary64}
use Rattle.std.specs.Float.Ieee.{neg, lt, le, eq, is_nan, fits, of_bits}
use Rattle.std.specs.Float.Ieee.Fits.{div-fits}
use Rattle.std.specs.Float.Ieee.Bits.{is_true}
use Rattle.std.specs.Float.Ieee.Positive.{positive}
use Rattle.arithmetic.specs.Operations.{◌⊗◌, ◌⊘◌, plus_zero, half, one, two, min_positive}
use Rattle.arithmetic.specs.Basic.{abs, is_finite}
use Rattle.arithmetic.specs.Sqrt.{sqrt}
use Rattle.arithmetic.specs.Exp.{exp}
use Rattle.arithmetic.specs.Laws.Choices.{in_both, by_test, never}
use Rattle.arithmetic.specs.Laws.Compare.{neither_zero, finite_no_nan}
use Rattle.arithmetic.specs.Laws.ScaledRatios.{PositiveNormal}
use Rattle.arithmetic.specs.Laws.SqrtBounds.{sqrt_positive}
use Rattle.arithmetic.specs.Laws.Quotients.{div_no_nan, two_over_root}
use Rattle.arithmetic.specs.Laws.Zeros.{plus_zero_is}
use Rattle.bs_option_price.specs.BsOptionPrice.{negative_abs_log_moneyness}
use Rattle.inverse_gaussian.specs.Counted.{Counted, at_once}
use Rattle.explicit_black.specs.Quote.{Outcome, total, refused, Reply, answer, refusal, reply, reply_of, volatility, volatility_over}
use Rattle.explicit_black.specs.Quote.{from_normalised_price, implied_black_volatility_normalised, first_refusal, intrinsic_value, price_bound}
use Rattle.explicit_black.specs.Quote.{normalised_time_value, from_time_value, from_figures, from_quote, implied_black_volatility_input}
use Rattle.explicit_black.specs.Demand.{compared}
use Rattle.explicit_black.specs.Laws.Tests.{from_price_is}
use Rattle.explicit_black.specs.Laws.Kinds.{Kind, lowered, normalised_kind, from_time_value_kind, from_price_kind}
use Rattle.explicit_black.specs.Laws.Kinds.{total_at_once, refused_at_once, total_at_root, refused_no_root}
use Rattle.explicit_black.specs.Laws.ZeroPrice.{bound_above, or_right}

-- ---- what holds of an outcome of each kind
pub kind_count : {least : ℕ} (c : Counted Outcome) → Kind least c → c.count ≤ 2263
kind_count c (total_at_once v e n F) = rw e (lit≤ tt)
kind_count c (refused_at_once m e l h) = rw e (lit≤ tt)
kind_count c (total_at_root x e p F h) = h
kind_count c (refused_no_root e h) = h

pub kind_refused : {least : ℕ} (c : Counted Outcome) (m : ℕ) → least ≤ 9 → Kind least c → c.result ≡ refused m
    → (least ≤ m) × (m ≤ 9) × (m ≤ 8 → c.count ≡ 0)
kind_refused c m g (total_at_once v e n F) q = never (cc)
kind_refused c m g (refused_at_once k e l h) q = let i : k ≡ m = cc in (omega arith, omega arith, λ _. ap (λ d. d.count) e)
kind_refused c m g (total_at_root x e p F h) q = never (cc)
kind_refused c m g (refused_no_root e h) q = let i : 9 ≡ m = cc in (omega arith, omega arith, λ k. absurd (omega arith))

-- a total of 0 or infinity is not that of a root x: 2 / √x is neither
kind_ends : {least : ℕ} (c : Counted Outcome) (v : Float) → Kind least c → c.result ≡ total v → (eq v plus_zero ≡ true) ⊎ (is_finite v ≡ false)
    → c.count ≡ 0
unfolding le
kind_ends c v (total_at_once w e n F) q z = ap (λ d. d.count) e
kind_ends c v (refused_at_once k e l h) q z = never (cc)
kind_ends c v (refused_no_root e h) q z = never (cc)
kind_ends c v (total_at_root x e p F h) q z = absurd (go z)
  where
    o : PositiveNormal v
    o = let i : two ⊘ sqrt x ≡ v = cc in subst PositiveNormal i (two_over_root x p F)

    go : (eq v plus_zero ≡ true) ⊎ (is_finite v ≡ false) → ⊥
    go (inl a) = true≢false (sym (or_right (lt v plus_zero) (eq v plus_zero) a) ∙ ap (le v) plus_zero_is ∙ bound_above false v o)
    go (inr b) = true≢false (sym (is_true (is_finite v) o.bounded) ∙ b)

-- ---- figures that are numbers

-- an answer's total volatility and volatility are no NaN, and values of binary64
abbrev pub FiguresAreNumbers : Reply → Type 0
FiguresAreNumbers (answer v w count) = (is_nan v ≡ false) × T (fits binary64 v) × (is_nan w ≡ false) × T (fits binary64 w)
FiguresAreNumbers (refusal m count) = Unit

pub time_positive : (t : Float) → is_finite t ≡ true → lt t plus_zero ≡ false → eq t plus_zero ≡ false → T (positive t)
time_positive t p l n = neither_zero t (subst T (sym p) tt) l n

abbrev IsNumber : Float → Type 0
IsNumber w = (is_nan w ≡ false) × T (fits binary64 w)

volatility_number : (t v : Float) → is_finite t ≡ true → lt t plus_zero ≡ false → T (fits binary64 t) → is_nan v ≡ false → IsNumber (volatility t v)
unfolding volatility_over
volatility_number t v p l F n = by_test IsNumber (eq t plus_zero) (λ e. zero_number) (λ e. quotient (time_positive t p l e))
  where
    zero_number : IsNumber plus_zero
    zero_number = unfold is_nan of_bits fits in (refl, tt)

    quotient : T (positive t) → IsNumber (v ⊘ sqrt t)
    quotient q = (div_no_nan binary64 v (sqrt t) n (sqrt_positive t q F), div-fits binary64 v (sqrt t))

pub kind_numbers : {least : ℕ} (t : Float) (c : Counted Outcome) → is_finite t ≡ true → lt t plus_zero ≡ false → T (fits binary64 t) → Kind least c
    → FiguresAreNumbers (reply t c)
kind_numbers t c p l F (total_at_once v e n f) = rw e (let w = volatility_number t v p l F n in (n, f, w.0, w.1))
kind_numbers t c p l F (refused_at_once m e i h) = rw e tt
kind_numbers t c p l F (refused_no_root e h) = rw e tt
kind_numbers t c p l F (total_at_root x e q f h) =
    let o = two_over_root x q f in
    let n = finite_no_nan (two ⊘ sqrt x) o.bounded in
    rw e (let w = volatility_number t (two ⊘ sqrt x) p l F n in (n, o.held, w.0, w.1))

-- ---- WHAT HOLDS OF EVERY REPLY: its outcome with its count, where `Number` says which numbers its refusals have
pub record FactsOf (Number : ℕ → Type 0) (c : Counted Outcome) : Type 0 where
  -- no more than 2,263 evaluations
  pub few : c.count ≤ 2263
  -- a refusal has one of these numbers, and all but 9 have count 0
  pub numbered : (m : ℕ) → c.result ≡ refused m → Number m
  pub free : (m : ℕ) → c.result ≡ refused m → (m ≡ 9 → ⊥) → c.count ≡ 0
  -- an answer whose total is 0 or infinite has count 0
  pub ends : (v : Float) → c.result ≡ total v → (eq v plus_zero ≡ true) ⊎ (is_finite v ≡ false) → c.count ≡ 0

-- 1 to 9
abbrev pub OneToNine : ℕ → Type 0
OneToNine m = (1 ≤ m) × (m ≤ 9)

abbrev pub Facts : Counted Outcome → Type 0
Facts = FactsOf OneToNine

-- they hold of an outcome of each kind, and of the refusals of the tests before it
pub kind_facts : {Number : ℕ → Type 0} → ((m : ℕ) → OneToNine m → Number m) → (c : Counted Outcome) → Kind 5 c → FactsOf Number c
kind_facts numbers c k = record {
  few = kind_count c k;
  numbered = λ m e. let q = kind_refused c m (lit≤ tt) k e in numbers m (omega arith, omega arith);
  free = λ m e n. let q = kind_refused c m (lit≤ tt) k e in q.2 (le_of_lt_suc (le_and_not m 9 q.1 n));
  ends = λ v e z. kind_ends c v k e z;
}
  where
    le_and_not : (m n : ℕ) → m ≤ n → (m ≡ n → ⊥) → m < n
    le_and_not m n h g = omega (arith, g)

    le_of_lt_suc : {m : ℕ} → m < 9 → m ≤ 8
    le_of_lt_suc h = omega arith

pub refused_facts : {Number : ℕ → Type 0} (m : ℕ) → Number m → FactsOf Number (at_once (refused m))
refused_facts {Number} m h = record {
  few = lit≤ tt;
  numbered = λ n e. let i : m ≡ n = cc in subst Number i h;
  free = λ n e g. refl;
  ends = λ v e z. never (cc);
}

pub compared_reply : (t : Float) (c : Counted Outcome) → compared (reply t c) ≡ c
compared_reply t c = go c.result
  where
    go : (r : Outcome) → compared (reply_of t (sqrt t) r c.count) ≡ record { result = r; count = c.count }
    go (total v) = refl
    go (refused m) = refl

pub time_value_count : (x v : Float) → (from_time_value x v).count ≤ 2263
time_value_count x v = kind_count (from_time_value x v) (from_time_value_kind x v)

-- past tests 1 to 6 no refusal is one of 1 to 6
pub time_value_refused : (x v : Float) (m : ℕ) → (from_time_value x v).result ≡ refused m → 7 ≤ m
time_value_refused x v m e = (kind_refused (from_time_value x v) m (lit≤ tt) (from_time_value_kind x v) e).0

-- ---- of the normalised entry
pub normalised_count : (x p : Float) → (from_normalised_price x p).count ≤ 2263
normalised_count x p = kind_count (from_normalised_price x p) (normalised_kind x p)

pub normalised_facts : (x p : Float) → Facts (compared (implied_black_volatility_normalised x p))
unfolding implied_black_volatility_normalised
normalised_facts x p =
    subst Facts (sym (compared_reply one _))
    (in_both Facts (is_finite x && is_finite p) (kind_facts (λ m h. h) (from_normalised_price x p) (lowered 5 7 _ (lit≤ tt) (normalised_kind x p)))
    (refused_facts 2 (lit≤ tt, lit≤ tt)))

pub normalised_numbers : (x p : Float) → FiguresAreNumbers (implied_black_volatility_normalised x p)
unfolding implied_black_volatility_normalised lt of_bits fits
normalised_numbers x p =
    in_both (λ (c : Counted Outcome). FiguresAreNumbers (reply one c)) (is_finite x && is_finite p)
    (kind_numbers one (from_normalised_price x p) refl refl tt (normalised_kind x p)) tt

-- ---- the domain of demand 2 (REQUIREMENTS 3.4): figures that pass tests 1 to 4
pub record Domain (side : ℕ) (price forward strike time : Float) : Type 0 where
  pub call_or_put : side ≤ 1
  pub price_finite : is_finite price ≡ true
  pub forward_finite : is_finite forward ≡ true
  pub forward_above : lt plus_zero forward ≡ true
  pub strike_finite : is_finite strike ≡ true
  pub strike_above : lt plus_zero strike ≡ true
  pub time_finite : is_finite time ≡ true
  pub time_not_below : lt time plus_zero ≡ false

pub no_side : (side : ℕ) → 1 < side → (eqb side 0 || eqb side 1) ≡ false
no_side side h = rw (ne_eqb side 0 (λ (e : side ≡ 0). omega arith), ne_eqb side 1 (λ (e : side ≡ 1). omega arith))

pub a_side : (side : ℕ) → side ≤ 1 → (eqb side 0 || eqb side 1) ≡ true
a_side zero h = refl
a_side (suc zero) h = refl
a_side (suc (suc n)) h = absurd (omega arith)

-- ---- of a quote without a factor
and_left : (a b : Bool) → (a && b) ≡ true → a ≡ true
and_left true b e = refl
and_left false b e = absurd (false≢true e)

and_right : (a b : Bool) → (a && b) ≡ true → b ≡ true
and_right true b e = e
and_right false b e = absurd (false≢true e)

-- tests 1 to 4: the number of the first that applies, or 0
abbrev pub first_of : Bool → Bool → Bool → Bool → ℕ
first_of a b c d = cond (not a) 1 (cond (not b) 2 (cond (not c) 3 (cond d 4 0)))

-- what follows tests whose first that applies has the number n, or their refusal
pub by_number : (P : Counted Outcome → Type 0) (n : ℕ) (c : Counted Outcome) → (n ≡ 0 → P c) → ((n ≡ 0 → ⊥) → P (at_once (refused n)))
    → P (cond (eqb n 0) c (at_once (refused n)))
by_number P zero c past stopped = past refl
by_number P (suc n) c past stopped = rw (eqb-suc-zero n) (stopped (λ e. omega arith))

module _ (side : ℕ) (p f k t : Float) where
  pub first_refusal_le : first_refusal side p f k t ≤ 4
  unfolding first_refusal
  first_refusal_le = go (eqb side 0 || eqb side 1) (is_finite p && is_finite f && is_finite k && is_finite t) (lt plus_zero f && lt plus_zero k) (lt t plus_zero)
    where
      go : (a b c d : Bool) → first_of a b c d ≤ 4
      go false b c d = lit≤ tt
      go true false c d = lit≤ tt
      go true true false d = lit≤ tt
      go true true true true = lit≤ tt
      go true true true false = lit≤ tt

  pub passed : first_refusal side p f k t ≡ 0 → Domain side p f k t
  unfolding first_refusal
  passed e =
      let prices = lt plus_zero f && lt plus_zero k in
      let figures = is_finite p && is_finite f && is_finite k in
      let q = go (eqb side 0 || eqb side 1) (figures && is_finite t) prices (lt t plus_zero) e in
      let h : figures ≡ true = and_left figures (is_finite t) q.1 in
      let g : (is_finite p && is_finite f) ≡ true = and_left (is_finite p && is_finite f) (is_finite k) h in
      record {
        call_or_put = side_le side q.0;
        price_finite = and_left (is_finite p) (is_finite f) g;
        forward_finite = and_right (is_finite p) (is_finite f) g;
        forward_above = and_left (lt plus_zero f) (lt plus_zero k) q.2;
        strike_finite = and_right (is_finite p && is_finite f) (is_finite k) h;
        strike_above = and_right (lt plus_zero f) (lt plus_zero k) q.2;
        time_finite = and_right figures (is_finite t) q.1;
        time_not_below = q.3;
      }
    where
      go : (a b c d : Bool) → first_of a b c d ≡ 0 → (a ≡ true) × (b ≡ true) × (c ≡ true) × (d ≡ false)
      go false b c d e = absurd (omega arith)
      go true false c d e = absurd (omega arith)
      go true true false d e = absurd (omega arith)
      go true true true true e = absurd (omega arith)
      go true true true false e = (refl, refl, refl, refl)

      side_le : (n : ℕ) → (eqb n 0 || eqb n 1) ≡ true → n ≤ 1
      side_le zero e = lit≤ tt
      side_le (suc zero) e = lit≤ tt
      side_le (suc (suc n)) e = absurd (true≢false (sym e ∙ no_side (suc (suc n)) (omega arith)))

  -- what follows tests 1 to 4 is of one of the kinds
  pub figures_kind : Kind 5 (from_figures side p f k t)
  figures_kind = from_price_kind p _ _ _ _ t

  -- what holds of outcomes of each kind, and of the refusals of tests 1 to 4, holds of every quote's outcome
  by_first_refusal : (P : Counted Outcome → Type 0) → (first_refusal side p f k t ≡ 0 → (c : Counted Outcome) → Kind 5 c → P c)
      → ((m : ℕ) → 1 ≤ m → m ≤ 4 → P (at_once (refused m))) → P (from_quote side p f k t)
  unfolding from_quote
  by_first_refusal P past stopped =
      by_number P (first_refusal side p f k t) (from_figures side p f k t) (λ e. past e _ figures_kind) (λ n. stopped _ (omega (arith, n)) first_refusal_le)

  pub input_count : (from_quote side p f k t).count ≤ 2263
  input_count = by_first_refusal (λ c. c.count ≤ 2263) (λ e. kind_count) (λ m l h. lit≤ tt)

  pub compared_input : compared (implied_black_volatility_input side p f k t) ≡ from_quote side p f k t
  unfolding implied_black_volatility_input
  compared_input = compared_reply t (from_quote side p f k t)

  pub input_facts : Facts (compared (implied_black_volatility_input side p f k t))
  input_facts =
      subst Facts (sym compared_input)
      (by_first_refusal Facts (λ e. kind_facts (λ m h. h)) (λ m l h. refused_facts m (l, omega arith)))

  pub input_numbers : T (fits binary64 t) → FiguresAreNumbers (implied_black_volatility_input side p f k t)
  unfolding implied_black_volatility_input
  input_numbers F =
      by_first_refusal (λ c. FiguresAreNumbers (reply t c)) (λ e c. let q = passed e in kind_numbers t c q.time_finite q.time_not_below F)
      (λ m l h. tt)

-- ---- a refusal on the domain is one of 5 to 9
pub domain_passes : (side : ℕ) (p f k t : Float) → Domain side p f k t → first_refusal side p f k t ≡ 0
unfolding first_refusal
domain_passes side p f k t h =
    rw (
      a_side side h.call_or_put,
      h.price_finite,
      h.forward_finite,
      h.strike_finite,
      h.time_finite,
      h.forward_above,
      h.strike_above,
      h.time_not_below,
    )

pub domain_refusals : (side : ℕ) (p f k t : Float) → Domain side p f k t → (m : ℕ)
    → (compared (implied_black_volatility_input side p f k t)).result ≡ refused m → (5 ≤ m) × (m ≤ 9)
domain_refusals side p f k t h m e =
    let q = kind_refused _ m (lit≤ tt) (from_price_kind p _ _ _ _ t) (sym (ap (λ d. d.result) (compared_input side p f k t ∙ is)) ∙ e) in
    (q.0, q.1)
  where
    is : from_quote side p f k t ≡ from_figures side p f k t
    is = unfold from_quote in rw (domain_passes side p f k t h)

-- ---- at the money nothing is searched for
abbrev pub NoSearch : Counted Outcome → Type 0
NoSearch c = c.count ≡ 0

pub money_normalised : (x p : Float) → eq (abs x) plus_zero ≡ true → (from_normalised_price x p).count ≡ 0
unfolding from_normalised_price
money_normalised x p e = rw e (in_both NoSearch (le p plus_zero) refl (in_both NoSearch (le (exp (neg half ⊗ abs x)) p) refl refl))

pub money_figures : (side : ℕ) (p f k t : Float) → eq (abs (negative_abs_log_moneyness f k)) plus_zero ≡ true → (from_figures side p f k t).count ≡ 0
unfolding from_time_value
money_figures side p f k t e =
    let x = negative_abs_log_moneyness f k in
    let intrinsic = intrinsic_value side f k in
    let bound = price_bound side f k in
    let roots = sqrt f ⊗ sqrt k in
    let v = normalised_time_value p intrinsic roots in
    rw (from_price_is p intrinsic bound roots x t)
    (in_both NoSearch (eq t plus_zero) refl
    (in_both NoSearch (le bound p) refl
    (in_both NoSearch (le v min_positive) refl (money_normalised x v e))))

pub money_input : (side : ℕ) (p f k t : Float) → eq (abs (negative_abs_log_moneyness f k)) plus_zero ≡ true
    → (compared (implied_black_volatility_input side p f k t)).count ≡ 0
unfolding from_quote
money_input side p f k t e =
    ap (λ d. d.count) (compared_input side p f k t)
    ∙ in_both NoSearch (eqb (first_refusal side p f k t) 0) (money_figures side p f k t e) refl
