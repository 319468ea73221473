-- The steps of a place, and the count of strike roots, against the definitions. Assumes nothing.
use Rattle.std.proofs.Math.Path.{◌≡◌, refl}
use Rattle.std.proofs.Common.{sym, ap, ◌∙◌, subst, zero-le, not-suc-le-zero, le_of_suc-le-suc, arith, eqb→eq, lit≤}
use Rattle.std.specs.Prelude.{Bool, ◌&&◌, List, [], ◌∷◌, ℕ, zero, suc, ◌≤◌, ◌<◌, eqb, ltb, length, take, get_or, Float}
use Rattle.std.proofs.Math.Bool.{true, false, not, cond}
use borrow.Author.Tests.{ne_eqb, lt-ltb, le-ltb}
use Rattle.std.proofs.Math.Dec.{T, eqb_refl, nltb→le}
use Rattle.std.specs.Float.Ieee.{le, eq, of_bits}
use Rattle.std.specs.Float.Ieee.Bits.{is_true}
use Rattle.std.specs.Float.Ieee.Scale.{finite}
use Rattle.arithmetic.specs.Operations.{◌⊗◌, plus_zero}
use Rattle.arithmetic.specs.Sqrt.{sqrt}
use Rattle.arithmetic.specs.Laws.Choices.{in_both, refuted, never}
use Rattle.arithmetic.specs.Laws.Compare.{lt_is_not_le}
use Rattle.arithmetic.specs.Laws.Slices.{zip_length, zip_at}
use Rattle.bs_option_price.specs.BsOptionPrice.{negative_abs_log_moneyness}
use Rattle.inverse_gaussian.specs.Counted.{some, none, or_else}
use Rattle.explicit_black.specs.Quote.{Outcome, total, refused, Reply, answer, refusal, volatility_over, reply_of, reply_over}
use Rattle.explicit_black.specs.Quote.{first_refusal, intrinsic_value, price_bound, bound_tests}
use Rattle.explicit_black.specs.Quote.{normalised_time_value, from_time_value, from_price, from_quote, implied_black_volatility_input}
use Rattle.explicit_black.specs.Laws.Quote.{passed}
use Rattle.ladder.specs.Ladder.{takes_root, roots_after, replies, trues, root_places, are_equal, length_refusal}
use Rattle.ladder.specs.Internal.Place.{open_reply}

module _ (side : ℕ) (p f k t : Float) where
  abbrev intrinsic : Float
  intrinsic = intrinsic_value side f k

  abbrev bound : Float
  bound = price_bound side f k

  -- past tests 1 to 4 a root is taken where the time is not zero and the price is not at its bound or above it
  takes_root_is : first_refusal side p f k t ≡ 0 → takes_root side p f k t ≡ (not (eq t plus_zero) && not (le bound p))
  unfolding takes_root le of_bits
  takes_root_is e =
      let d = passed side p f k t e in
      rw (
        e,
        lt_is_not_le plus_zero t tt (subst T (sym d.time_finite) tt),
        lt_is_not_le p bound (subst T (sym d.price_finite) tt) bound_finite,
        d.time_not_below,
      )
    where
      bound_finite : T (finite bound)
      bound_finite =
          let d = passed side p f k t e in
          in_both (λ (x : Float). T (finite x)) (eqb side 0) (subst T (sym d.forward_finite) tt) (subst T (sym d.strike_finite) tt)

  -- refused by tests 1 to 4
  pub early_reply : (n : ℕ) → n ≡ first_refusal side p f k t → (n ≡ 0 → ⊥) → refusal n 0 ≡ implied_black_volatility_input side p f k t
  unfolding implied_black_volatility_input from_quote
  early_reply n e h = rw (← e, ne_eqb n 0 h)

  pub early_root : (n : ℕ) → n ≡ first_refusal side p f k t → (n ≡ 0 → ⊥) → takes_root side p f k t ≡ false
  unfolding takes_root
  early_root n e h = rw (← e, ne_eqb n 0 h)

  module _ (e : first_refusal side p f k t ≡ 0) where
    -- decided by tests 5 and 6
    pub decided_reply : (o : Outcome) → some o ≡ bound_tests p intrinsic bound t → reply_of t (sqrt t) o 0 ≡ implied_black_volatility_input side p f k t
    unfolding implied_black_volatility_input from_quote from_price or_else
    decided_reply o h = rw (e, ← h)

    pub decided_refusal : (n : ℕ) → some (refused n) ≡ bound_tests p intrinsic bound t → refusal n 0 ≡ implied_black_volatility_input side p f k t
    decided_refusal n = decided_reply (refused n)

    pub decided_total : (v w rt : Float) → rt ≡ sqrt t → w ≡ volatility_over t rt v → some (total v) ≡ bound_tests p intrinsic bound t
        → answer v w 0 ≡ implied_black_volatility_input side p f k t
    decided_total v w rt a b h = ap (λ (x : Float). answer v x 0) (b ∙ ap (λ (x : Float). volatility_over t x v) a) ∙ decided_reply (total v) h

    pub decided_root : (o : Outcome) → some o ≡ bound_tests p intrinsic bound t → takes_root side p f k t ≡ false
    unfolding bound_tests
    decided_root o h = takes_root_is e ∙ go (eq t plus_zero) (le bound p) _ _ h
      where
        go : (u v : Bool) (i j : Outcome) → some o ≡ cond u (some i) (cond v (some j) none) → (not u && not v) ≡ false
        go true v i j g = refl
        go false true i j g = refl
        go false false i j g = never (cc)

    -- left open by them
    pub open_reply_lem : (d : Float) → d ≡ intrinsic → none ≡ bound_tests p intrinsic bound t
        → open_reply f t p d k ≡ implied_black_volatility_input side p f k t
    unfolding implied_black_volatility_input from_quote from_price or_else
    open_reply_lem d u h = rw (u, e, ← h)

    pub open_root : none ≡ bound_tests p intrinsic bound t → takes_root side p f k t ≡ true
    unfolding bound_tests
    open_root h = takes_root_is e ∙ go (eq t plus_zero) (le bound p) _ _ h
      where
        go : (u v : Bool) (i j : Outcome) → none ≡ cond u (some i) (cond v (some j) none) → (not u && not v) ≡ true
        go true v i j g = never (cc)
        go false true i j g = never (cc)
        go false false i j g = refl

-- the reply from roots that were taken before
pub from_roots_open : (f t p d k rf rk rt : Float) → rf ≡ sqrt f → rk ≡ sqrt k → rt ≡ sqrt t
    → reply_over t rt (from_time_value (negative_abs_log_moneyness f k) (normalised_time_value p d (rf ⊗ rk))) ≡ open_reply f t p d k
from_roots_open f t p d k rf rk rt a b c = rw (a, b, c)

-- ---- at place i of a ladder with as many prices as strikes
module _ (side : ℕ) (f t : Float) (ks ps : List Float) (e : length ps ≡ length ks) where
  pub replies_length : length (replies side f t ks ps) ≡ length ks
  unfolding replies
  replies_length = zip_length _ ks ps e

  pub root_places_length : length (root_places side f t ks ps) ≡ length ks
  unfolding root_places
  root_places_length = zip_length _ ks ps e

  module _ (i : ℕ) (h : i < length ks) (a b : Float) where
    pub reply_at_lem : (r : Reply) → get_or (replies side f t ks ps) i r ≡ implied_black_volatility_input side (get_or ps i b) f (get_or ks i a) t
    unfolding replies
    reply_at_lem r = zip_at _ ks ps i a b r h e

    pub root_at : (r : Bool) → get_or (root_places side f t ks ps) i r ≡ takes_root side (get_or ps i b) f (get_or ks i a) t
    unfolding root_places
    root_at r = zip_at _ ks ps i a b r h e

-- ---- how many of the first places
pub trues_next : (bs : List Bool) (i : ℕ) → i < length bs → trues (take (suc i) bs) ≡ roots_after (get_or bs i false) (trues (take i bs))
unfolding trues
trues_next [] i h = absurd (not-suc-le-zero h)
trues_next (false ∷ bs) zero h = refl
trues_next (true ∷ bs) zero h = refl
trues_next (false ∷ bs) (suc i) h = trues_next bs i (le_of_suc-le-suc h)
trues_next (true ∷ bs) (suc i) h = ap suc (trues_next bs i (le_of_suc-le-suc h)) ∙ go (get_or bs i false) (trues (take i bs))
  where
    go : (b : Bool) (n : ℕ) → suc (roots_after b n) ≡ roots_after b (suc n)
    go true n = omega arith
    go false n = refl

pub trues_few : (bs : List Bool) (i : ℕ) → trues (take i bs) ≤ i
unfolding trues
trues_few bs zero = lit≤ tt
trues_few [] (suc i) = zero-le
trues_few (false ∷ bs) (suc i) = omega (arith, trues_few bs i)
trues_few (true ∷ bs) (suc i) = omega (arith, trues_few bs i)

-- ---- the number by the lengths

-- six equal lengths, at most 500
pub record Lengths (strikes prices totals volatilities counts refusals : ℕ) : Type 0 where
  pub prices_equal : prices ≡ strikes
  pub totals_equal : totals ≡ strikes
  pub volatilities_equal : volatilities ≡ strikes
  pub counts_equal : counts ≡ strikes
  pub refusals_equal : refusals ≡ strikes
  pub few : strikes ≤ 500

module _ (k p t v c r : ℕ) where
  -- what follows from five equations
  abbrev Equal : Type 0 → Type 0
  Equal X = p ≡ k → t ≡ k → v ≡ k → c ≡ k → r ≡ k → X

  by_equal : {X : Type 0} → T (are_equal k p t v c r) → Equal X → X
  by_equal u f =
      let a = and_both (eqb p k && eqb t k && eqb v k && eqb c k) (eqb r k) u in
      let b = and_both (eqb p k && eqb t k && eqb v k) (eqb c k) a.0 in
      let d = and_both (eqb p k && eqb t k) (eqb v k) b.0 in
      let g = and_both (eqb p k) (eqb t k) d.0 in
      f (eqb→eq p k g.0) (eqb→eq t k g.1) (eqb→eq v k d.1) (eqb→eq c k b.1) (eqb→eq r k a.1)
    where
      and_both : (u v : Bool) → T (u && v) → T u × T v
      and_both true true e = (tt, tt)
      and_both true false e = absurd e
      and_both false v e = absurd e

  pub unequal_lengths : Equal ⊥ → 12 ≡ length_refusal k p t v c r
  unfolding length_refusal
  unequal_lengths h = rw (refuted (are_equal k p t v c r) (λ u. by_equal u h))

  equal_lengths : Equal (length_refusal k p t v c r ≡ cond (ltb 500 k) 13 0)
  unfolding length_refusal
  equal_lengths a b d e f = rw (a, b, d, e, f, is_true (eqb k k) (eqb_refl k))

  pub over_500 : Equal (500 < k → 13 ≡ length_refusal k p t v c r)
  over_500 a b d e f h = rw (equal_lengths a b d e f, lt-ltb 500 k h)

  pub up_to_500 : Equal (k ≤ 500 → 0 ≡ length_refusal k p t v c r)
  up_to_500 a b d e f h = rw (equal_lengths a b d e f, le-ltb 500 k h)

  pub accepted : length_refusal k p t v c r ≡ 0 → Lengths k p t v c r
  unfolding length_refusal
  accepted e =
      let q = go (are_equal k p t v c r) (ltb 500 k) e in
      by_equal q.0 (λ a b d e f. record {
        prices_equal = a;
        totals_equal = b;
        volatilities_equal = d;
        counts_equal = e;
        refusals_equal = f;
        few = nltb→le 500 k q.1;
      })
    where
      go : (u v : Bool) → ◌≡◌ {A = ℕ} (cond (not u) 12 (cond v 13 0)) 0 → T u × T (not v)
      go false v e = absurd (omega arith)
      go true true e = absurd (omega arith)
      go true false e = (tt, tt)
