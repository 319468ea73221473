-- What holds of every ladder: each place is its quote by itself, which places take their strike's root, and demand 3 place by place. Assumes nothing.
use Rattle.std.specs.Prelude.{◌≡◌, refl, ◌⊎◌, Bool, true, false, List, map, ℕ, zero, suc, ◌≤◌, ◌<◌, ℤ, Float, length}
use Rattle.std.proofs.Common.{sym, ◌∙◌, subst, inl, inr, true≢false, le_refl, arith, take_all}
use Rattle.std.proofs.Math.Path.{ap}
use Rattle.std.proofs.Math.ListN.{get_or, get_or-map}
use Rattle.std.proofs.lemmas.List.{length-map}
use Rattle.arithmetic.specs.Operations.{bits, plus_zero, one}
use Rattle.arithmetic.specs.Sqrt.{sqrt}
use Rattle.arithmetic.specs.Laws.Choices.{never}
use Rattle.inverse_gaussian.specs.Counted.{Option, some, none, Counted}
use Rattle.explicit_black.specs.Quote.{Outcome, total, refused, Reply, answer, refusal, first_refusal, intrinsic_value, price_bound, bound_tests}
use Rattle.explicit_black.specs.Quote.{reply_of, implied_black_volatility_input}
use Rattle.explicit_black.specs.Discount.{implied_black_volatility_discounted}
use Rattle.explicit_black.specs.Demand.{compared, Exactly, ComparableFigures, ComparableTimes}
use Rattle.explicit_black.specs.Laws.Quote.{compared_reply, time_value_refused, first_refusal_le, input_facts}
use Rattle.explicit_black.specs.Laws.Discount.{factor_one_at_bits}
use Rattle.explicit_black.specs.Laws.Tests.{bound_tests_refused}
use Rattle.explicit_black.specs.Laws.Demand.{input_at_bits}
use Rattle.explicit_black.proofs.Demand.{same_side, other_side}
use Rattle.ladder.specs.Ladder.{total_of, volatility_of, count_of, number_of, takes_root, replies, trues, root_places, strike_roots}
use Rattle.ladder.specs.Ladder.{Ladder, length_refusal, solved_ladder, ladder}
use Rattle.ladder.specs.Demand.{Inputs, handed_back, refusal_of, strike_at, price_at, Compared, compared_at}
use Rattle.ladder.specs.Laws.Places.{early_reply, early_root, decided_reply, decided_root, open_reply_lem, open_root}
use Rattle.ladder.specs.Laws.Places.{reply_at_lem, root_places_length, trues_few, accepted}
use Rattle.ladder.specs.Internal.Place.{open_reply}

-- ---- a quote's reply, and whether its strike's root is taken
module _ (side : ℕ) (p f k t : Float) where
  abbrev replied : Reply
  replied = implied_black_volatility_input side p f k t

  abbrev taken : Bool
  taken = takes_root side p f k t

  abbrev decision : Option Outcome
  decision = bound_tests p (intrinsic_value side f k) (price_bound side f k) t

  -- tests 1 to 4 refuse it, or tests 5 and 6 decide it, or neither
  by_tests : {X : Type 0}
      → ((n : ℕ) → suc n ≡ first_refusal side p f k t → refusal (suc n) 0 ≡ replied → taken ≡ false → X)
      → ((o : Outcome) → some o ≡ decision → reply_of t (sqrt t) o 0 ≡ replied → taken ≡ false → X)
      → (first_refusal side p f k t ≡ 0 → none ≡ decision → open_reply f t p (intrinsic_value side f k) k ≡ replied → taken ≡ true → X)
      → X
  by_tests {X} early decided undecided = first (first_refusal side p f k t) refl
    where
      second : first_refusal side p f k t ≡ 0 → (d : Option Outcome) → d ≡ decision → X
      second e (some o) q = decided o q (decided_reply side p f k t e o q) (decided_root side p f k t e o q)
      second e none q = undecided e q (open_reply_lem side p f k t e _ refl q) (open_root side p f k t e q)

      first : (n : ℕ) → n ≡ first_refusal side p f k t → X
      first zero e = second (sym e) decision refl
      first (suc n) e =
          let above : suc n ≡ 0 → ⊥ = λ z. omega arith in
          early n e (early_reply side p f k t (suc n) e above) (early_root side p f k t (suc n) e above)

  -- THE ROOT IS TAKEN exactly where tests 1 to 4 pass and tests 5 and 6 decide nothing
  pub root_open : taken ≡ true → (first_refusal side p f k t ≡ 0) × (decision ≡ none)
  root_open r =
      by_tests (λ n e q z. absurd (true≢false (sym r ∙ z))) (λ o e q z. absurd (true≢false (sym r ∙ z))) (λ e d q z. (e, sym d))

  pub open_takes : first_refusal side p f k t ≡ 0 → decision ≡ none → taken ≡ true
  open_takes e d = open_root side p f k t e (sym d)

  -- a refused quote took it where its number is 7 or more, and only there: it passed tests 1 to 6
  pub root_passes : taken ≡ true → (n c : ℕ) → replied ≡ refusal n c → 7 ≤ n
  root_passes r n c e =
      by_tests (λ m g q z. absurd (true≢false (sym r ∙ z))) (λ o g q z. absurd (true≢false (sym r ∙ z)))
      (λ g d q z. time_value_refused _ _ n (ap (λ (r : Counted Outcome). r.result) (sym (compared_reply t _) ∙ ap compared (q ∙ e))))

  pub no_root_refused : taken ≡ false → (n c : ℕ) → replied ≡ refusal n c → n ≤ 6
  no_root_refused r n c e =
      by_tests (λ m g q z. let i : suc m ≡ n = same_number (q ∙ e) in omega (arith, first_refusal_le side p f k t))
      (λ o d q z. decided o d (q ∙ e)) (λ g d q z. absurd (true≢false (sym z ∙ r)))
    where
      same_number : {m n b c : ℕ} → refusal m b ≡ refusal n c → m ≡ n
      same_number h = cc

      decided : (o : Outcome) → some o ≡ decision → reply_of t (sqrt t) o 0 ≡ refusal n c → n ≤ 6
      decided (total v) d h = never (cc)
      decided (refused m) d h = let i : m ≡ n = same_number h in omega (arith, (bound_tests_refused p _ _ t m d).1)

  -- without it nothing is evaluated
  pub no_root_no_count : taken ≡ false → count_of replied ≡ 0
  no_root_no_count r =
      by_tests (λ n e q z. ap count_of (sym q)) (λ o d q z. ap count_of (sym q) ∙ at_once o) (λ e d q z. absurd (true≢false (sym z ∙ r)))
    where
      at_once : (o : Outcome) → count_of (reply_of t (sqrt t) o 0) ≡ 0
      at_once (total v) = refl
      at_once (refused n) = refl

  -- a refusal is one of 1 to 9, so the number 0 stands at answers alone
  pub refusal_numbers : (n c : ℕ) → replied ≡ refusal n c → (1 ≤ n) × (n ≤ 9)
  refusal_numbers n c e = (input_facts side p f k t).numbered n (ap (λ r. (compared r).result) e)

  pub place_count : count_of replied ≤ 2263
  place_count = subst (λ (n : ℕ). n ≤ 2263) (go replied) (input_facts side p f k t).few
    where
      go : (r : Reply) → (compared r).count ≡ count_of r
      go (answer v w c) = refl
      go (refusal n c) = refl

-- ---- EACH PLACE IS ITS QUOTE BY ITSELF

-- the four values at place i are those of the reply
pub record Shows (l : Ladder) (i : ℕ) (r : Reply) : Type 0 where
  pub total_there : get_or l.totals i plus_zero ≡ total_of r
  pub volatility_there : get_or l.volatilities i plus_zero ≡ volatility_of r
  pub count_there : get_or l.counts i 0 ≡ count_of r
  pub number_there : get_or l.refusals i 0 ≡ number_of r

module _ (side : ℕ) (f t : Float) (ks ps ts vs : List Float) (cs rs : List ℕ)
    (e : length_refusal (length ks) (length ps) (length ts) (length vs) (length cs) (length rs) ≡ 0) where
  abbrev solved_ladder_lem : Ladder
  solved_ladder_lem = ladder side f t ks ps ts vs cs rs

  solved_is : solved_ladder_lem ≡ solved_ladder side f t ks ps
  unfolding ladder
  solved_is = rw e

  prices_equal : length ps ≡ length ks
  prices_equal = (accepted _ _ _ _ _ _ e).prices_equal

  pub each_place : (i : ℕ) → i < length ks → Shows solved_ladder_lem i (implied_black_volatility_input side (get_or ps i plus_zero) f (get_or ks i plus_zero) t)
  unfolding solved_ladder
  each_place i h = rw solved_is (record {
    total_there = value total_of (refusal 0 0);
    volatility_there = value volatility_of (refusal 0 0);
    count_there = value count_of (refusal 0 0);
    number_there = value number_of (refusal 0 0);
  })
    where
      value : {A : Type 0} (g : Reply → A) (d : Reply) → get_or (map g (replies side f t ks ps)) i (g d)
          ≡ g (implied_black_volatility_input side (get_or ps i plus_zero) f (get_or ks i plus_zero) t)
      value g d = get_or-map g (replies side f t ks ps) i d ∙ ap g (reply_at_lem side f t ks ps prices_equal i h plus_zero plus_zero d)

  pub roots_few : strike_roots side f t ks ps ≤ length ks
  roots_few =
      let n = root_places_length side f t ks ps prices_equal in
      subst (λ (bs : List Bool). trues bs ≤ length ks) (take_all (length ks) (root_places side f t ks ps) (rw n (le_refl (length ks))))
      (trues_few (root_places side f t ks ps) (length ks))

-- ---- for figures of any bits: each place is its quote by itself, and so its quote with factor 1
place_at_bits : (c : Inputs) → refusal_of c ≡ 0 → (i : ℕ) → i < length c.strikes
    → Shows (handed_back c) i (implied_black_volatility_input c.side (bits (price_at c i)) (bits c.forward) (bits (strike_at c i)) (bits c.time))
place_at_bits c e i h =
    let ks = map bits c.strikes in
    let ps = map bits c.prices in
    let accepts = rw (← length-map c.strikes bits, ← length-map c.prices bits) at e in
    let within = subst (λ (n : ℕ). i < n) (sym (length-map c.strikes bits)) h in
    rw (← get_or-map bits c.prices i 0, ← get_or-map bits c.strikes i 0)
    (each_place c.side (bits c.forward) (bits c.time) ks ps c.totals c.volatilities c.counts c.refusals accepts i within)

pub each_place_factor_one : (c : Inputs) → refusal_of c ≡ 0 → (i : ℕ) → i < length c.strikes → Shows (handed_back c) i
    (implied_black_volatility_discounted c.side (bits (price_at c i)) (bits c.forward) (bits (strike_at c i)) (bits c.time) one)
each_place_factor_one c e i h = rw (factor_one_at_bits c.side (price_at c i) c.forward (strike_at c i) c.time) (place_at_bits c e i h)

-- ---- DEMAND 3, PLACE BY PLACE

-- what is compared of a place, from what is compared of its quote
abbrev shown_total : Outcome → Float
shown_total (total v) = v
shown_total (refused n) = plus_zero

abbrev shown_number : Outcome → ℕ
shown_number (total v) = 0
shown_number (refused n) = n

abbrev shown : Counted Outcome → Compared
shown c = record { total = shown_total c.result; number = shown_number c.result; count = c.count }

place_shows : (l : Ladder) (i : ℕ) (r : Reply) → Shows l i r → compared_at l i ≡ shown (compared r)
place_shows l i r h = rw (h.total_there, h.number_there, h.count_there) (go r)
  where
    go : (r : Reply) → record { total = total_of r; number = number_of r; count = count_of r } ≡ shown (compared r)
    go (answer v w c) = refl
    go (refusal n c) = refl

-- what is compared of the quote at a place, by itself; what is compared of the place is made of it
abbrev quote_at : Inputs → ℕ → Counted Outcome
quote_at c i = input_at_bits c.side (price_at c i) c.forward (strike_at c i) c.time

at_place : (c : Inputs) → refusal_of c ≡ 0 → (i : ℕ) → i < length c.strikes
    → compared_at (handed_back c) i ≡ shown (quote_at c i)
at_place c e i h = place_shows _ i _ (place_at_bits c e i h)

-- Places i and j of two ladders, of any bits, whose quotes demand 3 compares: the price at j is exactly 4 ^ n times that at i.
module _ (n : ℤ) (a b : Inputs) (A : refusal_of a ≡ 0) (B : refusal_of b ≡ 0)
    (i j : ℕ) (I : i < length a.strikes) (J : j < length b.strikes)
    (h : ComparableFigures (bits (price_at a i)) (bits a.forward) (bits (strike_at a i)))
    (h' : ComparableFigures (bits (price_at b j)) (bits b.forward) (bits (strike_at b j)))
    (w : ComparableTimes (bits a.time) (bits b.time)) (e : Exactly n (bits (price_at a i)) (bits (price_at b j))) where
  places_agree : quote_at b j ≡ quote_at a i → compared_at (handed_back b) j ≡ compared_at (handed_back a) i
  places_agree q = at_place b B j J ∙ ap shown q ∙ sym (at_place a A i I)

  -- the sides are equal, and forward and strike are exactly 4 ^ n times as large
  pub same_side_places : b.side ≡ a.side → Exactly n (bits a.forward) (bits b.forward) → Exactly n (bits (strike_at a i)) (bits (strike_at b j))
      → compared_at (handed_back b) j ≡ compared_at (handed_back a) i
  same_side_places s g k = places_agree (rw s (same_side n _ _ _ _ _ _ _ _ h h' w e a.side g k))

  -- one is a call and the other a put, and the forward and strike of b's quote are exactly 4 ^ n times the strike and forward of a's
  pub other_side_places : ((a.side ≡ 0) × (b.side ≡ 1)) ⊎ ((a.side ≡ 1) × (b.side ≡ 0))
      → Exactly n (bits (strike_at a i)) (bits b.forward) → Exactly n (bits a.forward) (bits (strike_at b j))
      → compared_at (handed_back b) j ≡ compared_at (handed_back a) i
  other_side_places (inl s) g k = places_agree (rw (s.0, s.1) (other_side n _ _ _ _ _ _ _ _ h h' w e g k).0)
  other_side_places (inr s) g k = places_agree (rw (s.0, s.1) (other_side n _ _ _ _ _ _ _ _ h h' w e g k).1)
