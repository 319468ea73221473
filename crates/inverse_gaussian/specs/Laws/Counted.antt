-- Laws of counted results and of loops: what a caller with an allowance gets of a search, and what one iteration leaves of the allowance, for every loop.
-- Assumes nothing.
use Rattle.std.specs.Prelude.{◌≡◌, refl, ℕ, zero, suc, ◌+◌, ◌-◌, ◌≤◌, ◌<◌, Bool, not, T, leb, Float}
use Rattle.std.proofs.Common.{sym, ap, subst, ◌∙◌, zero-le, suc-le-suc, leb→le, arith}
use Rattle.std.proofs.Math.Dec.{nleb→lt}
use Rattle.arithmetic.specs.Laws.Choices.{by_test, never}
use Rattle.inverse_gaussian.specs.Counted.{some, Sample, sample, Counted, at_once, tick, then, some_of}
use Rattle.inverse_gaussian.specs.Counted.{Metered, have, spent, mapped, all_some, limited}
use Rattle.inverse_gaussian.specs.Loops.{Next, go, stop, Loop, step, iterate, Ends}

-- what a contract says of a value, for the variant that a `match` found
pub seen : {A B : Type 0} (view : A → B) {x y : A} {b : B} → view x ≡ b → x ≡ y → view y ≡ b
seen view e p = sym (ap view p) ∙ e

-- ---- what a caller who is allowed n gets

-- by cases: the count is within the allowance, or over it
by_allowance : {R : Type 0} (P : Metered R → Type 0) (n : ℕ) (c : Counted R) → (c.count ≤ n → P (have c.result (n - c.count)))
    → (n < c.count → P spent) → P (limited n c)
unfolding limited
by_allowance P n c within over =
    by_test P (leb c.count n) (λ e. within (leb→le c.count n (subst T (sym e) tt)))
    (λ e. over (nleb→lt c.count n (subst (λ (b : Bool). T (not b)) (sym e) tt)))

-- of a search that makes no more, the result and what is left; of one that makes more, nothing
pub limited_enough : {R : Type 0} (n : ℕ) (c : Counted R) → c.count ≤ n → limited n c ≡ have c.result (n - c.count)
limited_enough n c h = by_allowance (λ m. m ≡ have c.result (n - c.count)) n c (λ _. refl) (λ g. absurd (omega arith))

limited_over : {R : Type 0} (n : ℕ) (c : Counted R) → n < c.count → limited n c ≡ spent
limited_over n c h = by_allowance (λ m. m ≡ spent) n c (λ g. absurd (omega arith)) (λ _. refl)

-- of a result without an evaluation
pub limited_now : {R : Type 0} (n : ℕ) (r : R) → limited n (at_once r) ≡ have r n
limited_now n r = limited_enough n (at_once r) zero-le ∙ ap (have r) (omega arith)

-- of a search after one evaluation
pub limited_none : {R : Type 0} (c : Counted R) → limited zero (tick c) ≡ spent
limited_none c = limited_over zero (tick c) (omega arith)

pub limited_tick : {R : Type 0} (n : ℕ) (c : Counted R) → limited (suc n) (tick c) ≡ limited n c
limited_tick n c =
    by_allowance (λ m. limited (suc n) (tick c) ≡ m) n c
    (λ h. limited_enough (suc n) (tick c) (suc-le-suc h) ∙ ap (have c.result) (omega arith))
    (λ h. limited_over (suc n) (tick c) (suc-le-suc h))

-- the caller learns the result, and the count from what is left
pub taken_off : {R : Type 0} (n left : ℕ) (r : R) (c : Counted R) → have r left ≡ limited n c → (c.result ≡ r) × (left + c.count ≡ n)
taken_off n left r c =
    by_allowance (λ m. have r left ≡ m → (c.result ≡ r) × (left + c.count ≡ n)) n c
    (λ h e. let l : left ≡ n - c.count = cc in (cc, omega arith)) (λ h e. never (cc))

-- g of the result
pub limited_mapped : {R Q : Type 0} (g : R → Q) (n : ℕ) (c : Counted R)
    → limited n (record { result = g c.result; count = c.count }) ≡ mapped g (limited n c)
limited_mapped {Q = Q} g n c =
    let d : Counted Q = record { result = g c.result; count = c.count } in
    by_allowance (λ m. limited n d ≡ mapped g m) n c (limited_enough n d) (limited_over n d)

-- one evaluation, with an allowance of 0 and with another
pub tick_none : {R : Type 0} (n : ℕ) (w : R) → n ≡ 0 → spent ≡ limited n (tick (at_once w))
tick_none n w e = sym (limited_over n (tick (at_once w)) (omega arith))

pub tick_some : {R : Type 0} (n : ℕ) (v w : R) {m : ℕ} → (n ≡ 0 → ⊥) → v ≡ w → m ≡ n - 1 → have v m ≡ limited n (tick (at_once w))
tick_some n v w h e l = rw (limited_enough n (tick (at_once w)) (omega arith), l, e)

-- ---- one search after another
abbrev and_then : {R Q : Type 0} → Metered R → (R → ℕ → Metered Q) → Metered Q
and_then (have r n) f = f r n
and_then spent f = spent

limited_then : {R Q : Type 0} (n : ℕ) (c : Counted R) (f : R → Counted Q) → limited n (then c f) ≡ and_then (limited n c) (λ r m. limited m (f r))
limited_then n c f =
    let q = f c.result in
    by_allowance (λ m. limited n (then c f) ≡ and_then m (λ r m. limited m (f r))) n c
    (λ h. by_allowance (λ m. limited n (then c f) ≡ m) (n - c.count) q
    (λ g. limited_enough n (then c f) (omega arith) ∙ ap (have q.result) (omega arith)) (λ g. limited_over n (then c f) (omega arith)))
    (λ h. limited_over n (then c f) (omega arith))

pub then_spent : {R Q : Type 0} (n : ℕ) (c : Counted R) (f : R → Counted Q) → spent ≡ limited n c → spent ≡ limited n (then c f)
then_spent n c f e = rw (limited_then n c f, ← e)

pub then_have : {R Q : Type 0} (n m : ℕ) (c : Counted R) (f : R → Counted Q) (r : R) (q : Metered Q)
    → have r m ≡ limited n c → q ≡ limited m (f r) → q ≡ limited n (then c f)
then_have n m c f r q e h = rw (limited_then n c f, ← e) h

-- ---- a search that always has a result, as one that might have none
limited_some : {R : Type 0} (n : ℕ) (c : Counted R) → limited n (some_of c) ≡ all_some (limited n c)
limited_some n c = limited_mapped (λ r. some r) n c

pub some_spent : {R : Type 0} (n : ℕ) (c : Counted R) → spent ≡ limited n c → spent ≡ limited n (some_of c)
some_spent n c e = sym (limited_some n c ∙ ap all_some (sym e))

pub some_have : {R : Type 0} (n m : ℕ) (c : Counted R) (r : R) → have r m ≡ limited n c → have (some r) m ≡ limited n (some_of c)
some_have n m c r e = sym (limited_some n c ∙ ap all_some (sym e))

-- ---- what one evaluation tells its caller: the value, and that one fewer is left; or that the allowance was 0

pub value_of : {R : Type 0} {n m : ℕ} {v w : R} → have v m ≡ limited n (tick (at_once w)) → (w ≡ v) × (n ≡ suc m)
value_of {n} {m} {v} {w} e = let q = taken_off n m v (tick (at_once w)) e in (q.0, omega arith)

pub none_of : {R : Type 0} {n : ℕ} (w : R) → spent ≡ limited n (tick (at_once w)) → n ≡ zero
none_of {n} w = by_allowance (λ m. spent ≡ m → n ≡ zero) n (tick (at_once w)) (λ h e. never (cc)) (λ h e. omega arith)

-- after one evaluation was taken off, or was not, that of another value gives the same
pub taken : {R Q : Type 0} (n : ℕ) (u : Q) {m : ℕ} {t : Q} {v w : R} → have t m ≡ limited n (tick (at_once u)) → v ≡ w
    → have v m ≡ limited n (tick (at_once w))
taken n u {m} {v = v} {w} e h = let o = (value_of e).1 in rw (limited_enough n (tick (at_once w)) (omega arith), h) (ap (have w) (omega arith))

pub not_taken : {R Q : Type 0} (n : ℕ) (u : Q) (w : R) → spent ≡ limited n (tick (at_once u)) → spent ≡ limited n (tick (at_once w))
not_taken n u w e = tick_none n w (none_of u e)

pub fewer : {R : Type 0} {n m : ℕ} {v : R} (w : R) → have v m ≡ limited n (tick (at_once w)) → m < n
fewer w e = omega (arith, (value_of e).1)

-- with an allowance of 1 it gives its value
pub first_value : {n m : ℕ} {v d w : Float} (q : Float) → n ≡ 1 → have (sample v d) m ≡ limited n (tick (at_once (sample w q))) → v ≡ w
first_value q h e = let o = (value_of e).0 in cc

pub first_spent : {n : ℕ} (w : Sample) → n ≡ 1 → spent ≡ limited n (tick (at_once w)) → ⊥
first_spent w h e = let z = none_of w e in omega arith

-- ---- loops

-- no more evaluations than iterations are allowed
pub count_le : {S R : Type 0} (l : Loop S R) (k : ℕ) (n : Next S R) → (iterate l k n).count ≤ k
unfolding iterate
count_le l zero (go s) = zero-le
count_le l zero (stop r) = zero-le
count_le l (suc k) (go s) = suc-le-suc (count_le l k (step l s))
count_le l (suc k) (stop r) = zero-le

pub iterate_stop : {S R : Type 0} (l : Loop S R) (k : ℕ) (r : R) → iterate l k (stop r) ≡ at_once r
unfolding iterate
iterate_stop l zero r = refl
iterate_stop l (suc k) r = refl

iterate_suc : {S R : Type 0} (l : Loop S R) (k : ℕ) (s : S) → iterate l (suc k) (go s) ≡ tick (iterate l k (step l s))
unfolding iterate
iterate_suc l k s = refl

pub ends_stop : {S R : Type 0} (l : Loop S R) (k : ℕ) (r : R) → Ends l k (stop r)
unfolding Ends
ends_stop l zero r = tt
ends_stop l (suc k) r = tt

pub ends_go : {S R : Type 0} (l : Loop S R) (k : ℕ) (s : S) → Ends l k (step l s) → Ends l (suc k) (go s)
unfolding Ends
ends_go l k s h = h

ends_more : {S R : Type 0} (l : Loop S R) (k : ℕ) (n : Next S R) → Ends l k n → Ends l (suc k) n
unfolding Ends
ends_more l zero (go s) h = absurd h
ends_more l zero (stop r) h = tt
ends_more l (suc k) (go s) h = ends_more l k (step l s) h
ends_more l (suc k) (stop r) h = tt

iterate_more : {S R : Type 0} (l : Loop S R) (k : ℕ) (n : Next S R) → Ends l k n → iterate l (suc k) n ≡ iterate l k n
unfolding iterate Ends
iterate_more l zero (go s) h = absurd h
iterate_more l zero (stop r) h = refl
iterate_more l (suc k) (go s) h = ap tick (iterate_more l k (step l s) h)
iterate_more l (suc k) (stop r) h = refl

-- a loop that ends within its iterations goes on as if their number had no limit
iterate_step : {S R : Type 0} (l : Loop S R) (k : ℕ) (s : S) → Ends l k (go s) → iterate l k (go s) ≡ tick (iterate l k (step l s))
unfolding Ends
iterate_step l zero s h = absurd h
iterate_step l (suc k) s h = iterate_suc l k s ∙ ap tick (sym (iterate_more l k (step l s) h))

ends_step : {S R : Type 0} (l : Loop S R) (k : ℕ) (s : S) → Ends l k (go s) → Ends l k (step l s)
unfolding Ends
ends_step l zero s h = absurd h
ends_step l (suc k) s h = ends_more l k (step l s) h

-- ---- The invariant of a loop of the code that does not count its iterations. The definition's loop l has k of them, and ends within these: what the
-- caller is to get, `a`, is what l gives from x with the n evaluations that are left.
pub record Carried {S R : Type 0} (l : Loop S R) (k : ℕ) (a : Metered R) (n : ℕ) (x : Next S R) : Type 0 where
  pub same : a ≡ limited n (iterate l k x)
  pub ends : Ends l k x

-- it holds at the start
pub carried : {S R : Type 0} {l : Loop S R} {k : ℕ} {n : ℕ} {x : Next S R} → Ends l k x → Carried l k (limited n (iterate l k x)) n x
carried h = record { same = refl; ends = h }

module _ {S R : Type 0} {l : Loop S R} {k : ℕ} {a : Metered R} {n : ℕ} where
  -- where none is left the caller gets nothing
  carried_none : {s : S} → Carried l k a n (go s) → n ≡ zero → a ≡ spent
  carried_none {s} i e = i.same ∙ rw (e, iterate_step l k s i.ends) (limited_none (iterate l k (step l s)))

  -- it is kept by an iteration, after which one fewer is left
  pub carried_on : {s : S} {m : ℕ} {x : Next S R} → Carried l k a n (go s) → n ≡ suc m → step l s ≡ x → Carried l k a m x
  carried_on {s} {m} {x} i e d = record {
    same = i.same ∙ rw (e, iterate_step l k s i.ends, d) (limited_tick m (iterate l k x));
    ends = subst (Ends l k) d (ends_step l k s i.ends);
  }

  pub carried_spent : {s : S} (w : Sample) → Carried l k a n (go s) → spent ≡ limited n (tick (at_once w)) → spent ≡ a
  carried_spent w i e = sym (carried_none i (none_of w e))

  pub carried_at : {x y : Next S R} → Carried l k a n x → x ≡ y → Carried l k a n y
  carried_at i e = subst (Carried l k a n) e i

  -- where the loop stops, the caller gets its result
  pub carried_stop : {r : R} → Carried l k a n (stop r) → a ≡ have r n
  carried_stop {r} i = i.same ∙ ap (limited n) (iterate_stop l k r) ∙ limited_now n r

-- ---- The invariant of a loop of the code that counts its iterations, k of which are left: an iteration leaves one fewer of these too.
pub record Left {S R : Type 0} (l : Loop S R) (k : ℕ) (a : Metered R) (n : ℕ) (x : Next S R) : Type 0 where
  pub same : a ≡ limited n (iterate l k x)

module _ {S R : Type 0} {l : Loop S R} {k : ℕ} {a : Metered R} {n : ℕ} where
  pub left_none : {s : S} (j : ℕ) → Left l k a n (go s) → k ≡ suc j → n ≡ zero → a ≡ spent
  left_none {s} j i f e = i.same ∙ rw (e, f, iterate_suc l j s) (limited_none (iterate l j (step l s)))

  pub left_on : {s : S} {j m : ℕ} {x : Next S R} → Left l k a n (go s) → k ≡ suc j → n ≡ suc m → step l s ≡ x → Left l j a m x
  left_on {s} {j} {m} {x} i f e d = record { same = i.same ∙ rw (e, f, iterate_suc l j s, d) (limited_tick m (iterate l j x)) }

  pub left_at : {x y : Next S R} → Left l k a n x → x ≡ y → Left l k a n y
  left_at i e = subst (Left l k a n) e i

  pub left_stop : {r : R} → Left l k a n (stop r) → a ≡ have r n
  left_stop {r} i = i.same ∙ ap (limited n) (iterate_stop l k r) ∙ limited_now n r

  -- where the iterations are used up, the caller gets the loop's last result
  pub left_out : {s : S} → Left l k a n (go s) → k ≡ zero → a ≡ have (l.out s) n
  unfolding iterate
  left_out {s} i f = i.same ∙ rw f (limited_now n (l.out s))
