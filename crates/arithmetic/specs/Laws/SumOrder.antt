-- Sums keep the order: of two finite values, each with a third added and rounded, the first is at most the second where it was so before. And what lies
-- between two values that are equal and below 0 is that value. Assumes nothing.
use Rattle.std.specs.Prelude.{◌≡◌, ℕ, zero, suc, ◌+◌, ◌-◌, ◌*◌, ◌<◌, ◌≤◌, Bool, true, false, cond, not, T, ◌⊎◌, ℤ, ◌≢◌, refl, Float}
use Rattle.std.proofs.Common.{sym, ap, ◌∙◌, inl, inr, zero-mul, mul_comm, mul-pos, mul-le-mul_right, eq-zero-or-pos, arith, true≢false, lt-ltb, le-ltb, ltb-false, ltb-true}
use Rattle.std.proofs.Math.Path.{subst}
use Rattle.std.proofs.lemmas.Bool.{false≢true}
use Rattle.std.specs.Float.Ieee.{nan, fin, up, down, below, round, sum, add, neg, lt, eq, le, is_nan, fits, of_bits}
use Rattle.std.specs.Float.{inf, binary64}
use Rattle.std.specs.Float.Ieee.Bits.{is_true}
use Rattle.std.specs.Float.Ieee.Order.{round_mono}
use Rattle.std.specs.Float.Ieee.Scale.{finite}
use Rattle.std.specs.Float.Ieee.Positive.{num, den, den_pos}
use Rattle.arithmetic.specs.Operations.{◌⊕◌, plus_zero}
use Rattle.arithmetic.specs.Basic.{is_sign_minus}
use Rattle.arithmetic.specs.Laws.Numbers.{lt_or_le}
use Rattle.arithmetic.specs.Laws.Choices.{never}
use Rattle.arithmetic.specs.Laws.Times.{both_finite, neg_sign, neg_num, neg_den}
use Rattle.arithmetic.specs.Laws.Compare.{lt_is, not_le, lt_not_le, lt_is_not_le}
use Rattle.arithmetic.specs.Laws.Sums.{add_is, sum_swap}
use Rattle.arithmetic.specs.Laws.Identities.{round_neg}
use Rattle.arithmetic.specs.Laws.Zeros.{zero_of, plus_zero_is, zero_by_sign, equal_same, plus_zero_lem}
use Rattle.arithmetic.specs.Laws.Bounds.{round_to_zero}
use Rattle.arithmetic.specs.Laws.Sizes.{round_cases, round_minus, NoLarger}

-- ---- a finite value as a difference of two numbers, of which one is 0, over its denominator
abbrev pub over : Float → ℕ
over x = cond (is_sign_minus x) 0 (num x)

abbrev pub under : Float → ℕ
under x = cond (is_sign_minus x) (num x) 0

-- x is at most y, as numbers
abbrev pub NotAbove : Float → Float → Type 0
NotAbove x y = over x * den y + under y * den x ≤ over y * den x + under x * den y

pub le_not_above : (x y : Float) → T (finite x) → T (finite y) → T (le x y) → NotAbove x y
le_not_above x y p q h =
    go (is_sign_minus x) (is_sign_minus y) (num x) (den x) (num y) (den y)
    (sym (lt_is y x q p) ∙ lt_is_not_le y x q p ∙ ap not (is_true (le x y) h))
  where
    go : (s t : Bool) (n d m e : ℕ) → below t (m * d) s (n * e) ≡ false → cond s 0 n * e + cond t m 0 * d ≤ cond t 0 m * d + cond s n 0 * e
    go false false n d m e h = omega (arith, ltb-false (m * d) (n * e) h)
    go false true n d m e h = omega (arith, ltb-false 0 (m * d + n * e) h)
    go true false n d m e h = omega arith
    go true true n d m e h = omega (arith, ltb-false (n * e) (m * d) h)

-- what is no larger than h in size lies from -h to h
pub within_size : (h t : Float) → T (finite h) → is_sign_minus h ≡ false → NoLarger h t → NotAbove (neg h) t × NotAbove t h
within_size h t p s l = rw (neg_sign h p, neg_num h, neg_den h, s) (go (is_sign_minus t) (num t) (den t) (num h) (den h) l.bound)
  where
    go : (s : Bool) (n d m e : ℕ) → n * e ≤ m * d
        → (0 * d + cond s n 0 * e ≤ cond s 0 n * e + m * d) × (cond s 0 n * e + 0 * d ≤ m * d + cond s n 0 * e)
    go true n d m e h = (omega arith, omega arith)
    go false n d m e h = (omega arith, omega arith)

-- ---- z is (p - n) / c, rounded; a zero may have either sign
abbrev Rounds : Float → ℕ → ℕ → ℕ → Type 0
Rounds z p n c = ((d : ℕ) × (p ≡ n + d) × (z ≡ round binary64 false d c)) ⊎ ((d : ℕ) × (n ≡ p + d) × (z ≡ round binary64 true d c))

by_denial : (x y : Float) → (le x y ≢ false) → T (le x y)
by_denial x y f = go (le x y) f
  where
    go : (b : Bool) → (b ≢ false) → T b
    go true f = tt
    go false f = absurd (f refl)

-- a fraction rounded with the sign +
data Unsigned : Float → Type 0 where
  infinite : Unsigned (inf false)
  number : (m : ℕ) (e : ℤ) → Unsigned (fin false m e)

unsigned : (d c : ℕ) → Unsigned (round binary64 false d c)
unsigned d c = go (round binary64 false d c) (round_minus false d c) (round_cases false d c)
  where
    go : (x : Float) → is_sign_minus x ≡ false → T (finite x) ⊎ (x ≡ inf false) → Unsigned x
    go nan s (inl p) = absurd p
    go nan s (inr e) = never (cc)
    go (inf true) s p = absurd (true≢false s)
    go (inf false) s p = infinite
    go (fin true m e) s p = absurd (true≢false s)
    go (fin false m e) s p = number m e

minus_plus : {x y : Float} → Unsigned x → Unsigned y → T (le (neg x) y)
unfolding le lt eq neg
minus_plus infinite infinite = tt
minus_plus infinite (number n d) = tt
minus_plus (number m e) infinite = tt
minus_plus (number m e) (number n d) = by_denial (fin true m e) (fin false n d) (λ g. false≢true (not_le (fin true m e) (fin false n d) tt tt g))

minus_minus : {x y : Float} → Unsigned x → Unsigned y → T (le y x) → T (le (neg x) (neg y))
unfolding le lt eq neg
minus_minus infinite infinite h = tt
minus_minus infinite (number n d) h = tt
minus_minus (number m e) infinite h = absurd h
minus_minus (number m e) (number n d) h = by_denial (fin true m e) (fin true n d) (λ g.
    true≢false (sym (is_true _ h) ∙ lt_not_le (fin false m e) (fin false n d) tt tt (not_le (fin true m e) (fin true n d) tt tt g)))

none : (d c e : ℕ) → 0 < c → d * c + e ≤ 0 → d ≡ 0
none d c e C h = elim (eq-zero-or-pos d) [ inl z ↦ z | inr l ↦ absurd (omega (arith, mul-pos l C)) ]

zeros : (d c e b : ℕ) → 0 < c → 0 < b → d ≡ 0 → e ≡ 0 → T (le (round binary64 false d c) (round binary64 true e b))
unfolding le lt eq
zeros d c e b C B p q = rw (p, q, round_to_zero false 0 c C, round_to_zero true 0 b B) tt

rounds_order : (z z' : Float) (p n c p' n' c' : ℕ) → 0 < c → 0 < c' → Rounds z p n c → Rounds z' p' n' c' → p * c' + n' * c ≤ p' * c + n * c'
    → T (le z z')
rounds_order z z' p n c p' n' c' C C' (inl (d, e, r)) (inl (d', e', r')) h =
    rw (r, r') (round_mono binary64 d c d' c' C C' (omega (arith, ap (λ (k : ℕ). k * c') e, ap (λ (k : ℕ). k * c) e')))
rounds_order z z' p n c p' n' c' C C' (inl (d, e, r)) (inr (d', e', r')) h =
    let a : (n + d) * c' + (p' + d') * c ≤ p' * c + n * c' = omega (arith, ap (λ (k : ℕ). k * c') e, ap (λ (k : ℕ). k * c) e') in
    rw (r, r') (zeros d c d' c' C C' (none d c' (d' * c) C' (omega arith)) (none d' c (d * c') C (omega arith)))
rounds_order z z' p n c p' n' c' C C' (inr (d, e, r)) (inl (d', e', r')) h =
    rw (r, r', round_neg binary64 false d c) (minus_plus (unsigned d c) (unsigned d' c'))
rounds_order z z' p n c p' n' c' C C' (inr (d, e, r)) (inr (d', e', r')) h =
    rw (r, r', round_neg binary64 false d c, round_neg binary64 false d' c')
    (minus_minus (unsigned d c) (unsigned d' c')
    (round_mono binary64 d' c' d c C' C (omega (arith, ap (λ (k : ℕ). k * c') e, ap (λ (k : ℕ). k * c) e'))))

sum_rounds : (s t : Bool) (n d m e : ℕ)
    → Rounds (sum binary64 s (n * e) t (m * d) (d * e)) (cond s 0 n * e + cond t 0 m * d) (cond s n 0 * e + cond t m 0 * d) (d * e)
unfolding sum
sum_rounds false false n d m e = inl (n * e + m * d, omega arith, refl)
sum_rounds true true n d m e = inr (n * e + m * d, omega arith, refl)
sum_rounds false true n d m e = elim (lt_or_le (n * e) (m * d)) [
  | inl h ↦ inr (m * d - n * e, omega arith, rw (lt-ltb (n * e) (m * d) h))
  | inr h ↦ inl (n * e - m * d, omega arith, rw (le-ltb (n * e) (m * d) h))
]
sum_rounds true false n d m e = elim (lt_or_le (n * e) (m * d)) [
  | inl h ↦ inl (m * d - n * e, omega arith, rw (lt-ltb (n * e) (m * d) h))
  | inr h ↦ elim (lt_or_le (m * d) (n * e)) [
    | inl g ↦ inr (n * e - m * d, omega arith, rw (le-ltb (n * e) (m * d) h, lt-ltb (m * d) (n * e) g))
    | inr g ↦ inl (n * e - m * d, omega arith, rw (le-ltb (n * e) (m * d) h, le-ltb (m * d) (n * e) g))
  ]
]

add_rounds : (x y : Float) → T (finite x) → T (finite y)
    → Rounds (x ⊕ y) (over x * den y + over y * den x) (under x * den y + under y * den x) (den x * den y)
add_rounds x y p q = rw (add_is binary64 x y p q) (sum_rounds (is_sign_minus x) (is_sign_minus y) (num x) (den x) (num y) (den y))

add_swap : (x y : Float) → T (finite x) → T (finite y) → x ⊕ y ≡ y ⊕ x
add_swap x y p q =
    add_is binary64 x y p q
    ∙ sum_swap binary64 (is_sign_minus x) (is_sign_minus y) (num x * den y) (num y * den x) (den x * den y)
    ∙ rw (mul_comm (den x) (den y)) (sym (add_is binary64 y x q p))

-- ---- THE SUMS
module _ (x y : Float) (p : T (finite x)) (q : T (finite y)) (h : NotAbove x y) where
  pub add_order : (c : Float) → T (finite c) → T (le (x ⊕ c) (y ⊕ c))
  add_order c r =
      rounds_order (x ⊕ c) (y ⊕ c) _ _ _ _ _ _ (mul-pos (den_pos x) (den_pos c)) (mul-pos (den_pos y) (den_pos c)) (add_rounds x c p r) (add_rounds y c q r)
      (go (over x) (under x) (den x) (over y) (under y) (den y) (over c) (under c) (den c) h)
    where
      go : (p n d p' n' d' a b c : ℕ) → p * d' + n' * d ≤ p' * d + n * d'
          → (p * c + a * d) * (d' * c) + (n' * c + b * d') * (d * c) ≤ (p' * c + a * d') * (d * c) + (n * c + b * d) * (d' * c)
      go p n d p' n' d' a b c h = omega (arith, mul-le-mul_right (c * c) h)

  -- c may be an infinity
  pub plus_order : (c : Float) → is_nan c ≡ false → T (le (c ⊕ x) (c ⊕ y))
  unfolding add le lt eq is_nan
  plus_order nan n = absurd (true≢false n)
  plus_order (inf true) n = both_finite (λ x y. T (le (inf true ⊕ x) (inf true ⊕ y))) (λ _ _ _ _ _ _. tt) x y p q
  plus_order (inf false) n = both_finite (λ x y. T (le (inf false ⊕ x) (inf false ⊕ y))) (λ _ _ _ _ _ _. tt) x y p q
  plus_order (fin s m e) n =
      subst (λ (z : Float). T (le z (fin s m e ⊕ y))) (add_swap x (fin s m e) p tt)
      (subst (λ (z : Float). T (le (x ⊕ fin s m e) z)) (add_swap y (fin s m e) q tt) (add_order (fin s m e) tt))

-- ---- with +0 added a value is the same number
abbrev Kept : Float → Type 0
Kept x = (over (x ⊕ plus_zero) ≡ over x) × (under (x ⊕ plus_zero) ≡ under x) × (den (x ⊕ plus_zero) ≡ den x) × T (finite (x ⊕ plus_zero))

kept_zero : (s : Bool) → Kept (zero_of s)
unfolding of_bits add
kept_zero true = (refl, refl, refl, tt)
kept_zero false = (refl, refl, refl, tt)

pub zero_kept : (x : Float) → T (fits binary64 x) → T (finite x) → Kept x
zero_kept nan F p = absurd p
zero_kept (inf s) F p = absurd p
zero_kept (fin s zero e) F p = subst Kept (sym (zero_by_sign (fin s zero e) F p (zero-mul (up e)))) (kept_zero s)
zero_kept (fin s (suc m) e) F p = rw (plus_zero_is, plus_zero_lem false s m e F) (refl, refl, refl, tt)

-- ---- what lies between a and b, which are equal and below 0, is a
below_not_zero : (s : Bool) (m : ℕ) (e : ℤ) → lt (fin s m e) plus_zero ≡ true → m * up e ≢ 0
unfolding lt of_bits
below_not_zero true m e l z = omega (arith, ltb-true 0 (m * up e * 1 + 0 * down e) l)
below_not_zero false m e l z = omega (arith, ltb-true (m * up e * 1) (0 * down e) l)

equal_below : (a b : Float) → T (fits binary64 a) → T (fits binary64 b) → lt a plus_zero ≡ true → T (eq a b) → a ≡ b
unfolding eq lt of_bits
equal_below nan b A B l h = absurd h
equal_below (inf false) b A B l h = absurd (false≢true l)
equal_below (inf true) nan A B l h = absurd h
equal_below (inf true) (inf false) A B l h = absurd h
equal_below (inf true) (inf true) A B l h = refl
equal_below (inf true) (fin t n d) A B l h = absurd h
equal_below (fin s m e) nan A B l h = absurd h
equal_below (fin s m e) (inf t) A B l h = absurd h
equal_below (fin s m e) (fin t n d) A B l h = equal_same (fin s m e) (fin t n d) A B tt tt h (below_not_zero s m e l)

both_ways : (a r : Float) → T (le a r) → T (le r a) → T (eq a r)
unfolding le lt eq
both_ways nan r h g = absurd h
both_ways (inf s) nan h g = absurd h
both_ways (inf true) (inf true) h g = tt
both_ways (inf true) (inf false) h g = absurd g
both_ways (inf false) (inf true) h g = absurd h
both_ways (inf false) (inf false) h g = tt
both_ways (inf true) (fin t n d) h g = absurd g
both_ways (inf false) (fin t n d) h g = absurd h
both_ways (fin s m e) nan h g = absurd h
both_ways (fin s m e) (inf true) h g = absurd h
both_ways (fin s m e) (inf false) h g = absurd g
both_ways (fin s m e) (fin t n d) h g =
    let a = fin s m e in
    let r = fin t n d in
    rw (lt_is_not_le a r tt tt, is_true (le r a) g) at h

pub squeezed : (a r b : Float) → T (fits binary64 a) → T (fits binary64 r) → T (fits binary64 b) → lt a plus_zero ≡ true
    → T (le a r) → T (le r b) → T (eq a b) → a ≡ r
squeezed a r b A R B l h g e = equal_below a r A R l (both_ways a r h (rw (equal_below a b A B l e) g))
