-- A sum and a difference of two values of a format, and of 2 ^ k times each: the second is 2 ^ k times the first, wherever it is finite, the
-- subnormal range included. Assumes nothing.
use Rattle.std.specs.Prelude.{◌≡◌, ℕ, ◌+◌, ◌-◌, ◌*◌, ◌^◌, ◌<◌, ◌≤◌, Bool, true, false, cond, not, ◌&&◌, T, ◌⊎◌, nat_lt, refl, Float}
use Rattle.std.proofs.Common.{sym, ap, ◌∙◌, subst, inl, inr, add_comm, le_trans, le_of_eq, mul_assoc, mul_comm, mul_right_comm, mul-pos, sub-le, mul-le-mul_right, arith, pow_pos, lt-ltb, le-ltb}
use Rattle.std.specs.Bool.{beq}
use Rattle.std.specs.Float.{Format}
use Rattle.std.specs.Float.Ieee.{low, round, sum, add, sub, neg, fits}
use Rattle.std.specs.Float.Ieee.Exact.{HasValue}
use Rattle.std.specs.Float.Ieee.Fits.{neg-fits}
use Rattle.std.specs.Float.Ieee.Scale.{finite, grid, overflow, round_same}
use Rattle.std.specs.Float.Ieee.Positive.{num, den, den_pos}
use Rattle.arithmetic.specs.Laws.Numbers.{lt_or_le}
use Rattle.arithmetic.specs.Laws.Choices.{in_both}
use Rattle.arithmetic.specs.Laws.Ratio.{ltb_ratio, add_ratio, sub_ratio}
use Rattle.arithmetic.specs.Basic.{is_sign_minus}
use Rattle.arithmetic.specs.Laws.Times.{Times, both_finite, cross, neg_times, neg_num, neg_den, neg_sign, neg_finite, has_sign, has_finite}
use Rattle.arithmetic.specs.Laws.Rounding.{Whole, round_times, round_value}
use Rattle.arithmetic.specs.Laws.Representable.{whole, grid_under}
use Rattle.arithmetic.specs.Laws.Compare.{left_ratio, right_ratio}

whole_left : (f : Format) (x y : Float) → Whole f (num x) (den x) → Whole f (num x * den y) (den x * den y)
whole_left f x y (w, e) = (w, mul_right_comm (num x) (den y) (2 ^ low f) ∙ ap (λ (z : ℕ). z * den y) e ∙ mul_assoc w (den x) (den y))

whole_right : (f : Format) (x y : Float) → Whole f (num y) (den y) → Whole f (num y * den x) (den x * den y)
whole_right f x y W = subst (λ (c : ℕ). Whole f (num y * den x) c) (mul_comm (den y) (den x)) (whole_left f y x W)

-- ---- a sum of two fractions over one denominator, by whether the signs agree and which fraction is the smaller
abbrev summed : Format → Bool → ℕ → Bool → ℕ → ℕ → Bool → Bool → Bool → Float
summed f s a t b c i u v = cond i (round f s (a + b) c) (cond u (round f t (b - a) c) (round f (s && v) (a - b) c))

sum_is : (f : Format) (s : Bool) (a : ℕ) (t : Bool) (b c : ℕ) → sum f s a t b c ≡ summed f s a t b c (beq s t) (nat_lt a b) (nat_lt b a)
unfolding sum
sum_is f s a t b c = refl

-- it is the same over another denominator
pub sum_same : (f : Format) (s t : Bool) (a b c a' b' c' : ℕ) → 0 < c → 0 < c' → a' * c ≡ a * c' → b' * c ≡ b * c' → sum f s a' t b' c' ≡ sum f s a t b c
sum_same f s t a b c a' b' c' C C' p q =
    sum_is f s a' t b' c'
    ∙ rw (
      ltb_ratio c c' C C' a b a' b' p q,
      ltb_ratio c c' C C' b a b' a' q p,
      round_same f s (a' + b') c' (a + b) c C' C (add_ratio c c' a b a' b' p q),
      round_same f t (b' - a') c' (b - a) c C' C (sub_ratio c c' b a b' a' q p),
      round_same f (s && nat_lt b a) (a' - b') c' (a - b) c C' C (sub_ratio c c' a b a' b' p q),
    ) (sym (sum_is f s a t b c))

-- and with the terms in the other order
and-false : (s : Bool) → (s && false) ≡ false
and-false true = refl
and-false false = refl

and_true : (s : Bool) → (s && true) ≡ s
and_true true = refl
and_true false = refl

pub sum_swap : (f : Format) (s t : Bool) (a b c : ℕ) → sum f s a t b c ≡ sum f t b s a c
sum_swap f s t a b c = sum_is f s a t b c ∙ go s t ∙ sym (sum_is f t b s a c)
  where
    apart : (s t : Bool) → (a < b) ⊎ (b ≤ a) → (b < a) ⊎ (a ≤ b)
        → summed f s a t b c false (nat_lt a b) (nat_lt b a) ≡ summed f t b s a c false (nat_lt b a) (nat_lt a b)
    apart s t (inl h) (inl k) = absurd (omega arith)
    apart s t (inl h) (inr k) = rw (lt-ltb a b h, le-ltb b a k, and_true t)
    apart s t (inr h) (inl k) = rw (le-ltb a b h, lt-ltb b a k, and_true s)
    apart s t (inr h) (inr k) = let e : a - b ≡ b - a = omega arith in rw (le-ltb a b h, le-ltb b a k, and-false s, and-false t, e)

    go : (s t : Bool) → summed f s a t b c (beq s t) (nat_lt a b) (nat_lt b a) ≡ summed f t b s a c (beq t s) (nat_lt b a) (nat_lt a b)
    go true true = ap (λ (x : ℕ). round f true x c) (add_comm a b)
    go false false = ap (λ (x : ℕ). round f false x c) (add_comm a b)
    go true false = apart true false (lt_or_le a b) (lt_or_le b a)
    go false true = apart false true (lt_or_le a b) (lt_or_le b a)

-- ---- the sum of two fractions, and of 2 ^ k times each
module _ (f : Format) (k c c' : ℕ) (C : 0 < c) (C' : 0 < c') (s t : Bool) (a b a' b' : ℕ)
    (e : a' * c ≡ a * (2 ^ k * c')) (g : b' * c ≡ b * (2 ^ k * c')) where
  summed_times : (i u v : Bool) → Whole f a c → Whole f b c → T (finite (summed f s a' t b' c' i u v))
      → Times k (summed f s a t b c i u v) (summed f s a' t b' c' i u v)
  summed_times true u v (w, p) (z, q) h =
      round_times f s k (a + b) c (a' + b') c' C C' (add_ratio c (2 ^ k * c') a b a' b' e g) (inr (w + z, add_ratio (2 ^ low f) c w z a b p q)) h
  summed_times false true v (w, p) (z, q) h =
      round_times f t k (b - a) c (b' - a') c' C C' (sub_ratio c (2 ^ k * c') b a b' a' g e) (inr (z - w, sub_ratio (2 ^ low f) c z w b a q p)) h
  summed_times false false v (w, p) (z, q) h =
      round_times f (s && v) k (a - b) c (a' - b') c' C C' (sub_ratio c (2 ^ k * c') a b a' b' e g)
      (inr (w - z, sub_ratio (2 ^ low f) c w z a b p q)) h

  sum_times : Whole f a c → Whole f b c → T (finite (sum f s a' t b' c')) → Times k (sum f s a t b c) (sum f s a' t b' c')
  sum_times W Z h =
      let Q : 0 < 2 ^ k * c' = mul-pos (pow_pos k) C' in
      let big : sum f s a' t b' c' ≡ summed f s a' t b' c' (beq s t) (nat_lt a b) (nat_lt b a) =
      sum_is f s a' t b' c' ∙ rw (ltb_ratio c (2 ^ k * c') C Q a b a' b' e g, ltb_ratio c (2 ^ k * c') C Q b a b' a' g e) in
      rw (sum_is f s a t b c, big) (summed_times (beq s t) (nat_lt a b) (nat_lt b a) W Z (subst (λ (z : Float). T (finite z)) big h))

pub add_is : (f : Format) (x y : Float) → T (finite x) → T (finite y)
    → add f x y ≡ sum f (is_sign_minus x) (num x * den y) (is_sign_minus y) (num y * den x) (den x * den y)
unfolding add
add_is f = both_finite _ (λ s m e t n d. refl)

-- ---- sum and difference of x and y, values of the format, and of x' and y', which are 2 ^ k times each and need not be
pub add_times : (f : Format) (k : ℕ) (x y x' y' : Float) → T (fits f x) → T (fits f y) → Times k x x' → Times k y y' → T (finite (add f x' y'))
    → Times k (add f x y) (add f x' y')
add_times f k x y x' y' F G h g t =
    let big : add f x' y' ≡ sum f (is_sign_minus x) (num x' * den y') (is_sign_minus y) (num y' * den x') (den x' * den y') =
    add_is f x' y' h.finite_r g.finite_r ∙ rw (h.sign, g.sign) in
    rw (add_is f x y h.finite_l g.finite_l, big)
    (sum_times f k (den x * den y) (den x' * den y') (mul-pos (den_pos x) (den_pos y)) (mul-pos (den_pos x') (den_pos y'))
    (is_sign_minus x) (is_sign_minus y) (num x * den y) (num y * den x) (num x' * den y') (num y' * den x')
    (left_ratio k x y x' y' h) (right_ratio k x y x' y' g) (whole_left f x y (whole f x F h.finite_l)) (whole_right f x y (whole f y G g.finite_l))
    (subst (λ (z : Float). T (finite z)) big t))

pub sub_times : (f : Format) (k : ℕ) (x y x' y' : Float) → T (fits f x) → T (fits f y) → Times k x x' → Times k y y' → T (finite (sub f x' y'))
    → Times k (sub f x y) (sub f x' y')
unfolding sub
sub_times f k x y x' y' F G h g t = add_times f k x (neg y) x' (neg y') F (neg-fits f y G) h (neg_times k y y' g) t

-- ---- a difference of two values that are not negative does not overflow
pub round_finite : (f : Format) (s : Bool) (a c : ℕ) → grid f a c < overflow f → T (finite (round f s a c))
round_finite f s a c h = has_finite (round f s a c) s (grid f a c) (2 ^ low f) (round_value f s a c h)

module _ (f : Format) (a b c : ℕ) (A : (n : ℕ) → n ≤ a → grid f n c < overflow f) (B : (n : ℕ) → n ≤ b → grid f n c < overflow f) where
  sum_finite : T (finite (sum f false a true b c))
  unfolding sum
  sum_finite =
      in_both (λ (z : Float). T (finite z)) (nat_lt a b)
      (round_finite f true (b - a) c (B (b - a) (sub-le b a))) (round_finite f false (a - b) c (A (a - b) (sub-le a b)))

-- a difference as a sum of two fractions
pub difference_is : (f : Format) (x y : Float) → T (finite x) → T (finite y)
    → sub f x y ≡ sum f (is_sign_minus x) (num x * den y) (not (is_sign_minus y)) (num y * den x) (den x * den y)
unfolding sub
difference_is f x y p q = add_is f x (neg y) p (neg_finite y q) ∙ rw (neg_num y, neg_den y, neg_sign y q)

-- by the values of the two over one denominator
pub sub_values : (f : Format) (x y : Float) (s t : Bool) (a b c : ℕ) → 0 < c → HasValue x s a c → HasValue y t b c → sub f x y ≡ sum f s a (not t) b c
sub_values f x y s t a b c C X Y =
    difference_is f x y (has_finite x s a c X) (has_finite y t b c Y)
    ∙ rw (has_sign x s a c X, has_sign y t b c Y)
    (sum_same f s (not t) a b c (num x * den y) (num y * den x) (den x * den y) C (mul-pos (den_pos x) (den_pos y))
    (over (num x) (den x) (den y) a (cross x s a c X))
    (over (num y) (den y) (den x) b (cross y t b c Y) ∙ ap (λ (z : ℕ). b * z) (mul_comm (den y) (den x))))
  where
    over : (n d e a : ℕ) → n * c ≡ a * d → n * e * c ≡ a * (d * e)
    over n d e a h = mul_right_comm n e c ∙ ap (λ (z : ℕ). z * e) h ∙ mul_assoc a d e

-- of a larger and a smaller
pub less_smaller : (f : Format) (a b c : ℕ) → b ≤ a → sum f false a true b c ≡ round f false (a - b) c
unfolding sum
less_smaller f a b c h = rw (le-ltb a b h)

part_le : (n nx dx dy c : ℕ) → c ≡ dx * dy → n ≤ nx * dy → n * dx ≤ nx * c
part_le n nx dx dy c e h = le_trans (mul-le-mul_right dx h) (le_of_eq (mul_assoc nx dy dx ∙ ap (λ (z : ℕ). nx * z) (mul_comm dy dx ∙ sym e)))

pub sub_finite : (f : Format) (x y : Float) → T (fits f x) → T (fits f y) → T (finite x) → T (finite y)
    → is_sign_minus x ≡ false → is_sign_minus y ≡ false → T (finite (sub f x y))
sub_finite f x y F G p q s t =
    let c = den x * den y in
    let C : 0 < c = mul-pos (den_pos x) (den_pos y) in
    let is : sub f x y ≡ sum f false (num x * den y) true (num y * den x) c = difference_is f x y p q ∙ rw (s, t) in
    subst (λ (z : Float). T (finite z)) (sym is)
    (sum_finite f (num x * den y) (num y * den x) c
    (λ n h. grid_under f n c x C F p (part_le n (num x) (den x) (den y) c refl h))
    (λ n h. grid_under f n c y C G q (part_le n (num y) (den y) (den x) c (mul_comm (den x) (den y)) h)))
