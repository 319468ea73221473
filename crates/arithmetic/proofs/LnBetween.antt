-- `ln1p` of a u of at most 2 ^ -20 in size lies between two sums. It is ((s q + 0) - g) + u, then + 0, where s is at most |u| in size, and q, the sum of g and
-- two products of the series, at most 4 v, with v = u u; so s q is at most h = v / 2 ^ 18. Rounding keeps the order at each step. Assumes nothing.
use Rattle.std.proofs.Common.{◌≡◌, ℕ, suc, ◌+◌, ◌*◌, ◌^◌, ◌<◌, ◌≤◌, Bool, true, false, T, negsuc, sym, refl, ap, ◌∙◌, subst, inr, le_trans, le_refl, mul-le-mul_right, mul_assoc, mul-le-mul, mul-pos, pow-suc, arith, lit≤, pow_pos, lt-ltb}
use mathlib.Core.Bool.{false≢true}
use denote.Floats.{passes}
use lib.Ieee.{Float, nan, inf, fin, binary64, up, down, unlike, round, sub, mul, add, neg, lt, eq, le, fits, is_nan, of_bits}
use lib.Ieee.Fits.{add-fits, mul-fits, down_pos}
use lib.Ieee.Scale.{finite}
use lib.Ieee.Positive.{num, den, den_pos, through}
use Rattle.arithmetic.specs.Operations.{◌⊕◌, ◌⊖◌, ◌⊗◌, ◌⊘◌, bits, plus_zero, half, two}
use Rattle.arithmetic.specs.Basic.{is_sign_minus}
use Rattle.arithmetic.specs.Exp.{ln2_hi}
use Rattle.arithmetic.specs.Ln.{G1, G2, G3, G4, G5, G6, G7, series, from_least, to_most, ln1p}
use Rattle.arithmetic.specs.Laws.Times.{times_value}
use Rattle.arithmetic.specs.Laws.Rounding.{round_times}
use Rattle.arithmetic.specs.Laws.Representable.{whole, round_representable}
use Rattle.arithmetic.specs.Laws.Sums.{add_is}
use Rattle.arithmetic.specs.Laws.Products.{mul_is}
use Rattle.arithmetic.specs.Laws.Identities.{mul_swap}
use Rattle.arithmetic.specs.Laws.Bounds.{round_order}
use Rattle.arithmetic.specs.Laws.Sizes.{short, Held, round_upper, apart_by, apart_le, sum_size, Size, size_mul, size_add, size_sub, size_neg}
use Rattle.arithmetic.specs.Laws.Sizes.{size_widen, size_of, NoLarger, no_larger_size, no_larger_mul, no_larger_div}
use Rattle.arithmetic.specs.Laws.SumOrder.{NotAbove, le_not_above, within_size, add_order, plus_order, zero_kept, squeezed}
use Rattle.arithmetic.specs.Laws.PowerBounds.{size_small, small_round, small_square, plus_mul, Between, between_of}
use Rattle.arithmetic.specs.Laws.ExpBounds.{two_plus}
use Rattle.arithmetic.specs.Laws.LnBounds.{constants}
use Rattle.arithmetic.proofs.ExpFast.{between_limits}
use Rattle.arithmetic.proofs.LnPaths.{ln1p_low}

-- ---- the constants of the code: 2 ^ -20 and 2 ^ -18
abbrev limit : Float
limit = bits 0x3EB0_0000_0000_0000

abbrev share : Float
share = bits 0x3ED0_0000_0000_0000

share_parts : (num share ≡ 1) × (den share ≡ 262144) × Between 18 0 share × Size 1 share × Size 0 plus_zero
unfolding of_bits
share_parts = (refl, refl, between_of 18 0 share tt, size_of 1 share tt, size_of 0 plus_zero tt)

zero_product : plus_zero ⊗ ln2_hi ≡ plus_zero
unfolding of_bits mul
zero_product = refl

-- ---- x is at most 2 ^ k times v in size; v is a value of the format, and 1 at most in size
record Within (v : Float) (k : ℕ) (x : Float) : Type 0 where
  is_finite_lem : T (finite x)
  bound : num x * den v ≤ num v * 2 ^ k * den x

module _ (v : Float) (F : T (fits binary64 v)) (S : Size 64 v) where
  scaled_held : (k : ℕ) → k ≤ 1023 → Held (num v * 2 ^ k) (den v)
  scaled_held k K =
      let n = num v in
      let d = den v in
      times_value k (round binary64 false n d) (round binary64 false (n * 2 ^ k) d) false n d
      (round_times binary64 false k n d (n * 2 ^ k) d (den_pos v) (den_pos v) (mul_assoc n (2 ^ k) d) (inr (whole binary64 v F S.is_finite_lem))
      (small_round false (n * 2 ^ k) d k (den_pos v) K (go n d (2 ^ k) (mul-le-mul_right (2 ^ k) S.bound))).0.is_finite_lem)
      (round_representable binary64 false v F S.is_finite_lem)
    where
      go : (n d k : ℕ) → n * 64 * k ≤ 64 * d * k → n * k ≤ k * d
      go n d k h = omega arith

  within_round : (s : Bool) (a c k : ℕ) → 0 < c → k ≤ 1023 → a * den v ≤ num v * 2 ^ k * c → Within v k (round binary64 s a c)
  within_round s a c k C K h =
      let u = round_upper s a c (num v * 2 ^ k) (den v) C (den_pos v) (scaled_held k K) h in
      record { is_finite_lem = u.0; bound = u.2 }

  within_mul : {a k : ℕ} {x c : Float} → Within v k x → Size a c → a ≤ 64 → k ≤ 1023 → Within v k (x ⊗ c)
  within_mul {a} {k} {x} {c} h g A K =
      subst (Within v k) (sym (mul_is binary64 x c h.is_finite_lem g.is_finite_lem))
      (within_round (unlike (is_sign_minus x) (is_sign_minus c)) (num x * num c) (den x * den c) k (mul-pos (den_pos x) (den_pos c)) K
      (go (num x) (den x) (num c) (den c) (num v * 2 ^ k) (den v) (mul-le-mul h.bound (size_widen 64 g A).bound)))
    where
      go : (n d m e a b : ℕ) → n * b * (m * 64) ≤ a * d * (64 * e) → n * m * b ≤ a * (d * e)
      go n d m e a b h = omega arith

  within_add : {k : ℕ} {x y : Float} → Within v k x → Within v k y → suc k ≤ 1023 → Within v (suc k) (x ⊕ y)
  within_add {k} {x} {y} h g K =
      let s = is_sign_minus x in
      let t = is_sign_minus y in
      let z = sum_size s t (num x * den y) (num y * den x) (den x * den y) in
      subst (Within v (suc k)) (sym (add_is binary64 x y h.is_finite_lem g.is_finite_lem ∙ z.1))
      (within_round z.0 (apart_by s t (num x * den y) (num y * den x)) (den x * den y) (suc k) (mul-pos (den_pos x) (den_pos y)) K
      (rw (pow-suc 2 k)
      (go (num x) (den x) (num y) (den y) (num v) (2 ^ k) (den v) _ (mul-le-mul_right (den y) h.bound) (mul-le-mul_right (den x) g.bound)
      (mul-le-mul_right (den v) (apart_le s t (num x * den y) (num y * den x))))))
    where
      go : (n d m e a p b r : ℕ) → n * b * e ≤ a * p * d * e → m * b * d ≤ a * p * e * d → r * b ≤ (n * e + m * d) * b → r * b ≤ a * (p * 2) * (d * e)
      go n d m e a p b r h g l = omega arith

-- ---- of two finite products the one that is no larger before rounding is no larger after it
product_order : {i j k l : ℕ} {x y a b : Float} → Size i x → Size j y → Size k a → Size l b → T (finite (x ⊗ y)) → T (finite (a ⊗ b))
    → num x * num y * (den a * den b) ≤ num a * num b * (den x * den y) → NoLarger (a ⊗ b) (x ⊗ y)
product_order {x = x} {y = y} {a = a} {b = b} p q r s t u h =
    let e = mul_is binary64 x y p.is_finite_lem q.is_finite_lem in
    let g = mul_is binary64 a b r.is_finite_lem s.is_finite_lem in
    record {
      is_finite_lem = t;
      bound =
          rw (e, g) (round_order binary64 _ _ (num x * num y) (den x * den y) (num a * num b) (den a * den b)
          (mul-pos (den_pos x) (den_pos y)) (mul-pos (den_pos a) (den_pos b))
          (subst (λ (z : Float). T (finite z)) e t) (subst (λ (z : Float). T (finite z)) g u) h);
    }

-- ---- what the tests of the code say
pub record Near (u : Float) : Type 0 where
  pub is_finite_lem : T (finite u)
  pub bound : num u * 1048576 ≤ 1 * den u

pub near : (u : Float) → lt u limit ≡ true → lt (neg limit) u ≡ true → Near u
unfolding neg of_bits
near u h g = let b = between_limits u 1 (negsuc 19) h g in record { is_finite_lem = b.0; bound = omega (arith, b.1) }

-- so the definition takes the series at u itself
in_range : (u : Float) → Near u → (from_least u ≡ true) × (to_most u ≡ true) × (lt u (bits 0x3FDA_0000_0000_0000) ≡ true)
unfolding le lt of_bits
in_range nan h = absurd h.is_finite_lem
in_range (inf s) h = absurd h.is_finite_lem
in_range (fin true m e) h = (
  rw (lt-ltb (m * up e * 4) (1 * down e) (omega (arith, h.bound, down_pos e))) refl,
  rw (lt-ltb 0 (m * up e * 2 + 3 * down e) (omega (arith, down_pos e))) refl,
  lt-ltb 0 (m * up e * 32 + 13 * down e) (omega (arith, down_pos e)),
)
in_range (fin false m e) h = (
  rw (lt-ltb 0 (1 * down e + m * up e * 4) (omega (arith, down_pos e))) refl,
  rw (lt-ltb (m * up e * 2) (3 * down e) (omega (arith, h.bound, down_pos e))) refl,
  lt-ltb (m * up e * 32) (13 * down e) (omega (arith, h.bound, down_pos e)),
)

sum_no_nan : (y x z : Float) → eq (y ⊕ x) z ≡ true → is_nan y ≡ false
unfolding add eq is_nan
sum_no_nan nan x z e = absurd (false≢true e)
sum_no_nan (inf s) x z e = refl
sum_no_nan (fin s m e) x z g = refl

-- a product of what is 1 / 64 at most and what is 1 at most
fewer : {a : ℕ} {x y : Float} → Size 1 x → Size a y → a ≤ 64 → Size 1 (x ⊗ y)
fewer {a} h g l = size_mul 1 h g (omega arith) (short (lit≤ tt))

-- and a step of the series
step : {a b : ℕ} {c x y : Float} → Size b c → Size 1 x → Size a y → a ≤ 64 → b ≤ 64 → Size (b + 1) (c ⊕ x ⊗ y)
step {b = b} k h g l m = size_add k (fewer h g l) (short (omega arith))

-- ---- the series at u
module _ (u : Float) (F : T (fits binary64 u)) (N : Near u) where
  abbrev v : Float
  v = u ⊗ u

  abbrev h : Float
  h = v ⊗ share

  abbrev g : Float
  g = half ⊗ u ⊗ u

  abbrev s : Float
  s = u ⊘ (two ⊕ u)

  abbrev z : Float
  z = s ⊗ s

  abbrev w : Float
  w = z ⊗ z

  abbrev q : Float
  q = g ⊕ (z ⊗ (G1 ⊕ w ⊗ (G3 ⊕ w ⊗ (G5 ⊕ w ⊗ G7))) ⊕ w ⊗ (G2 ⊕ w ⊗ (G4 ⊕ w ⊗ G6)))

  -- what is at most u in size, and products of two such: at most v
  u1 : Size 1 u
  u1 = record { is_finite_lem = N.is_finite_lem; bound = go (num u) (den u) N.bound }
    where
      go : (n d : ℕ) → n * 1048576 ≤ 1 * d → n * 64 ≤ 1 * d
      go n d h = omega arith

  itself : NoLarger u u
  itself = record { is_finite_lem = N.is_finite_lem; bound = le_refl _ }

  s_at_most : NoLarger u s
  s_at_most = let d = two_plus u (size_widen 64 u1 (lit≤ tt)) in no_larger_div u u (two ⊕ u) F N.is_finite_lem itself d.0 d.1

  halved : NoLarger u (half ⊗ u)
  halved = subst (NoLarger u) (mul_swap binary64 u half) (no_larger_mul u half F N.is_finite_lem (size_widen 64 constants.9 (lit≤ tt)))

  small : {x : Float} → NoLarger u x → Size 1 x
  small = no_larger_size u1

  v1 : Size 1 v
  v1 = fewer u1 u1 (lit≤ tt)

  squared : (k : ℕ) (x y : Float) → NoLarger u x → NoLarger u y → Within v k (x ⊗ y)
  squared k x y a b =
      let o = product_order (small a) (small b) u1 u1 (fewer (small a) (small b) (lit≤ tt)).is_finite_lem v1.is_finite_lem
      (go (num x) (den x) (num y) (den y) (num u) (den u) (mul-le-mul a.bound b.bound)) in
      record { is_finite_lem = o.is_finite_lem; bound = wide _ (num v) (den (x ⊗ y)) (2 ^ k) (pow_pos k) o.bound }
    where
      go : (n d m e a b : ℕ) → n * b * (m * b) ≤ a * d * (a * e) → n * m * (b * b) ≤ a * a * (d * e)
      go n d m e a b h = omega arith

      wide : (n m d k : ℕ) → 0 < k → n ≤ m * d → n ≤ m * k * d
      wide n m d k K h = le_trans h (omega (arith, mul-le-mul_right (m * d) K))

  g1 : Size 1 g
  g1 = fewer (small halved) u1 (lit≤ tt)

  q_bounds : Within v 2 q × Size 3 q
  q_bounds =
      let (c1, c2, c3, c4, c5, c6, c7, _, _, _, _) = constants in
      let z1 : Size 1 z = fewer (small s_at_most) (small s_at_most) (lit≤ tt) in
      let w1 : Size 1 w = fewer z1 z1 (lit≤ tt) in
      let r5 : Size 13 _ = step c5 w1 c7 (lit≤ tt) (lit≤ tt) in
      let r3 : Size 20 _ = step c3 w1 r5 (lit≤ tt) (lit≤ tt) in
      let r1 : Size 44 _ = step c1 w1 r3 (lit≤ tt) (lit≤ tt) in
      let r4 : Size 16 _ = step c4 w1 c6 (lit≤ tt) (lit≤ tt) in
      let r2 : Size 27 _ = step c2 w1 r4 (lit≤ tt) (lit≤ tt) in
      let F' = mul-fits binary64 u u in
      let v64 = size_widen 64 v1 (lit≤ tt) in
      let Z : Within v 0 z = squared 0 s s s_at_most s_at_most in
      let W : Within v 0 w = within_mul v F' v64 Z z1 (lit≤ tt) (lit≤ tt) in
      let R : Within v 1 _ = within_add v F' v64 (within_mul v F' v64 Z r1 (lit≤ tt) (lit≤ tt)) (within_mul v F' v64 W r2 (lit≤ tt) (lit≤ tt)) (lit≤ tt) in (
        within_add v F' v64 (squared 1 (half ⊗ u) u halved itself) R (lit≤ tt),
        size_add g1 (step (fewer z1 r1 (lit≤ tt)) w1 r2 (lit≤ tt) (lit≤ tt)) (short (lit≤ tt)),
      )

  -- the product of s and q is at most h in size
  h1 : Size 1 h
  h1 = fewer v1 share_parts.3 (lit≤ tt)

  product_at_most : NoLarger h (s ⊗ q)
  product_at_most =
      product_order (small s_at_most) q_bounds.1 v1 share_parts.3 (fewer (small s_at_most) q_bounds.1 (lit≤ tt)).is_finite_lem h1.is_finite_lem
      (rw (share_parts.0, share_parts.1)
      (go (num s) (den s) (num q) (den q) (num v) (den v)
      (mul-le-mul (through (num s) (num u) 1 (den s) (den u) 1048576 (den_pos u) s_at_most.bound N.bound) q_bounds.0.bound)))
    where
      go : (n d m e a b : ℕ) → n * 1048576 * (m * b) ≤ 1 * d * (a * 4 * e) → n * m * (b * 262144) ≤ a * 1 * (d * e)
      go n d m e a b h = omega arith

  -- the order of l and m goes through the difference with g and the sum with u
  shifted_size : {x : Float} → Size 1 x → Size 2 (x ⊖ g) × Size 3 (x ⊖ g ⊕ u)
  shifted_size a = let d = size_sub a g1 (short (lit≤ tt)) in (d, size_add d u1 (short (lit≤ tt)))

  shifted : (l m : Float) → Size 1 l → Size 1 m → NotAbove l m → NotAbove (l ⊖ g ⊕ u) (m ⊖ g ⊕ u)
  unfolding sub
  shifted l m L M o =
      let a = shifted_size L in
      let b = shifted_size M in
      let p = a.0.is_finite_lem in
      let q = b.0.is_finite_lem in
      let less = le_not_above (l ⊖ g) (m ⊖ g) p q (add_order l m L.is_finite_lem M.is_finite_lem o (neg g) (size_neg g1).is_finite_lem) in
      le_not_above (l ⊖ g ⊕ u) (m ⊖ g ⊕ u) a.1.is_finite_lem b.1.is_finite_lem (add_order (l ⊖ g) (m ⊖ g) p q less u N.is_finite_lem)

  abbrev lower : Float
  lower = neg h ⊖ g ⊕ u

  abbrev upper : Float
  upper = h ⊖ g ⊕ u

  abbrev inner : Float
  inner = s ⊗ q ⊕ plus_zero ⊖ g ⊕ u

  product1 : Size 1 (s ⊗ q ⊕ plus_zero)
  product1 = size_add (no_larger_size h1 product_at_most) share_parts.4 (short (lit≤ tt))

  inner_between : NotAbove lower inner × NotAbove inner upper
  inner_between =
      let plus = (plus_mul (small_square (size_small 0 u1 (lit≤ tt)) (lit≤ tt)) share_parts.2.plus (lit≤ tt)).sign in
      let o = within_size h (s ⊗ q) h1.is_finite_lem plus product_at_most in
      let k = zero_kept (s ⊗ q) (mul-fits binary64 s q) product_at_most.is_finite_lem in (
        shifted (neg h) (s ⊗ q ⊕ plus_zero) (size_neg h1) product1 (rw (k.0, k.1, k.2) o.0),
        shifted (s ⊗ q ⊕ plus_zero) h product1 h1 (rw (k.0, k.1, k.2) o.1),
      )

  ln1p_is : ln1p u ≡ inner ⊕ plus_zero
  unfolding series
  ln1p_is = let t = in_range u N in sym (ln1p_low u t.0 t.1 t.2) ∙ ap (λ (z : Float). inner ⊕ z) zero_product

  pub plus_ln1p : (y : Float) → eq (y ⊕ lower) (y ⊕ upper) ≡ true → lt (y ⊕ lower) plus_zero ≡ true → y ⊕ lower ≡ y ⊕ ln1p u
  plus_ln1p y e l =
      let n = sum_no_nan y lower (y ⊕ upper) e in
      let k = zero_kept inner (add-fits binary64 _ u) (shifted_size product1).1.is_finite_lem in
      let a = plus_order lower (inner ⊕ plus_zero) (shifted_size (size_neg h1)).1.is_finite_lem k.3 (rw (k.0, k.1, k.2) inner_between.0) y n in
      let b = plus_order (inner ⊕ plus_zero) upper k.3 (shifted_size h1).1.is_finite_lem (rw (k.0, k.1, k.2) inner_between.1) y n in
      let f = add-fits binary64 y in
      rw ln1p_is (squeezed (y ⊕ lower) (y ⊕ (inner ⊕ plus_zero)) (y ⊕ upper) (f lower) (f (inner ⊕ plus_zero)) (f upper) l a b (passes _ e))
