-- The root of a finite value above zero lies from 2 ^ -537 to (2 ^ 53 - 1) * 2 ^ 459, so that the product of two is finite and above zero; that of
-- a normal value is 2 ^ -511 at least, so that the product of two scales by 4 ^ k where both do. Assumes nothing.
use Rattle.std.specs.Prelude.{◌≡◌, ℕ, ◌+◌, ◌*◌, ◌^◌, ◌<◌, ◌≤◌, false, T, pos, refl, Float}
use Rattle.std.proofs.Common.{sym, ap, ◌∙◌, subst, inl, le_trans, le_of_eq, le_of_suc-le-suc, lt_of_lt_of_le, lt_of_not-le, lt_irrefl, mul-one, one-mul, mul-pos, mul_assoc, mul_comm, mul_left_comm, mul_right_comm, mul-le-mul, mul-le-mul_left, mul-le-mul_right, le_of_mul-le-mul_right, arith, lit≤, pow-add, pow_pos, pow_mono}
use Rattle.std.proofs.Math.Nat.{mul-mul-mul_comm}
use Rattle.std.specs.Float.{fin, binary64}
use Rattle.std.specs.Float.Ieee.{fits, mul, round}
use Rattle.std.specs.Float.Ieee.Scale.{finite, normal_of_fraction}
use Rattle.std.specs.Float.Ieee.Positive.{num, den, den_pos, positive, positive-finite, positive_of_value, value→cross, first_pos}
use Rattle.arithmetic.specs.Basic.{is_sign_minus}
use Rattle.arithmetic.specs.Sqrt.{sqrt}
use Rattle.arithmetic.specs.Laws.Numbers.{four, pow_split}
use Rattle.arithmetic.specs.Laws.Times.{Times, has_finite, has_sign, of_cross, num_positive}
use Rattle.arithmetic.specs.Laws.Representable.{representable, grid_under}
use Rattle.arithmetic.specs.Laws.Sums.{round_finite}
use Rattle.arithmetic.specs.Laws.Products.{mul_is, mul_times}
use Rattle.arithmetic.specs.Laws.Sizes.{grain_held, round_minus, round_lower}
use Rattle.arithmetic.specs.Laws.ScaledRatios.{PositiveNormal, normal_positive, large_cross}
use Rattle.arithmetic.specs.Laws.SqrtNearest.{NearestRoot, sqrt_is_nearest}
use Rattle.arithmetic.specs.Laws.SqrtScaling.{sqrt_times}

-- ---- the root of a finite value above zero
pub sqrt_finite : (x : Float) → T (positive x) → T (fits binary64 x) → T (finite (sqrt x))
sqrt_finite x p f = let r = sqrt_is_nearest x p f in has_finite (sqrt x) false (r.q * 2 ^ r.k) (2 ^ 1074) r.root_value

pub sqrt_positive : (x : Float) → T (positive x) → T (fits binary64 x) → T (positive (sqrt x))
sqrt_positive x p f =
    let r = sqrt_is_nearest x p f in
    positive_of_value (sqrt x) (r.q * 2 ^ r.k) (2 ^ 1074) r.root_value (mul-pos (lt_of_lt_of_le (pow_pos 52) r.q_low) (pow_pos r.k))

-- the largest root, (2 ^ 53 - 1) * 2 ^ 459, just below 2 ^ 512; and the largest value
abbrev largest_root : Float
largest_root = fin false 9007199254740991 (pos 459)

abbrev largest : Float
largest = fin false 9007199254740991 (pos 971)

square_under : (q : ℕ) → q < 2 ^ 53 → (2 * q + 1) * (2 * q + 1) ≤ 2 ^ 54 * 2 ^ 54
square_under q h = let g : 2 * q + 1 ≤ 2 ^ 54 = omega arith in mul-le-mul g g

exponent_least : (q k a e : ℕ) → q < 2 ^ 53 → 4 * a < (2 * q + 1) * (2 * q + 1) * 4 ^ k → 2 ^ (2 * e + 104) ≤ a → e ≤ k
exponent_least q k a e Q below lo =
    let powers : 2 ^ 54 * 2 ^ 54 * 4 ^ k ≡ 2 ^ (108 + 2 * k) = ap (λ (x : ℕ). 2 ^ 108 * x) (four k) ∙ sym (pow-add 2 108 (2 * k)) in
    let fourfold : 2 ^ (2 * e + 106) ≡ 4 * 2 ^ (2 * e + 104) = sym (pow_split 2 (2 * e + 104) (2 * e + 106) (omega arith)) in
    let least : 108 + 2 * k ≤ 2 * e + 106 → (2 * q + 1) * (2 * q + 1) * 4 ^ k ≤ 4 * a = λ g.
    le_trans (mul-le-mul_right (4 ^ k) (square_under q Q))
    (le_trans (le_of_eq powers) (le_trans (pow_mono g) (le_trans (le_of_eq fourfold) (mul-le-mul_left 4 lo)))) in
    half (lt_of_not-le (λ (g : 108 + 2 * k ≤ 2 * e + 106). lt_irrefl (4 * a) (lt_of_lt_of_le below (least g))))
  where
    half : 2 * e + 106 < 108 + 2 * k → e ≤ k
    half h = omega arith

-- x is finite and above zero
module _ (x : Float) (p : T (positive x)) (F : T (fits binary64 x)) where
  abbrev root : NearestRoot x (sqrt x)
  root = sqrt_is_nearest x p F

  abbrev g : ℕ
  g = root.q * 2 ^ root.k

  root_cross : num (sqrt x) * 2 ^ 1074 ≡ g * den (sqrt x)
  root_cross = value→cross (sqrt x) g (2 ^ 1074) root.root_value

  root_sign : is_sign_minus (sqrt x) ≡ false
  root_sign = has_sign (sqrt x) false g (2 ^ 1074) root.root_value

  -- what is 2 ^ (2 e + 104) units of 2 ^ -2148 at least has a root of 2 ^ (52 + e) units of 2 ^ -1074 at least
  root_reaches : (e : ℕ) → 2 ^ (2 * e + 104) ≤ root.a → 2 ^ 52 * 2 ^ e ≤ g
  root_reaches e l = mul-le-mul root.q_low (pow_mono (exponent_least root.q root.k root.a e root.q_high root.below l))

  root_most : num (sqrt x) * den largest_root ≤ num largest_root * den (sqrt x)
  root_most = highest (num (sqrt x)) (den (sqrt x)) g root_cross (mul-le-mul (le_of_suc-le-suc root.q_high) (pow_mono (le_of_suc-le-suc root.k_lt)))
    where
      highest : (n d g : ℕ) → n * 2 ^ 1074 ≡ g * d → g ≤ 9007199254740991 * 2 ^ 1533 → n * 1 ≤ 9007199254740991 * 2 ^ 459 * d
      highest n d g e h =
          le_of_mul-le-mul_right
          (le_trans (le_of_eq (ap (λ (z : ℕ). z * 2 ^ 1074) (mul-one n) ∙ e))
          (le_trans (mul-le-mul_right d h) (le_of_eq (mul_right_comm (9007199254740991 * 2 ^ 459) (2 ^ 1074) d))))
          (pow_pos 1074)

  -- 2 ^ -537, whose square is the smallest value
  root_least : den (sqrt x) ≤ num (sqrt x) * 2 ^ 537
  root_least = lowest (num (sqrt x)) (den (sqrt x)) g root_cross (root_reaches 485 units)
    where
      some : (n d a w U : ℕ) → 0 < d → n * (U * U) ≡ a * d → n * U ≡ w * d → 0 < w → U ≤ a
      some n d a w U D e g h =
          le_of_mul-le-mul_right
          (le_trans (le_of_eq (mul_comm U d))
          (le_trans (mul-le-mul_right U (le_trans (le_of_eq (sym (one-mul d))) (mul-le-mul_right d h)))
          (le_of_eq (sym (ap (λ (z : ℕ). z * U) g) ∙ mul_assoc n U U ∙ e)))) D

      units : 2 ^ 1074 ≤ root.a
      units =
          let o = representable binary64 x F (positive-finite x p) in
          let n = o.digits * 2 ^ o.place in
          some (num x) (den x) root.a n (2 ^ 1074) (den_pos x) (value→cross x root.a (2 ^ 2148) root.value) o.exact
          (first_pos n (den x) (subst (λ (z : ℕ). 0 < z) o.exact (mul-pos (num_positive x p) (pow_pos 1074))))

      lowest : (n d g : ℕ) → n * 2 ^ 1074 ≡ g * d → 2 ^ 537 ≤ g → d ≤ n * 2 ^ 537
      lowest n d g e h =
          le_of_mul-le-mul_right
          (le_trans (le_of_eq (mul_comm d (2 ^ 537)))
          (le_trans (mul-le-mul_right d h) (le_of_eq (sym e ∙ sym (mul_assoc n (2 ^ 537) (2 ^ 537))))))
          (pow_pos 537)

-- ---- the root of a normal value above zero: 2 ^ 1126 units of 2 ^ -2148 are 2 ^ -1022
normal_root_least : (x : Float) → PositiveNormal x → den (sqrt x) ≤ num (sqrt x) * 2 ^ 511
normal_root_least x o =
    let p = normal_positive x o in
    let r = sqrt_is_nearest x p o.held in
    let g = r.q * 2 ^ r.k in
    let a : 2 ^ 1126 ≤ r.a = large (num x) (den x) r.a (den_pos x) (value→cross x r.a (2 ^ 2148) r.value) (large_cross x o) in
    lowest (num (sqrt x)) (den (sqrt x)) g (root_cross x p o.held) (root_reaches x p o.held 511 a)
  where
    large : (n d a : ℕ) → 0 < d → n * 2 ^ 2148 ≡ a * d → d ≤ n * 2 ^ 1022 → 2 ^ 1126 ≤ a
    large n d a D e h =
        le_of_mul-le-mul_right (le_trans (mul-le-mul_left (2 ^ 1126) h) (le_of_eq (mul_left_comm (2 ^ 1126) n (2 ^ 1022) ∙ e))) D

    lowest : (n d g : ℕ) → n * 2 ^ 1074 ≡ g * d → 2 ^ 563 ≤ g → d ≤ n * 2 ^ 511
    lowest n d g e h =
        le_of_mul-le-mul_right
        (le_trans (le_of_eq (mul_comm d (2 ^ 563)))
        (le_trans (mul-le-mul_right d h) (le_of_eq (sym e ∙ sym (mul_assoc n (2 ^ 511) (2 ^ 563))))))
        (pow_pos 563)

root_times : (k : ℕ) (x y : Float) → PositiveNormal x → Times (k + k) x y → Times k (sqrt x) (sqrt y)
root_times k x y o h = sqrt_times k x y (normal_positive x o) o.held h

-- ---- the product of two roots
square_low : (na da nb db Q : ℕ) → da ≤ na * Q → db ≤ nb * Q → da * db ≤ na * nb * (Q * Q)
square_low na da nb db Q h g = le_trans (mul-le-mul h g) (le_of_eq (mul-mul-mul_comm na Q nb Q))

square_high : (na da nb db M N : ℕ) → na * 1 ≤ M * da → nb * 1 ≤ M * db → M * M ≤ N → na * nb * 1 ≤ N * (da * db)
square_high na da nb db M N h g l =
    le_trans (le_of_eq (mul-one (na * nb)))
    (le_trans (mul-le-mul (le_trans (le_of_eq (sym (mul-one na))) h) (le_trans (le_of_eq (sym (mul-one nb))) g))
    (le_trans (le_of_eq (mul-mul-mul_comm M da M db)) (mul-le-mul_right (da * db) l)))

largest_fits : T (fits binary64 largest)
unfolding fits
largest_fits = tt

product_low : (f k : Float) → PositiveNormal f → PositiveNormal k → den (sqrt f) * den (sqrt k) ≤ num (sqrt f) * num (sqrt k) * 2 ^ 1022
product_low f k o q = square_low (num (sqrt f)) (den (sqrt f)) (num (sqrt k)) (den (sqrt k)) (2 ^ 511) (normal_root_least f o) (normal_root_least k q)

module _ (f k : Float) (p : T (positive f)) (F : T (fits binary64 f)) (q : T (positive k)) (G : T (fits binary64 k)) where
  abbrev a : Float
  a = sqrt f

  abbrev b : Float
  b = sqrt k

  product_is : mul binary64 a b ≡ round binary64 false (num a * num b) (den a * den b)
  product_is = mul_is binary64 a b (sqrt_finite f p F) (sqrt_finite k q G) ∙ rw (root_sign f p F, root_sign k q G)

  C : 0 < den a * den b
  C = mul-pos (den_pos a) (den_pos b)

  rounded_finite : T (finite (round binary64 false (num a * num b) (den a * den b)))
  rounded_finite =
      round_finite binary64 false (num a * num b) (den a * den b)
      (grid_under binary64 (num a * num b) (den a * den b) largest C largest_fits tt
      (square_high (num a) (den a) (num b) (den b) (num largest_root) (num largest) (root_most f p F) (root_most k q G) (lit≤ tt)))

  roots_finite : T (finite (mul binary64 a b))
  roots_finite = subst (λ (z : Float). T (finite z)) (sym product_is) rounded_finite

  -- the product is the smallest value at least
  pub roots_positive : T (positive (mul binary64 a b))
  roots_positive =
      let r = round binary64 false (num a * num b) (den a * den b) in
      let l : 1 * den r ≤ num r * 2 ^ 1074 =
      round_lower false (num a * num b) (den a * den b) 1 (2 ^ 1074) C (pow_pos 1074) (grain_held 1 1074 (lit≤ tt) (lit≤ tt)) rounded_finite
      (le_trans (le_of_eq (one-mul (den a * den b)))
      (square_low (num a) (den a) (num b) (den b) (2 ^ 537) (root_least f p F) (root_least k q G))) in
      subst (λ (z : Float). T (positive z)) (sym product_is)
      (positive_of_value r (num r) (den r) (of_cross r false (num r) (den r) rounded_finite (round_minus false (num a * num b) (den a * den b)) refl)
      (first_pos (num r) (2 ^ 1074) (lt_of_lt_of_le (mul-pos (pow_pos 0) (den_pos r)) l)))

pub roots_times : (n : ℕ) (f k f' k' : Float) → PositiveNormal f → PositiveNormal k → PositiveNormal f' → PositiveNormal k'
    → Times (n + n) f f' → Times (n + n) k k'
    → Times (n + n) (mul binary64 (sqrt f) (sqrt k)) (mul binary64 (sqrt f') (sqrt k'))
roots_times n f k f' k' o q o' q' h g =
    let A = num (sqrt f) * num (sqrt k) in
    let C = den (sqrt f) * den (sqrt k) in
    mul_times binary64 n n (sqrt f) (sqrt k) (sqrt f') (sqrt k') (root_times n f f' o h) (root_times n k k' q g)
    (inl (normal_of_fraction binary64 A C (mul-pos (den_pos (sqrt f)) (den_pos (sqrt k)))
    (le_trans (mul-le-mul_left (2 ^ 52) (product_low f k o q)) (le_of_eq (mul_left_comm (2 ^ 52) A (2 ^ 1022))))))
    (roots_finite f' k' (normal_positive f' o') o'.held (normal_positive k' q') q'.held)
