-- `max` and `min` of two values, and of 2 ^ k times each in either order. Assumes nothing.
use Rattle.std.specs.Prelude.{◌≡◌, ℕ, ◌*◌, ◌^◌, Bool, true, false, cond, not, T, ltb, nat_lt, refl, Float}
use Rattle.std.proofs.Common.{sym, ap, ◌∙◌, subst, mul-one, zero-mul, le_antisymm, arith, ltb→lt, nltb→le}
use Rattle.std.specs.Float.Ieee.{lt, of_bits}
use Rattle.std.specs.Float.Ieee.Scale.{finite}
use Rattle.std.specs.Float.Ieee.Positive.{num, den, den_pos}
use Rattle.arithmetic.specs.Operations.{plus_zero}
use Rattle.arithmetic.specs.Basic.{is_sign_minus, takes_first_by, takes_first, max, min}
use Rattle.arithmetic.specs.Laws.Ratio.{scaled_cross}
use Rattle.arithmetic.specs.Laws.Times.{Times}
use Rattle.arithmetic.specs.Laws.Compare.{lt_times, lt_is, finite_no_nan}

pub times_zero : (k : ℕ) → Times k plus_zero plus_zero
unfolding of_bits
times_zero k = record { finite_l = tt; finite_r = tt; sign = refl; value = sym (mul-one (0 * 2 ^ k) ∙ zero-mul (2 ^ k)) }

pub times_refl : (x : Float) → T (finite x) → Times 0 x x
times_refl x p = record { finite_l = p; finite_r = p; sign = refl; value = ap (λ (z : ℕ). z * den x) (sym (mul-one (num x))) }

pub max_is : (x y : Float) → T (finite x) → T (finite y) → max x y ≡ cond (takes_first x y) x y
unfolding max
max_is x y p q = rw (finite_no_nan x p, finite_no_nan y q)

pub min_is : (x y : Float) → T (finite x) → T (finite y) → min x y ≡ cond (takes_first x y) y x
unfolding min
min_is x y p q = rw (finite_no_nan x p, finite_no_nan y q)

cond_times : (k : ℕ) (b : Bool) (x y x' y' : Float) → Times k x x' → Times k y y' → Times k (cond b x y) (cond b x' y')
cond_times k true x y x' y' h g = h
cond_times k false x y x' y' h g = g

takes_first_times : (k : ℕ) (x y x' y' : Float) → Times k x x' → Times k y y' → takes_first x' y' ≡ takes_first x y
takes_first_times k x y x' y' h g = rw (lt_times k x y x' y' h g, lt_times k y x y' x' g h, h.sign)

pub max_times : (k : ℕ) (x y x' y' : Float) → Times k x x' → Times k y y' → Times k (max x y) (max x' y')
max_times k x y x' y' h g =
    rw (max_is x y h.finite_l g.finite_l, max_is x' y' h.finite_r g.finite_r, takes_first_times k x y x' y' h g)
    (cond_times k (takes_first x y) x y x' y' h g)

pub min_times : (k : ℕ) (x y x' y' : Float) → Times k x x' → Times k y y' → Times k (min x y) (min x' y')
min_times k x y x' y' h g =
    rw (min_is x y h.finite_l g.finite_l, min_is x' y' h.finite_r g.finite_r, takes_first_times k x y x' y' h g)
    (cond_times k (takes_first x y) y x y' x' g h)

-- ---- exchanged: of two values that are not negative the larger is the same number, whichever comes first
lt_plus : (x y : Float) → T (finite x) → T (finite y) → is_sign_minus x ≡ false → is_sign_minus y ≡ false → lt x y ≡ nat_lt (num x * den y) (num y * den x)
lt_plus x y p q s t = lt_is x y p q ∙ rw (s, t)

-- where x and y are the same number, what is 2 ^ k times y is 2 ^ k times x
times_level : (k : ℕ) (x y y' : Float) → T (finite x) → is_sign_minus x ≡ false → is_sign_minus y ≡ false → num x * den y ≡ num y * den x
    → Times k y y' → Times k x y'
times_level k x y y' p s t e g = record {
  finite_l = p;
  finite_r = g.finite_r;
  sign = g.sign ∙ t ∙ sym s;
  value = scaled_cross (num x) (den x) (num y') (den y') (num y) (den y) (2 ^ k) (den_pos y) e g.value;
}

exchange : (k : ℕ) (x y x' y' : Float) → Times k x x' → Times k y y' → (a b : Bool) → (T a → T b → ⊥)
    → (T (not a) → T (not b) → Times k x y' × Times k y x')
    → Times k (cond (takes_first_by a b false) x y) (cond (takes_first_by b a false) y' x')
    × Times k (cond (takes_first_by a b false) y x) (cond (takes_first_by b a false) x' y')
exchange k x y x' y' h g true true n e = absurd (n tt tt)
exchange k x y x' y' h g true false n e = (g, h)
exchange k x y x' y' h g false true n e = (h, g)
exchange k x y x' y' h g false false n e = e tt tt

pub swapped_times : (k : ℕ) (x y x' y' : Float) → is_sign_minus x ≡ false → is_sign_minus y ≡ false → Times k x x' → Times k y y'
    → Times k (max x y) (max y' x') × Times k (min x y) (min y' x')
swapped_times k x y x' y' s t h g =
    let p = h.finite_l in
    let q = g.finite_l in
    let o : takes_first x y ≡ takes_first_by (lt x y) (lt y x) false = ap (λ (b : Bool). takes_first_by (lt x y) (lt y x) b) s in
    let o' : takes_first y' x' ≡ takes_first_by (lt y x) (lt x y) false = rw (lt_times k y x y' x' g h, lt_times k x y x' y' h g, g.sign, t) in
    let a = num x * den y in
    let b = num y * den x in
    let l : lt x y ≡ ltb a b = lt_plus x y p q s t in
    let m : lt y x ≡ ltb b a = lt_plus y x q p t s in
    let e : T (not (lt x y)) → T (not (lt y x)) → a ≡ b = λ u v.
    le_antisymm (nltb→le b a (subst (λ (z : Bool). T (not z)) m v)) (nltb→le a b (subst (λ (z : Bool). T (not z)) l u)) in
    rw (max_is x y p q, max_is y' x' g.finite_r h.finite_r, min_is x y p q, min_is y' x' g.finite_r h.finite_r, o, o')
    (exchange k x y x' y' h g (lt x y) (lt y x)
    (λ u v. let p = ltb→lt a b (subst T l u) in let q = ltb→lt b a (subst T m v) in omega arith)
    (λ u v. (times_level k x y y' p s t (e u v) g, times_level k y x x' q t s (sym (e u v)) h)))
