-- A finite value of a format is representable: q * 2 ^ j of the smallest values, with q of no more digits than the format keeps. So rounding
-- leaves it as it is; and what is no larger than such a value does not overflow. Assumes nothing.
use Rattle.std.specs.Prelude.{◌≡◌, ℕ, zero, suc, ◌+◌, ◌-◌, ◌*◌, ◌%◌, ◌^◌, ◌<◌, ◌≤◌, Bool, true, false, cond, ◌&&◌, T, ltb, ℤ, pos, negsuc, nat_eq, nat_le, nat_lt, Float}
use Rattle.std.proofs.Common.{sym, ap, ◌∙◌, subst, mul-one, zero-mul, mul_assoc, mul_comm, add-sub_of_le, mul-lt-mul_of_pos_right, lt_of_mul-lt-mul_right, leb→le, ltb→lt, pow-add, pow_pos}
use Rattle.std.proofs.Math.Nat.{eq_of_mul-eq-mul_right}
use Rattle.std.specs.Float.{nan, inf, fin, Format}
use Rattle.std.specs.Float.Ieee.{prec, emax, low, up, down, odd, units, round, fits, le}
use Rattle.std.specs.Float.Ieee.Fits.{and_l, and_r, round_is, round-fits}
use Rattle.std.specs.Float.Ieee.Exact.{HasValue, odd_sign, round_exact}
use Rattle.std.specs.Float.Ieee.Order.{round_mono, drop, kept}
use Rattle.std.specs.Float.Ieee.Scale.{finite, grid, overflow}
use Rattle.std.specs.Float.Ieee.Positive.{num, den, den_pos}
use Rattle.arithmetic.specs.Laws.Numbers.{pow_le_back}
use Rattle.arithmetic.specs.Laws.Ratio.{same_fraction}
use Rattle.arithmetic.specs.Laws.Patterns.{value_unique}
use Rattle.arithmetic.specs.Laws.Times.{has_finite, cross}
use Rattle.arithmetic.specs.Laws.Rounding.{Whole, round_under}

-- x is digits * 2 ^ place of the format's smallest values
pub record Representable (f : Format) (x : Float) : Type 0 where
  pub digits : ℕ
  pub place : ℕ
  pub few : digits < 2 ^ prec f
  pub exact : num x * 2 ^ low f ≡ digits * 2 ^ place * den x
  pub under : digits * 2 ^ place < overflow f

place_of : Format → ℤ → ℕ
place_of f (pos k) = k + low f
place_of f (negsuc k) = low f - suc k

placed : (f : Format) (m : ℕ) (e : ℤ) → down e ≤ 2 ^ low f → m * up e * 2 ^ low f ≡ m * 2 ^ place_of f e * down e
unfolding place_of
placed f m (pos k) h = mul_assoc m (2 ^ k) (2 ^ low f) ∙ ap (λ (z : ℕ). m * z) (sym (pow-add 2 k (low f))) ∙ sym (mul-one (m * 2 ^ (k + low f)))
placed f m (negsuc k) h =
    ap (λ (z : ℕ). z * 2 ^ low f) (mul-one m)
    ∙ ap (λ (z : ℕ). m * 2 ^ z) (sym (add-sub_of_le (pow_le_back (suc k) (low f) h)))
    ∙ ap (λ (z : ℕ). m * z) (pow-add 2 (suc k) (low f - suc k) ∙ mul_comm (2 ^ suc k) (2 ^ (low f - suc k)))
    ∙ sym (mul_assoc m (2 ^ (low f - suc k)) (2 ^ suc k))

top : (f : Format) (m : ℕ) (e : ℤ) → down e ≤ 2 ^ low f → m * up e < 2 ^ suc (emax f) * down e → m * 2 ^ place_of f e < overflow f
top f m e h b =
    lt_of_mul-lt-mul_right (down e)
    (subst (λ (z : ℕ). z < overflow f * down e) (placed f m e h)
    (subst (λ (z : ℕ). m * up e * 2 ^ low f < z)
    (mul_comm (2 ^ suc (emax f) * down e) (2 ^ low f)
    ∙ sym (mul_assoc (2 ^ low f) (2 ^ suc (emax f)) (down e))
    ∙ ap (λ (z : ℕ). z * down e) (sym (pow-add 2 (low f) (suc (emax f)))))
    (mul-lt-mul_of_pos_right b (pow_pos (low f)))))

pub representable : (f : Format) (x : Float) → T (fits f x) → T (finite x) → Representable f x
unfolding fits
representable f nan h p = absurd p
representable f (inf s) h p = absurd p
representable f (fin s zero e) h p = record {
  digits = 0;
  place = 0;
  few = pow_pos (prec f);
  exact = ap (λ (z : ℕ). z * 2 ^ low f) (zero-mul (up e)) ∙ zero-mul (2 ^ low f) ∙ sym (zero-mul (down e));
  under = pow_pos (low f + suc (emax f));
}
representable f (fin s (suc m) e) h p =
    let a : Bool = nat_eq (suc m % 2) 1 in
    let b : Bool = ltb (suc m) (2 ^ prec f) in
    let c : Bool = nat_le (down e) (2 ^ low f) in
    let d : Bool = ltb (suc m * up e) (2 ^ suc (emax f) * down e) in
    let D : down e ≤ 2 ^ low f = leb→le (down e) (2 ^ low f) (and_r (a && b) c (and_l (a && b && c) d h)) in
    record {
      digits = suc m;
      place = place_of f e;
      few = ltb→lt (suc m) (2 ^ prec f) (and_r a b (and_l (a && b) c (and_l (a && b && c) d h)));
      exact = placed f (suc m) e D;
      under = top f (suc m) e D (ltb→lt (suc m * up e) (2 ^ suc (emax f) * down e) (and_r (a && b && c) d h));
    }

pub whole : (f : Format) (x : Float) → T (fits f x) → T (finite x) → Whole f (num x) (den x)
whole f x h p = ((representable f x h p).digits * 2 ^ (representable f x h p).place, (representable f x h p).exact)

pub round_representable : (f : Format) (s : Bool) (x : Float) → T (fits f x) → T (finite x) → HasValue (round f s (num x) (den x)) s (num x) (den x)
round_representable f s x h p =
    let o = representable f x h p in
    round_exact f s (num x) (den x) o.digits o.place (den_pos x) o.few o.under o.exact

-- so a fraction that equals a value of the format is rounded to that value
pub round_self : (f : Format) (x : Float) (s : Bool) (a c : ℕ) → 0 < c → T (fits f x) → HasValue x s a c → round f s a c ≡ x
round_self f x s a c C h v =
    let o = representable f x h (has_finite x s a c v) in
    let n = o.digits * 2 ^ o.place in
    let units : a * 2 ^ low f ≡ n * c = same_fraction (num x) (den x) a c n (2 ^ low f) (den_pos x) (cross x s a c v) o.exact in
    value_unique f (round f s a c) x s a c C (round-fits f s a c) h (round_exact f s a c o.digits o.place C o.few o.under units) v

-- a value of n of the format's smallest values
pub value_under : (f : Format) (x : Float) (s : Bool) (n : ℕ) → T (fits f x) → HasValue x s n (2 ^ low f) → n < overflow f
value_under f x s n h v =
    let o = representable f x h (has_finite x s n (2 ^ low f) v) in
    let m = o.digits * 2 ^ o.place in
    subst (λ (z : ℕ). z < overflow f) (eq_of_mul-eq-mul_right (den x) (den_pos x) m n (sym o.exact ∙ cross x s n (2 ^ low f) v)) o.under

-- ---- no overflow
below_finite : (f : Format) (q k : ℕ) (z : Float) → T (finite z) → T (le (units f false q k) z) → T (finite (units f false q k))
unfolding units
below_finite f q k z p = go (nat_lt (q * 2 ^ k) (overflow f)) z p
  where
    value : Float
    value = odd (suc (prec f)) false q k (low f)

    go : (b : Bool) (z : Float) → T (finite z) → T (le (cond b value (inf false)) z) → T (finite (cond b value (inf false)))
    go true z p h = has_finite value false (q * 2 ^ k) (2 ^ low f) (odd_sign (suc (prec f)) false q k (low f))
    go false nan p h = absurd p
    go false (inf s) p h = absurd p
    go false (fin s m e) p h = unfold le in h

pub grid_under : (f : Format) (a c : ℕ) (x : Float) → 0 < c → T (fits f x) → T (finite x) → a * den x ≤ num x * c → grid f a c < overflow f
grid_under f a c x C h p l =
    let z = round f false (num x) (den x) in
    let Z : T (finite z) = has_finite z false (num x) (den x) (round_representable f false x h p) in
    round_under f false a c
    (subst (λ (r : Float). T (finite r)) (sym (round_is f false a c))
    (below_finite f (kept (prec f) (a * 2 ^ low f) c) (drop (prec f) (a * 2 ^ low f) c) z Z
    (subst (λ (r : Float). T (le r z)) (round_is f false a c) (round_mono f a c (num x) (den x) C (den_pos x) l))))
