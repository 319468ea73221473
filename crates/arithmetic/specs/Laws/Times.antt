-- `Times k x y`: y is exactly 2 ^ k times x, both finite, of one sign. Assumes nothing.
use Rattle.std.specs.Prelude.{◌≡◌, ℕ, ◌*◌, ◌^◌, ◌<◌, Bool, false, not, T, ℤ, refl, Float}
use Rattle.std.proofs.Common.{sym, ap, ◌∙◌}
use Rattle.std.specs.Float.{nan, inf, fin}
use Rattle.std.specs.Float.Ieee.{neg}
use Rattle.std.specs.Float.Ieee.Exact.{HasValue}
use Rattle.std.specs.Float.Ieee.Scale.{finite}
use Rattle.std.specs.Float.Ieee.Positive.{num, den, den_pos, positive, positive-finite, own_value, value_pos}
use Rattle.arithmetic.specs.Basic.{is_sign_minus}
use Rattle.arithmetic.specs.Laws.Ratio.{same_fraction, scaled_cross}

-- As fractions, num y / den y = num x / den x * 2 ^ k. A zero is 2 ^ k times a zero of its sign, and of nothing else.
pub record Times (k : ℕ) (x y : Float) : Type 0 where
  pub finite_l : T (finite x)
  pub finite_r : T (finite y)
  pub sign : is_sign_minus y ≡ is_sign_minus x
  pub value : num y * den x ≡ num x * 2 ^ k * den y

-- ---- what holds of any two values with digits holds of two finite ones
pub both_finite : (P : Float → Float → Type 0)
    → ((s : Bool) (m : ℕ) (e : ℤ) (t : Bool) (n : ℕ) (d : ℤ) → P (fin s m e) (fin t n d)) → (x y : Float) → T (finite x) → T (finite y) → P x y
both_finite P h nan y p q = absurd p
both_finite P h (inf s) y p q = absurd p
both_finite P h (fin s m e) nan p q = absurd q
both_finite P h (fin s m e) (inf t) p q = absurd q
both_finite P h (fin s m e) (fin t n d) p q = h s m e t n d

-- ---- from the fractions that two values equal
pub cross : (x : Float) (s : Bool) (a c : ℕ) → HasValue x s a c → num x * c ≡ a * den x
cross nan s a c h = absurd h
cross (inf t) s a c h = absurd h
cross (fin t m e) s a c h = h.1

pub has_sign : (x : Float) (s : Bool) (a c : ℕ) → HasValue x s a c → is_sign_minus x ≡ s
has_sign nan s a c h = absurd h
has_sign (inf t) s a c h = absurd h
has_sign (fin t m e) s a c h = h.0

pub has_finite : (x : Float) (s : Bool) (a c : ℕ) → HasValue x s a c → T (finite x)
has_finite nan s a c h = absurd h
has_finite (inf t) s a c h = absurd h
has_finite (fin t m e) s a c h = tt

pub of_cross : (x : Float) (s : Bool) (a c : ℕ) → T (finite x) → is_sign_minus x ≡ s → num x * c ≡ a * den x → HasValue x s a c
of_cross nan s a c p e h = absurd p
of_cross (inf t) s a c p e h = absurd p
of_cross (fin t m e) s a c p d h = (d, h)

pub positive_sign : (x : Float) → T (positive x) → is_sign_minus x ≡ false
positive_sign x p = has_sign x false (num x) (den x) (own_value x p)

pub num_positive : (x : Float) → T (positive x) → 0 < num x
num_positive x p = value_pos x (num x) (den x) p (den_pos x) (own_value x p)

pub positive_value : (x : Float) (a c : ℕ) → T (positive x) → num x * c ≡ a * den x → HasValue x false a c
positive_value x a c p h = of_cross x false a c (positive-finite x p) (positive_sign x p) h

pub times_of_values : (k : ℕ) (x y : Float) (s : Bool) (g l : ℕ) → 0 < l → HasValue x s g l → HasValue y s (g * 2 ^ k) l → Times k x y
times_of_values k x y s g l L h h' = record {
  finite_l = has_finite x s g l h;
  finite_r = has_finite y s (g * 2 ^ k) l h';
  sign = has_sign y s (g * 2 ^ k) l h' ∙ sym (has_sign x s g l h);
  value = scaled_cross (num x) (den x) (num y) (den y) g l (2 ^ k) L (cross x s g l h) (cross y s (g * 2 ^ k) l h');
}

pub times_value : (k : ℕ) (x y : Float) (s : Bool) (a c : ℕ) → Times k x y → HasValue x s a c → HasValue y s (a * 2 ^ k) c
times_value k x y s a c h v =
    of_cross y s (a * 2 ^ k) c h.finite_r (h.sign ∙ has_sign x s a c v)
    (scaled_cross a c (num y) (den y) (num x) (den x) (2 ^ k) (den_pos x) (sym (cross x s a c v)) h.value)

-- the same value as another fraction, a / c for w / l
pub rescale : (x : Float) (s : Bool) (w l a c : ℕ) → 0 < l → a * l ≡ w * c → HasValue x s w l → HasValue x s a c
rescale x s w l a c L h v =
    of_cross x s a c (has_finite x s w l v) (has_sign x s w l v)
    (sym (same_fraction w l a c (num x) (den x) L (sym h) (sym (cross x s w l v))))

-- ---- the negative of a value
pub neg_finite : (x : Float) → T (finite x) → T (finite (neg x))
unfolding neg
neg_finite nan h = h
neg_finite (inf s) h = h
neg_finite (fin s m e) h = h

pub neg_sign : (x : Float) → T (finite x) → is_sign_minus (neg x) ≡ not (is_sign_minus x)
unfolding neg
neg_sign nan h = absurd h
neg_sign (inf s) h = refl
neg_sign (fin s m e) h = refl

pub neg_num : (x : Float) → num (neg x) ≡ num x
unfolding neg
neg_num nan = refl
neg_num (inf s) = refl
neg_num (fin s m e) = refl

pub neg_den : (x : Float) → den (neg x) ≡ den x
unfolding neg
neg_den nan = refl
neg_den (inf s) = refl
neg_den (fin s m e) = refl

pub neg_times : (k : ℕ) (x y : Float) → Times k x y → Times k (neg x) (neg y)
neg_times k x y h = record {
  finite_l = neg_finite x h.finite_l;
  finite_r = neg_finite y h.finite_r;
  sign = neg_sign y h.finite_r ∙ ap not h.sign ∙ sym (neg_sign x h.finite_l);
  value = rw (neg_num x, neg_num y, neg_den x, neg_den y) h.value;
}
