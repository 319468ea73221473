-- What follows from the price, test 5 on, is the same where price, intrinsic value, bound and product of roots are scaled by 2 ^ k. Assumes nothing.
use Rattle.std.specs.Prelude.{◌≡◌, refl, ℕ, Bool, true, false, cond, T, Float}
use Rattle.std.proofs.Common.{sym, subst}
use Rattle.std.specs.Float.{nan, inf, fin, binary64}
use Rattle.std.specs.Float.Ieee.{fits, lt, eq, of_bits}
use Rattle.std.specs.Float.Ieee.Scale.{finite}
use Rattle.arithmetic.specs.Operations.{◌⊖◌, plus_zero}
use Rattle.arithmetic.specs.Basic.{is_sign_minus, max}
use Rattle.arithmetic.specs.Laws.Times.{Times}
use Rattle.arithmetic.specs.Laws.Compare.{lt_times, le_times, eq_times}
use Rattle.arithmetic.specs.Laws.Sums.{sub_times, sub_finite}
use Rattle.arithmetic.specs.Laws.Products.{div_times}
use Rattle.arithmetic.specs.Laws.Extremes.{times_zero, max_times}
use Rattle.explicit_black.specs.Quote.{from_price}

lt_plus : (d : Float) → T (finite d) → T (lt plus_zero d) → is_sign_minus d ≡ false
unfolding lt of_bits
lt_plus nan p h = absurd p
lt_plus (inf s) p h = absurd p
lt_plus (fin false m e) p h = refl
lt_plus (fin true m e) p h = absurd h

-- a finite price of binary64 with the sign clear
pub record Plain (p : Float) : Type 0 where
  pub held : T (fits binary64 p)
  pub bounded : T (finite p)
  pub clear : is_sign_minus p ≡ false

-- the price less the intrinsic value d, where that is above 0
abbrev time_value : Float → Float → Float
time_value p d = cond (lt plus_zero d) (p ⊖ d) p

time_value_times : (k : ℕ) (p d p' d' : Float) → Plain p → Plain p' → T (fits binary64 d) → T (fits binary64 d') → Times k p p' → Times k d d'
    → Times k (time_value p d) (time_value p' d')
time_value_times k p d p' d' o o' F F' h g =
    subst (λ (b : Bool). Times k (time_value p d) (cond b (p' ⊖ d') p')) (sym same) (go (lt plus_zero d) (λ t. lt_plus d' g.finite_r (subst T (sym same) t)))
  where
    same : lt plus_zero d' ≡ lt plus_zero d
    same = lt_times k plus_zero d plus_zero d' (times_zero k) g

    go : (b : Bool) → (T b → is_sign_minus d' ≡ false) → Times k (cond b (p ⊖ d) p) (cond b (p' ⊖ d') p')
    go true t =
        sub_times binary64 k p d p' d' o.held F h g
        (sub_finite binary64 p' d' o'.held F' o'.bounded g.finite_r o'.clear (t tt))
    go false t = h

pub from_price_times : (k : ℕ) (p d b r x t p' d' b' r' x' t' : Float) → Plain p → Plain p' → T (fits binary64 d) → T (fits binary64 d')
    → Times k p p' → Times k d d' → Times k b b' → Times k r r' → x' ≡ x → eq t' plus_zero ≡ eq t plus_zero
    → from_price p' d' b' r' x' t' ≡ from_price p d b r x t
unfolding from_price
from_price_times k p d b r x t p' d' b' r' x' t' o o' F F' hp hd hb hr hx ht =
    rw (
      ht,
      hx,
      eq_times k p (max d plus_zero) p' (max d' plus_zero) hp (max_times k d plus_zero d' plus_zero hd (times_zero k)),
      le_times k b p b' p' hb hp,
      eq_times k p b p' b' hp hb,
      div_times binary64 k (time_value p d) r (time_value p' d') r' (time_value_times k p d p' d' o o' F F' hp hd) hr,
    )
