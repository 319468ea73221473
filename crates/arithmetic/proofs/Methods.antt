-- What the methods of std's f64 say, in the words of specs/Basic. Assumes nothing.
use Rattle.std.proofs.Common.{◌≡◌, true, refl, true≢false}
use lib.Ieee.{Float, nan, inf, fin, is_nan}
use Rattle.std.specs.Float.{float_is_finite, float_is_infinite, is_sign_negative}
use Rattle.arithmetic.specs.Basic.{is_sign_minus, is_finite, is_infinite}

pub nan_of : (x : Float) → true ≡ is_nan x → x ≡ nan
unfolding is_nan
nan_of nan e = refl
nan_of (inf s) e = absurd (true≢false e)
nan_of (fin s m e) h = absurd (true≢false h)

pub sign_is : (x : Float) → is_sign_negative x ≡ is_sign_minus x
unfolding is_sign_negative
sign_is nan = refl
sign_is (inf s) = refl
sign_is (fin s m e) = refl

pub finite_is : (x : Float) → float_is_finite x ≡ is_finite x
unfolding float_is_finite
finite_is nan = refl
finite_is (inf s) = refl
finite_is (fin s m e) = refl

pub infinite_is : (x : Float) → float_is_infinite x ≡ is_infinite x
unfolding float_is_infinite is_nan
infinite_is nan = refl
infinite_is (inf s) = refl
infinite_is (fin s m e) = refl
