-- The density by an exponential that is at hand is the density. Assumes nothing.
use Rattle.std.specs.Prelude.{◌≡◌, refl, true, not, T, Float}
use Rattle.std.proofs.Common.{sym, ap, subst, ◌∙◌, eqb→eq}
use Rattle.std.proofs.lemmas.Bool.{false≢true}
use Rattle.std.specs.Float.{nan, inf, fin, binary64}
use Rattle.std.specs.Float.Ieee.{eq, is_nan, of_bits}
use Rattle.std.specs.Float.Ieee.Bits.{of_bits-to_bits}
use Rattle.std.specs.Float.Ieee.Fits.{mul-fits, and_r}
use Rattle.arithmetic.specs.Operations.{◌⊗◌}
use Rattle.arithmetic.specs.Exp.{exp}
use Rattle.arithmetic.specs.Laws.Choices.{by_test}
use Rattle.special_function.specs.NormalDistribution.{frac_sqrt2_pi, norm_pdf}
use Rattle.special_function.specs.Internal.SharedExponential.{square_first, left_to_right, same, norm_pdf_of_square}

-- of two that compare equal neither is a NaN
pub equal_numbers : (x y : Float) → eq x y ≡ true → T (not (is_nan x)) × T (not (is_nan y))
unfolding eq is_nan
equal_numbers nan y e = absurd (false≢true e)
equal_numbers (inf s) nan e = absurd (false≢true e)
equal_numbers (fin s m d) nan e = absurd (false≢true e)
equal_numbers (inf s) (inf t) e = (tt, tt)
equal_numbers (inf s) (fin t n k) e = (tt, tt)
equal_numbers (fin s m d) (inf t) e = (tt, tt)
equal_numbers (fin s m d) (fin t n k) e = (tt, tt)

-- products with the same bits are one number
same_products : (a b c d : Float) → same (a ⊗ b) (c ⊗ d) ≡ true → a ⊗ b ≡ c ⊗ d
same_products a b c d e =
    sym (of_bits-to_bits binary64 _ (mul-fits binary64 a b))
    ∙ ap (of_bits binary64) (eqb→eq _ _ (and_r (eq (a ⊗ b) (c ⊗ d)) _ (subst T (sym e) tt)))
    ∙ of_bits-to_bits binary64 _ (mul-fits binary64 c d)

-- so an exponential of the one product is that of the other
pub pdf_of_square : (a : Float) → norm_pdf_of_square a (exp (left_to_right a)) ≡ norm_pdf (a ⊗ a)
unfolding norm_pdf_of_square norm_pdf
pdf_of_square a =
    by_test (λ (z : Float). z ≡ frac_sqrt2_pi ⊗ exp (square_first a)) (same (square_first a) (left_to_right a))
    (λ s. rw (same_products _ _ _ _ s))
    (λ d. refl)
