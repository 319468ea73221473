-- Values that antt computes by the definitions; those of the keystrokes of REQUIREMENTS 12 stand with the entries. Assumes nothing.
use Rattle.std.specs.Prelude.{◌≡◌, ℕ, ◌^◌, true, false, T, pos, negsuc, ◌==◌, refl, Float}
use Rattle.std.proofs.Common.{sym, subst}
use Rattle.std.specs.Int.Signed.{le_z_yes}
use Rattle.std.specs.Float.{nan, inf, fin}
use Rattle.std.specs.Float.Ieee.{mul, of_bits}
use Rattle.arithmetic.specs.Operations.{◌⊗◌, bits, plus_zero, one, two}
use Rattle.arithmetic.specs.Sqrt.{sqrt}
use Rattle.arithmetic.specs.MulAdd.{mul_add}
use Rattle.arithmetic.specs.Internal.Exponent.{InRange, above}
use Rattle.arithmetic.specs.Exp.{o_threshold, u_threshold, exp}
use Rattle.arithmetic.specs.Ln.{ln, ln1p}
use Rattle.arithmetic.specs.Laws.Times.{Times}

abbrev four : Float
four = bits 0x4010_0000_0000_0000

pub root_of_two : sqrt two ≡ bits 0x3ff6_a09e_667f_3bcd
unfolding sqrt of_bits
root_of_two = refl

-- √x * √x for x = 1, 2 and 4: 4 times x has 4 times the product, and twice x has not twice the product
pub root_products : (sqrt one ⊗ sqrt one ≡ one) × (sqrt two ⊗ sqrt two ≡ bits 0x4000_0000_0000_0001) × (sqrt four ⊗ sqrt four ≡ four)
unfolding sqrt mul of_bits
root_products = (refl, refl, refl)

pub product_not_doubled : Times 1 (sqrt one ⊗ sqrt one) (sqrt two ⊗ sqrt two) → ⊥
unfolding sqrt mul of_bits
product_not_doubled h = subst (λ (n : ℕ). T (n == 2 ^ 52)) (sym h.value) tt

-- infinities and NaN, signs of exact zeros, a tie at the smallest value, and overflow
pub fused_controls : (mul_add (inf false) (fin true 0 (pos 0)) (fin false 1 (pos 0)) ≡ nan)
    × (mul_add (inf false) (fin true 1 (pos 0)) (inf false) ≡ nan)
    × (mul_add (inf false) (fin true 1 (pos 0)) (inf true) ≡ inf true)
    × (mul_add (fin false 0 (pos 0)) (inf true) nan ≡ nan)
    × (mul_add (fin false 1 (pos 0)) (fin false 1 (pos 0)) (fin true 1 (pos 0)) ≡ fin false 0 (pos 0))
    × (mul_add (fin true 0 (pos 0)) (fin false 1 (pos 0)) (fin true 0 (pos 0)) ≡ fin true 0 (pos 0))
    × (mul_add (fin true 0 (pos 0)) (fin false 1 (pos 0)) (fin false 0 (pos 0)) ≡ fin false 0 (pos 0))
    × (mul_add (fin false 1 (negsuc 1073)) (fin false 1 (negsuc 0)) (fin false 0 (pos 0)) ≡ fin false 0 (pos 0))
    × (mul_add (fin false 3 (negsuc 1073)) (fin false 1 (negsuc 0)) (fin false 0 (pos 0)) ≡ fin false 1 (negsuc 1072))
    × (mul_add (fin false 1 (pos 1023)) (fin false 1 (pos 1)) (fin false 0 (pos 0)) ≡ inf false)
    × (mul_add (fin false 1 (pos 1023)) (fin false 1 (pos 1)) (fin true 1 (pos 1023)) ≡ fin false 1 (pos 1023))
unfolding mul_add
fused_controls = (refl, refl, refl, refl, refl, refl, refl, refl, refl, refl, refl)

-- the ends of an exponent's range, and what lies one past them
pub exponent_range : InRange (negsuc 3999) × InRange (pos 4000) × (InRange (negsuc 4000) → ⊥) × (InRange (pos 4001) → ⊥)
exponent_range =
    (record { least = le_z_yes tt; most = le_z_yes tt }, record { least = le_z_yes tt; most = le_z_yes tt }, (λ h. h.least.le), (λ h. h.most.le))

-- the exponents of the least value, of 1, whose last digit is at 2 ^ -52, and of the largest, counted from the first on; those of the least product, of the
-- least value and of the largest product likewise
pub exponent_counts : (above 1074 (negsuc 1073) ≡ 0) × (above 1074 (negsuc 51) ≡ 1022) × (above 1074 (pos 971) ≡ 2045)
    × (above 2148 (negsuc 2147) ≡ 0) × (above 2148 (negsuc 1073) ≡ 1074) × (above 2148 (pos 1942) ≡ 4090)
exponent_counts = (refl, refl, refl, refl, refl, refl)

-- e; the smallest result above zero, for which k is -1075; the largest, for which k is 1024
pub exp_values : (exp one ≡ bits 0x4005_bf0a_8b14_576a)
    × (exp u_threshold ≡ bits 1)
    × (exp o_threshold ≡ bits 0x7fef_ffff_ffff_ff2a)
unfolding exp
exp_values = (refl, refl, refl)

pub ln_values : (ln two ≡ bits 0x3fe6_2e42_fefa_39ef)
    × (ln (fin false 1 (negsuc 1073)) ≡ bits 0xc087_4385_446d_71c3)
    × (ln (bits 0x7fef_ffff_ffff_ffff) ≡ bits 0x4086_2e42_fefa_39ef)
    × (ln (fin true 0 (pos 0)) ≡ inf true)
    × (ln (fin true 1 (negsuc 1073)) ≡ nan)
    × (ln (inf false) ≡ inf false)
    × (ln (inf true) ≡ nan)
    × (ln nan ≡ nan)
unfolding ln
ln_values = (refl, refl, refl, refl, refl, refl, refl, refl)

-- both ends of the range, the cut at 0.40625, and a value outside; ln1p of -0 is +0
pub ln1p_values : (ln1p plus_zero ≡ plus_zero)
    × (ln1p (fin true 0 (pos 0)) ≡ plus_zero)
    × (ln1p (bits 0xbfd0_0000_0000_0000) ≡ bits 0xbfd2_6962_1134_db92)
    × (ln1p (bits 0x3fda_0000_0000_0000) ≡ bits 0x3fd5_d1bd_bf58_09ca)
    × (ln1p (bits 0x3ff8_0000_0000_0000) ≡ bits 0x3fed_5240_f0e0_e078)
    × (ln1p (bits 0x3ff8_0000_0000_0001) ≡ nan)
    × (ln1p nan ≡ nan)
unfolding ln1p
ln1p_values = (refl, refl, refl, refl, refl, refl, refl)
