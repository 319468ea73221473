-- The normalised Black price and its three formulas, after bs_option_price.rs. What a definition uses stands above it. Definitions only.
use Rattle.std.specs.Prelude.{ℕ, zero, suc, ◌-◌, Bool, ◌&&◌, ◌||◌, cond, List, [], ◌∷◌, leb, ltb, Float}
use Rattle.std.specs.Float.Ieee.{neg, lt, le, eq}
use Rattle.arithmetic.specs.Operations.{◌⊕◌, ◌⊖◌, ◌⊗◌, ◌⊘◌, bits, plus_zero, half, one, two, min_positive, frac1_sqrt2}
use Rattle.arithmetic.specs.Basic.{max, min, recip, is_infinite, mul_add2_sel}
use Rattle.arithmetic.specs.Exp.{exp}
use Rattle.arithmetic.specs.Ln.{ln, ln1p}
use Rattle.special_function.specs.Constants.{frac1_sqrt2_pi, sqrt_pi_over2}
use Rattle.special_function.specs.ErrorFunction.{erfc_cody, erfcx_cody}
use Rattle.special_function.specs.Polynomial.{evaluate, nested}
use Rattle.bs_option_price.specs.Table.{a}

-- ---- constants

-- TAU, 2.0 · SIXTEENTH_ROOT_DBL_EPSILON, which is exact, and ETA, -13.0
abbrev pub tau : Float
tau = bits 0x3FCA_E89F_995A_D3AE

abbrev pub eta : Float
eta = bits 0xC02A_0000_0000_0000

-- ---- regions

-- where the asymptotic expansion answers
unfoldable pub is_region1 : Float → Float → Bool
is_region1 h t = lt h eta && lt (t ⊕ h) (tau ⊕ half ⊕ eta)

-- where the expansion for small t answers
unfoldable pub is_region2 : Float → Float → Bool
is_region2 h t = lt (mul_add2_sel h (neg half ⊘ eta) (neg tau ⊕ t)) plus_zero

-- ---- the asymptotic expansion

unfoldable pub thresholds : List Float
thresholds =
    bits 0x4028_B1A9_FBE7_6C8B  -- 12.347
    ∷ bits 0x4029_EA7E_F9DB_22D1  -- 12.958
    ∷ bits 0x402B_753F_7CED_9168  -- 13.729
    ∷ bits 0x402D_6F9D_B22D_0E56  -- 14.718
    ∷ bits 0x4030_0418_9374_BC6A  -- 16.016
    ∷ bits 0x4031_C4DD_2F1A_9FBE  -- 17.769
    ∷ bits 0x4034_3893_74BC_6A7F  -- 20.221
    ∷ bits 0x4037_D0E5_6041_8937  -- 23.816
    ∷ bits 0x403D_6B43_9581_0625  -- 29.419
    ∷ bits 0x4043_770A_3D70_A3D7  -- 38.93
    ∷ bits 0x404C_95E3_53F7_CED9  -- 57.171
    ∷ bits 0x4058_D635_3F7C_ED91  -- 99.347
    ∷ []

-- the index of the first entry above the value, or how many there are
unfoldable pub first_above : Float → List Float → ℕ
first_above value [] = 0
first_above value (x ∷ xs) = cond (lt value x) 0 (suc (first_above value xs))

unfoldable pub position : Float → ℕ
position value = first_above value thresholds

-- one coefficient more, if the position is at most `last`
unfoldable pub term : ℕ → ℕ → Float → Float → Float → Float
term idx last omega q coefficient = cond (leb idx last) (mul_add2_sel omega q coefficient) omega

-- omega / q after the first n of these steps, whose coefficients are a16, a15, and so on down
unfoldable pub omega_over_q : ℕ → Float → Float → ℕ → Float
omega_over_q idx q e zero = plus_zero
omega_over_q idx q e (suc n) = term idx n (omega_over_q idx q e n) q (a (16 - n) e)

-- what a16 to a5 add, below the last threshold
unfoldable pub tail : ℕ → Float → Float → Float
tail idx q e = cond (ltb idx 12) (q ⊗ omega_over_q idx q e 12) plus_zero

unfoldable pub omega : Float → Float → Float → Float
omega tail q e = nested q ((a 4 e ⊕ tail) ∷ a 3 e ∷ a 2 e ∷ a 1 e ∷ a 0 e ∷ [])

unfoldable pub asymptotic_expansion_of_scaled_normalised_black : Float → Float → Float
asymptotic_expansion_of_scaled_normalised_black h t =
    let e = (t ⊘ h) ⊗ (t ⊘ h) in
    let r = mul_add2_sel t (neg t) (h ⊗ h) in
    let q = (h ⊘ r) ⊗ (h ⊘ r) in
    let idx = position (neg h ⊖ t ⊕ tau ⊕ half) in
    (t ⊘ r) ⊗ omega (tail idx q e) q e

-- ---- the expansion for small t

-- the rational function of order (5,6), times w, plus 1
unfoldable pub y_prime_tail_expansion_rational_function_part_plus1 : Float → Float
y_prime_tail_expansion_rational_function_part_plus1 w =
    mul_add2_sel
    (nested w
    (neg (bits 0x40F0_5023_FC09_A010)  -- -6.681_824_903_261_685E4
    ∷ neg (bits 0x40F4_77C0_57E7_380F)  -- -8.383_602_146_074_198E4
    ∷ neg (bits 0x40DB_276F_B972_C202)  -- -2.780_574_569_386_430_8E4
    ∷ neg (bits 0x40AB_2301_D097_58E8)  -- -3.473_503_544_549_563_2E3
    ∷ neg (bits 0x4065_F201_176A_38F9)  -- -1.755_626_332_354_220_6E2
    ∷ neg (bits 0x4007_FFFF_FFFF_FB4E)  -- -2.999_999_999_999_466
    ∷ [])
    ⊘ nested w
    (bits 0x40F0_EA68_4C83_31A3  -- 6.928_651_867_980_375E4
    ∷ bits 0x40FE_B03B_42CD_7A08  -- 1.256_997_038_092_390_9E5
    ∷ bits 0x40F0_546C_B4E7_0AD9  -- 6.688_679_416_565_168E4
    ∷ bits 0x40CC_7145_D77B_8B93  -- 1.456_254_563_850_703_4E4
    ∷ bits 0x4096_81C1_6FFC_C49E  -- 1.440_438_903_760_433_7E3
    ∷ bits 0x404F_C2AC_1F37_A21E  -- 6.352_087_774_483_173_6E1
    ∷ one
    ∷ []))
    w
    one

-- the quotient for h from -4 to -0.46875: the first product is by h, the others by -h
unfoldable pub y_prime_middle : Float → Float
y_prime_middle h =
    evaluate
    (mul_add2_sel h (bits 0x3E0D_10D4_534D_1974) (bits 0x3E66_F5CB_E427_C89A))  -- 8.459_243_640_658_06E-10, 4.276_659_783_590_871_4E-8
    (bits 0x3F34_2185_F3CF_EF4C  -- 3.071_739_227_491_390_3E-4
    ∷ bits 0x3F76_B6E6_75E1_4C50  -- 5.545_521_007_735_379_5E-3
    ∷ bits 0x3FA7_5F8E_0815_831F  -- 4.565_090_035_135_299E-2
    ∷ bits 0x3FCC_6438_1DB4_CC0D  -- 2.218_084_473_657_601_4E-1
    ∷ bits 0x3FE3_CFC9_3599_FE4F  -- 6.191_144_987_969_411E-1
    ∷ bits 0x3FF0_0000_0004_1589  -- 1.000_000_000_059_431_8
    ∷ [])
    (neg h)
    ⊘ evaluate
    (mul_add2_sel h (neg (bits 0x3F34_3313_B269_1D34)) (bits 0x3F76_A59F_CFD4_8FBC))  -- -3.082_202_041_792_714_7E-4, 5.529_045_357_693_659E-3
    (bits 0x3FA7_F142_C46F_036D  -- 4.676_254_890_319_496E-2
    ∷ bits 0x3FCE_4EB5_8DDA_8DA7  -- 2.367_770_140_309_464E-1
    ∷ bits 0x3FE8_8125_635D_001B  -- 7.657_648_983_658_903E-1
    ∷ bits 0x3FF9_18C7_9850_B91A  -- 1.568_549_723_607_765_2
    ∷ bits 0x3FFD_F577_BAFD_5185  -- 1.872_428_636_958_916_3
    ∷ one
    ∷ [])
    (neg h)

-- by Cody's thresholds -4.0 and -0.46875
unfoldable pub y_prime : Float → Float
y_prime h =
    cond (lt h (neg (bits 0x4010_0000_0000_0000)))
    (let w = recip (h ⊗ h) in w ⊗ y_prime_tail_expansion_rational_function_part_plus1 w)
    (cond (le h (neg (bits 0x3FDE_0000_0000_0000))) (y_prime_middle h) (mul_add2_sel (erfcx_cody (neg frac1_sqrt2 ⊗ h)) (h ⊗ sqrt_pi_over2) one))

-- 2.0 · a
abbrev pub b0 : Float → Float
b0 a = two ⊗ a

-- (a · (3.0 + h2) + -1.0) / 3.0
unfoldable pub b1 : Float → Float → Float
b1 a h2 = mul_add2_sel a (bits 0x4008_0000_0000_0000 ⊕ h2) (neg (bits 0x3FF0_0000_0000_0000)) ⊘ bits 0x4008_0000_0000_0000

-- ([10.0 + h2, 15.0] · a + (-7.0 - h2)) / 60.0, a bracket being a polynomial of h2
unfoldable pub b2 : Float → Float → Float
b2 a h2 =
    mul_add2_sel (nested h2 ((bits 0x4024_0000_0000_0000 ⊕ h2) ∷ bits 0x402E_0000_0000_0000 ∷ [])) a (neg (bits 0x401C_0000_0000_0000) ⊖ h2)
    ⊘ bits 0x404E_0000_0000_0000

-- what b3 to b6 share: a polynomial of h2 times a, plus another, over a divisor
unfoldable pub b : Float → Float → List Float → List Float → Float → Float
b a h2 factor rest divisor = mul_add2_sel (nested h2 factor) a (nested h2 rest) ⊘ divisor

-- ([21.0 + h2, 105.0, 105.0] · a + [-18.0 - h2, -57.0]) / 2520.0
abbrev pub b3 : Float → Float → Float
b3 a h2 =
    b a h2
    ((bits 0x4035_0000_0000_0000 ⊕ h2) ∷ bits 0x405A_4000_0000_0000 ∷ bits 0x405A_4000_0000_0000 ∷ [])
    ((neg (bits 0x4032_0000_0000_0000) ⊖ h2) ∷ neg (bits 0x404C_8000_0000_0000) ∷ [])
    (bits 0x40A3_B000_0000_0000)

-- ([36.0 + h2, 378.0, 1260.0, 945.0] · a + [-33.0 - h2, -285.0, -561.0]) / 181_440.0
abbrev pub b4 : Float → Float → Float
b4 a h2 =
    b a h2
    ((bits 0x4042_0000_0000_0000 ⊕ h2) ∷ bits 0x4077_A000_0000_0000 ∷ bits 0x4093_B000_0000_0000 ∷ bits 0x408D_8800_0000_0000 ∷ [])
    ((neg (bits 0x4040_8000_0000_0000) ⊖ h2) ∷ neg (bits 0x4071_D000_0000_0000) ∷ neg (bits 0x4081_8800_0000_0000) ∷ [])
    (bits 0x4106_2600_0000_0000)

-- ([55.0 + h2, 990.0, 6930.0, 17325.0, 10395.0] · a + [-52.0 - h2, -840.0, -4680.0, -6555.0]) / 19_958_400.0
abbrev pub b5 : Float → Float → Float
b5 a h2 =
    b a h2
    ((bits 0x404B_8000_0000_0000 ⊕ h2) ∷ bits 0x408E_F000_0000_0000 ∷ bits 0x40BB_1200_0000_0000 ∷ bits 0x40D0_EB40_0000_0000 ∷ bits 0x40C4_4D80_0000_0000 ∷ [])
    ((neg (bits 0x404A_0000_0000_0000) ⊖ h2) ∷ neg (bits 0x408A_4000_0000_0000) ∷ neg (bits 0x40B2_4800_0000_0000) ∷ neg (bits 0x40B9_9B00_0000_0000) ∷ [])
    (bits 0x4173_08A8_0000_0000)

-- ([78.0 + h2, 2145.0, 25740.0, 135_135.0, 270_270.0, 135_135.0] · a + [-75.0 - h2, -1926.0, -20370.0, -82845.0, -89055.0]) / 3_113_510_400.0
abbrev pub b6 : Float → Float → Float
b6 a h2 =
    b a h2
    ((bits 0x4053_8000_0000_0000 ⊕ h2) ∷ bits 0x40A0_C200_0000_0000 ∷ bits 0x40D9_2300_0000_0000 ∷ bits 0x4100_7EF8_0000_0000
    ∷ bits 0x4110_7EF8_0000_0000 ∷ bits 0x4100_7EF8_0000_0000 ∷ [])
    ((neg (bits 0x4052_C000_0000_0000) ⊖ h2) ∷ neg (bits 0x409E_1800_0000_0000) ∷ neg (bits 0x40D3_E480_0000_0000)
    ∷ neg (bits 0x40F4_39D0_0000_0000) ∷ neg (bits 0x40F5_BDF0_0000_0000) ∷ [])
    (bits 0x41E7_328C_C000_0000)

-- the polynomial of t² with coefficients b6 to b0, times t
unfoldable pub small_t_expansion_of_scaled_normalised_black : Float → Float → Float
small_t_expansion_of_scaled_normalised_black h t =
    let a = y_prime h in
    let h2 = h ⊗ h in
    nested (t ⊗ t) (b6 a h2 ∷ b5 a h2 ∷ b4 a h2 ∷ b3 a h2 ∷ b2 a h2 ∷ b1 a h2 ∷ b0 a ∷ []) ⊗ t

-- ---- Cody's functions

-- twice the price, by which of q1 and q2 is below 0.46875
unfoldable pub two_b : Float → Float → Float → Float → Float
two_b half_theta_x q1 q2 exp_neg_q =
    cond (lt q1 (bits 0x3FDE_0000_0000_0000))
    (cond (lt q2 (bits 0x3FDE_0000_0000_0000))
    (mul_add2_sel (exp half_theta_x) (erfc_cody q1) (neg (exp (neg half_theta_x) ⊗ erfc_cody q2)))
    (mul_add2_sel (exp half_theta_x) (erfc_cody q1) (neg (exp_neg_q ⊗ erfcx_cody q2))))
    (cond (lt q2 (bits 0x3FDE_0000_0000_0000))
    (mul_add2_sel exp_neg_q (erfcx_cody q1) (neg (exp (neg half_theta_x) ⊗ erfc_cody q2)))
    (exp_neg_q ⊗ (erfcx_cody q1 ⊖ erfcx_cody q2)))

unfoldable pub normalised_black_with_optimal_use_of_codys_functions_impl : Float → Float → Float → Float → Float
normalised_black_with_optimal_use_of_codys_functions_impl half_theta_x h t exp_neg_q =
    let q1 = neg frac1_sqrt2 ⊗ (h ⊕ t) in
    let q2 = neg frac1_sqrt2 ⊗ (h ⊖ t) in
    max (half ⊗ two_b half_theta_x q1 q2 exp_neg_q) plus_zero

unfoldable pub normalised_black_with_optimal_use_of_codys_functions : Float → Float → Float → Float
normalised_black_with_optimal_use_of_codys_functions half_theta_x h t =
    normalised_black_with_optimal_use_of_codys_functions_impl half_theta_x h t (exp (neg half ⊗ mul_add2_sel t t (h ⊗ h)))

-- ---- the price

-- e^(-(t² + h²) / 2) / √(2π)
unfoldable pub normalised_vega : Float → Float → Float
normalised_vega h t = frac1_sqrt2_pi ⊗ exp (neg half ⊗ mul_add2_sel t t (h ⊗ h))

unfoldable pub normalised_black : Float → Float → Float → Float
normalised_black half_theta_x h t =
    cond (eq t plus_zero || is_infinite h)
    plus_zero
    (cond (is_region1 h t)
    (asymptotic_expansion_of_scaled_normalised_black h t ⊗ normalised_vega h t)
    (cond (is_region2 h t)
    (small_t_expansion_of_scaled_normalised_black h t ⊗ normalised_vega h t)
    (normalised_black_with_optimal_use_of_codys_functions half_theta_x h t)))

-- -|ln (f / k)|: where the smaller is at least half of the larger, the difference is taken before the logarithm; where the ratio is
-- below the normal values, the difference of two logarithms
unfoldable pub negative_abs_log_moneyness : Float → Float → Float
negative_abs_log_moneyness f k =
    let smaller = min f k in
    let larger = max f k in
    let ratio = smaller ⊘ larger in
    cond (le (half ⊗ larger) smaller)
    (neg (ln1p ((larger ⊖ smaller) ⊘ smaller)))
    (cond (le min_positive ratio) (ln ratio) (ln smaller ⊖ ln larger))
