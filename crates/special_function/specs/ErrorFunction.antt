-- error_function.rs, but for erfinv: Cody's error functions. Definitions only.
use Rattle.std.specs.Prelude.{List, [], ◌∷◌, cond, Float}
use Rattle.std.specs.Float.Ieee.{neg, lt, le}
use Rattle.arithmetic.specs.Operations.{◌⊕◌, ◌⊖◌, ◌⊗◌, ◌⊘◌, bits, plus_zero, one, two, max_finite}
use Rattle.arithmetic.specs.Basic.{abs, signum, trunc, recip, mul_add2_sel}
use Rattle.arithmetic.specs.Exp.{exp}
use Rattle.special_function.specs.Polynomial.{evaluate, ◌at◌, part}

-- ---- Cody's three rational functions, with his coefficients

-- erf x / x, for |x| up to 0.46875, z being x²
abbrev pub A : List Float
A =
    bits 0x4009_49FB_3ED4_43E9  -- 3.161_123_743_870_565_6
    ∷ bits 0x405C_774E_4D36_5DA3  -- 113.864_154_151_050_156
    ∷ bits 0x4077_97C3_8897_528B  -- 377.485_237_685_302_021
    ∷ bits 0x40A9_12C1_535D_121A  -- 3_209.377_589_138_469_47
    ∷ bits 0x3FC7_C790_5A31_C322  -- 0.185_777_706_184_603_153
    ∷ []

abbrev pub B : List Float
B =
    bits 0x4037_99EE_342F_B2DE  -- 23.601_290_952_344_120_9
    ∷ bits 0x406E_80C9_D57E_55B8  -- 244.024_637_934_444_173
    ∷ bits 0x4094_0A77_529C_ADC8  -- 1_282.616_526_077_372_28
    ∷ bits 0x40A6_3879_423B_87AD  -- 2_844.236_833_439_170_62
    ∷ []

unfoldable pub ab : Float → Float
ab z = evaluate (mul_add2_sel z (A at 4) (A at 0)) (part A 1 4) z ⊘ evaluate (mul_add2_sel z one (B at 0)) (part B 1 4) z

-- exp y² times erfc y, for y above that and up to 4
abbrev pub C : List Float
C =
    bits 0x3FE2_0DD5_08EB_103E  -- 0.564_188_496_988_670_089
    ∷ bits 0x4021_C42C_35B8_BC02  -- 8.883_149_794_388_375_94
    ∷ bits 0x4050_87A0_D1C4_20D0  -- 66.119_190_637_141_629_5
    ∷ bits 0x4072_AA29_86AB_A462  -- 298.635_138_197_400_131
    ∷ bits 0x408B_8F9E_262B_9FA3  -- 881.952_221_241_769_09
    ∷ bits 0x409A_C030_C15D_C8D7  -- 1_712.047_612_634_070_58
    ∷ bits 0x40A0_0628_2123_6F6B  -- 2_051.078_377_826_071_47
    ∷ bits 0x4093_395B_7FD2_FC8E  -- 1_230.339_354_797_997_25
    ∷ bits 0x3E57_1E70_3C5F_5815  -- 2.153_115_354_744_038_46E-8
    ∷ []

abbrev pub D : List Float
D =
    bits 0x402F_7D66_F486_DED5  -- 15.744_926_110_709_834_7
    ∷ bits 0x405D_6C69_B0FF_CDE7  -- 117.693_950_891_312_499
    ∷ bits 0x4080_C972_E588_749E  -- 537.181_101_862_009_858
    ∷ bits 0x4099_558E_ECA2_9D27  -- 1_621.389_574_566_690_19
    ∷ bits 0x40A9_B599_356D_1202  -- 3_290.799_235_733_459_63
    ∷ bits 0x40B1_0A9E_7CB1_0E86  -- 4_362.619_090_143_247_16
    ∷ bits 0x40AA_DEBC_3FC9_0DBD  -- 3_439.367_674_143_721_64
    ∷ bits 0x4093_395B_7FD3_5F61  -- 1_230.339_354_803_749_42
    ∷ []

unfoldable pub cd : Float → Float
cd y = evaluate (C at 8) (part C 0 8) y ⊘ evaluate (y ⊕ D at 0) (part D 1 8) y

-- 1/√π less y times exp y² times erfc y, for y above 4, z being 1/y²
abbrev pub P : List Float
P =
    bits 0x3FD3_8A78_B9F0_65F6  -- 0.305_326_634_961_232_344
    ∷ bits 0x3FD7_0FE4_0E24_25B8  -- 0.360_344_899_949_804_439
    ∷ bits 0x3FC0_199D_980A_842F  -- 0.125_781_726_111_229_246
    ∷ bits 0x3F90_7844_8CD6_C5B5  -- 0.016_083_785_148_742_276_6
    ∷ bits 0x3F45_95FD_0D71_E33C  -- 6.587_491_615_298_378_03E-4
    ∷ bits 0x3F90_B4FB_18B4_85C7  -- 0.016_315_387_137_302_097_8
    ∷ []

abbrev pub Q : List Float
Q =
    bits 0x4004_8C54_5088_00DB  -- 2.568_520_192_289_822_42
    ∷ bits 0x3FFD_F79D_6855_F0AD  -- 1.872_952_849_923_460_47
    ∷ bits 0x3FE0_E499_3E12_2C39  -- 0.527_905_102_951_428_412
    ∷ bits 0x3FAE_FC42_917D_7DE7  -- 0.060_518_341_312_441_319_1
    ∷ bits 0x3F63_2147_A014_BAD1  -- 0.002_335_204_976_268_691_85
    ∷ []

unfoldable pub pq : Float → Float
pq z = z ⊗ evaluate (P at 5) (part P 0 5) z ⊘ evaluate (z ⊕ Q at 0) (part Q 1 5) z

-- ---- exponentials of squares

-- y cut to a multiple of 1/16, toward zero
abbrev tilde : Float → Float
tilde y = trunc (y ⊗ bits 0x4030_0000_0000_0000) ⊗ bits 0x3FB0_0000_0000_0000

-- exp of -y², as the product of two: of the square of that multiple, and of what it leaves
unfoldable pub smoothened_exponential_of_negative_square : Float → Float
smoothened_exponential_of_negative_square y = exp (neg (tilde y ⊗ tilde y)) ⊗ exp (neg (y ⊖ tilde y) ⊗ (y ⊕ tilde y))

-- exp of x², likewise
unfoldable pub smoothened_exponential_of_positive_square : Float → Float
smoothened_exponential_of_positive_square x = exp (tilde x ⊗ tilde x) ⊗ exp ((x ⊖ tilde x) ⊗ (x ⊕ tilde x))

-- ---- the error functions

-- where Cody's first range ends, where erfcx is first too large, where erfc is first 0; and 1/√π
abbrev pub threshold : Float
threshold = bits 0x3FDE_0000_0000_0000  -- 0.46875

abbrev pub xneg : Float
xneg = bits 0xC03A_A0F4_D2E0_63B5  -- -26.6287357137514

abbrev pub xbig : Float
xbig = bits 0x403A_8B02_0C49_BA5E  -- 26.543

abbrev pub one_over_sqrt_pi : Float
one_over_sqrt_pi = bits 0x3FE2_0DD7_5042_9B6D  -- 0.5641895835477563

-- where his second range ends
abbrev pub four : Float
four = bits 0x4010_0000_0000_0000

-- exp y² times erfc y, for y above the threshold; the source has the same lines in erf_cody and erfc_cody
unfoldable pub erfcx_cody_above_threshold : Float → Float
erfcx_cody_above_threshold y = cond (le y four) (cd y) ((one_over_sqrt_pi ⊖ pq (recip (y ⊗ y))) ⊘ y)

-- erf x; below 0 as -(1 - erfc |x|)
unfoldable pub erf_cody : Float → Float
erf_cody x =
    let y = abs x in
    cond (le y threshold) (x ⊗ ab (y ⊗ y))
    (cond (le xbig y) (signum x)
    (cond (lt x plus_zero) (mul_add2_sel (erfcx_cody_above_threshold y) (smoothened_exponential_of_negative_square y) (neg one))
    (mul_add2_sel (erfcx_cody_above_threshold y) (neg (smoothened_exponential_of_negative_square y)) one)))

-- erfc y, for y above the threshold
unfoldable pub erfc_above_threshold : Float → Float
erfc_above_threshold y = cond (le xbig y) plus_zero (erfcx_cody_above_threshold y ⊗ smoothened_exponential_of_negative_square y)

-- erfc x, which is 1 - erf x; below 0 as 2 - erfc |x|
unfoldable pub erfc_cody : Float → Float
erfc_cody x =
    let y = abs x in
    cond (le y threshold) (mul_add2_sel (neg (ab (y ⊗ y))) x one)
    (cond (lt x plus_zero) (two ⊖ erfc_above_threshold y) (erfc_above_threshold y))

-- exp x² times erfc x; below 0 as 2 exp x² less that of |x|
unfoldable pub erfcx_cody : Float → Float
erfcx_cody x =
    let y = abs x in
    cond (le y threshold) (exp (y ⊗ y) ⊗ mul_add2_sel (neg (ab (y ⊗ y))) x one)
    (cond (lt x xneg) max_finite
    (cond (lt x plus_zero) (mul_add2_sel (smoothened_exponential_of_positive_square x) two (neg (erfcx_cody_above_threshold y)))
    (erfcx_cody_above_threshold y)))
