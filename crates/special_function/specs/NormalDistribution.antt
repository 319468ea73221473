-- normal_distribution.rs: density, cumulative probability and its inverse. Definitions only.
use Rattle.std.specs.Prelude.{List, [], ◌∷◌, Bool, true, false, ◌&&◌, cond, ℕ, zero, suc, ◌^◌, Float}
use Rattle.std.specs.Float.Ieee.{neg, lt, le}
use Rattle.arithmetic.specs.Operations.{◌⊕◌, ◌⊖◌, ◌⊗◌, ◌⊘◌, bits, plus_zero, half, one, max_finite, epsilon, frac1_sqrt2}
use Rattle.arithmetic.specs.Basic.{abs, mul_add2_sel}
use Rattle.arithmetic.specs.Sqrt.{sqrt}
use Rattle.arithmetic.specs.Exp.{exp}
use Rattle.arithmetic.specs.Ln.{ln}
use Rattle.special_function.specs.Polynomial.{nested}
use Rattle.special_function.specs.ErrorFunction.{erfc_cody}
use Rattle.special_function.specs.declared.normal_distribution.Expansion.{Expansion}

-- 1/√(2π): the source's file has this constant of its own beside FRAC_1_SQRT_2_PI of constants.rs, with the same bits
abbrev pub frac_sqrt2_pi : Float
frac_sqrt2_pi = bits 0x3FD9_8845_33D4_3650

-- the density at x, x2 being x²
unfoldable pub norm_pdf : Float → Float
norm_pdf x2 = frac_sqrt2_pi ⊗ exp (neg half ⊗ x2)

-- ---- the asymptotic expansion of `norm_cdf`

-- one iteration of the source's loop, from what it has before to what it has after: `i` counts by four from 4, `a` is the magnitude of the last
-- term; 3.0 and 4.0 by their bits
unfoldable pub next : Float → Expansion → Expansion
next zsqr s =
    let x = (s.i ⊖ bits 0x4008_0000_0000_0000) ⊘ zsqr in
    let y = x ⊗ ((s.i ⊖ one) ⊘ zsqr) in
    let a = s.g ⊗ (x ⊖ y) in
    record { sum = s.sum ⊖ a; g = s.g ⊗ y; i = s.i ⊕ bits 0x4010_0000_0000_0000; a = abs a }

-- whether the loop goes on after it: the term has fallen below the one before, and still counts in the sum
unfoldable pub goes_on : Float → Expansion → Bool
goes_on lasta s = lt s.a lasta && le (abs (s.sum ⊗ epsilon)) s.a

-- the sum where the loop stops, after at most so many more iterations; `on` says whether it goes on from s
unfoldable pub sum_from : ℕ → Bool → Float → Expansion → Float
unfolding next goes_on
sum_from zero on zsqr s = s.sum
sum_from (suc more) false zsqr s = s.sum
sum_from (suc more) true zsqr s = sum_from more (goes_on s.a (next zsqr s)) zsqr (next zsqr s)

-- what the loop starts from
abbrev pub initial_expansion : Expansion
initial_expansion = record { sum = one; g = one; i = bits 0x4010_0000_0000_0000; a = max_finite }

-- More iterations than the loop can take: a term's magnitude is a whole number of 2 ^ -1074 below 2 ^ 1024, and it falls or the loop stops
-- (`asymptotic_sum_stops` of proofs/AsymptoticSum.antt).
unfoldable pub iteration_limit : ℕ
iteration_limit = 2 ^ 2098

-- the sum where the source's loop stops
unfoldable pub asymptotic_sum : Float → Float
unfolding sum_from iteration_limit
asymptotic_sum zsqr = sum_from iteration_limit true zsqr initial_expansion

-- from the first down to the second the expansion is summed; below the second it is 1
abbrev pub first_threshold : Float
first_threshold = bits 0xC024_0000_0000_0000  -- -10

abbrev pub second_threshold : Float
second_threshold = bits 0xC190_0000_0000_0000  -- -67108864

-- the probability of a value up to z
unfoldable pub norm_cdf : Float → Float
norm_cdf z =
    cond (le z first_threshold)
    (cond (le second_threshold z) (neg (norm_pdf (z ⊗ z)) ⊗ asymptotic_sum (z ⊗ z) ⊘ z) (neg (norm_pdf (z ⊗ z)) ⊘ z))
    (half ⊗ erfc_cody (neg z ⊗ frac1_sqrt2))

-- ---- the inverse

-- how far from one half the midrange reaches
abbrev pub u_max : Float
u_max = bits 0x3FD5_D897_A241_A6FA  -- 0.3413447460685429

-- the coefficients of the midrange, from the highest power to the lowest
abbrev pub numerator : List Float
numerator =
    bits 0xC01E_5B8B_5CD9_F0EB  -- -7.589_398_814_012_592_5
    ∷ bits 0x4060_C776_BB13_FCE4  -- 1.342_332_435_026_538_6E2
    ∷ bits 0x4085_93E9_F7BD_EC9F  -- 6.904_892_420_614_086E2
    ∷ bits 0x4087_6FD2_9071_8815  -- 7.499_778_145_665_792E2
    ∷ bits 0x4072_DDED_BD5E_0CC5  -- 3.018_705_419_229_339E2
    ∷ bits 0x4049_215A_6DC4_6847  -- 5.026_057_216_730_31E1
    ∷ bits 0x4007_6FCC_A4F7_F770  -- 2.929_589_546_983_088
    ∷ []

abbrev pub denominator : List Float
denominator =
    bits 0x4066_6743_A758_C6DD  -- 1.792_270_085_081_026E2
    ∷ bits 0x407D_F1FB_8DC7_EE7B  -- 4.791_239_145_097_567_3E2
    ∷ bits 0x4078_2D23_AB91_049F  -- 3.868_212_085_404_174_4E2
    ∷ bits 0x4060_2CEE_8E01_E190  -- 1.294_041_204_487_553E2
    ∷ bits 0x4032_EB25_4FAE_6DC0  -- 1.891_853_807_457_46E1
    ∷ bits 0x3FF0_0000_0000_0000  -- 1.0
    ∷ []

-- the z of probability u + 0.5, for |u| up to u_max
unfoldable pub inverse_norm_cdfm_half_for_midrange_probabilities : Float → Float
inverse_norm_cdfm_half_for_midrange_probabilities u =
    let s = mul_add2_sel u (neg u) (u_max ⊗ u_max) in
    u ⊗ (nested s numerator ⊘ nested s denominator)

-- the coefficients of the branches I to V, likewise
abbrev pub numerator_i : List Float
numerator_i =
    bits 0xC02A_1BAF_5EAC_14A3  -- -13.054_072_340_494_093
    ∷ bits 0xC054_D891_B827_B015  -- -83.383_894_003_636_97
    ∷ bits 0xC052_A60F_5D1B_ACCB  -- -74.594_687_726_045_93
    ∷ bits 0x4050_5CE1_F84D_A102  -- 65.451_292_110_261_45
    ∷ bits 0x4047_95D5_E9AD_97D7  -- 47.170_590_600_740_69
    ∷ bits 0x400D_8851_D112_6197  -- 3.691_562_302_945_566
    ∷ []

abbrev pub denominator_i : List Float
denominator_i =
    bits 0x3F27_FAD7_8DA3_FBA2  -- 0.000_182_951_748_520_535_3
    ∷ bits 0x4022_7181_31B1_83BA  -- 9.221_688_797_873_743
    ∷ bits 0x404D_A293_603C_109E  -- 59.270_122_556_046_076
    ∷ bits 0x4051_F415_7FB1_50EA  -- 71.813_812_182_579_26
    ∷ bits 0x4034_D653_7B4C_98FA  -- 20.837_211_328_697_755
    ∷ bits 0x3FF0_0000_0000_0000  -- 1.0
    ∷ []

abbrev pub numerator_ii : List Float
numerator_ii =
    bits 0xBFF3_3895_DAE6_B322  -- -1.201_314_787_943_552_6
    ∷ bits 0xC024_1E4A_AA23_2FF4  -- -10.059_163_395_686_461
    ∷ bits 0xC032_201D_049A_17C2  -- -18.125_442_779_178_92
    ∷ bits 0x3FE5_E31C_D17B_0745  -- 0.683_973_702_565_915_3
    ∷ bits 0x402C_FBCA_5D16_2951  -- 14.491_778_286_891_22
    ∷ bits 0x4009_DF44_C869_1823  -- 3.234_017_911_631_797
    ∷ []

abbrev pub denominator_ii : List Float
denominator_ii =
    bits 0x3EE6_FACD_CAA7_2548  -- 0.000_010_957_576_098_829_594
    ∷ bits 0x3FEB_29C5_36E6_589A  -- 0.848_848_921_991_492_5
    ∷ bits 0x401C_8C44_C663_1387  -- 7.136_981_105_610_977
    ∷ bits 0x402D_500F_D0D9_F9EB  -- 14.656_370_665_176_8
    ∷ bits 0x4021_C3A1_B789_5161  -- 8.882_093_177_330_434
    ∷ bits 0x3FF0_0000_0000_0000  -- 1.0
    ∷ []

abbrev pub numerator_iii : List Float
numerator_iii =
    bits 0xBFC3_BAF6_D695_9C71  -- -1.541_431_949_401_359_8E-1
    ∷ bits 0xC006_F591_58D2_CF92  -- -2.869_906_133_588_252_8
    ∷ bits 0xC026_241D_1F6F_A26F  -- -1.107_053_468_930_936_7E1
    ∷ bits 0xC014_A750_78AE_10D5  -- -5.163_392_911_552_553
    ∷ bits 0x4023_E591_1245_30BE  -- 9.948_372_431_703_657
    ∷ bits 0x4009_0075_3821_E2C2  -- 3.125_223_578_008_758_3
    ∷ []

abbrev pub denominator_iii : List Float
denominator_iii =
    bits 0x3E82_353C_88A0_EFE5  -- 1.356_598_356_444_129_7E-7
    ∷ bits 0x3FBB_E618_5762_1453  -- 1.089_797_223_413_183E-1
    ∷ bits 0x4000_3EE3_A12A_DF96  -- 2.030_707_606_430_904
    ∷ bits 0x4020_379E_E3EE_918C  -- 8.108_634_112_236_153
    ∷ bits 0x401C_4E9C_92BC_65DB  -- 7.076_769_154_309_171
    ∷ bits 0x3FF0_0000_0000_0000  -- 1.
    ∷ []

abbrev pub numerator_iv : List Float
numerator_iv =
    bits 0xBF90_828E_70F2_DF2E  -- -0.016_123_033_183_901_45
    ∷ bits 0xBFDE_75FE_19A0_A553  -- -0.475_951_695_467_832_17
    ∷ bits 0xC007_B724_867C_F2CF  -- -2.964_425_135_315_060_4
    ∷ bits 0xC00D_816C_ED0B_547C  -- -3.688_196_041_019_692
    ∷ bits 0x4002_01CE_1A06_FEAF  -- 2.250_881_388_987_032
    ∷ bits 0x4004_EDD3_BA54_E03B  -- 2.616_126_495_089_728_3
    ∷ []

abbrev pub denominator_iv : List Float
denominator_iv =
    bits 0x3E2A_7F91_48AD_1807  -- 0.000_000_003_084_809_357_096_678_6
    ∷ bits 0x3F87_58ED_D063_5312  -- 0.011_400_087_282_177_594
    ∷ bits 0x3FD5_8B77_DCAE_B8CD  -- 0.336_637_464_056_264
    ∷ bits 0x4001_068F_4F09_1A9C  -- 2.128_203_027_215_319
    ∷ bits 0x400A_0393_2750_1FD5  -- 3.251_745_516_903_592
    ∷ bits 0x3FF0_0000_0000_0000  -- 1.0
    ∷ []

abbrev pub numerator_v : List Float
numerator_v =
    bits 0xBF51_4FDA_059B_852B  -- -0.001_056_635_772_720_258_4
    ∷ bits 0xBFB0_AC33_B53D_5AC3  -- -0.065_127_593_753_781_67
    ∷ bits 0xBFEB_A4AC_8E3E_93FD  -- -0.863_851_812_192_137_6
    ∷ bits 0xC004_B72F_05BB_8871  -- -2.589_445_156_846_573
    ∷ bits 0xBFA5_E9D5_F85E_AC60  -- -0.042_799_650_734_502_09
    ∷ bits 0x4002_94DB_D2C7_CACF  -- 2.322_684_904_787_23
    ∷ []

abbrev pub denominator_v : List Float
denominator_v =
    bits 0x3DB9_7005_2B2F_23E1  -- 0.000_000_000_023_135_343_206_304_888
    ∷ bits 0x3F48_7B81_3D2F_81E3  -- 0.000_747_144_799_216_722_6
    ∷ bits 0x3FA7_9484_82B2_C933  -- 0.046_054_974_512_474_44
    ∷ bits 0x3FE3_9F67_4017_131F  -- 0.613_208_413_291_975
    ∷ bits 0x3FFE_FA65_241F_8B67  -- 1.936_131_611_925_441_3
    ∷ bits 0x3FF0_0000_0000_0000  -- 1.0
    ∷ []

-- the z of probability p, for p up to 0.5 - u_max; the branches end at 2.05, 3.41, 6.7 and 12.9
unfoldable pub inverse_norm_cdf_for_low_probabilities : Float → Float
inverse_norm_cdf_for_low_probabilities p =
    let r = sqrt (neg (ln p)) in
    cond (lt r (bits 0x4000_6666_6666_6666)) (nested r numerator_i ⊘ nested r denominator_i)
    (cond (lt r (bits 0x400B_47AE_147A_E148)) (nested r numerator_ii ⊘ nested r denominator_ii)
    (cond (lt r (bits 0x401A_CCCC_CCCC_CCCD)) (nested r numerator_iii ⊘ nested r denominator_iii)
    (cond (lt r (bits 0x4029_CCCC_CCCC_CCCD)) (nested r numerator_iv ⊘ nested r denominator_iv) (nested r numerator_v ⊘ nested r denominator_v))))

-- the z of probability p
unfoldable pub inverse_norm_cdf : Float → Float
inverse_norm_cdf p =
    let u = p ⊖ half in
    cond (lt (abs u) u_max) (inverse_norm_cdfm_half_for_midrange_probabilities u)
    (cond (lt plus_zero u) (neg (inverse_norm_cdf_for_low_probabilities (one ⊖ p))) (inverse_norm_cdf_for_low_probabilities p))
