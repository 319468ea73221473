-- The polynomials a0 to a16 of the asymptotic expansion by their coefficients, and the rule that these follow. Definitions only.
use Rattle.std.specs.Prelude.{ℕ, zero, suc, ◌+◌, ◌-◌, ◌*◌, ◌/◌, ◌%◌, ◌^◌, Bool, false, ◌&&◌, List, [], ◌∷◌, map, leb, eqb, Float, take, drop, get_or}
use Rattle.std.specs.Bool.{beq}
use Rattle.std.specs.Float.{nan, inf, fin, binary64}
use Rattle.std.specs.Float.Ieee.{up, down, of_bits, round, to_bits}
use Rattle.arithmetic.specs.Operations.{bits}
use Rattle.special_function.specs.Polynomial.{nested}

-- the source's 153 literals as bit patterns: a0 first, and each ak from its highest coefficient down
unfoldable pub patterns : List ℕ
patterns =
    0x4000_0000_0000_0000 ∷  -- a0
    0xC000_0000_0000_0000 ∷ 0xC018_0000_0000_0000 ∷  -- a1
    0x4018_0000_0000_0000 ∷ 0x404E_0000_0000_0000 ∷ 0x403E_0000_0000_0000 ∷  -- a2
    0xC03E_0000_0000_0000 ∷ 0xC083_B000_0000_0000 ∷ 0xC090_6800_0000_0000 ∷ 0xC06A_4000_0000_0000 ∷  -- a3
    0x406A_4000_0000_0000 ∷ 0x40BD_8800_0000_0000 ∷ 0x40D9_D700_0000_0000 ∷ 0x40D1_3A00_0000_0000 ∷  -- a4
    0x409D_8800_0000_0000 ∷
    0xC09D_8800_0000_0000 ∷ 0xC0F9_60E0_0000_0000 ∷ 0xC123_08A8_0000_0000 ∷ 0xC12A_A5B8_0000_0000 ∷  -- a5
    0xC113_08A8_0000_0000 ∷ 0xC0D4_4D80_0000_0000 ∷
    0x40D4_4D80_0000_0000 ∷ 0x4138_BE74_0000_0000 ∷ 0x416C_5A3A_4000_0000 ∷ 0x4181_02EF_C000_0000 ∷  -- a6
    0x4179_8467_A000_0000 ∷ 0x4156_AE95_0000_0000 ∷ 0x4110_7EF8_0000_0000 ∷
    0xC110_7EF8_0000_0000 ∷ 0xC17B_104E_E000_0000 ∷ 0xC1B5_FD40_1600_0000 ∷ 0xC1D4_2825_6980_0000 ∷  -- a7
    0xC1D9_EA79_3E80_0000 ∷ 0xC1C8_302C_E500_0000 ∷ 0xC19D_51AA_C800_0000 ∷ 0xC14E_EE11_0000_0000 ∷
    0x414E_EE11_0000_0000 ∷ 0x41C0_6E79_0800_0000 ∷ 0x4201_F8D4_60C0_0000 ∷ 0x4227_5D14_1760_0000 ∷  -- a8
    0x4236_F246_04AC_0000 ∷ 0x4232_5B6B_36F0_0000 ∷ 0x4217_5D14_1760_0000 ∷ 0x41E4_8A17_4A00_0000 ∷
    0x4190_6E79_0800_0000 ∷
    0xC190_6E79_0800_0000 ∷ 0xC205_F395_B0B0_0000 ∷ 0xC24F_1914_0FA4_0000 ∷ 0xC27B_35F1_8DAF_8000 ∷  -- a9
    0xC292_F348_3987_F000 ∷ 0xC297_2958_4650_D000 ∷ 0xC289_4460_4CB5_4000 ∷ 0xC267_52CF_0BBB_0000 ∷
    0xC22F_1914_0FA4_0000 ∷ 0xC1D3_832F_B980_0000 ∷
    0x41D3_832F_B980_0000 ∷ 0x4250_019D_262B_0000 ∷ 0x429C_82DF_EBFC_9800 ∷ 0x42D0_2807_6C20_3400 ∷  -- a10
    0x42EE_4B0D_EABC_6180 ∷ 0x42FA_410C_0FB4_5480 ∷ 0x42F5_E0DF_626B_9BC0 ∷ 0x42E1_4F75_AAB4_CA00 ∷
    0x42B8_3C0B_2230_4E00 ∷ 0x4279_57E3_7C6E_C000 ∷ 0x4219_9C2E_A378_0000 ∷
    0xC219_9C2E_A378_0000 ∷ 0xC299_4F5A_178D_9800 ∷ 0xC2EB_AECA_89C2_DE40 ∷ 0xC323_B956_B55A_D7F4 ∷  -- a11
    0xC347_F357_00C9_BD16 ∷ 0xC35B_F13A_D640_B1EF ∷ 0xC360_82E8_95E0_6924 ∷ 0xC353_F573_2B52_C83D ∷
    0xC337_F357_00C9_BD16 ∷ 0xC30A_4C73_9C79_1FF0 ∷ 0xC2C6_256E_D49B_E500 ∷ 0xC262_6841_857E_4000 ∷
    0x4262_6841_857E_4000 ∷ 0x42E5_922C_C86F_F300 ∷ 0x433C_6C9D_AD73_8434 ∷ 0x4378_DF09_F7C5_13AE ∷  -- a12
    0x43A2_FC8D_52DC_294F ∷ 0x43BC_B0D5_8E46_FFD8 ∷ 0x43C6_D27B_5415_9154 ∷ 0x43C3_8FD7_6CA4_C5B6 ∷
    0x43B1_EE85_78EC_5FE7 ∷ 0x4390_E07D_9EFC_967F ∷ 0x435D_D872_5C86_179D ∷ 0x4314_AC15_956B_48E0 ∷
    0x42AC_C2E6_6095_4400 ∷
    0xC2AC_C2E6_6095_4400 ∷ 0xC333_B79C_EF36_541E ∷ 0xC38E_CEE5_35C4_E36F ∷ 0xC3D0_3D0D_1457_3E47 ∷  -- a13
    0xC3FE_7278_8623_94C5 ∷ 0xC41C_ECBF_4C3B_66EE ∷ 0xC42D_CD22_2F83_0533 ∷ 0xC431_316C_567C_D1C5 ∷
    0xC426_59D9_A3A2_43E6 ∷ 0xC410_11BF_9C21_004B ∷ 0xC3E8_5B93_9E82_DD6A ∷ 0xC3B1_B6F6_FEEA_CF93 ∷
    0xC364_89EE_23D8_979F ∷ 0xC2F8_4472_617D_F160 ∷
    0x42F8_4472_617D_F160 ∷ 0x4383_3E46_B34E_DE67 ∷ 0x43E1_96EC_9FE6_174A ∷ 0x4425_FCA7_C7DF_9D1D ∷  -- a14
    0x4458_D55D_809B_6BBD ∷ 0x447C_F8ED_160A_A85D ∷ 0x4492_C425_3418_5B99 ∷ 0x449C_0BD2_537B_9C96 ∷
    0x4498_8A58_090C_2903 ∷ 0x4489_0586_F020_7A21 ∷ 0x446C_F8ED_160A_A85D ∷ 0x4442_0F89_D1E5_65A1 ∷
    0x4405_FCA7_C7DF_9D1D ∷ 0x43B5_A60F_89B8_BA34 ∷ 0x4345_FE07_A85A_22BF ∷
    0xC345_FE07_A85A_22BF ∷ 0xC3D3_F935_F465_DC8E ∷ 0xC435_1E27_B666_5D31 ∷ 0xC47E_E280_7AC2_81E5 ∷  -- a15
    0xC4B4_AE88_5234_8945 ∷ 0xC4DD_11C2_738B_43C8 ∷ 0xC4F7_1F94_DBE8_F5EB ∷ 0xC505_B9CD_F8D1_08D0 ∷
    0xC508_9F60_E6CA_C5B9 ∷ 0xC500_E5D9_16DB_78A2 ∷ 0xC4EB_BF7F_6E4A_C0B4 ∷ 0xC4CA_6D3C_690A_3D9F ∷
    0xC49B_9360_6D9B_61B1 ∷ 0xC45C_824F_363D_6436 ∷ 0xC408_2276_8750_6A81 ∷ 0xC395_4E17_6B17_51A9 ∷
    0x4395_4E17_6B17_51A9 ∷ 0x4425_F888_2670_0C36 ∷ 0x448A_9AF4_DE8B_AECA ∷ 0x44D6_80EF_1E5E_AE82 ∷  -- a16
    0x4511_A196_C614_7795 ∷ 0x453D_62A5_F4CC_C74D ∷ 0x455C_2934_5FEE_E9AA ∷ 0x4570_3F28_0FF6_2458 ∷
    0x4577_26CC_49F1_F3CB ∷ 0x4574_9443_CFF3_835F ∷ 0x4566_BED1_AFF2_32E2 ∷ 0x454E_B896_3A1B_E7A2 ∷
    0x4528_7CDF_A155_50C0 ∷ 0x44F5_B32F_B8B6_BA90 ∷ 0x44B3_49F1_87BE_DEB9 ∷ 0x445C_6105_31A6_0FC6 ∷
    0x43E5_F888_2670_0C36 ∷
    []

unfoldable pub table : List Float
unfolding patterns
table = map bits patterns

-- the coefficients of ak
unfoldable pub row : ℕ → List Float
row k = take (k + 1) (drop (k * (k + 1) / 2) table)

-- The polynomial ak at e. The source writes it `e.mul_add2_sel(c, d)`, then `.mul_add2_sel(e, ..)` for each coefficient that is left: by
-- `nested_chain` that is `nested`.
unfoldable pub a : ℕ → Float → Float
unfolding row
a k e = nested e (row k)

-- ---- the rule

-- the coefficient of e ^ j in ak
unfoldable pub coefficient : ℕ → ℕ → Float
unfolding row table of_bits
coefficient k j = get_or (row k) (k - j) nan

-- (2k - 1)!!, which is 1 at 0
unfoldable pub double_factorial : ℕ → ℕ
double_factorial zero = 1
double_factorial (suc k) = (2 * k + 1) * double_factorial k

unfoldable pub factorial : ℕ → ℕ
factorial zero = 1
factorial (suc n) = suc n * factorial n

unfoldable pub choose : ℕ → ℕ → ℕ
unfolding factorial
choose n k = factorial n / (factorial k * factorial (n - k))

-- the size of the exact coefficient of e ^ j in ak
unfoldable pub exact_size : ℕ → ℕ → ℕ
unfolding double_factorial choose
exact_size k j = 2 * double_factorial k * choose (2 * k + 1) (2 * j + 1)

-- the value is n, below 0 where the sign is true, up to n / 10 ^ 14
unfoldable pub within_tolerance : Bool → ℕ → Float → Bool
within_tolerance s n nan = false
within_tolerance s n (inf t) = false
within_tolerance s n (fin t m e) =
    beq s t && leb ((m * up e - n * down e + (n * down e - m * up e)) * 10 ^ 14) (n * down e)

-- the rule at the coefficient of e ^ j in ak: 2 · (2k - 1)!! · C (2k + 1, 2j + 1), with the sign of (-1) ^ k
unfoldable pub follows_rule : ℕ → ℕ → Bool
unfolding coefficient exact_size within_tolerance
follows_rule k j = within_tolerance (eqb (k % 2) 1) (exact_size k j) (coefficient k j)

-- the bit pattern of the coefficient of e ^ j in ak, and that of the binary64 nearest to the exact one
unfoldable pub entry : ℕ → ℕ → ℕ
unfolding patterns
entry k j = get_or patterns (k * (k + 1) / 2 + (k - j)) 0

unfoldable pub nearest_entry : ℕ → ℕ → ℕ
unfolding exact_size round to_bits
nearest_entry k j = to_bits binary64 (round binary64 (eqb (k % 2) 1) (exact_size k j) 1)
