-- e ^ x of REQUIREMENTS 7, with fdlibm's names and coefficients: x is k ln 2 + r, and y, which is e ^ r, is scaled by 2 ^ k. Definitions only.
use Rattle.std.specs.Prelude.{◌*◌, Bool, cond, ℤ, Float}
use Rattle.std.specs.Float.{nan, inf, fin, binary64}
use Rattle.std.specs.Float.Ieee.{up, down, round, add, sub, mul, div, is_nan, lt, to_signed, of_bits}
use Rattle.arithmetic.specs.Operations.{◌⊕◌, ◌⊖◌, ◌⊗◌, ◌⊘◌, bits, plus_zero, half, one, two, infinity}
use Rattle.arithmetic.specs.Basic.{is_sign_minus, trunc}

-- two parts of ln 2, and 1 / ln 2
abbrev pub ln2_hi : Float
ln2_hi = bits 0x3FE6_2E42_FEE0_0000

abbrev pub ln2_lo : Float
ln2_lo = bits 0x3DEA_39EF_3579_3C76

abbrev pub inv_ln2 : Float
inv_ln2 = bits 0x3FF7_1547_652B_82FE

-- above `o_threshold` the result is infinite, and below `u_threshold` it is 0
abbrev pub o_threshold : Float
o_threshold = bits 0x4086_2E42_FEFA_39EF

abbrev pub u_threshold : Float
u_threshold = bits 0xC087_4910_D52D_3051

-- coefficients of r (e ^ r + 1) / (e ^ r - 1) = 2 + P1 r ^ 2 + P2 r ^ 4 + ..
abbrev pub P1 : Float
P1 = bits 0x3FC5_5555_5555_553E

abbrev pub P2 : Float
P2 = bits 0xBF66_C16C_16BE_BD93

abbrev pub P3 : Float
P3 = bits 0x3F11_566A_AF25_DE2C

abbrev pub P4 : Float
P4 = bits 0xBEBB_BD41_C5D2_6BF1

abbrev pub P5 : Float
P5 = bits 0x3E66_3769_72BE_A4D0

-- x / ln 2, and a half away from zero by the sign; k is its whole part
unfoldable pub half_away : Bool → Float → Float
half_away s x = cond s (x ⊗ inv_ln2 ⊖ half) (x ⊗ inv_ln2 ⊕ half)

-- y: e ^ (x - k ln 2)
unfoldable pub reduced : Float → Float → Float
reduced x k =
    let h = x ⊖ k ⊗ ln2_hi in
    let l = k ⊗ ln2_lo in
    let r = h ⊖ l in
    let q = r ⊗ r in
    let c = r ⊖ q ⊗ (P1 ⊕ q ⊗ (P2 ⊕ q ⊗ (P3 ⊕ q ⊗ (P4 ⊕ q ⊗ P5)))) in
    one ⊖ ((l ⊖ (r ⊗ c) ⊘ (two ⊖ c)) ⊖ h)

-- y times 2 ^ k, rounded once
unfoldable pub scale_b : Float → ℤ → Float
scale_b nan k = nan
scale_b (inf s) k = inf s
scale_b (fin s m e) k = round binary64 s (m * up e * up k) (down e * down k)

-- e ^ x; `to_signed 63` is the whole number that k is, since k is far from the ends of the range of 63 bits
unfoldable pub exp : Float → Float
unfolding add sub mul div lt is_nan to_signed of_bits trunc half_away reduced scale_b
exp x =
    let k = trunc (half_away (is_sign_minus x) x) in
    cond (is_nan x) nan (cond (lt o_threshold x) infinity (cond (lt x u_threshold) plus_zero (scale_b (reduced x k) (to_signed 63 k))))
