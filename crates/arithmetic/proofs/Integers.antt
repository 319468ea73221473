-- Whole numbers as floats, for `general` of `exp` and `decompose_bits`: a cast is `round`, exact up to 2 ^ 53. Assumes nothing.
use Rattle.std.proofs.Common.{◌≡◌, ℕ, suc, ◌^◌, ◌≤◌, true, false, T, pos, negsuc, refl, le→leb, lt→ltb}
use lib.Ieee.{binary64, round, of_int, in_float}
use lib.Ieee.Back.{round_whole}
use lib.Ieee.Exact.{HasValue}

pub of_int_pos : (n : ℕ) → of_int binary64 (pos n) ≡ round binary64 false n 1
unfolding of_int
of_int_pos n = refl

pub of_int_negsuc : (n : ℕ) → of_int binary64 (negsuc n) ≡ round binary64 true (suc n) 1
unfolding of_int
of_int_negsuc n = refl

pub integer_fits : (n : ℕ) → n ≤ 2 ^ 53 → T (in_float binary64 (pos n))
unfolding in_float
integer_fits n h = le→leb n (2 ^ 53) h

pub negative_fits : (n : ℕ) → suc n ≤ 2 ^ 53 → T (in_float binary64 (negsuc n))
unfolding in_float
negative_fits n h = lt→ltb n (2 ^ 53) h

pub integer_value : (n : ℕ) → n ≤ 2 ^ 53 → HasValue (of_int binary64 (pos n)) false n 1
unfolding of_int
integer_value n h = round_whole binary64 false n h
