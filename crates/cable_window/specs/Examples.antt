-- Lists of writes from a window of zeros with the 16 words that they leave, to the bit, and what offsets give. Assumes nothing.
use Rattle.std.specs.Prelude.{◌≡◌, refl, ℕ, ◌/◌, ◌%◌, ◌^◌, List, [], ◌∷◌, ◌++◌, map}
use Rattle.std.specs.Float.Ieee.{add, sub, mul, div, lt, le, eq, is_nan, of_bits, to_bits}
use Rattle.arithmetic.specs.Sqrt.{sqrt}
use Rattle.explicit_black.specs.Quote.{volatility_over, first_refusal, from_time_value, from_price, from_quote, implied_black_volatility_input}
use Rattle.cable_window.specs.Window.{Write, zeros, offset_refusal, after_writes}

-- the bytes of words
abbrev bytes_of : List ℕ → List ℕ
bytes_of [] = []
bytes_of (w ∷ ws) = (w / 2 ^ 24 % 2 ^ 8 ∷ w / 2 ^ 16 % 2 ^ 8 ∷ w / 2 ^ 8 % 2 ^ 8 ∷ w % 2 ^ 8 ∷ []) ++ bytes_of ws

abbrev at : ℕ → ℕ → Write
at offset word = record { offset = offset; word = word }

-- call, price 100, forward 100, strike 120, time 1; the low words of these doubles are 0
abbrev quote_at_bound : List Write
quote_at_bound = at 8 0 ∷ at 12 0x4059_0000 ∷ at 20 0x4059_0000 ∷ at 28 0x405E_0000 ∷ at 36 0x3FF0_0000 ∷ []

abbrev solved : List Write
solved = quote_at_bound ++ at 0 1 ∷ []

-- put, price 5
abbrev refused : List Write
refused = solved ++ at 8 1 ∷ at 12 0x4014_0000 ∷ at 0 0xFFFF_FFFD ∷ []

-- a signalling NaN as price
abbrev not_a_number : List Write
not_a_number = solved ++ at 12 0x7FF0_0000 ∷ at 16 1 ∷ at 0 1 ∷ []

-- the words from side to time of that quote, with another side and price, between what stands before and after them
abbrev window : ℕ → ℕ → ℕ → ℕ → List ℕ → List ℕ
window status side high low results =
    bytes_of ((0 ∷ status ∷ side ∷ high ∷ low ∷ 0x4059_0000 ∷ 0 ∷ 0x405E_0000 ∷ 0 ∷ 0x3FF0_0000 ∷ 0 ∷ []) ++ results)

abbrev no_figures : List ℕ
no_figures = 0 ∷ 0 ∷ 0 ∷ 0 ∷ 0 ∷ []

abbrev infinities : List ℕ
infinities = 0x7FF0_0000 ∷ 0 ∷ 0x7FF0_0000 ∷ 0 ∷ 0 ∷ []

pub host_session : (after_writes zeros quote_at_bound ≡ window 0 0 0x4059_0000 0 no_figures)
    -- done and interrupt, an infinite total and volatility, no evaluation
    × (after_writes zeros solved ≡ window 5 0 0x4059_0000 0 infinities)
    -- the interrupt is cleared, and set again where one command clears and solves
    × (after_writes zeros (solved ++ at 0 2 ∷ []) ≡ window 1 0 0x4059_0000 0 infinities)
    × (after_writes zeros (solved ++ at 0 3 ∷ []) ≡ window 5 0 0x4059_0000 0 infinities)
    -- refusal 7 in bits 8 to 15, and zeros as figures
    × (after_writes zeros refused ≡ window 0x707 1 0x4014_0000 0 no_figures)
    -- refusal 2; the pattern stays as it was written
    × (after_writes zeros not_a_number ≡ window 0x207 0 0x7FF0_0000 1 no_figures)
unfolding after_writes implied_black_volatility_input from_quote first_refusal from_price from_time_value volatility_over sqrt add sub mul div lt le eq is_nan
    of_bits to_bits
host_session = (refl, refl, refl, refl, refl, refl)

-- a command's other bits do nothing, and neither does a write that is refused
pub nothing_done : (after_writes zeros (solved ++ at 0 0xFFFF_FFFC ∷ []) ≡ after_writes zeros solved)
    × (after_writes zeros (solved ++ at 4 7 ∷ at 44 7 ∷ at 60 7 ∷ at 64 7 ∷ at 1 3 ∷ at 41 7 ∷ at 0xFFFF_FFFC 7 ∷ []) ≡ after_writes zeros solved)
unfolding after_writes implied_black_volatility_input from_quote first_refusal from_price lt le eq
nothing_done = (refl, refl)

pub offset_numbers : (map offset_refusal (0 ∷ 8 ∷ 12 ∷ 16 ∷ 20 ∷ 24 ∷ 28 ∷ 32 ∷ 36 ∷ 40 ∷ []) ≡ 0 ∷ 0 ∷ 0 ∷ 0 ∷ 0 ∷ 0 ∷ 0 ∷ 0 ∷ 0 ∷ 0 ∷ [])
    × (map offset_refusal (1 ∷ 4 ∷ 9 ∷ 38 ∷ 44 ∷ 60 ∷ 64 ∷ 0xFFFF_FFFC ∷ []) ≡ 14 ∷ 14 ∷ 14 ∷ 14 ∷ 14 ∷ 14 ∷ 14 ∷ 14 ∷ [])
unfolding offset_refusal
offset_numbers = (refl, refl)
