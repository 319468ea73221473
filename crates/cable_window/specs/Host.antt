-- What a host reads in a window after a list of writes (REQUIREMENTS 14.6 (6)), told by the list alone: the terms of Laws/Host.antt. Definitions only.
use Rattle.std.specs.Prelude.{◌≡◌, ℕ, ◌+◌, ◌*◌, ◌/◌, ◌%◌, ◌<◌, ◌^◌, Bool, false, cond, ◌&&◌, ◌||◌, List, [], ◌∷◌, ◌++◌, eqb, Float}
use Rattle.std.specs.Float.{binary64}
use Rattle.std.specs.Float.Ieee.{of_bits, to_bits}
use Rattle.explicit_black.specs.Quote.{Reply, answer, refusal, implied_black_volatility_input}
use Rattle.xdr_sheet.specs.Xdr.{byte_at, unsigned, hyper}
use Rattle.cable_window.specs.Window.{command_at, status_at, side_at, price_at, forward_at, strike_at, time_at, total_at, volatility_at, count_at}
use Rattle.cable_window.specs.Window.{Write, bit, solved_status, without_interrupt}

-- each byte of a window has 8 bits, and each word that is written has 32
pub record AreBytes (s : List ℕ) : Type 0 where
  pub fit : (i : ℕ) → byte_at s i < 2 ^ 8

abbrev pub AreWords : List Write → Type 0
AreWords [] = Unit {0}
AreWords (w ∷ rest) = (w.word < 2 ^ 32) × AreWords rest

-- ---- the words of the quote

-- the last word that is written at an offset, and `old` where none is
abbrev pub last_word : ℕ → List Write → ℕ → ℕ
last_word old [] at = old
last_word old (w ∷ rest) at = last_word (cond (eqb w.offset at) w.word old) rest at

-- the double of the last word that is written at each of its two offsets
abbrev pub last_double : List Write → ℕ → Float
last_double writes at = of_bits binary64 (last_word 0 writes at * 2 ^ 32 + last_word 0 writes (at + 4))

-- the reply to the quote that a list has written
unfoldable pub reply_after : List Write → Reply
unfolding of_bits
reply_after writes =
    implied_black_volatility_input (last_word 0 writes side_at)
    (last_double writes price_at) (last_double writes forward_at) (last_double writes strike_at) (last_double writes time_at)

-- ---- commands

-- whether a write is a command whose bit n is 1
abbrev pub commands : ℕ → Write → Bool
commands n w = eqb w.offset command_at && eqb (bit n w.word) 1

-- whether one of a list is
abbrev pub any_commands : ℕ → List Write → Bool
any_commands n [] = false
any_commands n (w ∷ rest) = commands n w || any_commands n rest

abbrev pub any_solves : List Write → Bool
any_solves writes = any_commands 0 writes

abbrev pub any_clears : List Write → Bool
any_clears writes = any_commands 1 writes

-- ---- results
pub record Results : Type 0 where
  pub status : ℕ
  pub total : ℕ
  pub volatility : ℕ
  pub count : ℕ

-- those that stand in a window
abbrev pub results_in : List ℕ → Results
results_in s = record { status = unsigned s status_at; total = hyper s total_at; volatility = hyper s volatility_at; count = unsigned s count_at }

-- those of a window of zeros, and of a reply
abbrev pub no_results : Results
no_results = record { status = 0; total = 0; volatility = 0; count = 0 }

abbrev pub results_of : Reply → Results
results_of (answer total volatility count) =
    record { status = solved_status 0 0; total = to_bits binary64 total; volatility = to_bits binary64 volatility; count = count }
results_of (refusal number count) = record { status = solved_status 1 number; total = 0; volatility = 0; count = count }

-- with the interrupt cleared where b says so
abbrev pub interrupt_cleared : Bool → Results → Results
interrupt_cleared b r =
    record { status = cond b (without_interrupt r.status) r.status; total = r.total; volatility = r.volatility; count = r.count }

-- ---- a status, bit by bit, as the solve with the reply r sets it
abbrev pub refused_bit : Reply → ℕ
refused_bit (answer total volatility count) = 0
refused_bit (refusal number count) = 1

abbrev pub number_of : Reply → ℕ
number_of (answer total volatility count) = 0
number_of (refusal number count) = number

pub record StatusBits (s : ℕ) (r : Reply) : Type 0 where
  pub done : bit 0 s ≡ 1
  pub refused : bit 1 s ≡ refused_bit r
  pub interrupt : bit 2 s ≡ 1
  pub between : s / 2 ^ 3 % 2 ^ 5 ≡ 0
  pub number : s / 2 ^ 8 % 2 ^ 8 ≡ number_of r
  pub above : s / 2 ^ 16 ≡ 0

-- ---- a list that has a solve, taken apart at its last one
pub record LastSolve (writes : List Write) : Type 0 where
  pub before : List Write
  pub command : ℕ
  pub since : List Write
  pub parts : writes ≡ before ++ record { offset = command_at; word = command } ∷ since
  pub words : AreWords before
  pub solves : bit 0 command ≡ 1
  pub none_since : any_solves since ≡ false
