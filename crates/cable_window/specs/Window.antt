-- The cable window (REQUIREMENTS 14.6): 64 bytes of XDR words, and what each write of a word makes of them. Definitions only.
use Rattle.std.specs.Prelude.{ℕ, ◌+◌, ◌*◌, ◌-◌, ◌/◌, ◌%◌, ◌^◌, Bool, cond, ◌&&◌, ◌||◌, List, [], ◌∷◌, eqb, leb, set, replicate}
use Rattle.std.specs.Float.{binary64}
use Rattle.std.specs.Float.Ieee.{to_bits}
use Rattle.explicit_black.specs.Quote.{Reply, answer, refusal, implied_black_volatility_input}
use Rattle.xdr_sheet.specs.Xdr.{unsigned, double}

-- ---- where the words stand
abbrev pub window_bytes : ℕ
window_bytes = 64

abbrev pub command_at : ℕ
command_at = 0

abbrev pub status_at : ℕ
status_at = 4

abbrev pub side_at : ℕ
side_at = 8

abbrev pub price_at : ℕ
price_at = 12

abbrev pub forward_at : ℕ
forward_at = 20

abbrev pub strike_at : ℕ
strike_at = 28

abbrev pub time_at : ℕ
time_at = 36

abbrev pub total_at : ℕ
total_at = 44

abbrev pub volatility_at : ℕ
volatility_at = 52

abbrev pub count_at : ℕ
count_at = 60

abbrev pub zeros : List ℕ
zeros = replicate window_bytes 0

-- the words of the quote, its side and its figures, are those at 8 to 40
abbrev pub is_quote_word : ℕ → Bool
is_quote_word offset = eqb (offset % 4) 0 && (leb 8 offset && leb offset 40)

-- they are writable, and so is the command
abbrev pub writable : ℕ → Bool
writable offset = eqb offset command_at || is_quote_word offset

-- ---- words and bits

-- bit n of a word, the least significant being bit 0
abbrev pub bit : ℕ → ℕ → ℕ
bit n word = word / 2 ^ n % 2

-- the bytes with a word from `at` on, its highest byte first
unfoldable pub with_word : List ℕ → ℕ → ℕ → List ℕ
with_word s at word =
    set (set (set (set s at (word / 2 ^ 24 % 2 ^ 8)) (at + 1) (word / 2 ^ 16 % 2 ^ 8)) (at + 2) (word / 2 ^ 8 % 2 ^ 8)) (at + 3) (word % 2 ^ 8)

-- and with a number of 64 bits, in two words
unfoldable pub with_hyper : List ℕ → ℕ → ℕ → List ℕ
unfolding with_word
with_hyper s at n = with_word (with_word s at (n / 2 ^ 32)) (at + 4) (n % 2 ^ 32)

-- ---- a solve

-- the reply to the quote whose figures stand in the window
unfoldable pub window_reply : List ℕ → Reply
unfolding unsigned double
window_reply s = implied_black_volatility_input (unsigned s side_at) (double s price_at) (double s forward_at) (double s strike_at) (double s time_at)

-- the status that it sets: bits 0 (done) and 2 (interrupt) are 1, bit 1 is `refused`, bits 8 to 15 are the number, the others are 0
abbrev pub solved_status : ℕ → ℕ → ℕ
solved_status refused number = 2 ^ 0 + refused * 2 ^ 1 + 2 ^ 2 + number * 2 ^ 8

unfoldable pub with_results : List ℕ → ℕ → ℕ → ℕ → ℕ → List ℕ
unfolding with_word with_hyper
with_results s status total volatility count =
    with_word (with_hyper (with_hyper (with_word s status_at status) total_at total) volatility_at volatility) count_at count

-- an answer's figures by their bits, and its count; of a refusal zeros, and its count
abbrev pub with_reply : List ℕ → Reply → List ℕ
with_reply s (answer total volatility count) = with_results s (solved_status 0 0) (to_bits binary64 total) (to_bits binary64 volatility) count
with_reply s (refusal number count) = with_results s (solved_status 1 number) 0 0 count

-- ---- a command

-- a status with bit 2 (interrupt) cleared
abbrev pub without_interrupt : ℕ → ℕ
without_interrupt status = status - bit 2 status * 2 ^ 2

-- bit 1 clears it
unfoldable pub cleared : List ℕ → ℕ → List ℕ
unfolding with_word unsigned
cleared s command = cond (eqb (bit 1 command) 1) (with_word s status_at (without_interrupt (unsigned s status_at))) s

-- bit 0 solves
unfoldable pub solved : List ℕ → ℕ → List ℕ
unfolding window_reply with_results
solved s command = cond (eqb (bit 0 command) 1) (with_reply s (window_reply s)) s

-- it clears first, then solves, and reads as 0 afterwards
unfoldable pub commanded : List ℕ → ℕ → List ℕ
unfolding with_word cleared solved
commanded s command = with_word (solved (cleared s command) command) command_at 0

-- ---- a write

-- what it hands back: 0, or 14 where the offset is no multiple of 4 or not writable
unfoldable pub offset_refusal : ℕ → ℕ
offset_refusal offset = cond (writable offset) 0 14

-- the bytes after it: as before where the offset is refused
unfoldable pub after_write : List ℕ → ℕ → ℕ → List ℕ
unfolding with_word commanded
after_write s offset word = cond (writable offset) (cond (eqb offset command_at) (commanded s word) (with_word s offset word)) s

-- ---- a list of writes
pub record Write : Type 0 where
  pub offset : ℕ
  pub word : ℕ

unfoldable pub after_writes : List ℕ → List Write → List ℕ
unfolding after_write
after_writes s [] = s
after_writes s (w ∷ rest) = after_writes (after_write s w.offset w.word) rest

-- the writes of two lists, as far as both go
abbrev pub writes : List ℕ → List ℕ → List Write
writes [] words = []
writes (o ∷ offsets) [] = []
writes (o ∷ offsets) (w ∷ words) = record { offset = o; word = w } ∷ writes offsets words
