-- No line has more than `line_bytes` bytes, and none of a sheet more than `sheet_line_bytes`; what follows from whether a text was put at the start of a
-- buffer. Assumes nothing.
use Rattle.std.specs.Prelude.{◌≡◌, refl, ℕ, zero, suc, ◌+◌, ◌/◌, ◌%◌, ◌^◌, ◌≤◌, ◌<◌, Bool, not, List, [], ◌∷◌, T, ltb, Some, None}
use Rattle.std.proofs.Common.{◌∙◌, arith, le_trans, lt-ltb, lit≤, leb→le, pow-add, length-append}
use Rattle.std.proofs.Math.Bool.{true, false, cond}
use Rattle.std.proofs.Math.Dec.{nleb→lt}
use Rattle.std.specs.Float.{binary64}
use Rattle.std.specs.Float.Ieee.{to_bits}
use Rattle.std.proofs.Math.ListN.{length}
use Rattle.io.specs.Digits.{last_digits, hex_digit_ascii}
use Rattle.arithmetic.specs.Laws.Choices.{in_both, never}
use Rattle.explicit_black.specs.Quote.{Reply, answer, refusal}
use Rattle.explicit_black.specs.Demand.{compared}
use Rattle.xdr_sheet.specs.Text.{decimal_digits, hexadecimal_digits, line_bytes, sheet_line_bytes, places, decimal, hexadecimal}
use Rattle.xdr_sheet.specs.Text.{line, closing, refused_sheet, fits_into, overlaid}
use Rattle.xdr_sheet.specs.Internal.Lines.{bytes_placed, buffer_after}
use Rattle.xdr_sheet.specs.declared.tally.Tally.{Tally}

-- ---- how many digits a number has
length_digits : (b k n : ℕ) → length (last_digits b k n) ≡ k
length_digits b zero n = refl
length_digits b (suc k) n =
    let e : length (last_digits b k (n / b)) + 1 ≡ suc k = omega (arith, length_digits b k (n / b)) in
    length-append (last_digits b k (n / b)) (hex_digit_ascii (n % b) ∷ []) ∙ e

pub few_places : (f n : ℕ) → places f n ≤ suc f
unfolding places
few_places zero n = lit≤ tt
few_places (suc f) n = in_both (λ (k : ℕ). k ≤ suc (suc f)) (ltb n 10) (omega arith) (omega (arith, few_places f (n / 10)))

decimal_short : (n : ℕ) → length (decimal n) ≤ decimal_digits
unfolding decimal
decimal_short n = omega (arith, length_digits 10 (places 19 n) n, few_places 19 n)

-- a number below 10 ^ (k + 1) has k + 1 digits at most
places_below : (f k n : ℕ) → n < 10 ^ suc k → places f n ≤ suc k
unfolding places
places_below zero k n h = omega arith
places_below (suc f) zero n h = rw (lt-ltb n 10 h) (lit≤ tt)
places_below (suc f) (suc k) n h =
    let g : n / 10 < 10 ^ suc k = omega (arith, pow-add 10 1 (suc k)) in
    in_both (λ (m : ℕ). m ≤ suc (suc k)) (ltb n 10) (omega arith) (omega (arith, places_below f k (n / 10) g))

decimal_below : (k n : ℕ) → n < 10 ^ suc k → length (decimal n) ≤ suc k
unfolding decimal
decimal_below k n h = omega (arith, length_digits 10 (places 19 n) n, places_below 19 k n h)

hexadecimal_short : (n : ℕ) → length (hexadecimal n) ≤ hexadecimal_digits
unfolding hexadecimal
hexadecimal_short n = omega (arith, length_digits 16 hexadecimal_digits n)

-- ---- how long a line is, by the most digits of its decimal numbers
line_within : (d number : ℕ) (r : Reply) → length (decimal number) ≤ d → length (decimal (compared r).count) ≤ d
    → length (line number r) ≤ 38 + (d + d)
unfolding line
line_within d number (answer total volatility count) h c =
    simp length-append (omega (arith, h, c, hexadecimal_short (to_bits binary64 total), hexadecimal_short (to_bits binary64 volatility)))
line_within d number (refusal reason count) h c = simp length-append (omega (arith, h, c, decimal_short reason))

closing_within : (d : ℕ) (t : Tally) → length (decimal t.finite) ≤ d → length (decimal t.infinite) ≤ d → length (decimal t.refusals) ≤ d
    → length (closing t) ≤ 5 + (d + d + d)
unfolding closing
closing_within d t a b c = simp length-append (omega (arith, a, b, c))

refused_within : (number : ℕ) → length (refused_sheet number) ≤ 3 + decimal_digits
unfolding refused_sheet
refused_within number = simp length-append (omega (arith, decimal_short number))

-- any line
pub line_short : (number : ℕ) (r : Reply) → length (line number r) ≤ line_bytes
line_short number r = le_trans (line_within decimal_digits number r (decimal_short number) (decimal_short (compared r).count)) (lit≤ tt)

pub closing_short : (t : Tally) → length (closing t) ≤ line_bytes
closing_short t =
    le_trans (closing_within decimal_digits t (decimal_short t.finite) (decimal_short t.infinite) (decimal_short t.refusals)) (lit≤ tt)

pub refused_short : (number : ℕ) → length (refused_sheet number) ≤ line_bytes
refused_short number = le_trans (refused_within number) (lit≤ tt)

-- a line of a sheet: number and count have four digits at most, and a tally that fits a u32 ten
pub line_fits : (number : ℕ) (r : Reply) → number < 10 ^ 4 → (compared r).count < 10 ^ 4 → length (line number r) ≤ sheet_line_bytes
line_fits number r h c = line_within 4 number r (decimal_below 3 number h) (decimal_below 3 (compared r).count c)

pub closing_fits : (t : Tally) → t.finite < 2 ^ 32 → t.infinite < 2 ^ 32 → t.refusals < 2 ^ 32 → length (closing t) ≤ sheet_line_bytes
closing_fits t a b c =
    let ten : (n : ℕ) → n < 2 ^ 32 → length (decimal n) ≤ 10 = λ n h. decimal_below 9 n (omega arith) in
    le_trans (closing_within 10 t (ten t.finite a) (ten t.infinite b) (ten t.refusals c)) (lit≤ tt)

pub refused_fits : (number : ℕ) → length (refused_sheet number) ≤ sheet_line_bytes
refused_fits number = le_trans (refused_within number) (lit≤ tt)

-- ---- a text was put at the start of a buffer, or had no room there
module _ (text buffer : List ℕ) where
  pub bytes_placed_lem : (n : ℕ) → Some n ≡ bytes_placed text buffer
      → (n ≡ length text) × (length text ≤ length buffer) × (buffer_after text buffer ≡ overlaid text buffer)
  unfolding bytes_placed buffer_after
  bytes_placed_lem n e = go (fits_into text (length buffer)) (leb→le (length text) (length buffer)) e
    where
      go : (b : Bool) → (T b → length text ≤ length buffer) → Some n ≡ cond b (Some (length text)) None
          → (n ≡ length text) × (length text ≤ length buffer) × (cond b (overlaid text buffer) buffer ≡ overlaid text buffer)
      go true h e = (cc, h tt, refl)
      go false h e = never (cc)

  pub none_placed : None ≡ bytes_placed text buffer → (length buffer < length text) × (buffer_after text buffer ≡ buffer)
  unfolding bytes_placed buffer_after
  none_placed e = go (fits_into text (length buffer)) (nleb→lt (length text) (length buffer)) e
    where
      go : (b : Bool) → (T (not b) → length buffer < length text) → None ≡ cond b (Some (length text)) None
          → (length buffer < length text) × (cond b (overlaid text buffer) buffer ≡ buffer)
      go true h e = never (cc)
      go false h e = (h tt, refl)
