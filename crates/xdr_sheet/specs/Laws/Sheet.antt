-- A sheet's size by the tests of its length and count, a quote's reply by its number, and how much of an input matters. Assumes nothing.
use Rattle.std.specs.Prelude.{◌≡◌, refl, ℕ, ◌+◌, ◌≤◌, ◌<◌, Bool, true, false, not, cond, List, T, leb, ltb, eqb, length, take, Float}
use Rattle.std.proofs.Common.{sym, ap, ◌∙◌, arith, leb→le, ltb→lt, nltb→le, take_all, length-take-le}
use borrow.Author.Tests.{lt-ltb, le-ltb, eq-eqb, ne_eqb, ltb-true, ltb-false, eqb-true}
use Rattle.std.proofs.Math.Nat.{lt_of_lt_of_le}
use Rattle.std.proofs.Math.Dec.{nleb→lt}
use Rattle.arithmetic.specs.Laws.Choices.{by_test, never}
use Rattle.explicit_black.specs.Quote.{Reply, refusal}
use Rattle.xdr_sheet.specs.Xdr.{unsigned, double}
use Rattle.xdr_sheet.specs.Sheet.{count_bytes, quote_bytes, max_quotes, price_at, forward_at, strike_at, time_at, bytes_of, input_bytes}
use Rattle.xdr_sheet.specs.Sheet.{Size, quotes, refused, no_sheet, size, SheetReply, sheet_reply, no_quote, replied, reply_at, text}

-- ---- the size by the tests: too short for a count, too many quotes, as long as their count says
abbrev picked : Bool → Bool → Bool → ℕ → Size
picked short many whole n = cond short no_sheet (cond many no_sheet (cond whole (quotes n) no_sheet))

module _ (s : List ℕ) (n : ℕ) (e : n ≡ unsigned s 0) where
  size_by : size s ≡ picked (ltb (length s) count_bytes) (ltb max_quotes n) (eqb (length s) (bytes_of n)) n
  unfolding size
  size_by = rw e

  pub size_many : count_bytes ≤ length s → max_quotes < n → no_sheet ≡ size s
  size_many a b = sym (size_by ∙ rw (le-ltb (length s) count_bytes a, lt-ltb max_quotes n b))

  pub size_whole : count_bytes ≤ length s → n ≤ max_quotes → length s ≡ bytes_of n → quotes n ≡ size s
  size_whole a b d = sym (size_by ∙ rw (le-ltb (length s) count_bytes a, le-ltb max_quotes n b, eq-eqb (length s) (bytes_of n) d))

  pub size_other : count_bytes ≤ length s → n ≤ max_quotes → (length s ≡ bytes_of n → ⊥) → no_sheet ≡ size s
  size_other a b d = sym (size_by ∙ rw (le-ltb (length s) count_bytes a, le-ltb max_quotes n b, ne_eqb (length s) (bytes_of n) d))

pub size_short : (s : List ℕ) → length s < count_bytes → no_sheet ≡ size s
unfolding size
size_short s h = rw (lt-ltb (length s) count_bytes h)

-- ---- a sheet of n quotes: how many there may be, and how long it is
sizes : (s : List ℕ) (n : ℕ) → quotes n ≡ size s → (n ≤ max_quotes) × (length s ≡ bytes_of n)
sizes s n e =
    by_test P (ltb (length s) count_bytes) (λ _ p. never (cc))
    (λ _. by_test P (ltb max_quotes u) (λ _ p. never (cc))
    (λ few. by_test P (eqb (length s) (bytes_of u)) (whole few) (λ _ p. never (cc)))) (e ∙ size_by s u refl)
  where
    u : ℕ
    u = unsigned s 0

    P : Size → Type 0
    P z = quotes n ≡ z → (n ≤ max_quotes) × (length s ≡ bytes_of n)

    whole : ltb max_quotes u ≡ false → eqb (length s) (bytes_of u) ≡ true → P (quotes u)
    whole few same p =
        let i : n ≡ u = cc in
        rw i (ltb-false max_quotes u few, eqb-true (length s) (bytes_of u) same)

pub size_count : (s : List ℕ) (n : ℕ) → quotes n ≡ size s → n ≤ max_quotes
size_count s n e = (sizes s n e).0

size_length : (s : List ℕ) (n : ℕ) → quotes n ≡ size s → length s ≡ bytes_of n
size_length s n e = (sizes s n e).1

-- ---- a quote of a sheet

-- what is asked of its fields as they were read is asked of them where they stand
pub of_fields : {R : Type 0} (ask : ℕ → Float → Float → Float → Float → R) (s : List ℕ) (at side : ℕ) (p f k t : Float) {r : R}
    → side ≡ unsigned s at → p ≡ double s (at + price_at) → f ≡ double s (at + forward_at)
    → k ≡ double s (at + strike_at) → t ≡ double s (at + time_at) → r ≡ ask side p f k t
    → r ≡ ask (unsigned s at) (double s (at + price_at)) (double s (at + forward_at)) (double s (at + strike_at)) (double s (at + time_at))
of_fields ask s at side p f k t a b c d e h = h ∙ rw (a, b, c, d, e)

pub quote_none : (s : List ℕ) (i number count : ℕ) → refused number count ≡ size s → replied (refusal number count) ≡ sheet_reply s i
unfolding sheet_reply
quote_none s i number count e = rw (← e)

module _ (s : List ℕ) (n i : ℕ) (e : quotes n ≡ size s) where
  pub quote_within : i < n → bytes_of i + quote_bytes ≤ length s
  quote_within h = omega (arith, size_length s n e)

  pub quote_there : i < n → replied (reply_at s i) ≡ sheet_reply s i
  unfolding sheet_reply
  quote_there h = rw (← e, lt-ltb i n h)

  pub quote_past : n ≤ i → no_quote ≡ sheet_reply s i
  unfolding sheet_reply
  quote_past h = rw (← e, le-ltb i n h)

  pub quote_below : (r : Reply) → replied r ≡ sheet_reply s i → i < max_quotes
  unfolding sheet_reply
  quote_below r q =
      by_test (λ (z : SheetReply). replied r ≡ z → i < max_quotes) (ltb i n)
      (λ below p. lt_of_lt_of_le (ltb-true i n below) (size_count s n e)) (λ _ p. never (cc)) (rw (← e) at q)

-- ---- an input longer than any sheet is refused: no byte after `input_bytes` changes the text
long_refused : (s : List ℕ) → input_bytes ≤ length s → no_sheet ≡ size s
long_refused s h = go (ltb max_quotes (unsigned s 0)) (ltb→lt max_quotes (unsigned s 0)) (nltb→le max_quotes (unsigned s 0))
  where
    go : (b : Bool) → (T b → max_quotes < unsigned s 0) → (T (not b) → unsigned s 0 ≤ max_quotes) → no_sheet ≡ size s
    go true f g = size_many s (unsigned s 0) refl (omega arith) (f tt)
    go false f g =
        let few : unsigned s 0 ≤ max_quotes = g tt in
        size_other s (unsigned s 0) refl (omega arith) few (λ e. omega arith)

pub text_of_input : (s : List ℕ) → text (take input_bytes s) ≡ text s
unfolding text
text_of_input s = go (leb (length s) input_bytes) (leb→le (length s) input_bytes) (nleb→lt (length s) input_bytes)
  where
    go : (b : Bool) → (T b → length s ≤ input_bytes) → (T (not b) → input_bytes < length s) → text (take input_bytes s) ≡ text s
    go true f g = ap text (take_all input_bytes s (f tt))
    go false f g =
        let long : input_bytes < length s = g tt in
        rw (← long_refused s (omega arith), ← long_refused (take input_bytes s) (omega (arith, length-take-le input_bytes s (omega arith))))
