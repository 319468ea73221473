-- The parts of a sheet, one after another, are its text, and each has a line of it; how long such a line is. Assumes nothing.
use Rattle.std.specs.Prelude.{◌≡◌, refl, ℕ, zero, suc, ◌+◌, ◌-◌, ◌^◌, ◌≤◌, ◌<◌, cond, List, [], ◌∷◌, ◌++◌, length, drop, Some, None}
use Rattle.std.proofs.Common.{sym, ap, ◌∙◌, arith, add-one, le_trans, lt_of_le_of_lt, lit≤, inl, inr, append_assoc, append-nil, le-leb, length-append}
use Rattle.std.proofs.lemmas.Bool.{lt-leb}
use Rattle.arithmetic.specs.Laws.Choices.{in_both}
use Rattle.arithmetic.specs.Laws.Numbers.{lt_or_le}
use Rattle.explicit_black.specs.Quote.{Reply}
use Rattle.explicit_black.specs.Demand.{compared}
use Rattle.explicit_black.specs.Laws.Discount.{discounted_facts}
use Rattle.xdr_sheet.specs.Tally.{empty_tally, tally_with, tally_count}
use Rattle.xdr_sheet.specs.Text.{line_bytes, sheet_line_bytes, line, closing, refused_sheet, fits_into, overlaid}
use Rattle.xdr_sheet.specs.Sheet.{Size, quotes, refused, size, reply_from, reply_at, SheetReply, replied, no_quote, sheet_reply}
use Rattle.xdr_sheet.specs.Sheet.{lines, tally, text_of, text}
use Rattle.xdr_sheet.specs.Laws.Sheet.{size_count, quote_there, quote_past}
use Rattle.xdr_sheet.specs.Laws.Lines.{line_short, closing_short, refused_short, line_fits, closing_fits, refused_fits}
use Rattle.xdr_sheet.specs.Laws.Tally.{count_with, tally_counts}
use Rattle.xdr_sheet.specs.Printing.{Progress, start, Step, quote_step, last_step_of, refused_step, step_at, step_of, step}
use Rattle.xdr_sheet.specs.Printing.{upcoming, rest_of, rest, left}
use Rattle.xdr_sheet.specs.Printing.{Part, no_part, ◌before◌, part_of, part, parts, Roomy, FilledBuffer, filled_with}
use Rattle.xdr_sheet.specs.Internal.Printing.{view_filled}
use Rattle.xdr_sheet.specs.declared.tally.Tally.{Tally}
use Rattle.xdr_sheet.specs.declared.printing.Filled.{Filled}

-- ---- the line after those of the quotes tallied, by what the sheet has
module _ (s : List ℕ) (t : Tally) where
  pub step_refused : (number count : ℕ) → refused number count ≡ size s → refused_step number ≡ step s t
  unfolding step
  step_refused number count e = rw (← e)

  pub step_last : (n : ℕ) → quotes n ≡ size s → no_quote ≡ sheet_reply s (tally_count t) → last_step_of t ≡ step s t
  unfolding step
  step_last n e q = rw (← e, ← q)

  pub step_quote : (n : ℕ) (r : Reply) → quotes n ≡ size s → replied r ≡ sheet_reply s (tally_count t) → quote_step t r ≡ step s t
  unfolding step
  step_quote n r e q = rw (← e, ← q)

-- ---- what comes after a tally: its line, and what comes after that
rest_quotes : (s : List ℕ) (t : Tally) (n : ℕ) → quotes n ≡ size s → (k : ℕ) → n - tally_count t ≡ k
    → upcoming s t k ≡ step s t ∷ rest s (step s t).next
unfolding rest upcoming
rest_quotes s t n e zero h = rw (← step_last s t n e (quote_past s n (tally_count t) e (omega arith)))
rest_quotes s t n e (suc m) h =
    let r : Reply = reply_at s (tally_count t) in
    let f : n - tally_count (tally_with t r) ≡ m = omega (arith, count_with t r) in
    rw (← step_quote s t n r e (quote_there s n (tally_count t) e (omega arith)), ← e, f)

pub rest_step : (s : List ℕ) (t : Tally) → rest s (Some t) ≡ step s t ∷ rest s (step s t).next
unfolding rest step
rest_step s t = go (size s) refl
  where
    go : (z : Size) → size s ≡ z → rest s (Some t) ≡ step s t ∷ rest s (step s t).next
    go (refused number count) e = rw e
    go (quotes n) e = ap (λ (z : Size). rest_of s t z) e ∙ rest_quotes s t n (sym e) (n - tally_count t) refl

step_short : (s : List ℕ) (t : Tally) → length (step s t).text ≤ line_bytes
unfolding step
step_short s t = go (size s)
  where
    at : (q : SheetReply) → length (step_at t q).text ≤ line_bytes
    at (replied r) = line_short (tally_count t + 1) r
    at no_quote = closing_short t

    go : (z : Size) → length (step_of s t z).text ≤ line_bytes
    go (quotes n) = at (sheet_reply s (tally_count t))
    go (refused number count) = refused_short number

-- ---- a line of a sheet after tallies that fit a u32
reply_count : (s : List ℕ) (i : ℕ) → (compared (reply_at s i)).count < 10 ^ 4
unfolding reply_from
reply_count s i = lt_of_le_of_lt (discounted_facts _ _ _ _ _ _).few (lit≤ tt)

pub step_fits : (s : List ℕ) (t : Tally) → t.finite < 2 ^ 32 → t.infinite < 2 ^ 32 → t.refusals < 2 ^ 32
    → length (step s t).text ≤ sheet_line_bytes
unfolding step
step_fits s t a b c = go (size s) refl
  where
    go : (z : Size) → size s ≡ z → length (step_of s t z).text ≤ sheet_line_bytes
    go (refused number count) e = refused_fits number
    go (quotes n) e = elim (lt_or_le (tally_count t) n) [
      | inl h ↦
          rw (← quote_there s n (tally_count t) (sym e) h)
          (line_fits (tally_count t + 1) (reply_at s (tally_count t)) (omega (arith, size_count s n (sym e))) (reply_count s (tally_count t)))
      | inr h ↦ rw (← quote_past s n (tally_count t) (sym e) h) (closing_fits t a b c)
    ]

-- ---- a part, a line at a time
pub part_over : (s : List ℕ) (room : ℕ) → part s None room ≡ no_part None
unfolding part
part_over s room = refl

module _ (s : List ℕ) (t : Tally) (room : ℕ) where
  abbrev here : List ℕ
  here = (step s t).text

  part_step : part s (Some t) room
      ≡ cond (fits_into here room) (here before part s (step s t).next (room - length here)) (no_part (Some t))
  unfolding part
  part_step = rw (rest_step s t)

  pub part_line : length here ≤ room → part s (Some t) room ≡ here before part s (step s t).next (room - length here)
  part_line h = part_step ∙ rw (le-leb (length here) room h)

  pub part_none : room < length here → part s (Some t) room ≡ no_part (Some t)
  part_none h = part_step ∙ rw (lt-leb (length here) room h)

-- ---- a part takes lines off what is still to come
abbrev joined : List Step → List ℕ
joined [] = []
joined (l ∷ ls) = l.text ++ joined ls

record Splits (s : List ℕ) (ls : List Step) (q : Part) : Type 0 where
  whole : q.text ++ joined (rest s q.next) ≡ joined ls
  fewer : left s q.next ≤ length ls

after_first : (s : List ℕ) (p : Progress) (l : Step) (ls : List Step) → rest s p ≡ l ∷ ls → rest s l.next ≡ ls
unfolding rest
after_first s (Some t) l ls e = cc (rest_step s t)
after_first s None l ls e = absurd (omega (arith, ap length e))

none_splits : (s : List ℕ) (p : Progress) (ls : List Step) → rest s p ≡ ls → Splits s ls (no_part p)
none_splits s p ls e = record { whole = ap joined e; fewer = omega (arith, ap length e) }

part_splits : (s : List ℕ) (room : ℕ) (p : Progress) (ls : List Step) → rest s p ≡ ls → Splits s ls (part_of room p ls)
unfolding part_of
part_splits s room p [] e = none_splits s p [] e
part_splits s room p (l ∷ ls) e =
    let q : Part = part_of (room - length l.text) l.next ls in
    let h : Splits s ls q = part_splits s (room - length l.text) l.next ls (after_first s p l ls e) in
    let more : Splits s (l ∷ ls) (l.text before q) = record {
      whole = append_assoc l.text q.text (joined (rest s q.next)) ∙ ap (λ (x : List ℕ). l.text ++ x) h.whole;
      fewer = omega (arith, h.fewer);
    } in
    in_both (Splits s (l ∷ ls)) (fits_into l.text room) more (none_splits s p (l ∷ ls) e)

-- with room for a line fewer lines are left
pub part_falls : (s : List ℕ) (t : Tally) (room : ℕ) → line_bytes ≤ room
    → left s (part s (Some t) room).next < left s (Some t)
unfolding part
part_falls s t room h =
    let l : Step = step s t in
    rw (part_line s t room (le_trans (step_short s t) h), rest_step s t)
    (omega (arith, (part_splits s (room - length l.text) l.next (rest s l.next) refl).fewer))

-- for the caller of `fill`: the bytes are within the buffer, and fewer lines are left
module _ (s : List ℕ) (p : Progress) (buffer : List ℕ) (r : Filled) (after : List ℕ)
    (h : view_filled r after ≡ filled_with buffer (part s p (length buffer))) where
  pub fill_within : length after ≡ length buffer → r.count ≤ length after
  fill_within e =
      let x : List ℕ = (part s p (length buffer)).text in
      let c : r.count ≡ length x = ap (λ (f : FilledBuffer). f.count) h in
      let b : length after ≡ length (overlaid x buffer) = ap (λ (f : FilledBuffer). length f.buffer) h in
      omega (arith, length-append x (drop (length x) buffer))

  pub fill_falls : {t : Tally} → p ≡ Some t → line_bytes ≤ length buffer → left s r.next < left s p
  fill_falls {t} e g = rw (ap (λ (f : FilledBuffer). f.next) h, e) (part_falls s t (length buffer) g)

-- ---- the parts for some buffers
parts_split : (s : List ℕ) (p : Progress) (rooms : List ℕ)
    → (parts s p rooms).text ++ joined (rest s (parts s p rooms).next) ≡ joined (rest s p)
unfolding parts
parts_split s p [] = refl
parts_split s p (room ∷ rooms) =
    let q : Part = part s p room in
    append_assoc q.text (parts s q.next rooms).text (joined (rest s (parts s q.next rooms).next))
    ∙ ap (λ (x : List ℕ). q.text ++ x) (parts_split s q.next rooms)
    ∙ (part_splits s room p (rest s p) refl).whole

parts_end : (s : List ℕ) (p : Progress) (rooms : List ℕ) → Roomy rooms → left s p ≤ length rooms → (parts s p rooms).next ≡ None
unfolding parts rest
parts_end s None [] h g = refl
parts_end s (Some t) [] h g = absurd (omega (arith, ap length (rest_step s t)))
parts_end s None (room ∷ rooms) h g = parts_end s None rooms h.1 (omega arith)
parts_end s (Some t) (room ∷ rooms) h g =
    parts_end s (part s (Some t) room).next rooms h.1 (omega (arith, part_falls s t room h.0))

-- ---- all that comes after the start
-- after the lines of i quotes, where k are left
from_quote_lem : (s : List ℕ) (n k i : ℕ) → i + k ≡ n → lines s i ++ joined (upcoming s (tally s i) k) ≡ lines s n ++ closing (tally s n)
unfolding upcoming lines tally
from_quote_lem s n zero i h =
    let j : i ≡ n = omega arith in
    rw (j, append-nil (closing (tally s n)))
from_quote_lem s n (suc k) i h =
    rw (tally_counts s i, add-one i)
    (sym (append_assoc (lines s i) (line (suc i) (reply_at s i)) (joined (upcoming s (tally s (suc i)) k)))
    ∙ from_quote_lem s n k (suc i) (omega arith))

start_whole : (s : List ℕ) → joined (rest s start) ≡ text s
unfolding rest text lines tally
start_whole s = go (size s)
  where
    go : (z : Size) → joined (rest_of s empty_tally z) ≡ text_of s z
    go (refused number count) = append-nil (refused_sheet number)
    go (quotes n) =
        let f : n - 0 ≡ n = omega arith in
        rw f (from_quote_lem s n n 0 (omega arith))

-- ---- THE WHOLE TEXT: parts in any buffers are the text once the last line is printed, and it is printed after as many buffers with room
-- for a line as there are lines
pub text_once_over : (s rooms : List ℕ) → (parts s start rooms).next ≡ None → (parts s start rooms).text ≡ text s
unfolding rest
text_once_over s rooms e =
    let whole : (parts s start rooms).text ++ joined (rest s None) ≡ joined (rest s start) = rw e at (parts_split s start rooms) in
    sym (append-nil (parts s start rooms).text) ∙ whole ∙ start_whole s

pub whole_text : (s rooms : List ℕ) → Roomy rooms → left s start ≤ length rooms
    → ((parts s start rooms).text ≡ text s) × ((parts s start rooms).next ≡ None)
whole_text s rooms h g = (text_once_over s rooms (parts_end s start rooms h g), parts_end s start rooms h g)
