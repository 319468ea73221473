-- The tallies of a sheet add up to the number of its quotes, and each is how many replies of its kind they have. Assumes nothing.
use Rattle.std.specs.Prelude.{◌≡◌, refl, ℕ, zero, suc, ◌+◌, List, Bool, true, false, cond, Float}
use Rattle.std.proofs.Common.{ap, ◌∙◌, arith, true≢false}
use Rattle.std.specs.Float.{nan, inf, fin, binary64}
use Rattle.std.specs.Float.Ieee.{is_nan}
use Rattle.std.specs.Float.Ieee.Bits.{of_bits-fits}
use Rattle.arithmetic.specs.Basic.{is_infinite}
use Rattle.arithmetic.specs.Laws.Choices.{in_both}
use Rattle.explicit_black.specs.Quote.{Reply, answer, refusal}
use Rattle.explicit_black.specs.Laws.Quote.{FiguresAreNumbers}
use Rattle.explicit_black.specs.Laws.Discount.{discounted_numbers}
use Rattle.xdr_sheet.specs.Xdr.{hyper, double}
use Rattle.xdr_sheet.specs.Tally.{tally_of, with_finite, with_infinite, tally_with, tally_count, is_finite_answer, is_infinite_answer, is_refusal, how_many}
use Rattle.xdr_sheet.specs.Sheet.{time_at, bytes_of, reply_from, reply_at, tally}
use Rattle.xdr_sheet.specs.declared.tally.Tally.{Tally}

pub count_with : (t : Tally) (r : Reply) → tally_count (tally_with t r) ≡ suc (tally_count t)
count_with t (answer total volatility count) =
    in_both (λ (u : Tally). tally_count u ≡ suc (tally_count t)) (is_infinite volatility) (omega arith) (omega arith)
count_with t (refusal number count) = omega arith

-- an answer, by its volatility
module _ (t : Tally) (total volatility : Float) (count : ℕ) where
  pub infinite_counted : true ≡ is_infinite volatility → with_infinite t ≡ tally_with t (answer total volatility count)
  infinite_counted e = ap (λ (b : Bool). cond b (with_infinite t) (with_finite t)) e

  pub finite_counted : false ≡ is_infinite volatility → with_finite t ≡ tally_with t (answer total volatility count)
  finite_counted e = ap (λ (b : Bool). cond b (with_infinite t) (with_finite t)) e

-- ---- THE SUM: of the first n quotes of a sheet
pub tally_counts : (s : List ℕ) (n : ℕ) → (tally s n).finite + (tally s n).infinite + (tally s n).refusals ≡ n
unfolding tally
tally_counts s zero = refl
tally_counts s (suc n) = count_with (tally s n) (reply_at s n) ∙ ap suc (tally_counts s n)

-- ---- EACH TALLY: how many of them have a reply of its kind
with_kind : (t : Tally) (r : Reply) → FiguresAreNumbers r
    → tally_with t r ≡ tally_of (cond (is_finite_answer r) (t.finite + 1) t.finite) (cond (is_infinite_answer r) (t.infinite + 1) t.infinite)
    (cond (is_refusal r) (t.refusals + 1) t.refusals)
unfolding is_nan
with_kind t (answer total nan count) h = absurd (true≢false h.2)
with_kind t (answer total (inf s) count) h = refl
with_kind t (answer total (fin s m e) count) h = refl
with_kind t (refusal number count) h = refl

reply_numbers : (s : List ℕ) (at : ℕ) → FiguresAreNumbers (reply_from s at)
unfolding reply_from double
reply_numbers s at = discounted_numbers _ _ _ _ _ _ (of_bits-fits binary64 (hyper s (at + time_at)))

pub tally_exact : (s : List ℕ) (n : ℕ)
    → tally s n ≡ tally_of (how_many (λ i. is_finite_answer (reply_at s i)) n) (how_many (λ i. is_infinite_answer (reply_at s i)) n)
    (how_many (λ i. is_refusal (reply_at s i)) n)
unfolding tally how_many
tally_exact s zero = refl
tally_exact s (suc n) = with_kind (tally s n) (reply_at s n) (reply_numbers s (bytes_of n)) ∙ rw (tally_exact s n)
