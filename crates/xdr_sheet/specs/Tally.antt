-- A tally of a sheet's first quotes: how many finite answers, infinite answers and refusals they have (REQUIREMENTS 14.5). Definitions only.
use Rattle.std.specs.Prelude.{ℕ, zero, suc, ◌+◌, Bool, true, false, cond}
use Rattle.arithmetic.specs.Basic.{is_finite, is_infinite}
use Rattle.explicit_black.specs.Quote.{Reply, answer, refusal}
use Rattle.xdr_sheet.specs.declared.tally.Tally.{Tally}

abbrev pub tally_of : ℕ → ℕ → ℕ → Tally
tally_of finite infinite refusals = record { finite = finite; infinite = infinite; refusals = refusals }

abbrev pub empty_tally : Tally
empty_tally = tally_of 0 0 0

-- the tally with one finite answer more; with one infinite answer more; with one refusal more
abbrev pub with_finite : Tally → Tally
with_finite t = tally_of (t.finite + 1) t.infinite t.refusals

abbrev pub with_infinite : Tally → Tally
with_infinite t = tally_of t.finite (t.infinite + 1) t.refusals

abbrev pub with_refusal : Tally → Tally
with_refusal t = tally_of t.finite t.infinite (t.refusals + 1)

-- with one quote more, by its reply: an answer is infinite where its volatility is, whatever its total
abbrev pub tally_with : Tally → Reply → Tally
tally_with t (answer total volatility count) = cond (is_infinite volatility) (with_infinite t) (with_finite t)
tally_with t (refusal number count) = with_refusal t

-- how many quotes are tallied
abbrev pub tally_count : Tally → ℕ
tally_count t = t.finite + t.infinite + t.refusals

-- ---- the kinds of a reply, and how many of the numbers below n have a property: by these a sheet's tally is exact (Laws/Tally.antt)
abbrev pub is_finite_answer : Reply → Bool
is_finite_answer (answer total volatility count) = is_finite volatility
is_finite_answer (refusal number count) = false

abbrev pub is_infinite_answer : Reply → Bool
is_infinite_answer (answer total volatility count) = is_infinite volatility
is_infinite_answer (refusal number count) = false

abbrev pub is_refusal : Reply → Bool
is_refusal (answer total volatility count) = false
is_refusal (refusal number count) = true

unfoldable pub how_many : (ℕ → Bool) → ℕ → ℕ
how_many has zero = 0
how_many has (suc n) = cond (has n) (how_many has n + 1) (how_many has n)
