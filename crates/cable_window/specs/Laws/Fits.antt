-- A window's reply fits its place: a refusal's number 8 bits, a count 32, and an answer's figures are values of binary64. Assumes nothing.
use Rattle.std.specs.Prelude.{ℕ, ◌<◌, ◌^◌, refl, List}
use Rattle.std.proofs.Common.{arith}
use Rattle.std.specs.Float.{binary64}
use Rattle.std.specs.Float.Ieee.Bits.{of_bits-fits}
use Rattle.explicit_black.specs.Quote.{Reply, answer, refusal}
use Rattle.explicit_black.specs.Demand.{compared}
use Rattle.explicit_black.specs.Laws.Quote.{Facts, FiguresAreNumbers, input_facts, input_numbers}
use Rattle.xdr_sheet.specs.Xdr.{hyper, double}
use Rattle.cable_window.specs.Window.{time_at, window_reply}

abbrev pub ReplyFits : Reply → Type 0
ReplyFits (answer total volatility count) = count < 2 ^ 32
ReplyFits (refusal number count) = (number < 2 ^ 8) × (count < 2 ^ 32)

fits : (r : Reply) → Facts (compared r) → ReplyFits r
fits (answer total volatility count) h = omega (arith, h.few)
fits (refusal number count) h = (omega (arith, (h.numbered number refl).1), omega (arith, h.few))

pub reply_fits : (s : List ℕ) → ReplyFits (window_reply s)
unfolding window_reply
reply_fits s = fits (window_reply s) (input_facts _ _ _ _ _)

pub reply_numbers : (s : List ℕ) → FiguresAreNumbers (window_reply s)
unfolding window_reply double
reply_numbers s = input_numbers _ _ _ _ _ (of_bits-fits binary64 (hyper s time_at))
