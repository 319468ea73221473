-- Ladders that the definitions compute, and two to which demand 3 applies. Assumes nothing.
use Rattle.std.specs.Prelude.{◌≡◌, refl, ℕ, pos, Float}
use Rattle.std.proofs.Common.{inl, inr, lit<}
use mathlib.Core.List.{List, [], ◌∷◌, zip_with}
use Rattle.std.specs.Float.{nan}
use Rattle.std.specs.Float.Ieee.{add, sub, mul, div, lt, le, eq, is_nan, of_bits}
use Rattle.arithmetic.specs.Operations.{bits, plus_zero, one, infinity}
use Rattle.arithmetic.specs.Basic.{max}
use Rattle.arithmetic.specs.Sqrt.{sqrt}
use Rattle.explicit_black.specs.Quote.{volatility_over, first_refusal, from_time_value, from_price, from_quote, implied_black_volatility_input}
use Rattle.explicit_black.specs.Laws.Demand.{call_price, call_forward, call_strike, put_price, put_forward, put_strike, time_one, comparable_call, comparable_put}
use Rattle.explicit_black.proofs.Demand.{four_times}
use Rattle.ladder.specs.Ladder.{solved, refused, replies, trues, root_places, takes_root, length_refusal, solved_ladder, ladder}
use Rattle.ladder.specs.Demand.{Inputs, handed_back, compared_at}
use Rattle.ladder.specs.Laws.Ladder.{other_side_places}

abbrev minus_zero : Float
minus_zero = bits 0x8000_0000_0000_0000

abbrev five : Float
five = bits 0x4014_0000_0000_0000

abbrev minus_one : Float
minus_one = bits 0xBFF0_0000_0000_0000

abbrev twenty : Float
twenty = bits 0x4034_0000_0000_0000

abbrev hundred : Float
hundred = bits 0x4059_0000_0000_0000

abbrev hundred_twenty : Float
hundred_twenty = bits 0x405E_0000_0000_0000

-- what stood in the slices before
abbrev old : List Float
old = one ∷ nan ∷ infinity ∷ minus_one ∷ []

abbrev old_numbers : List ℕ
old_numbers = 7 ∷ 7 ∷ 7 ∷ 7 ∷ []

-- Calls at forward 100 and time 1. A price of 0 has the volatility 0, and takes its strike's root; a price at its bound has an infinite one and takes none;
-- a strike that is no number, and a price above its bound, are refused with 2 and 6.
pub four_calls : ladder 0 hundred one (hundred_twenty ∷ hundred_twenty ∷ nan ∷ hundred ∷ []) (plus_zero ∷ hundred ∷ one ∷ hundred_twenty ∷ [])
    old old old_numbers old_numbers
    ≡ record {
      result = solved 1;
      totals = plus_zero ∷ infinity ∷ plus_zero ∷ plus_zero ∷ [];
      volatilities = plus_zero ∷ infinity ∷ plus_zero ∷ plus_zero ∷ [];
      counts = 0 ∷ 0 ∷ 0 ∷ 0 ∷ [];
      refusals = 0 ∷ 0 ∷ 2 ∷ 6 ∷ [];
    }
unfolding ladder length_refusal solved_ladder replies root_places takes_root trues zip_with implied_black_volatility_input from_quote first_refusal from_price
    from_time_value volatility_over sqrt max add sub mul div lt le eq is_nan of_bits
four_calls = refl

-- Puts there. A price below the intrinsic value takes the root and is refused with 7 after it; a price of minus zero has the volatility 0. A strike of minus
-- zero is refused with 3, and a price at its bound, the strike, has an infinite volatility: they take none.
pub four_puts : ladder 1 hundred one (hundred_twenty ∷ hundred ∷ minus_zero ∷ hundred_twenty ∷ []) (five ∷ minus_zero ∷ one ∷ hundred_twenty ∷ [])
    old old old_numbers old_numbers
    ≡ record {
      result = solved 2;
      totals = plus_zero ∷ plus_zero ∷ plus_zero ∷ infinity ∷ [];
      volatilities = plus_zero ∷ plus_zero ∷ plus_zero ∷ infinity ∷ [];
      counts = 0 ∷ 0 ∷ 0 ∷ 0 ∷ [];
      refusals = 7 ∷ 0 ∷ 3 ∷ 0 ∷ [];
    }
unfolding ladder length_refusal solved_ladder replies root_places takes_root trues zip_with implied_black_volatility_input from_quote first_refusal from_price
    from_time_value volatility_over sqrt max add sub mul div lt le eq is_nan of_bits
four_puts = refl

-- at time zero, of either sign, no root is taken: a price that is the intrinsic value, and one that is not
pub expired : ladder 0 hundred_twenty plus_zero (hundred ∷ hundred ∷ []) (twenty ∷ one ∷ [])
    (one ∷ one ∷ []) (one ∷ one ∷ []) (7 ∷ 7 ∷ []) (7 ∷ 7 ∷ [])
    ≡ record {
      result = solved 0;
      totals = plus_zero ∷ plus_zero ∷ [];
      volatilities = plus_zero ∷ plus_zero ∷ [];
      counts = 0 ∷ 0 ∷ [];
      refusals = 0 ∷ 5 ∷ [];
    }
unfolding ladder length_refusal solved_ladder replies root_places takes_root trues zip_with implied_black_volatility_input from_quote first_refusal from_price
    from_time_value volatility_over sqrt max add sub mul div lt le eq is_nan of_bits
expired = refl

pub expired_minus : ladder 0 hundred_twenty minus_zero (hundred ∷ []) (twenty ∷ []) (one ∷ []) (one ∷ []) (7 ∷ []) (7 ∷ [])
    ≡ record { result = solved 0; totals = plus_zero ∷ []; volatilities = plus_zero ∷ []; counts = 0 ∷ []; refusals = 0 ∷ [] }
unfolding ladder length_refusal solved_ladder replies root_places takes_root trues zip_with implied_black_volatility_input from_quote first_refusal from_price
    from_time_value volatility_over sqrt max add sub mul div lt le eq is_nan of_bits
expired_minus = refl

-- a ladder of no places
pub empty : ladder 2 nan nan [] [] [] [] [] [] ≡ record { result = solved 0; totals = []; volatilities = []; counts = []; refusals = [] }
unfolding ladder length_refusal solved_ladder replies root_places trues zip_with
empty = refl

-- one price is missing: the slices are as before
pub missing : ladder 0 hundred one (hundred ∷ hundred ∷ []) (one ∷ []) (one ∷ one ∷ []) (nan ∷ one ∷ []) (7 ∷ 8 ∷ []) (9 ∷ 10 ∷ [])
    ≡ record { result = refused 12 0; totals = one ∷ one ∷ []; volatilities = nan ∷ one ∷ []; counts = 7 ∷ 8 ∷ []; refusals = 9 ∷ 10 ∷ [] }
unfolding ladder length_refusal
missing = refl

-- by lengths alone, in the order strikes, prices, totals, volatilities, counts, refusals: 500 are accepted; 501 are not; unequal ones come first
pub record Tests : Type 0 where
  pub five_hundred : length_refusal 500 500 500 500 500 500 ≡ 0
  pub one_more : length_refusal 501 501 501 501 501 501 ≡ 13
  pub unequal_first : length_refusal 501 501 501 501 501 500 ≡ 12
  pub no_strikes : length_refusal 0 0 0 0 1 0 ≡ 12

pub tests : Tests
unfolding length_refusal
tests = record { five_hundred = refl; one_more = refl; unequal_first = refl; no_strikes = refl }

-- ---- the call and the put of REQUIREMENTS 12.2, at the first place of one ladder and the second of another
abbrev calls : Inputs
calls = record {
  side = 0;
  forward = call_forward;
  time = time_one;
  strikes = call_strike ∷ [];
  prices = call_price ∷ [];
  totals = one ∷ [];
  volatilities = one ∷ [];
  counts = 0 ∷ [];
  refusals = 0 ∷ [];
}

abbrev puts : Inputs
puts = record {
  side = 1;
  forward = put_forward;
  time = time_one;
  strikes = call_strike ∷ put_strike ∷ [];
  prices = call_price ∷ put_price ∷ [];
  totals = one ∷ one ∷ [];
  volatilities = one ∷ one ∷ [];
  counts = 0 ∷ 0 ∷ [];
  refusals = 0 ∷ 0 ∷ [];
}

pub ladders_agree : compared_at (handed_back puts) 1 ≡ compared_at (handed_back calls) 0
unfolding length_refusal of_bits lt
ladders_agree =
    other_side_places (pos 1) calls puts refl refl 0 1 (lit< tt) (lit< tt) comparable_call comparable_put (inr (tt, tt, tt, tt))
    (four_times (bits call_price) (bits put_price) tt tt refl refl) (inl (refl, refl))
    (four_times (bits call_strike) (bits put_forward) tt tt refl refl)
    (four_times (bits call_forward) (bits put_strike) tt tt refl refl)
