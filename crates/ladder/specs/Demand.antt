-- The terms of demand 3 for the places of a ladder (REQUIREMENTS 2.3): what an entry is given, of any bits, the quote at a place, and what of that place is
-- compared.
-- Definitions only.
use Rattle.std.specs.Prelude.{ℕ, List, map, Float, length, get_or}
use Rattle.arithmetic.specs.Operations.{bits, plus_zero}
use Rattle.ladder.specs.Ladder.{Ladder, length_refusal, ladder}

-- what the entry is given: side; forward, time, strikes and prices by their bits; and the four slices
pub record Inputs : Type 0 where
  pub side : ℕ
  pub forward : ℕ
  pub time : ℕ
  pub strikes : List ℕ
  pub prices : List ℕ
  pub totals : List Float
  pub volatilities : List Float
  pub counts : List ℕ
  pub refusals : List ℕ

abbrev pub handed_back : Inputs → Ladder
handed_back c =
    ladder c.side (bits c.forward) (bits c.time) (map bits c.strikes) (map bits c.prices) c.totals c.volatilities c.counts
    c.refusals

-- the number of the refusal by its lengths, or 0
abbrev pub refusal_of : Inputs → ℕ
refusal_of c =
    length_refusal (length c.strikes) (length c.prices) (length c.totals) (length c.volatilities) (length c.counts)
    (length c.refusals)

-- the bits of a place's strike and price
abbrev pub strike_at : Inputs → ℕ → ℕ
strike_at c i = get_or c.strikes i 0

abbrev pub price_at : Inputs → ℕ → ℕ
price_at c i = get_or c.prices i 0

-- total volatility, refusal number and count, but not volatility, since the times may differ
pub record Compared : Type 0 where
  pub total : Float
  pub number : ℕ
  pub count : ℕ

abbrev pub compared_at : Ladder → ℕ → Compared
compared_at l i = record { total = get_or l.totals i plus_zero; number = get_or l.refusals i 0; count = get_or l.counts i 0 }
