-- A ladder (REQUIREMENTS 14.3): quotes that share side, forward and time, and what stands in the four lent slices after the call. Definitions only.
use Rattle.std.specs.Prelude.{ℕ, suc, ◌+◌, Bool, true, false, not, ◌&&◌, cond, eqb, ltb, Float, length}
use mathlib.Core.List.{List, [], ◌∷◌, map, zip_with}
use Rattle.std.specs.Float.Ieee.{lt}
use Rattle.arithmetic.specs.Operations.{plus_zero}
use Rattle.explicit_black.specs.Quote.{Reply, answer, refusal, first_refusal, price_bound, implied_black_volatility_input}

-- ---- a place

-- what is written there, from the reply to its quote solved by itself: the figures of a refusal are zeros, and the number of an answer is 0
abbrev pub total_of : Reply → Float
total_of (answer total volatility count) = total
total_of (refusal number count) = plus_zero

abbrev pub volatility_of : Reply → Float
volatility_of (answer total volatility count) = volatility
volatility_of (refusal number count) = plus_zero

abbrev pub count_of : Reply → ℕ
count_of (answer total volatility count) = count
count_of (refusal number count) = count

abbrev pub number_of : Reply → ℕ
number_of (answer total volatility count) = 0
number_of (refusal number count) = number

-- the quotes for which the strike's root is taken: they pass tests 1 to 6, at a time above 0 with a price below the bound. There test 5, which is of
-- time zero, and test 6, which is of prices above the bound, say nothing
unfoldable pub takes_root : ℕ → Float → Float → Float → Float → Bool
takes_root side price forward strike time =
    eqb (first_refusal side price forward strike time) 0 && lt plus_zero time && lt price (price_bound side forward strike)

-- the count of strike roots after a place
abbrev pub roots_after : Bool → ℕ → ℕ
roots_after taken count = cond taken (count + 1) count

-- ---- all places

-- the replies to the quotes, each by itself
unfoldable pub replies : ℕ → Float → Float → List Float → List Float → List Reply
replies side forward time strikes prices = zip_with (λ strike price. implied_black_volatility_input side price forward strike time) strikes prices

-- how many of them are true
unfoldable pub trues : List Bool → ℕ
trues [] = 0
trues (false ∷ bs) = trues bs
trues (true ∷ bs) = suc (trues bs)

-- which places take their strike's root, and how many
unfoldable pub root_places : ℕ → Float → Float → List Float → List Float → List Bool
root_places side forward time strikes prices = zip_with (λ strike price. takes_root side price forward strike time) strikes prices

abbrev pub strike_roots : ℕ → Float → Float → List Float → List Float → ℕ
strike_roots side forward time strikes prices = trues (root_places side forward time strikes prices)

-- ---- the ladder

-- how many strike roots were taken; or the number and count of the ladder's refusal
pub data LadderReply : Type 0 where
  solved : ℕ → LadderReply
  refused : ℕ → ℕ → LadderReply

-- what is handed back, and the four slices after the call
pub record Ladder : Type 0 where
  pub result : LadderReply
  pub totals : List Float
  pub volatilities : List Float
  pub counts : List ℕ
  pub refusals : List ℕ

-- whether the lengths of all six slices are equal
abbrev pub are_equal : ℕ → ℕ → ℕ → ℕ → ℕ → ℕ → Bool
are_equal strikes prices totals volatilities counts refusals =
    eqb prices strikes && eqb totals strikes && eqb volatilities strikes && eqb counts strikes && eqb refusals strikes

-- 12 where they are not; then 13 where there are over 500 strikes; 0 where neither is so
unfoldable pub length_refusal : ℕ → ℕ → ℕ → ℕ → ℕ → ℕ → ℕ
length_refusal strikes prices totals volatilities counts refusals =
    cond (not (are_equal strikes prices totals volatilities counts refusals)) 12
    (cond (ltb 500 strikes) 13
    0)

unfoldable pub solved_ladder : ℕ → Float → Float → List Float → List Float → Ladder
solved_ladder side forward time strikes prices =
    let all = replies side forward time strikes prices in
    record {
      result = solved (strike_roots side forward time strikes prices);
      totals = map total_of all;
      volatilities = map volatility_of all;
      counts = map count_of all;
      refusals = map number_of all;
    }

unfoldable pub ladder : ℕ → Float → Float → List Float → List Float → List Float → List Float → List ℕ → List ℕ → Ladder
ladder side forward time strikes prices totals volatilities counts refusals =
    let number = length_refusal (length strikes) (length prices) (length totals) (length volatilities) (length counts) (length refusals) in
    cond (eqb number 0) (solved_ladder side forward time strikes prices)
    (record { result = refused number 0; totals = totals; volatilities = volatilities; counts = counts; refusals = refusals })
