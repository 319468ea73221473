-- `position` meets its contract: the definition is std's place of the first entry that passes, or the length. Assumes nothing.
use Rattle.std.proofs.Common.{◌≡◌, refl, ap, ℕ, ◌≤◌, not, cond, ltb, Some, None, unwrap_or, List, Float, arith, rules, tests}
use Rattle.std.specs.Float.Ieee.{lt}
use Rattle.std.specs.List.{position_or_len}
use Rattle.std.proofs.lemmas.Bool.Decides.{nat_tests}
use Rattle.std.proofs.lemmas.Iterator.{YieldsList-from_slice}
use Rattle.std.proofs.lemmas.Iterator.Search.{position_from_yields_List}
use Rattle.std.proofs.lemmas.List.Recursion.{is_position_or_len}
use Rattle.std.proofs.lemmas.List.Sums.{prefix_len-le-length}
use Rattle.bs_option_price.specs.BsOptionPrice.{first_above, position, thresholds}
use Rattle.bs_option_price.proofs.position.Goals as goal

-- the place, or how many there are
place_or : (p n : ℕ) → p ≤ n → unwrap_or (cond (ltb p n) (Some p) None) n ≡ p
place_or p n h = grind (arith, nat_tests)

by_place : (value : Float) (l : List Float) → first_above value l ≡ position_or_len (lt value) l
unfolding first_above
by_place value = is_position_or_len (first_above value) (lt value) refl (λ x xs. ap (cond (lt value x) 0) (omega arith))

pub returns : goal.returns
unfolding position thresholds
returns c =
    let place = position_or_len (lt c.args.value) thresholds in
    let by_call =
    position_from_yields_List (lt c.args.value) _ _ c.position.result c.position.ensures.ran (YieldsList-from_slice thresholds cc)
    (λ x b q k. search (rules, tests)) in
    rw (c.unwrap_or.ensures, by_call, by_place) (place_or place 12 (prefix_len-le-length (λ x. not (lt c.args.value x)) thresholds))
