-- What a caller who allowed n evaluations learns of the count from what is left of them. Assumes nothing.
use mathlib.Core.Path.{◌≡◌, refl, sym, ◌∙◌, subst}
use Prim.Native.Nat.{ℕ, ◌-◌, ◌≤◌}
use native.Mathlib.Omega.{arith}
use lib.Ieee.{Float, of_bits}
use Rattle.arithmetic.specs.Operations.{one}
use Rattle.arithmetic.specs.Sqrt.{sqrt}
use Rattle.inverse_gaussian.specs.Counted.{Option, Counted, Metered, have, spent, mapped, limited}
use Rattle.inverse_gaussian.specs.Laws.Counted.{limited_now, limited_enough, taken_off, limited_mapped}
use Rattle.explicit_black.specs.Quote.{Outcome, total, refused, answer, refusal, volatility_over, reply_over, searched, total_at}
use Rattle.explicit_black.specs.Internal.Quote.{LeftWithin}

-- the outcome of a search, from what the search itself gives where n are allowed
pub limited_searched : (n : ℕ) (c : Counted (Option Float)) → limited n (searched c) ≡ mapped total_at (limited n c)
limited_searched n c = limited_mapped total_at n c

pub searched_have : (n m : ℕ) (r : Option Float) (o : Outcome) (c : Counted (Option Float)) → have r m ≡ limited n c → o ≡ total_at r
    → have o m ≡ limited n (searched c)
searched_have n m r o c e h = rw (limited_searched n c, ← e, h)

pub searched_spent : (n : ℕ) (c : Counted (Option Float)) → spent ≡ limited n c → spent ≡ limited n (searched c)
searched_spent n c e = rw (limited_searched n c, ← e)

-- what the check tries where a quote is solved
pub ruleset solves = (limited_now, searched_spent)

-- where as many are allowed as are made, they are not spent, and no more are left than were allowed
pub enough_within : (n : ℕ) (m : Metered Outcome) (c : Counted Outcome) → m ≡ limited n c → c.count ≤ n → LeftWithin n m
enough_within n m c e h = subst (LeftWithin n) (sym (e ∙ limited_enough n c h)) (omega arith)

-- the reply to a quote: an answer, or a refusal
pub answers : (n left : ℕ) (time root v : Float) (c : Counted Outcome) {w : Float}
    → have (total v) left ≡ limited n c → w ≡ volatility_over time root v → answer v w (n - left) ≡ reply_over time root c
answers n left time root v c e f =
    let q = taken_off n left (total v) c e in
    let d : n - left ≡ c.count = omega arith in
    rw (q.0, f, d)

pub refuses : (n left : ℕ) (time root : Float) (number : ℕ) (c : Counted Outcome)
    → have (refused number) left ≡ limited n c → refusal number (n - left) ≡ reply_over time root c
refuses n left time root number c e =
    let q = taken_off n left (refused number) c e in
    let d : n - left ≡ c.count = omega arith in
    rw (q.0, d)

-- the root of the time of the normalised entry, which is 1
pub root_one : one ≡ sqrt one
unfolding sqrt of_bits
root_one = refl
