-- For the inner functions of src/: which outcome, in the types of the definitions, each case of what they hand back stands for, and what they
-- promise of the allowance. No entry's contract cites these. Definitions only.
use Rattle.std.specs.Prelude.{◌≡◌, ℕ, ◌≤◌, Float, Ok, Err, Result}
use Rattle.std.specs.Prelude.{Option as Decided, Some, None}
use Rattle.explicit_black.specs.declared.quote.Unsolved.{Unsolved}
use Rattle.explicit_black.specs.declared.quote.Unsolved.TheVariants.{Refused, Spent}
use Rattle.explicit_black.specs.declared.refusal.Refusal.{Refusal}
use Rattle.explicit_black.specs.Refusal.{number}
use Rattle.inverse_gaussian.specs.Counted.{Option, some, none, Counted, Metered, have, spent, limited}
use Rattle.explicit_black.specs.Quote.{Outcome, total, refused, Reply, reply_over}

-- an outcome
abbrev pub view_outcome : Result Float Refusal → Outcome
view_outcome (Ok v) = total v
view_outcome (Err r) = refused (number r)

-- the outcome with the n evaluations that are left afterwards, or an allowance that was spent
abbrev pub view_solved : Result Float Unsolved → ℕ → Metered Outcome
view_solved (Ok v) n = have (total v) n
view_solved (Err (Refused r)) n = have (refused (number r)) n
view_solved (Err Spent) n = spent

-- what tests 5 and 6 decide, if anything
abbrev pub view_tested : Result (Decided Float) Refusal → Option Outcome
view_tested (Ok (Some v)) = some (total v)
view_tested (Ok None) = none
view_tested (Err r) = some (refused (number r))

-- the allowance was not spent, and no more than n evaluations are left
abbrev pub LeftWithin : ℕ → Metered Outcome → Type 0
LeftWithin n (have r left) = left ≤ n
LeftWithin n spent = ⊥

-- where m is what a caller who is allowed n gets of an outcome c, r is the reply of c at that time, with that root of it
abbrev pub RepliesTo : ℕ → Float → Float → Metered Outcome → Reply → Type 0
RepliesTo n time root m r = (c : Counted Outcome) → m ≡ limited n c → r ≡ reply_over time root c
