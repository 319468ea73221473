-- The rule of the coefficients holds at each of the table's 153 entries, by one test that is computed; and each entry is the binary64 nearest to the
-- exact coefficient. Assumes nothing.
use Rattle.std.specs.Prelude.{◌≡◌, refl, Bool, true, ◌&&◌, ℕ, zero, suc, ◌<◌, ◌≤◌, T, eqb, length}
use Rattle.std.proofs.Common.{le_of_suc-le-suc, not-suc-le-zero, arith, eqb→eq}
use Rattle.std.specs.Float.Ieee.Fits.{and_l, and_r}
use Rattle.bs_option_price.specs.Table.{patterns, follows_rule, entry, nearest_entry}

pub table_has_153_entries : length patterns ≡ 153
unfolding patterns
table_has_153_entries = refl

-- ---- a test at every entry

-- the test passes at each number below n
unfoldable pub all_below : ℕ → (ℕ → Bool) → Bool
all_below zero test = true
all_below (suc n) test = test 0 && all_below n (λ i. test (suc i))

at_each : (n : ℕ) (test : ℕ → Bool) → T (all_below n test) → (i : ℕ) → i < n → T (test i)
unfolding all_below
at_each zero test t i h = absurd (not-suc-le-zero h)
at_each (suc n) test t zero h = and_l (test 0) (all_below n (λ j. test (suc j))) t
at_each (suc n) test t (suc i) h =
    at_each n (λ j. test (suc j)) (and_r (test 0) (all_below n (λ j. test (suc j))) t) i (le_of_suc-le-suc h)

-- the test passes at the coefficient of e ^ j in ak for each k below 17 and each j up to k
unfoldable pub all_entries : (ℕ → ℕ → Bool) → Bool
unfolding all_below
all_entries test = all_below 17 (λ k. all_below (suc k) (test k))

at_entry : (test : ℕ → ℕ → Bool) → T (all_entries test) → (k j : ℕ) → k < 17 → j ≤ k → T (test k j)
unfolding all_entries
at_entry test t k j k<17 j≤k =
    at_each (suc k) (test k) (at_each 17 (λ i. all_below (suc i) (test i)) t k k<17) j (omega arith)

-- ---- the rule

-- the coefficient of e ^ j in ak follows the rule
pub coefficient_follows_rule : (k j : ℕ) → k < 17 → j ≤ k → T (follows_rule k j)
unfolding all_entries follows_rule
coefficient_follows_rule = at_entry follows_rule all_follow_rule
  where
    all_follow_rule : T (all_entries follows_rule)
    all_follow_rule = tt

-- ---- more than REQUIREMENTS 9 asks: each entry is the binary64 nearest to the exact coefficient

abbrev pub is_nearest : ℕ → ℕ → Bool
is_nearest k j = eqb (entry k j) (nearest_entry k j)

pub entry_is_nearest : (k j : ℕ) → k < 17 → j ≤ k → entry k j ≡ nearest_entry k j
unfolding all_entries entry nearest_entry
entry_is_nearest k j k<17 j≤k = eqb→eq (entry k j) (nearest_entry k j) (at_entry is_nearest all_nearest k j k<17 j≤k)
  where
    all_nearest : T (all_entries is_nearest)
    all_nearest = tt
