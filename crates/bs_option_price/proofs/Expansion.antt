-- The asymptotic expansion: a row of the table is a polynomial of the source, and the tail is summed step by step. Assumes nothing.
use Rattle.std.proofs.Common.{◌≡◌, sym, ap, ℕ, ◌+◌, ◌-◌, Float, add-one}
use Rattle.special_function.specs.Polynomial.{nested}
use Rattle.bs_option_price.specs.Table.{row, a}
use Rattle.bs_option_price.specs.BsOptionPrice.{term, omega_over_q}

pub row_at : (n k : ℕ) (e : Float) → k ≡ n → nested e (row n) ≡ a k e
unfolding a
row_at n k e h = ap (λ (m : ℕ). nested e (row m)) (sym h)

pub next_term : (idx n : ℕ) (q e : Float) → omega_over_q idx q e (n + 1) ≡ term idx n (omega_over_q idx q e n) q (a (16 - n) e)
unfolding omega_over_q
next_term idx n q e = rw add-one
