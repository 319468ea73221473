-- `round` at 2 ^ k times a fraction is 2 ^ k times `round` at the fraction, where the fraction is in the normal range or a whole number of
-- the format's smallest values, and the larger result is finite. In the second case no digit is lost below the normal range, and from there
-- on both round alike. Assumes nothing.
use Rattle.std.specs.Prelude.{◌≡◌, ℕ, suc, ◌+◌, ◌-◌, ◌*◌, ◌/◌, ◌^◌, ◌<◌, ◌≤◌, Bool, true, false, cond, T, ◌⊎◌, nat_lt, Float}
use Rattle.std.proofs.Common.{sym, ap, ◌∙◌, subst, inl, inr, le_of_lt, lt_of_lt_of_le, lt_of_le_of_lt, mul-one, mul_comm, mul_assoc, mul_right_comm, mul-pos, le-mul_of_pos_right, mul-div_cancel, arith, ltb→lt, pow-add, pow_pos, pow_mono, shl_lt}
use Rattle.std.proofs.Math.Nat.{mul-mod_left, div-eq_of_eq-mul_left}
use Rattle.std.specs.Float.{inf, Format}
use Rattle.std.specs.Float.Ieee.{prec, low, size, odd, units, round}
use Rattle.std.specs.Float.Ieee.Digits.{size-lt, size-le, back}
use Rattle.std.specs.Float.Ieee.Fits.{round_is}
use Rattle.std.specs.Float.Ieee.Exact.{HasValue, units_val}
use Rattle.std.specs.Float.Ieee.Nearest.{closest}
use Rattle.std.specs.Float.Ieee.Order.{drop, kept}
use Rattle.std.specs.Float.Ieee.Scale.{round_same, grid, overflow, finite, grid_scale}
use Rattle.arithmetic.specs.Laws.Numbers.{cmp_lt, lt_or_le}
use Rattle.arithmetic.specs.Laws.Times.{Times, times_of_values}

-- ---- a fraction that is q * 2 ^ j units, with q of no more digits than the format keeps, stays as it is
closest_exact : (r u : ℕ) → 0 < u → closest (r * u) u ≡ r
closest_exact r u U = rw (mul-div_cancel r U, mul-mod_left r u, cmp_lt 0 u U)

exact_grid : (p n c q j : ℕ) → 0 < c → q < 2 ^ p → n ≡ q * 2 ^ j * c → kept p n c * 2 ^ drop p n c ≡ q * 2 ^ j
exact_grid p n c q j C small h =
    let e1 : n / c ≡ q * 2 ^ j = div-eq_of_eq-mul_left C h in
    let k = drop p n c in
    let z = size-le (n / c) (p + j) (subst (λ (x : ℕ). x < 2 ^ (p + j)) (sym e1) (shl_lt p j small)) in
    let k_le : k ≤ j = omega arith in
    let r = q * 2 ^ (j - k) in
    let powers : 2 ^ (j - k) * 2 ^ k ≡ 2 ^ j = sym (pow-add 2 (j - k) k) ∙ ap (λ (x : ℕ). 2 ^ x) (back j k k_le) in
    let e3 : r * 2 ^ k ≡ q * 2 ^ j = mul_assoc q (2 ^ (j - k)) (2 ^ k) ∙ ap (λ (x : ℕ). q * x) powers in
    let e2 : n ≡ r * (c * 2 ^ k) = h ∙ ap (λ (x : ℕ). x * c) (sym e3) ∙ mul_assoc r (2 ^ k) c ∙ ap (λ (x : ℕ). r * x) (mul_comm (2 ^ k) c) in
    ap (λ (x : ℕ). x * 2 ^ k) (ap (λ (x : ℕ). closest x (c * 2 ^ k)) e2 ∙ closest_exact r (c * 2 ^ k) (mul-pos C (pow_pos k))) ∙ e3

-- ---- where scaling is exact
-- a / c is a whole number of the format's smallest values
abbrev pub Whole : Format → ℕ → ℕ → Type 0
Whole f a c = (w : ℕ) × (a * 2 ^ low f ≡ w * c)

-- a / c is in the normal range
abbrev pub Normal : Format → ℕ → ℕ → Type 0
Normal f a c = prec f ≤ size (a * 2 ^ low f / c)

abbrev pub Safe : Format → ℕ → ℕ → Type 0
Safe f a c = Normal f a c ⊎ Whole f a c

whole_grid : (f : Format) (a c k w : ℕ) → 0 < c → a * 2 ^ low f ≡ w * c → size w < prec f → grid f (a * 2 ^ k) c ≡ grid f a c * 2 ^ k
whole_grid f a c k w C e h =
    let small : w < 2 ^ prec f = lt_of_lt_of_le (size-lt w) (pow_mono (le_of_lt h)) in
    let n' : a * 2 ^ k * 2 ^ low f ≡ w * 2 ^ k * c = mul_right_comm a (2 ^ k) (2 ^ low f) ∙ ap (λ (z : ℕ). z * 2 ^ k) e ∙ mul_right_comm w c (2 ^ k) in
    let n : a * 2 ^ low f ≡ w * 2 ^ 0 * c = e ∙ ap (λ (z : ℕ). z * c) (sym (mul-one w)) in
    exact_grid (prec f) (a * 2 ^ k * 2 ^ low f) c w k C small n'
    ∙ ap (λ (z : ℕ). z * 2 ^ k) (sym (exact_grid (prec f) (a * 2 ^ low f) c w 0 C small n ∙ mul-one w))

pub safe_grid : (f : Format) (a c k : ℕ) → 0 < c → Safe f a c → grid f (a * 2 ^ k) c ≡ grid f a c * 2 ^ k
safe_grid f a c k C (inl N) = grid_scale f a c k C N
safe_grid f a c k C (inr (w, e)) = go (lt_or_le (size w) (prec f))
  where
    go : (size w < prec f) ⊎ (prec f ≤ size w) → grid f (a * 2 ^ k) c ≡ grid f a c * 2 ^ k
    go (inl n) = whole_grid f a c k w C e n
    go (inr y) = grid_scale f a c k C (subst (λ (z : ℕ). prec f ≤ size z) (sym (div-eq_of_eq-mul_left C e)) y)

-- ---- the value of a rounded fraction, with either sign
pub round_value : (f : Format) (s : Bool) (a c : ℕ) → grid f a c < overflow f → HasValue (round f s a c) s (grid f a c) (2 ^ low f)
round_value f s a c h =
    subst (λ (z : Float). HasValue z s (grid f a c) (2 ^ low f)) (sym (round_is f s a c))
    (units_val f s (kept (prec f) (a * 2 ^ low f) c) (drop (prec f) (a * 2 ^ low f) c) h)

units_under : (f : Format) (s : Bool) (q k : ℕ) → T (finite (units f s q k)) → q * 2 ^ k < overflow f
unfolding units
units_under f s q k = go (nat_lt (q * 2 ^ k) (overflow f)) (ltb→lt (q * 2 ^ k) (overflow f))
  where
    go : (b : Bool) → (T b → q * 2 ^ k < overflow f) → T (finite (cond b (odd (suc (prec f)) s q k (low f)) (inf s))) → q * 2 ^ k < overflow f
    go true h t = h tt
    go false h t = absurd t

pub round_under : (f : Format) (s : Bool) (a c : ℕ) → T (finite (round f s a c)) → grid f a c < overflow f
round_under f s a c t =
    units_under f s (kept (prec f) (a * 2 ^ low f) c) (drop (prec f) (a * 2 ^ low f) c)
    (subst (λ (z : Float). T (finite z)) (round_is f s a c) t)

-- ---- the law: a' / c' is 2 ^ k times a / c
pub round_times : (f : Format) (s : Bool) (k a c a' c' : ℕ) → 0 < c → 0 < c' → a' * c ≡ a * (2 ^ k * c') → Safe f a c → T (finite (round f s a' c'))
    → Times k (round f s a c) (round f s a' c')
round_times f s k a c a' c' C C' e S t =
    let same : round f s a' c' ≡ round f s (a * 2 ^ k) c = round_same f s a' c' (a * 2 ^ k) c C' C (e ∙ sym (mul_assoc a (2 ^ k) c')) in
    let g : grid f (a * 2 ^ k) c ≡ grid f a c * 2 ^ k = safe_grid f a c k C S in
    let under : grid f (a * 2 ^ k) c < overflow f = round_under f s (a * 2 ^ k) c (subst (λ (z : Float). T (finite z)) same t) in
    let hi : grid f a c * 2 ^ k < overflow f = subst (λ (z : ℕ). z < overflow f) g under in
    let lo : grid f a c < overflow f = lt_of_le_of_lt (le-mul_of_pos_right (grid f a c) (pow_pos k)) hi in
    let r = round f s (a * 2 ^ k) c in
    let big : HasValue r s (grid f a c * 2 ^ k) (2 ^ low f) = subst (λ (z : ℕ). HasValue r s z (2 ^ low f)) g (round_value f s (a * 2 ^ k) c under) in
    times_of_values k (round f s a c) (round f s a' c') s (grid f a c) (2 ^ low f) (pow_pos (low f)) (round_value f s a c lo)
    (subst (λ (z : Float). HasValue z s (grid f a c * 2 ^ k) (2 ^ low f)) (sym same) big)
