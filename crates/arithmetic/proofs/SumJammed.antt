-- For `align` of `mul_add`: a term may be jammed before a sum is rounded, since `sum` sees of it the digits above a place and whether all below are 0, where
-- the result's last digit lies above that place. G = 2 ^ (e + 1) is the place, the other term is M * G, and the jammed one is q * G + r, with r below G.
-- Assumes nothing.
use Rattle.std.proofs.Common.{◌≡◌, ℕ, ◌+◌, ◌-◌, ◌*◌, ◌/◌, ◌^◌, ◌<◌, ◌≤◌, min, Bool, true, false, cond, ◌&&◌, ltb, ◌⊎◌, sym, ap, ◌∙◌, inl, inr, mul-le-mul_right, add-mul, eq-zero-or-pos, one-mul, arith, le-ltb, lt-ltb}
use native.Mathlib.Nat.{div-div-eq-div-mul}
use lib.Arith.{digits_div}
use lib.Ieee.{Float, binary64, size, units, round, sum}
use lib.Ieee.Nearest.{closest}
use Rattle.arithmetic.specs.Laws.Numbers.{same_ltb, lt_or_le, pow_split, size_gt}
use Rattle.arithmetic.specs.Laws.Sums.{sum_swap}
use Rattle.arithmetic.proofs.RoundDropped.{closest_coarse, size_div, dropped, round_at}

-- ---- one number is rounded
module _ (e q : ℕ) where
  abbrev G : ℕ
  G = 2 ^ (e + 1)

  -- how many digits are dropped, where the place lies below the smallest value
  drop_low : (r : ℕ) → r < G → e ≤ 1072 → dropped (q * G + r) ≡ size (q / 2 ^ (1074 - (e + 1))) - 53
  drop_low r R h =
      ap (λ (x : ℕ). size ((q * G + r) / x) - 53) (sym (pow_split (e + 1) (1074 - (e + 1)) 1074 (omega arith)))
      ∙ ap (λ (x : ℕ). size x - 53) (sym (div-div-eq-div-mul (q * G + r) G (2 ^ (1074 - (e + 1)))) ∙ ap (λ (x : ℕ). x / 2 ^ (1074 - (e + 1))) (digits_div q R))

  -- and where the number reaches the place
  drop_long : (r : ℕ) → r < G → 0 < size q → dropped (q * G + r) ≡ size q + (e + 1) - 1074 - 53
  drop_long r R h =
      let z = sym (ap size (digits_div q R)) ∙ size_div (q * G + r) (e + 1) in
      let w : size (q * G + r) ≡ size q + (e + 1) = omega arith in
      ap (λ (x : ℕ). x - 53) (size_div (q * G + r) 1074) ∙ ap (λ (x : ℕ). x - 1074 - 53) w

  module _ (s : Bool) (r r' : ℕ) (R : r < G) (R' : r' < G) (same : min 1 r ≡ min 1 r') where
    at : (k : ℕ) → dropped (q * G + r) ≡ k → dropped (q * G + r') ≡ k → e + 1 ≤ 1073 + k
        → round binary64 s (q * G + r) (2 ^ 2148) ≡ round binary64 s (q * G + r') (2 ^ 2148)
    at k a b h =
        let j = 1073 + k - (e + 1) in
        let p : 2 * (2 ^ j * G) ≡ 2 ^ (1074 + k) =
        ap (λ (x : ℕ). 2 * x) (pow_split j (e + 1) (1073 + k) (omega arith)) ∙ pow_split 1 (1073 + k) (1074 + k) (omega arith) in
        round_at s (q * G + r)
        ∙ ap (λ (d : ℕ). units binary64 s (closest (q * G + r) (2 ^ (1074 + d))) d) a
        ∙ ap (λ (x : ℕ). units binary64 s x k)
        (ap (λ (x : ℕ). closest (q * G + r) x) (sym p) ∙ closest_coarse G q r r' j R R' same ∙ ap (λ (x : ℕ). closest (q * G + r') x) p)
        ∙ sym (round_at s (q * G + r') ∙ ap (λ (d : ℕ). units binary64 s (closest (q * G + r') (2 ^ (1074 + d))) d) b)

    round_jam : (e ≤ 1072) ⊎ (2 ^ 54 ≤ q) → round binary64 s (q * G + r) (2 ^ 2148) ≡ round binary64 s (q * G + r') (2 ^ 2148)
    round_jam (inl h) = at (size (q / 2 ^ (1074 - (e + 1))) - 53) (drop_low r R h) (drop_low r' R' h) (omega arith)
    round_jam (inr h) =
        let z = size_gt q 54 h in
        at (size q + (e + 1) - 1074 - 53) (drop_long r R (omega arith)) (drop_long r' R' (omega arith)) (omega arith)

-- ---- the order of the terms
step_up : (G M q : ℕ) → M < q → M * G + G ≤ q * G
step_up G M q h = let m : M + 1 ≤ q = omega arith in let a = mul-le-mul_right G m in let b = add-mul M 1 G in let c = one-mul G in omega arith

module _ (G M q r r' : ℕ) (R : r < G) (R' : r' < G) (same : min 1 r ≡ min 1 r') where
  above : M * G < q * G + r → M * G < q * G + r'
  above h = go (lt_or_le M q) (lt_or_le q M)
    where
      go : (M < q) ⊎ (q ≤ M) → (q < M) ⊎ (M ≤ q) → M * G < q * G + r'
      go (inl a) b = let g = step_up G M q a in omega arith
      go (inr a) (inl b) = let g = step_up G q M b in omega arith
      go (inr a) (inr b) = let f = mul-le-mul_right G a in let g = mul-le-mul_right G b in omega arith

  below : q * G + r < M * G → q * G + r' < M * G
  below h = go (lt_or_le q M)
    where
      go : (q < M) ⊎ (M ≤ q) → q * G + r' < M * G
      go (inl a) = let g = step_up G q M a in omega arith
      go (inr a) = let g = mul-le-mul_right G a in omega arith

  -- M is not above q where M * G is the smaller
  not_above : M * G < q * G + r → M ≤ q
  not_above h = go (lt_or_le q M)
    where
      go : (q < M) ⊎ (M ≤ q) → M ≤ q
      go (inl a) = let g = step_up G q M a in omega arith
      go (inr a) = a

-- ---- sums and differences
-- `wide`: the place lies below the smallest value, or the sum and the difference have 54 digits above it
module _ (e M q r r' : ℕ) (R : r < 2 ^ (e + 1)) (R' : r' < 2 ^ (e + 1)) (same : min 1 r ≡ min 1 r') (wide : (e ≤ 1072) ⊎ (q + 2 ^ 54 < M)) where
  abbrev g : ℕ
  g = 2 ^ (e + 1)

  abbrev rounded : Bool → ℕ → Float
  rounded s n = round binary64 s n (2 ^ 2148)

  -- x and x' are n * g + t and n * g + t'
  through : (s : Bool) (n t t' x x' : ℕ) → x ≡ n * g + t → x' ≡ n * g + t' → t < g → t' < g → min 1 t ≡ min 1 t'
      → (e ≤ 1072) ⊎ (2 ^ 54 ≤ n) → rounded s x ≡ rounded s x'
  through s n t t' x x' a a' b b' c h = ap (rounded s) a ∙ round_jam e n s t t' b b' c h ∙ sym (ap (rounded s) a')

  plus : (t : ℕ) → M * g + (q * g + t) ≡ (M + q) * g + t
  plus t = let a = add-mul M q g in omega arith

  sum_jam : (s : Bool) → rounded s (M * g + (q * g + r)) ≡ rounded s (M * g + (q * g + r'))
  sum_jam s = through s (M + q) r r' _ _ (plus r) (plus r') R R' same (go wide)
    where
      go : (e ≤ 1072) ⊎ (q + 2 ^ 54 < M) → (e ≤ 1072) ⊎ (2 ^ 54 ≤ M + q)
      go (inl a) = inl a
      go (inr a) = inr (omega arith)

  over : (t : ℕ) → M ≤ q → q * g + t - M * g ≡ (q - M) * g + t
  over t h =
      let b : q - M + M ≡ q = omega arith in
      let a = sym (add-mul (q - M) M g) ∙ ap (λ (x : ℕ). x * g) b in
      omega arith

  over_jam : (s : Bool) → M * g < q * g + r → rounded s (q * g + r - M * g) ≡ rounded s (q * g + r' - M * g)
  over_jam s h = let l = not_above g M q r r' R R' same h in through s (q - M) r r' _ _ (over r l) (over r' l) R R' same (go wide l)
    where
      go : (e ≤ 1072) ⊎ (q + 2 ^ 54 < M) → M ≤ q → (e ≤ 1072) ⊎ (2 ^ 54 ≤ q - M)
      go (inl a) b = inl a
      go (inr a) b = inr (omega arith)

  under : (t : ℕ) → t < g → q < M → M * g - (q * g + t) ≡ (M - q - 1) * g + (g - t)
  under t T h =
      let b : M - q - 1 + (q + 1) ≡ M = omega arith in
      let a = sym (add-mul (M - q - 1) (q + 1) g) ∙ ap (λ (x : ℕ). x * g) b in
      let c = add-mul q 1 g in
      let d = one-mul g in
      omega arith

  under_jam : (s : Bool) → q * g + r ≤ M * g → rounded s (M * g - (q * g + r)) ≡ rounded s (M * g - (q * g + r'))
  under_jam s h = go (eq-zero-or-pos r) (lt_or_le q M)
    where
      far : (e ≤ 1072) ⊎ (q + 2 ^ 54 < M) → (e ≤ 1072) ⊎ (2 ^ 54 ≤ M - q - 1)
      far (inl a) = inl a
      far (inr a) = inr (omega arith)

      go : (r ≡ 0) ⊎ (0 < r) → (q < M) ⊎ (M ≤ q) → rounded s (M * g - (q * g + r)) ≡ rounded s (M * g - (q * g + r'))
      go (inl a) b = let z : r ≡ r' = omega arith in ap (λ (x : ℕ). rounded s (M * g - (q * g + x))) z
      go (inr a) (inr b) = let f = mul-le-mul_right g b in absurd (omega arith)
      go (inr a) (inl b) =
          through s (M - q - 1) (g - r) (g - r') _ _ (under r R b) (under r' R' b) (omega arith) (omega arith) (omega arith) (far wide)

  -- the difference as `sum` rounds it
  abbrev difference : Bool → Bool → ℕ → Float
  difference s t n = cond (ltb (M * g) n) (rounded t (n - M * g)) (rounded (s && ltb n (M * g)) (M * g - n))

  apart : (s t : Bool) → difference s t (q * g + r) ≡ difference s t (q * g + r')
  apart s t =
      rw (
        ← same_ltb (M * g) (q * g + r) (M * g) (q * g + r') (above g M q r r' R R' same) (above g M q r' r R' R (sym same)),
        ← same_ltb (q * g + r) (M * g) (q * g + r') (M * g) (below g M q r r' R R' same) (below g M q r' r R' R (sym same)),
      ) (go (lt_or_le (M * g) (q * g + r)))
    where
      go : (M * g < q * g + r) ⊎ (q * g + r ≤ M * g)
          → difference s t (q * g + r)
          ≡ cond (ltb (M * g) (q * g + r)) (rounded t (q * g + r' - M * g)) (rounded (s && ltb (q * g + r) (M * g)) (M * g - (q * g + r')))
      go (inl h) = rw (lt-ltb (M * g) (q * g + r) h) (over_jam t h)
      go (inr h) = rw (le-ltb (M * g) (q * g + r) h) (under_jam (s && ltb (q * g + r) (M * g)) h)

  pub jam_second : (s t : Bool) → sum binary64 s (M * g) t (q * g + r) (2 ^ 2148) ≡ sum binary64 s (M * g) t (q * g + r') (2 ^ 2148)
  unfolding sum
  jam_second true true = sum_jam true
  jam_second false false = sum_jam false
  jam_second true false = apart true false
  jam_second false true = apart false true

  pub jam_first : (s t : Bool) → sum binary64 s (q * g + r) t (M * g) (2 ^ 2148) ≡ sum binary64 s (q * g + r') t (M * g) (2 ^ 2148)
  jam_first s t = sum_swap binary64 s t (q * g + r) (M * g) (2 ^ 2148) ∙ jam_second t s ∙ sum_swap binary64 t s (M * g) (q * g + r') (2 ^ 2148)
