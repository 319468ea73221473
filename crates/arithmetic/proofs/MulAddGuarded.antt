-- What `to_guarded` and `to_guarded_above` of `mul_add` give, and what `round` makes of it: v * 2 ^ e, for a v of at most 128 digits, with the
-- digits that the result keeps, a guard digit and a sticky one, rounds as it does. Assumes nothing.
use Rattle.std.proofs.Common.{◌≡◌, ℕ, ◌+◌, ◌-◌, ◌*◌, ◌/◌, ◌%◌, ◌^◌, ◌<◌, ◌≤◌, min, Bool, ℤ, pos, negsuc, ◌+ℤ◌, ◌-ℤ◌, ◌≤ℤ◌, sym, refl, ap, ◌∙◌, subst, le_trans, le_of_eq, lt_of_lt_of_le, lt_of_le_of_lt, mul-le-mul_right, mod-lt, mod-eq_of_lt, mul_assoc, mul-le-mul_left, mul-pos, le-div_iff_mul-le, zero-mul, mul-one, arith, lit<, lit≤, pow_pos, pow_mono, shl_lt, shr_lt}
use Rattle.std.proofs.lemmas.Int.{ints}
use lib.Arith.{lt-one}
use lib.Pow.{split}
use lib.Ieee.{binary64, units, round, size}
use lib.Ieee.Digits.{size-lt, size_reaches}
use lib.Ieee.Nearest.{closest, closest_same}
use Rattle.arithmetic.specs.Internal.Pair.{jammed}
use Rattle.arithmetic.specs.declared.mul_add.Guarded.{Guarded}
use Rattle.arithmetic.specs.Internal.Exponent.{InRange, above}
use Rattle.arithmetic.specs.Internal.MulAdd.{TermExponent, KeptExponent, LastDigit}
use Rattle.arithmetic.specs.Internal.MulAddSteps.{IsGuarded}
use Rattle.arithmetic.specs.Laws.Numbers.{pow_split, size_mul}
use Rattle.arithmetic.proofs.Exponents.{counted, exponent_is}
use Rattle.arithmetic.proofs.RoundDropped.{closest_jam, size_div, round_at}

-- ---- what is guarded rounds as the number that it stands for, n units of 2 ^ -2148
pub guarded_round : (s : Bool) (n : ℕ) (r : Guarded) → IsGuarded n r
    → units binary64 s (closest r.m 4) (above 1074 r.k.value) ≡ round binary64 s n (2 ^ 2148)
guarded_round s n r h =
    ap (λ (x : ℕ). units binary64 s x (above 1074 r.k.value)) (sym h.same)
    ∙ ap (λ (k : ℕ). units binary64 s (closest n (2 ^ (1074 + k))) k) h.count
    ∙ sym (round_at s n)

-- m * 2 ^ k is guarded so, and as the type `Guarded` asks
pub record Cut (n m : ℕ) (k : ℤ) : Type 0 where
  pub count : above 1074 k ≡ size (n / 2 ^ 1074) - 53
  pub same : closest n (2 ^ (1074 + above 1074 k)) ≡ closest m 4
  pub short : m < 2 ^ 55
  pub exponent : KeptExponent k
  pub lead : 0 < above 1074 k → 2 ^ 54 ≤ m

-- ---- a v that is 0
pub guarded_zero : (v e : ℕ) → size v ≡ 0 → Cut (v * 2 ^ e) 0 (negsuc 1073)
unfolding size
guarded_zero v e h =
    let none : v ≡ 0 = lt-one (subst (λ (x : ℕ). v < 2 ^ x) h (size-lt v)) in
    subst (λ (n : ℕ). Cut n 0 (negsuc 1073)) (sym (ap (λ (x : ℕ). x * 2 ^ e) none ∙ zero-mul (2 ^ e))) (record {
      count = refl;
      same = refl;
      short = lit< tt;
      exponent = exponent_is 1074 2017 (negsuc 1073) (lit≤ tt) (lit≤ tt) (omega (arith, ints)) (omega (arith, ints));
      lead = λ h. absurd (omega arith);
    })

-- ---- any other v: the exponent of the last digit that the rounded result keeps, from that above the leading digit
module _ (v : ℕ) (e : ℤ) (E : TermExponent e) (few : size v ≤ 128) (some : size v ≡ 0 → ⊥) (end : ℤ) (is : end ≡ e +ℤ pos (size v)) where
  -- a value from half of 2 ^ -1021 on is rounded as a normal one
  pub last_subnormal : end ≤ℤ negsuc 1021 → LastDigit v e (negsuc 1073)
  last_subnormal h =
      let x = counted E in
      record {
        some = omega arith;
        kept = exponent_is 1074 2017 (negsuc 1073) (lit≤ tt) (lit≤ tt) (omega (arith, ints)) (omega (arith, ints));
        is = omega (arith, ints, x.0);
      }

  pub last_normal : negsuc 1020 ≤ℤ end → (at : ℤ) → at ≡ end -ℤ pos 53 → LastDigit v e at
  last_normal h at a =
      let x = counted E in
      let kept : KeptExponent at = exponent_is 1074 2017 at (lit≤ tt) (lit≤ tt) (omega (arith, ints)) (omega (arith, ints, E.most)) in
      record { some = omega arith; kept = kept; is = omega (arith, ints, x.0, (counted kept).0) }

-- ---- the digits above that, with a guard digit and a sticky one, for a v of at most 128 digits
module _ (v : ℕ) (few : size v ≤ 128) (term at : ℤ) (E : TermExponent term) (P : LastDigit v term at) where
  abbrev e : ℕ
  e = above 2148 term

  abbrev k : ℕ
  k = above 1074 at

  -- m is both halves of the result, of which the upper is 0
  result : (h l m : ℕ) → h * 2 ^ 64 + l ≡ m → m < 2 ^ 55 → (0 < k → 2 ^ 54 ≤ m) → closest (v * 2 ^ e) (2 ^ (1074 + k)) ≡ closest m 4
      → Cut (v * 2 ^ e) l at
  result h l m a b d f =
      let g : l ≡ m = omega arith in
      let c : size v + e - 1074 - 53 ≡ k = omega arith in
      record {
        count = sym (ap (λ (x : ℕ). x - 53) (size_div (v * 2 ^ e) 1074 ∙ ap (λ (x : ℕ). x - 1074) (size_mul v e (size_reaches v 0 P.some))) ∙ c);
        same = f ∙ ap (λ (x : ℕ). closest x 4) (sym g);
        short = omega arith;
        exponent = P.kept;
        lead = λ i. subst (λ (x : ℕ). 2 ^ 54 ≤ x) (sym g) (d i);
      }

  -- ---- with digits below the guard and the sticky one, which are jammed
  module _ (d : ℕ) (D : d + e ≡ 1072 + k) where
    jam_short : jammed v d < 2 ^ 55
    jam_short = twice (v / 2 ^ (d + 1)) (v % 2 ^ (d + 1)) (shr_lt 54 (d + 1) (lt_of_lt_of_le (size-lt v) (pow_mono {j = 54 + (d + 1)} (omega arith))))
      where
        twice : (q t : ℕ) → q < 2 ^ 54 → q * 2 + min 1 t < 2 ^ 55
        twice q t a = omega arith

    jam_lead : 0 < k → 2 ^ 54 ≤ jammed v d
    jam_lead i =
        more (v / 2 ^ (d + 1)) (v % 2 ^ (d + 1))
        ((le-div_iff_mul-le (pow_pos (d + 1))).1
        (le_trans (le_of_eq (pow_split 53 (d + 1) (size v - 1) (omega arith))) (size_reaches v (size v - 1) (omega arith))))
      where
        more : (q t : ℕ) → 2 ^ 53 ≤ q → 2 ^ 54 ≤ q * 2 + min 1 t
        more q t a = omega arith

    jam_same : closest (v * 2 ^ e) (2 ^ (1074 + k)) ≡ closest (jammed v d) 4
    jam_same =
        closest_same (v * 2 ^ e) (2 ^ (1074 + k)) v (2 * 2 ^ (d + 1)) (pow_pos (1074 + k)) (mul-pos (pow_pos 1) (pow_pos (d + 1)))
        (mul_assoc v (2 ^ e) (2 * 2 ^ (d + 1))
        ∙ ap (λ (x : ℕ). v * x)
        (ap (λ (x : ℕ). 2 ^ e * x) (pow_split 1 (d + 1) (1 + (d + 1)) refl) ∙ pow_split e (1 + (d + 1)) (1074 + k) (omega arith)))
        ∙ ap (λ (x : ℕ). closest x (2 * 2 ^ (d + 1))) (sym (split v (d + 1)))
        ∙ closest_jam (2 ^ (d + 1)) (v / 2 ^ (d + 1)) (v % 2 ^ (d + 1)) (mod-lt v (pow_pos (d + 1)))

    guarded_jam : (h l : ℕ) → h * 2 ^ 64 + l ≡ jammed v d → Cut (v * 2 ^ e) l at
    guarded_jam h l a = result h l (jammed v d) a jam_short jam_lead jam_same

  -- ---- with none, and zeros that come in below
  module _ (u : ℕ) (U : u + (1072 + k) ≡ e) where
    up_short : v * 2 ^ u < 2 ^ 55
    up_short = lt_of_lt_of_le (shl_lt (size v) u (size-lt v)) (pow_mono {j = 55} (omega arith))

    -- v is its lower half
    low_half : (h l : ℕ) → h * 2 ^ 64 + l ≡ v → l * 2 ^ u % 2 ^ 64 ≡ v * 2 ^ u
    low_half h l e =
        let few = lt_of_le_of_lt (le_trans (le_of_eq (sym (mul-one v))) (mul-le-mul_left v (pow_pos u))) up_short in
        let is : l ≡ v = omega arith in
        ap (λ (x : ℕ). x * 2 ^ u % 2 ^ 64) is ∙ mod-eq_of_lt (lt_of_lt_of_le up_short (lit≤ tt))

    up_lead : 0 < k → 2 ^ 54 ≤ v * 2 ^ u
    up_lead i = le_trans (le_of_eq (sym (pow_split (size v - 1) u 54 (omega arith)))) (mul-le-mul_right (2 ^ u) (size_reaches v (size v - 1) (omega arith)))

    up_same : closest (v * 2 ^ e) (2 ^ (1074 + k)) ≡ closest (v * 2 ^ u) 4
    up_same =
        closest_same (v * 2 ^ e) (2 ^ (1074 + k)) (v * 2 ^ u) 4 (pow_pos (1074 + k)) (pow_pos 2)
        (mul_assoc v (2 ^ e) 4
        ∙ ap (λ (x : ℕ). v * x) (pow_split e 2 (e + 2) refl ∙ sym (pow_split u (1074 + k) (e + 2) (omega arith)))
        ∙ sym (mul_assoc v (2 ^ u) (2 ^ (1074 + k))))

    guarded_up : (h l : ℕ) → h * 2 ^ 64 + l ≡ v → Cut (v * 2 ^ e) (l * 2 ^ u % 2 ^ 64) at
    guarded_up h l a = result 0 (l * 2 ^ u % 2 ^ 64) (v * 2 ^ u) (omega (arith, low_half h l a)) up_short up_lead up_same

  -- ---- by how much, from the exponent of the sticky digit
  module _ (sticky : ℤ) (S : sticky ≡ at -ℤ pos 2) where
    pub sticky_apart : InRange (sticky -ℤ term)
    sticky_apart =
        let i = P.is in
        let x = (counted E).0 in
        let y = (counted P.kept).0 in
        record { least = omega (arith, ints, E.most); most = omega (arith, ints) }

    module _ (d : ℕ) where
      pub cut_jam : pos d ≡ sticky -ℤ term → (h l : ℕ) → h * 2 ^ 64 + l ≡ jammed v d → Cut (v * 2 ^ e) l at
      cut_jam D h l a = guarded_jam d (omega (arith, ints, (counted E).0, (counted P.kept).0)) h l a

      pub cut_up : pos d ≡ term -ℤ sticky → (h l : ℕ) → h * 2 ^ 64 + l ≡ v → Cut (v * 2 ^ e) (l * 2 ^ d % 2 ^ 64) at
      cut_up D h l a = guarded_up d (omega (arith, ints, (counted E).0, (counted P.kept).0)) h l a
