-- The number e that `general` of `exp` hands to `scale_b`: k + 1075, a sum that is exact for a k between the thresholds. Assumes nothing.
use Rattle.std.proofs.Common.{◌≡◌, ◌⊎◌, ℕ, ◌+◌, ◌-◌, ◌/◌, ◌<◌, ◌≤◌, Bool, true, false, T, pos, sym, refl, ap, ◌∙◌, subst, inl, inr, le_trans, lt_of_lt_of_le, eq-or-lt_of_le, add_comm, arith, lit<, lit≤, lt-ltb}
use lib.Ieee.{Float, binary64, minus, round, sum, sub, neg, lt, of_int, of_bits, is_nan, to_signed, in_unsigned, to_unsigned}
use lib.Ieee.Back.{round_whole, unsigned_back}
use lib.Ieee.Exact.{HasValue}
use lib.Ieee.Positive.{num, den}
use Rattle.arithmetic.specs.Operations.{◌⊕◌, ◌⊖◌, bits}
use Rattle.arithmetic.specs.Basic.{is_sign_minus, trunc}
use Rattle.arithmetic.specs.Exp.{o_threshold, u_threshold, half_away, reduced, scale_b, exp}
use Rattle.arithmetic.specs.Laws.Sizes.{sum_alike}
use Rattle.arithmetic.specs.Laws.Sums.{sub_values}
use Rattle.arithmetic.specs.Laws.ExpBounds.{trunc_is}
use Rattle.arithmetic.proofs.Integers.{of_int_pos, integer_fits}
use Rattle.arithmetic.proofs.ExpGeneral.{Bounded, bounded, most, most_le, biased_exponent, biased_exponent_lt, whole_number, exp_between}

-- ---- the sum, of a k of the sign s and the size m
abbrev offset : Float
offset = bits 0x4090_CC00_0000_0000

offset_value : HasValue (neg offset) true 1075 1
unfolding of_bits neg
offset_value = (refl, refl)

less_negated : (k : Float) → k ⊕ offset ≡ k ⊖ neg offset
unfolding sub neg of_bits
less_negated k = refl

exact : (s : Bool) (m : ℕ) → m ≤ most s → sum binary64 s m false 1075 1 ≡ of_int binary64 (pos (biased_exponent s m))
unfolding sum
exact false m h = sum_alike false m 1075 1 ∙ ap (λ (z : ℕ). round binary64 false z 1) (add_comm m 1075) ∙ sym (of_int_pos (1075 + m))
exact true m h = go (eq-or-lt_of_le h)
  where
    go : (m ≡ 1075) ⊎ (m < 1075) → sum binary64 true m false 1075 1 ≡ of_int binary64 (pos (1075 - m))
    go (inl e) = rw e (sym (of_int_pos 0))
    go (inr l) = rw (lt-ltb m 1075 l) (sym (of_int_pos (1075 - m)))

offset_sum : (s : Bool) (m : ℕ) → m ≤ most s → round binary64 s m 1 ⊕ offset ≡ of_int binary64 (pos (biased_exponent s m))
offset_sum s m h =
    let k = round binary64 s m 1 in
    less_negated k
    ∙ sub_values binary64 k (neg offset) s true m 1075 1 (lit< tt) (round_whole binary64 s m (le_trans h (le_trans (most_le s) (lit≤ tt)))) offset_value
    ∙ exact s m h

-- ---- k between the thresholds, as the code computes it, and the number e that the sum is
abbrev e : Float → ℕ
e k = to_unsigned 64 (k ⊕ offset)

pub record Computed (k : Float) : Type 0 where
  pub is_whole : T (in_unsigned binary64 64 (k ⊕ offset))
  pub few : e k < 2100
  pub value : to_signed 63 k ≡ minus (e k) 1075

computed : (s : Bool) (m : ℕ) → m ≤ most s → Computed (round binary64 s m 1)
computed s m h =
    let k = round binary64 s m 1 in
    let E = biased_exponent s m in
    let few : E < 2100 = biased_exponent_lt s m h in
    let cast : T (in_unsigned binary64 64 (k ⊕ offset)) × (e k ≡ E) =
    subst (λ (z : Float). T (in_unsigned binary64 64 z) × (to_unsigned 64 z ≡ E)) (sym (offset_sum s m h))
    (unsigned_back binary64 64 E (integer_fits E (omega (arith, few))) (lt_of_lt_of_le few (lit≤ tt))) in
    record {
      is_whole = cast.0;
      few = subst (λ (z : ℕ). z < 2100) (sym cast.1) few;
      value = whole_number s m (le_trans h (most_le s)) ∙ ap (λ (z : ℕ). minus z 1075) (sym cast.1);
    }

module _ (x : Float) (n : false ≡ is_nan x) (h : lt o_threshold x ≡ false) (l : lt x u_threshold ≡ false)
    (w k : Float) (W : w ≡ half_away (is_sign_minus x) x) (K : k ≡ trunc w) where
  pub code_exponent : Computed k
  code_exponent =
      let s = is_sign_minus x in
      let b : Bounded s w = bounded x (sym n) h l s w refl W in
      let m = num w / den w in
      let is : k ≡ round binary64 s m 1 = K ∙ trunc_is w b.is_finite_lem ∙ ap (λ (t : Bool). round binary64 t m 1) b.sign in
      subst Computed (sym is) (computed s m b.size)

  pub exp_computed : (y r : Float) → y ≡ reduced x k → r ≡ scale_b y (minus (e k) 1075) → r ≡ exp x
  exp_computed y r Y R =
      R
      ∙ ap (λ (v : Float). scale_b v (minus (e k) 1075)) Y
      ∙ ap (scale_b (reduced x k)) (sym code_exponent.value)
      ∙ ap (λ (v : Float). scale_b (reduced x v) (to_signed 63 v)) (K ∙ ap trunc W)
      ∙ sym (exp_between x (sym n) h l)
