-- What `decode` of `mul_add` gives: a finite value by the fields of its bit pattern. Assumes nothing.
use Rattle.std.proofs.Common.{◌≡◌, ℕ, suc, ◌+◌, ◌-◌, ◌*◌, ◌/◌, ◌^◌, ◌<◌, ◌≤◌, Bool, T, leb, ℤ, pos, negsuc, ◌+ℤ◌, sym, refl, ◌∙◌, subst, add_comm, arith, lit≤}
use Rattle.std.proofs.lemmas.Int.{ints}
use lib.Pow.{field}
use lib.Bits.{bit_and, and_mask, mask_lt}
use lib.Ieee.{Float, binary64, fits, of_fields, to_bits}
use lib.Ieee.Exact.{HasValue}
use lib.Ieee.Scale.{finite}
use lib.Ieee.Bits.{of_bits-to_bits}
use Rattle.arithmetic.specs.Internal.Exponent.{above}
use Rattle.arithmetic.specs.Internal.MulAdd.{OperandExponent}
use Rattle.arithmetic.specs.Laws.Patterns.{of_bits_is, read_zero, read_more, finite_field}
use Rattle.arithmetic.proofs.Exponents.{counted, exponent_is}

module _ (x : Float) (F : T (fits binary64 x)) (h : T (finite x)) where
  abbrev b : ℕ
  b = to_bits binary64 x

  abbrev s : Bool
  s = leb (2 ^ 63) b

  abbrev f : ℕ
  f = bit_and (b / 2 ^ 52) 0x7ff

  abbrev t : ℕ
  t = bit_and b 0xf_ffff_ffff_ffff

  read_back : (y : ℕ) → f ≡ y → of_fields binary64 s y t ≡ x
  read_back y e = rw (← e, and_mask (b / 2 ^ 52) 11, and_mask b 52, ← field b 11 52) (sym (of_bits_is b) ∙ of_bits-to_bits binary64 x F)

  field_lt : f < 2047
  field_lt =
      let a = mask_lt (b / 2 ^ 52) 11 in
      let n : f ≡ 2047 → ⊥ = finite_field s f t (subst (λ (v : Float). T (finite v)) (sym (read_back f refl)) h) in
      omega arith

  -- of the field 0, which a zero has too
  pub value_subnormal : f ≡ 0 → HasValue x s (t * 2 ^ 0) (2 ^ 1074)
  value_subnormal e = subst (λ (v : Float). HasValue v s (t * 2 ^ 0) (2 ^ 1074)) (read_back 0 e) (read_zero s t)

  pub value_normal : (j : ℕ) → f ≡ suc j → HasValue x s ((2 ^ 52 + t) * 2 ^ j) (2 ^ 1074)
  value_normal j e =
      subst (λ (v : Float). HasValue v s ((2 ^ 52 + t) * 2 ^ j) (2 ^ 1074)) (read_back (suc j) e)
      (read_more s j t (subst (λ (y : ℕ). y < 2047) e field_lt))

  -- of any other field the exponent is -1075 more
  pub field_exponent : (f ≡ 0 → ⊥) → (j : ℤ) → j ≡ pos f +ℤ negsuc 1074 → OperandExponent j × (above 1074 j ≡ f - 1)
  field_exponent n j J =
      let l = field_lt in
      let o = exponent_is 1074 971 j (lit≤ tt) (lit≤ tt) (omega (arith, ints)) (omega (arith, ints)) in
      (o, omega (arith, ints, (counted o).0))

  -- ---- what the magnitude m * 2 ^ j of x has, as `Parts` asks
  pub record Read (m : ℕ) (j : ℤ) : Type 0 where
    pub value : HasValue x s (m * 2 ^ above 1074 j) (2 ^ 1074)
    pub small : m < 2 ^ 53
    pub exponent : OperandExponent j
    pub lead : 0 < above 1074 j → 2 ^ 52 ≤ m

  pub read_subnormal : f ≡ 0 → Read t (negsuc 1073)
  read_subnormal e =
      let a = mask_lt b 52 in
      record {
        value = value_subnormal e;
        small = omega arith;
        exponent = exponent_is 1074 971 (negsuc 1073) (lit≤ tt) (lit≤ tt) (omega (arith, ints)) (omega (arith, ints));
        lead = λ h. absurd (omega arith);
      }

  pub read_normal : (f ≡ 0 → ⊥) → (j : ℤ) → j ≡ pos f +ℤ negsuc 1074 → Read (t + 2 ^ 52) j
  read_normal n j J =
      let a = mask_lt b 52 in
      let (o, i) = field_exponent n j J in
      record {
        value =
            subst (λ (k : ℕ). HasValue x s ((t + 2 ^ 52) * 2 ^ k) (2 ^ 1074)) (sym i)
            (subst (λ (m : ℕ). HasValue x s (m * 2 ^ (f - 1)) (2 ^ 1074)) (add_comm (2 ^ 52) t) (value_normal (f - 1) (omega arith)));
        small = omega arith;
        exponent = o;
        lead = λ h. omega arith;
      }
