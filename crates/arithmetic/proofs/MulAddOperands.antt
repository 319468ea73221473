-- `mul_add` by the kinds of its operands, as `mul_add` tells them apart, and by the parts that `decode` gives of finite ones. Assumes nothing.
use Rattle.std.proofs.Common.{◌≡◌, ℕ, ◌*◌, ◌^◌, Bool, true, false, ◌&&◌, cond, eqb, sym, refl, ap, ◌∙◌, true≢false, mul_assoc, mul_comm, mul-pos, mul_left_comm, pow_pos, pow-add}
use mathlib.Core.Bool.{false≢true}
use native.Mathlib.Nat.{mul-mul-mul_comm}
use lib.Ieee.{Float, nan, inf, fin, binary64, up, down, unlike, add, mul, sum}
use lib.Ieee.Fits.{down_pos}
use lib.Ieee.Exact.{HasValue}
use lib.Ieee.Scale.{finite}
use Rattle.arithmetic.specs.declared.mul_add.Parts.{Parts}
use Rattle.arithmetic.specs.declared.mul_add.Term.{Term}
use Rattle.arithmetic.specs.Internal.Pair.{val}
use Rattle.arithmetic.specs.Internal.Exponent.{above}
use Rattle.arithmetic.specs.Internal.MulAddSteps.{Decoded, IsProduct}
use Rattle.arithmetic.specs.MulAdd.{mul_add, infinity_plus}
use Rattle.arithmetic.specs.Laws.Sums.{sum_same}
use Rattle.arithmetic.proofs.MulAddAlign.{above_term}

-- ---- where one is a NaN or an infinity
infinity_plus_is : (s : Bool) (b : Float) → add binary64 (inf s) b ≡ infinity_plus s b
unfolding add infinity_plus
infinity_plus_is s nan = refl
infinity_plus_is s (inf u) = refl
infinity_plus_is s (fin u k g) = refl

unless : (z s : Bool) (b : Float) → add binary64 (cond z nan (inf s)) b ≡ cond z nan (infinity_plus s b)
unless true s b = unfold add in refl
unless false s b = infinity_plus_is s b

first_special : (x a b : Float) → finite x ≡ false → add binary64 (mul binary64 x a) b ≡ mul_add x a b
unfolding mul_add mul add
first_special nan a b h = refl
first_special (inf s) nan b h = refl
first_special (inf s) (inf t) b h = infinity_plus_is (unlike s t) b
first_special (inf s) (fin t n d) b h = unless (eqb n 0) (unlike s t) b
first_special (fin s m e) a b h = absurd (true≢false h)

second_special : (x a b : Float) → finite x ≡ true → finite a ≡ false → add binary64 (mul binary64 x a) b ≡ mul_add x a b
unfolding mul_add mul add
second_special nan a b h k = absurd (false≢true h)
second_special (inf s) a b h k = absurd (false≢true h)
second_special (fin s m e) nan b h k = refl
second_special (fin s m e) (inf t) b h k = unless (eqb m 0) (unlike s t) b
second_special (fin s m e) (fin t n d) b h k = absurd (true≢false k)

-- where the product of x and a is none of finite values
pub product_special : (x a b : Float) → (finite x && finite a) ≡ false → add binary64 (mul binary64 x a) b ≡ mul_add x a b
product_special x a b h = go (finite x) refl h
  where
    go : (f : Bool) → finite x ≡ f → (f && finite a) ≡ false → add binary64 (mul binary64 x a) b ≡ mul_add x a b
    go true e k = second_special x a b e k
    go false e k = first_special x a b e

pub third_special : (x a b : Float) → finite x ≡ true → finite a ≡ true → finite b ≡ false → b ≡ mul_add x a b
unfolding mul_add
third_special nan a b h k l = absurd (false≢true h)
third_special (inf s) a b h k l = absurd (false≢true h)
third_special (fin s m e) nan b h k l = absurd (false≢true k)
third_special (fin s m e) (inf t) b h k l = absurd (false≢true k)
third_special (fin s m e) (fin t n d) nan h k l = refl
third_special (fin s m e) (fin t n d) (inf u) h k l = refl
third_special (fin s m e) (fin t n d) (fin u k' g) h k l = absurd (true≢false l)

-- ---- three finite values, in units of 1 / z
product_cross : (p r h z x a d f : ℕ) → p * z ≡ x * d → r * z ≡ a * f → p * r * h * (z * z) ≡ x * a * (d * f * h)
product_cross p r h z x a d f P R =
    let l : p * r * h * (z * z) ≡ p * z * (r * z) * h = simp (mul_assoc, mul_comm, mul_left_comm) in
    let m : x * d * (a * f) * h ≡ x * a * (d * f * h) = simp (mul_assoc, mul_comm, mul_left_comm) in
    l ∙ ap (λ (y : ℕ). y * (r * z) * h) P ∙ ap (λ (y : ℕ). x * d * y * h) R ∙ m

addend_cross : (k h z b d f : ℕ) → k * z ≡ b * h → k * (d * f) * (z * z) ≡ b * z * (d * f * h)
addend_cross k h z b d f K =
    let l : k * (d * f) * (z * z) ≡ k * z * z * (d * f) = simp (mul_assoc, mul_comm, mul_left_comm) in
    let m : b * h * z * (d * f) ≡ b * z * (d * f * h) = simp (mul_assoc, mul_comm, mul_left_comm) in
    l ∙ ap (λ (y : ℕ). y * z * (d * f)) K ∙ m

-- with the values' signs s t u and magnitudes x, a, b
in_units_lem : (X A B : Float) (s t u : Bool) (x a b : ℕ) → HasValue X s x (2 ^ 1074) → HasValue A t a (2 ^ 1074) → HasValue B u b (2 ^ 1074)
    → mul_add X A B ≡ sum binary64 (unlike s t) (x * a) u (b * 2 ^ 1074) (2 ^ 2148)
unfolding mul_add
in_units_lem nan A B s t u x a b p q r = absurd p
in_units_lem (inf s') A B s t u x a b p q r = absurd p
in_units_lem (fin s' m e) nan B s t u x a b p q r = absurd q
in_units_lem (fin s' m e) (inf t') B s t u x a b p q r = absurd q
in_units_lem (fin s' m e) (fin t' n d) nan s t u x a b p q r = absurd r
in_units_lem (fin s' m e) (fin t' n d) (inf u') s t u x a b p q r = absurd r
in_units_lem (fin s' m e) (fin t' n d) (fin u' k g) s t u x a b p q r =
    sum_same binary64 (unlike s' t') u' (x * a) (b * 2 ^ 1074) (2 ^ 2148)
    (m * up e * (n * up d) * down g) (k * up g * (down e * down d)) (down e * down d * down g)
    (pow_pos 2148) (mul-pos (mul-pos (down_pos e) (down_pos d)) (down_pos g))
    (product_cross (m * up e) (n * up d) (down g) (2 ^ 1074) x a (down e) (down d) p.1 q.1)
    (addend_cross (k * up g) (down g) (2 ^ 1074) b (down e) (down d) r.1)
    ∙ rw (p.0, q.0, r.0)

-- with their parts, and with the product p
pub mul_add_of_parts : (X A B : Float) (x a b : Parts) (p : Term) → Decoded X x → Decoded A a → Decoded B b → IsProduct x a p
    → sum binary64 (unlike x.negative a.negative) (val p.v * 2 ^ above 2148 p.e.value) b.negative (b.m * 2 ^ above 2148 b.j.value) (2 ^ 2148)
    ≡ mul_add X A B
mul_add_of_parts X A B x a b p hx ha hb P =
    let s = unlike x.negative a.negative in
    let t = b.negative in
    let e = above 2148 p.e.value in
    let i = above 1074 x.j.value in
    let j = above 1074 a.j.value in
    let k = above 1074 b.j.value in
    let product : x.m * 2 ^ i * (a.m * 2 ^ j) ≡ val p.v * 2 ^ e =
    mul-mul-mul_comm x.m (2 ^ i) a.m (2 ^ j)
    ∙ ap (λ (y : ℕ). x.m * a.m * y) (sym (pow-add 2 i j))
    ∙ sym (ap (λ (y : ℕ). y * 2 ^ e) P.whole ∙ P.scale.value) in
    let addend : b.m * 2 ^ k * 2 ^ 1074 ≡ b.m * 2 ^ above 2148 b.j.value =
    mul_assoc b.m (2 ^ k) (2 ^ 1074)
    ∙ ap (λ (y : ℕ). b.m * y) (sym (ap (λ (y : ℕ). 2 ^ y) (above_term b.j.value b.exponent) ∙ pow-add 2 k 1074)) in
    sym (in_units_lem X A B x.negative a.negative t (x.m * 2 ^ i) (a.m * 2 ^ j) (b.m * 2 ^ k) hx ha hb
    ∙ ap (λ (y : ℕ). sum binary64 s y t (b.m * 2 ^ k * 2 ^ 1074) (2 ^ 2148)) product
    ∙ ap (λ (y : ℕ). sum binary64 s (val p.v * 2 ^ e) t y (2 ^ 2148)) addend)
