-- Whole numbers: tests and comparisons, powers of two and of four, and how many binary digits a number has. Assumes nothing.
use Rattle.std.specs.Prelude.{◌≡◌, ℕ, zero, suc, ◌+◌, ◌-◌, ◌*◌, ◌^◌, ◌<◌, ◌≤◌, Bool, true, false, not, T, ◌⊎◌, nat_lt, refl}
use Rattle.std.proofs.Common.{sym, ap, ◌∙◌, subst, inl, inr, le_trans, le_of_eq, le_of_lt, lt_of_le_of_lt, mul-le-mul_left, le_antisymm, lt_of_lt_of_le, lt_of_not-le, le_of_suc-le-suc, not-le_of_lt, mul_comm, mul_assoc, mul-le-mul, mul-le-mul_right, mul-lt-mul_of_pos_right, lt_of_mul-lt-mul_right, pow-suc, arith, true≢false, ltb→lt, lt→ltb, nltb→le, leb→le, eqb→eq, pow-add, pow_pos, pow_mono, shl_lt}
use Prim.Native.Nat.{compare, Ordering}
use Rattle.std.proofs.Math.Nat.{mul-sub}
use Rattle.std.proofs.Math.Dec.{is_le, compare_is_eq, nleb→lt}
use Rattle.std.proofs.Math.Pow.{pow-lt, le_ones}
use Rattle.std.specs.Float.Ieee.{size}
use Rattle.std.specs.Float.Ieee.Digits.{size-lt, size-le, size_reaches}

-- ---- tests
pub false_not : (b : Bool) → b ≡ false → T (not b)
false_not b e = subst (λ (x : Bool). T (not x)) (sym e) tt

-- a test that the code denies, by what the tested call ensures: `if !r`, with s for what r is ensured to be
pub denied : (r s : Bool) → r ≡ s → not r ≡ true → s ≡ false
denied true s e n = absurd (true≢false (sym n))
denied false s e n = sym e

pub affirmed : (r s : Bool) → r ≡ s → not r ≡ false → s ≡ true
affirmed true s e n = sym e
affirmed false s e n = absurd (true≢false n)

pub same_test : (a b : Bool) → (T a → T b) → (T b → T a) → a ≡ b
same_test true true p q = refl
same_test true false p q = absurd (p tt)
same_test false true p q = absurd (q tt)
same_test false false p q = refl

pub same_ltb : (a b a' b' : ℕ) → (a < b → a' < b') → (a' < b' → a < b) → nat_lt a b ≡ nat_lt a' b'
same_ltb a b a' b' f g = same_test (nat_lt a b) (nat_lt a' b') (λ t. lt→ltb a' b' (f (ltb→lt a b t))) (λ t. lt→ltb a b (g (ltb→lt a' b' t)))

pub ltb_mul : (a b k : ℕ) → 0 < k → nat_lt (a * k) (b * k) ≡ nat_lt a b
ltb_mul a b k K = same_ltb (a * k) (b * k) a b (λ h. lt_of_mul-lt-mul_right k h) (λ h. mul-lt-mul_of_pos_right h K)

pub lt_or_le : (a b : ℕ) → (a < b) ⊎ (b ≤ a)
lt_or_le a b = go (nat_lt a b) (ltb→lt a b) (nltb→le a b)
  where
    go : (t : Bool) → (T t → a < b) → (T (not t) → b ≤ a) → (a < b) ⊎ (b ≤ a)
    go true h k = inl (h tt)
    go false h k = inr (k tt)

pub cmp_lt : (a b : ℕ) → a < b → compare a b ≡ Ordering.lt
cmp_lt a b l = go (compare a b) (nleb→lt a b) (eqb→eq a b)
  where
    go : (o : Ordering) → (T (not (is_le o)) → b < a) → (T (compare_is_eq o) → a ≡ b) → o ≡ Ordering.lt
    go Ordering.lt h e = refl
    go Ordering.eq h e = let z = e tt in absurd (omega arith)
    go Ordering.gt h e = let z = h tt in absurd (omega arith)

pub cmp_gt : (a b : ℕ) → b < a → compare a b ≡ Ordering.gt
cmp_gt a b l = go (compare a b) (leb→le a b)
  where
    go : (o : Ordering) → (T (is_le o) → a ≤ b) → o ≡ Ordering.gt
    go Ordering.lt h = let z = h tt in absurd (omega arith)
    go Ordering.eq h = let z = h tt in absurd (omega arith)
    go Ordering.gt h = refl

pub sub_mul : (a b k : ℕ) → (a - b) * k ≡ a * k - b * k
sub_mul a b k = mul_comm (a - b) k ∙ mul-sub k a b ∙ ap (λ (x : ℕ). x - k * b) (mul_comm k a) ∙ ap (λ (x : ℕ). a * k - x) (mul_comm k b)

-- ---- powers
pub pow_split : (i j n : ℕ) → i + j ≡ n → 2 ^ i * 2 ^ j ≡ 2 ^ n
pow_split i j n e = sym (pow-add 2 i j) ∙ ap (λ (x : ℕ). 2 ^ x) e

pub pow_le_back : (i j : ℕ) → 2 ^ i ≤ 2 ^ j → i ≤ j
pow_le_back i j h = le_of_suc-le-suc (lt_of_not-le (λ (g : suc j ≤ i). not-le_of_lt (pow-lt g) h))

pub mul_lt_pow : {a b : ℕ} (s t : ℕ) → a < 2 ^ s → b < 2 ^ t → a * b < 2 ^ (s + t)
mul_lt_pow {a} s t ha hb = lt_of_le_of_lt (mul-le-mul_left a (le_of_lt hb)) (shl_lt s t ha)

pub four : (k : ℕ) → 4 ^ k ≡ 2 ^ (2 * k)
four zero = refl
four (suc k) = pow-suc 4 k ∙ ap (λ (x : ℕ). x * 4) (four k) ∙ pow_split (2 * k) 2 (2 * suc k) (omega arith)

pub four_square : (k : ℕ) → 4 ^ k ≡ 2 ^ (k + k)
four_square k = four k ∙ ap (λ (x : ℕ). 2 ^ x) (omega arith)

pub four_pos : (k : ℕ) → 0 < 4 ^ k
four_pos k = subst (λ (x : ℕ). 0 < x) (sym (four k)) (pow_pos (2 * k))

-- ---- digits
pub size_gt : (n j : ℕ) → 2 ^ j ≤ n → j < size n
size_gt n j h = lt_of_not-le (λ (g : size n ≤ j). not-le_of_lt (lt_of_lt_of_le (size-lt n) (pow_mono g)) h)

pub size_is : (n j : ℕ) → 2 ^ j ≤ n → n < 2 ^ (j + 1) → size n ≡ j + 1
size_is n j lo hi = let h = size_gt n j lo in le_antisymm (size-le n (j + 1) hi) (omega arith)

pub size_mul : (n e : ℕ) → 0 < n → size (n * 2 ^ e) ≡ size n + e
size_mul n e p =
    let z : 0 < size n = size_gt n 0 p in
    let i = size n - 1 in
    size_is (n * 2 ^ e) (i + e)
    (le_trans (le_of_eq (pow-add 2 i e)) (mul-le-mul_right (2 ^ e) (size_reaches n i (omega arith))))
    (lt_of_lt_of_le (mul-lt-mul_of_pos_right (size-lt n) (pow_pos e)) (le_of_eq (pow_split (size n) e (i + e + 1) (omega arith))))
    ∙ omega arith

pub size_four : (n k : ℕ) → 0 < n → size (n * 4 ^ k) ≡ size n + 2 * k
size_four n k p = ap (λ (x : ℕ). size (n * x)) (four k) ∙ size_mul n (2 * k) p

-- a number of at most p digits before its zeros, and p + t in all, is at most p ones before t zeros
pub all_ones : (p t n j : ℕ) → n < 2 ^ p → n * 2 ^ j < 2 ^ (p + t) → n * 2 ^ j ≤ (2 ^ p - 1) * 2 ^ t
all_ones p t n j few h = go (lt_or_le t j)
  where
    go : (t < j) ⊎ (j ≤ t) → n * 2 ^ j ≤ (2 ^ p - 1) * 2 ^ t
    go (inr l) = mul-le-mul (le_ones p few) (pow_mono l)
    go (inl l) =
        let i = j - t in
        let e : n * 2 ^ j ≡ n * 2 ^ i * 2 ^ t = ap (λ (x : ℕ). n * x) (sym (pow_split i t j (omega arith))) ∙ sym (mul_assoc n (2 ^ i) (2 ^ t)) in
        let under : n * 2 ^ i * 2 ^ t < 2 ^ p * 2 ^ t = subst (λ (x : ℕ). x < 2 ^ p * 2 ^ t) e (lt_of_lt_of_le h (le_of_eq (pow-add 2 p t))) in
        le_trans (le_of_eq e) (mul-le-mul_right (2 ^ t) (le_ones p (lt_of_mul-lt-mul_right (2 ^ t) under)))
