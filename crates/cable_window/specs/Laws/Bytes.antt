-- Words in bytes: what is read after a word or a number of 64 bits is written, at the same place and elsewhere. Assumes nothing.
use Rattle.std.specs.Prelude.{◌≡◌, refl, ◌≢◌, List, [], ◌∷◌, ℕ, zero, suc, ◌+◌, ◌*◌, ◌-◌, ◌/◌, ◌%◌, ◌≤◌, ◌<◌, ◌^◌, length, set, replicate}
use Rattle.std.proofs.Common.{sym, ◌∙◌, arith, le-leb, lit<, length-set, lt-length-set, get_or-set_same, get_or-set_other}
use Rattle.std.proofs.Math.Nat.{div-div-eq-div-mul}
use Rattle.arithmetic.specs.Laws.Choices.{in_both}
use Rattle.xdr_sheet.specs.Xdr.{byte_at, word, there, unsigned, hyper}
use Rattle.cable_window.specs.Window.{with_word, with_hyper}
use Rattle.cable_window.specs.Host.{AreBytes}

-- ---- lengths
pub length_with_word : (s : List ℕ) (at w : ℕ) → length (with_word s at w) ≡ length s
unfolding with_word
length_with_word s at w = simp length-set

pub length_with_hyper : (s : List ℕ) (at n : ℕ) → length (with_hyper s at n) ≡ length s
unfolding with_hyper
length_with_hyper s at n = simp length_with_word

-- ---- zeros read as 0
zero_byte : (n i : ℕ) → byte_at (replicate n 0) i ≡ 0
zero_byte zero i = refl
zero_byte (suc n) zero = refl
zero_byte (suc n) (suc i) = zero_byte n i

pub read_zeros : (n at : ℕ) → unsigned (replicate n 0) at ≡ 0
unfolding unsigned
read_zeros n at =
    in_both (λ (w : ℕ). w ≡ 0) (there (replicate n 0) at 4) (rw (zero_byte n at, zero_byte n (at + 1), zero_byte n (at + 2), zero_byte n (at + 3))) refl

-- ---- bytes of 8 bits: a word then has 32, and is one half of a number of 64 bits
pub zero_bytes : (n : ℕ) → AreBytes (replicate n 0)
zero_bytes n = record { fit = λ i. rw (zero_byte n i) (lit< tt) }

set_byte : (s : List ℕ) (j b i : ℕ) → b < 2 ^ 8 → byte_at s i < 2 ^ 8 → byte_at (set s j b) i < 2 ^ 8
set_byte [] j b i h g = g
set_byte (x ∷ s) zero b zero h g = h
set_byte (x ∷ s) zero b (suc i) h g = g
set_byte (x ∷ s) (suc j) b zero h g = g
set_byte (x ∷ s) (suc j) b (suc i) h g = set_byte s j b i h g

set_low : (s : List ℕ) (j n : ℕ) → AreBytes s → AreBytes (set s j (n % 2 ^ 8))
set_low s j n k = record { fit = λ i. set_byte s j (n % 2 ^ 8) i (omega arith) (k.fit i) }

pub bytes_with_word : (s : List ℕ) (at w : ℕ) → AreBytes s → AreBytes (with_word s at w)
unfolding with_word
bytes_with_word s at w k =
    set_low _ (at + 3) w (set_low _ (at + 2) (w / 2 ^ 8) (set_low _ (at + 1) (w / 2 ^ 16) (set_low s at (w / 2 ^ 24) k)))

pub word_below : (s : List ℕ) (at : ℕ) → AreBytes s → unsigned s at < 2 ^ 32
unfolding unsigned word
word_below s at k =
    let b = k.fit in
    in_both (λ (w : ℕ). w < 2 ^ 32) (there s at 4) (omega (arith, b at, b (at + 1), b (at + 2), b (at + 3))) (lit< tt)

-- ---- elsewhere: what is read is as before

-- the word at `at` and the one at b have no byte in common
abbrev pub Apart : ℕ → ℕ → Type 0
Apart at b = 4 ≤ (at - b) + (b - at)

-- the byte at i is before the word's four or after them
byte_other : (s : List ℕ) (at w i : ℕ) → 0 < (at - i) + (i - (at + 3)) → byte_at (with_word s at w) i ≡ byte_at s i
unfolding with_word
byte_other s at w i h =
    let n : (i ≢ at) × (i ≢ at + 1) × (i ≢ at + 2) × (i ≢ at + 3) = omega arith in
    search get_or-set_other

word_other : (s : List ℕ) (at w b : ℕ) → Apart at b → word (with_word s at w) b ≡ word s b
unfolding word
word_other s at w b h =
    let byte = byte_other s at w in
    rw (byte b (omega arith), byte (b + 1) (omega arith), byte (b + 2) (omega arith), byte (b + 3) (omega arith))

pub read_other : (s : List ℕ) (at w b : ℕ) → Apart at b → unsigned (with_word s at w) b ≡ unsigned s b
unfolding unsigned
read_other s at w b h = rw (length_with_word s at w, word_other s at w b h)

pub hyper_other : (s : List ℕ) (at w b : ℕ) → Apart at b → Apart at (b + 4) → hyper (with_word s at w) b ≡ hyper s b
unfolding hyper
hyper_other s at w b h g = rw (length_with_word s at w, word_other s at w b h, word_other s at w (b + 4) g)

-- and after a number of 64 bits
written_words : (s : List ℕ) (at n : ℕ) → with_hyper s at n ≡ with_word (with_word s at (n / 2 ^ 32)) (at + 4) (n % 2 ^ 32)
unfolding with_hyper
written_words s at n = refl

module _ (s : List ℕ) (at n b : ℕ) where
  pub read_past_hyper : Apart at b → Apart (at + 4) b → unsigned (with_hyper s at n) b ≡ unsigned s b
  read_past_hyper h g = rw (written_words s at n) (read_other _ (at + 4) _ b g ∙ read_other s at _ b h)

  pub hyper_past_hyper : 8 ≤ (at - b) + (b - at) → hyper (with_hyper s at n) b ≡ hyper s b
  hyper_past_hyper h =
      rw (written_words s at n) (hyper_other _ (at + 4) _ b (omega arith) (omega arith) ∙ hyper_other s at _ b (omega arith) (omega arith))

-- ---- at the same place: what is read was written
joined : (w : ℕ) → w < 2 ^ 32 → w / 2 ^ 24 % 2 ^ 8 * 2 ^ 24 + w / 2 ^ 16 % 2 ^ 8 * 2 ^ 16 + w / 2 ^ 8 % 2 ^ 8 * 2 ^ 8 + w % 2 ^ 8 ≡ w
joined w h = rw (sixteen, twenty_four) (digits w h)
  where
    digits : (n : ℕ) → n < 2 ^ 32 → n / 256 / 256 / 256 % 256 * 16777216 + n / 256 / 256 % 256 * 65536 + n / 256 % 256 * 256 + n % 256 ≡ n
    digits n l = omega arith

    sixteen : w / 65536 ≡ w / 256 / 256
    sixteen = sym (div-div-eq-div-mul w 256 256)

    twenty_four : w / 16777216 ≡ w / 256 / 256 / 256
    twenty_four = sym (div-div-eq-div-mul (w / 256) 256 256 ∙ div-div-eq-div-mul w 256 65536)

word_same : (s : List ℕ) (at w : ℕ) → at + 4 ≤ length s → w < 2 ^ 32 → word (with_word s at w) at ≡ w
unfolding with_word word
word_same s at w h g =
    let n : (at ≢ at + 1) × (at ≢ at + 2) × (at ≢ at + 3) × (at + 1 ≢ at + 2) × (at + 1 ≢ at + 3) × (at + 2 ≢ at + 3) = omega arith in
    let l : (at < length s) × (at + 1 < length s) × (at + 2 < length s) × (at + 3 < length s) = omega arith in
    let e = joined w g in
    search (get_or-set_same, get_or-set_other, lt-length-set)

pub read_same : (s : List ℕ) (at w : ℕ) → at + 4 ≤ length s → w < 2 ^ 32 → unsigned (with_word s at w) at ≡ w
unfolding unsigned
read_same s at w h g = rw (length_with_word s at w, le-leb (at + 4) (length s) h) (word_same s at w h g)

-- a number of 64 bits is two words
pub hyper_words : (s : List ℕ) (at : ℕ) → at + 8 ≤ length s → hyper s at ≡ unsigned s at * 2 ^ 32 + unsigned s (at + 4)
unfolding hyper unsigned
hyper_words s at h = rw (le-leb (at + 8) (length s) h, le-leb (at + 4) (length s) (omega arith), le-leb (at + 4 + 4) (length s) (omega arith))

pub hyper_halves : (s : List ℕ) (at : ℕ) → at + 8 ≤ length s → AreBytes s
    → (unsigned s at ≡ hyper s at / 2 ^ 32) × (unsigned s (at + 4) ≡ hyper s at % 2 ^ 32)
hyper_halves s at h k =
    let e = hyper_words s at h in
    let low = word_below s (at + 4) k in
    (omega arith, omega arith)

pub hyper_same : (s : List ℕ) (at n : ℕ) → at + 8 ≤ length s → n < 2 ^ 64 → hyper (with_hyper s at n) at ≡ n
hyper_same s at n h g =
    let first = with_word s at (n / 2 ^ 32) in
    let l = length_with_word s at (n / 2 ^ 32) in
    hyper_words (with_hyper s at n) at (omega (arith, length_with_hyper s at n))
    ∙ rw (
      written_words s at n,
      read_other first (at + 4) (n % 2 ^ 32) at (omega arith),
      read_same s at (n / 2 ^ 32) (omega arith) (omega arith),
      read_same first (at + 4) (n % 2 ^ 32) (omega arith) (omega arith),
    ) (omega arith)
