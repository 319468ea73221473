-- What a call says of its definition, over plain lists and numbers. Assumes nothing.
use Rattle.std.specs.Prelude.{◌≡◌, refl, ◌⊎◌, ℕ, zero, suc, ◌+◌, ◌/◌, ◌%◌, ◌≤◌, ◌^◌, List, [], ◌∷◌, ◌++◌, length, set, take, drop}
use Rattle.std.proofs.Common.{sym, ap, ◌∙◌, subst, arith, inl, inr, append_assoc, length-append, length-take-le}
use Rattle.std.proofs.Math.Nat.{div-div-eq-div-mul}
use Rattle.std.proofs.Math.Seq.{take-append_seam, drop-append_seam}
use Rattle.std.proofs.lemmas.List.{drop-drop}
use Rattle.std.specs.Int.{w32, w64, to_be_bytes}
use borrow.Rule.Slice.PartMut.{put_mid}
use Rattle.explicit_black.specs.Quote.{Reply}
use Rattle.cable_window.specs.Window.{with_word, with_hyper, window_reply, after_write, after_writes, writes}
use Rattle.cable_window.specs.Laws.Bytes.{length_with_word}
use Rattle.cable_window.specs.Laws.Fits.{ReplyFits, reply_fits}

-- ---- words: the bytes that are put in the place of others are the definition's
put_four : (s : List ℕ) (at a b c d : ℕ) → at + 4 ≤ length s
    → take at s ++ (a ∷ b ∷ c ∷ d ∷ drop 4 (drop at s)) ≡ set (set (set (set s at a) (at + 1) b) (at + 2) c) (at + 3) d
put_four (x ∷ y ∷ z ∷ v ∷ s) zero a b c d h = refl
put_four (x ∷ y ∷ z ∷ []) zero a b c d h = absurd (omega arith)
put_four (x ∷ y ∷ []) zero a b c d h = absurd (omega arith)
put_four (x ∷ []) zero a b c d h = absurd (omega arith)
put_four [] at a b c d h = absurd (omega arith)
put_four (x ∷ s) (suc at) a b c d h =
    let one : suc at + 1 ≡ suc (at + 1) = omega arith in
    let two : suc at + 2 ≡ suc (at + 2) = omega arith in
    let three : suc at + 3 ≡ suc (at + 3) = omega arith in
    rw (one, two, three) (ap (λ (l : List ℕ). x ∷ l) (put_four s at a b c d (omega arith)))

pub word_put : (s : List ℕ) (at w : ℕ) → at + 4 ≤ length s → put_mid at 4 s (to_be_bytes w32 w) ≡ with_word s at w
unfolding with_word
word_put s at w h = put_four s at _ _ _ _ h

-- and so are those of two words, one after the other
put_eight : (s : List ℕ) (at hi lo : ℕ) → at + 8 ≤ length s
    → put_mid at 8 s (to_be_bytes w32 hi ++ to_be_bytes w32 lo) ≡ with_word (with_word s at hi) (at + 4) lo
put_eight s at hi lo h =
    let front = take at s ++ to_be_bytes w32 hi in
    let rest = drop 4 (drop at s) in
    let long : length front ≡ at + 4 = omega (arith, length-append (take at s) (to_be_bytes w32 hi), length-take-le at s (omega arith)) in
    let first : front ++ rest ≡ with_word s at hi = append_assoc (take at s) (to_be_bytes w32 hi) rest ∙ word_put s at hi (omega arith) in
    let taken : take (at + 4) (front ++ rest) ≡ front = ap (λ (k : ℕ). take k (front ++ rest)) (sym long) ∙ take-append_seam front rest in
    let left : drop (at + 4) (front ++ rest) ≡ rest = ap (λ (k : ℕ). drop k (front ++ rest)) (sym long) ∙ drop-append_seam front rest in
    rw (← first, ← word_put (front ++ rest) (at + 4) lo (omega (arith, ap length first, length_with_word s at hi)), taken, left, drop-drop 4 4 (drop at s))
    (sym (append_assoc (take at s) (to_be_bytes w32 hi) (to_be_bytes w32 lo ++ drop 8 (drop at s))))

halves : (n : ℕ) → to_be_bytes w64 n ≡ to_be_bytes w32 (n / 2 ^ 32) ++ to_be_bytes w32 (n % 2 ^ 32)
halves n = rw (
  div-div-eq-div-mul n 4294967296 16777216,
  div-div-eq-div-mul n 4294967296 65536,
  div-div-eq-div-mul n 4294967296 256,
  third,
  second,
  first,
  last,
)
  where
    third : n % 4294967296 / 16777216 % 256 ≡ n / 16777216 % 256
    third = omega arith

    second : n % 4294967296 / 65536 % 256 ≡ n / 65536 % 256
    second = omega arith

    first : n % 4294967296 / 256 % 256 ≡ n / 256 % 256
    first = omega arith

    last : n % 4294967296 % 256 ≡ n % 256
    last = omega arith

pub hyper_put : (s : List ℕ) (at n : ℕ) → at + 8 ≤ length s → put_mid at 8 s (to_be_bytes w64 n) ≡ with_hyper s at n
unfolding with_hyper
hyper_put s at n h = ap (put_mid at 8 s) (halves n) ∙ put_eight s at (n / 2 ^ 32) (n % 2 ^ 32) h

-- ---- a reply fits
pub found_fits : (s : List ℕ) {r : Reply} → r ≡ window_reply s → ReplyFits r
found_fits s e = subst ReplyFits (sym e) (reply_fits s)

-- ---- a list of writes, by what is left of either list
module _ (s : List ℕ) {r os ws : List ℕ} where
  pub writes_turn : {t os' ws' : List ℕ} (o w : ℕ) → os ≡ o ∷ os' → ws ≡ w ∷ ws' → t ≡ after_write s o w
      → after_writes s (writes os ws) ≡ r → after_writes t (writes os' ws') ≡ r
  unfolding after_writes
  writes_turn o w e f g p = rw g (rw (e, f) at p)

  pub writes_end : (os ≡ []) ⊎ (ws ≡ []) → after_writes s (writes os ws) ≡ r → s ≡ r
  unfolding after_writes
  writes_end (inl e) p = rw e at p
  writes_end (inr f) p = go os (rw f at p)
    where
      go : (l : List ℕ) → after_writes s (writes l []) ≡ r → s ≡ r
      go [] q = q
      go (o ∷ l) q = q
