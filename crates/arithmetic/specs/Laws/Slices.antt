-- A slice that is written place by place, and two lists taken place by place. Assumes nothing.
use Rattle.std.specs.Prelude.{◌≡◌, ℕ, zero, suc, ◌+◌, ◌<◌, ◌≤◌, List, [], ◌∷◌, ◌++◌, length, take, drop, slice_index_or, slice_set}
use Rattle.std.proofs.Math.Path.{refl, ap}
use Rattle.std.proofs.Common.{sym, ◌∙◌, not-suc-le-zero, le_of_suc-le-suc, add-one, arith, drop_of_length-le, take-suc, drop-cons, take_all, length-take-le}
use mathlib.Core.List.{zip_with, append-nil}
use Rattle.std.proofs.Math.Seq.{append_snoc, length_front}
use Rattle.std.proofs.lemmas.List.{set_at}

module _ {A : Type 0} where
  -- the values stand at the first i places, and at the others what stood there before
  abbrev pub written : ℕ → List A → List A → List A
  written i values before = take i values ++ drop i before

  pub write_next : (values before : List A) (i : ℕ) (d : A) → i < length values → i < length before
      → slice_set (written i values before) i (slice_index_or values i d) ≡ written (i + 1) values before
  write_next values before i d h g =
      rw (add-one i, take-suc values i d, drop-cons before i d)
      (set_at (take i values) (slice_index_or before i d) (drop (suc i) before) (slice_index_or values i d) i (length-take-le i values (omega arith))
      ∙ sym (append_snoc (take i values) (slice_index_or values i d) (drop (suc i) before)))

  pub written_length : (values before : List A) (i : ℕ) → i ≤ length values → i ≤ length before → length (written i values before) ≡ length before
  written_length values before i h g = length_front before (take i values) i (length-take-le i values h ∙ sym (length-take-le i before g))

  pub written_all : (i : ℕ) (values before : List A) → length values ≡ length before → length values ≤ i → written i values before ≡ values
  written_all i values before e h = rw (take_all i values h, drop_of_length-le before {i = i} (omega arith)) (append-nil values)

module _ {A B C : Type 0} (f : A → B → C) where
  pub zip_length : (xs : List A) (ys : List B) → length ys ≡ length xs → length (zip_with f xs ys) ≡ length xs
  unfolding zip_with
  zip_length [] ys e = refl
  zip_length (x ∷ xs) [] e = absurd (omega arith)
  zip_length (x ∷ xs) (y ∷ ys) e = ap suc (zip_length xs ys (omega arith))

  pub zip_at : (xs : List A) (ys : List B) (i : ℕ) (a : A) (b : B) (c : C) → i < length xs → length ys ≡ length xs
      → slice_index_or (zip_with f xs ys) i c ≡ f (slice_index_or xs i a) (slice_index_or ys i b)
  unfolding zip_with
  zip_at [] ys i a b c h e = absurd (not-suc-le-zero h)
  zip_at (x ∷ xs) [] i a b c h e = absurd (omega arith)
  zip_at (x ∷ xs) (y ∷ ys) zero a b c h e = refl
  zip_at (x ∷ xs) (y ∷ ys) (suc i) a b c h e = zip_at xs ys i a b c (le_of_suc-le-suc h) (omega arith)
