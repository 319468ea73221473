-- A word and a double's pattern by their bytes. Assumes nothing.
use Rattle.std.specs.Prelude.{◌≡◌, ℕ, ◌+◌, ◌*◌, ◌^◌, ◌<◌, Bool, true, false, cond, List, take, drop, get_or, Some, None, MatchOption}
use Rattle.std.proofs.Common.{refl, ◌∙◌, arith, lit<}
use Rattle.std.proofs.lemmas.List.{get_or-take, get_or-drop}
use Rattle.std.specs.Int.{w32, w64, from_be_bytes}
use Rattle.xdr_sheet.specs.Xdr.{word, there, unsigned, hyper}
use Rattle.xdr_sheet.specs.Internal.Bytes.{bytes_at}

-- byte i of those from `at` on is the one at j
byte : (s : List ℕ) (at n i j : ℕ) → j ≡ at + i → i < n → get_or (take n (drop at s)) i 0 ≡ get_or s j 0
byte s at n i j e h = rw e (get_or-take n (drop at s) i 0 h ∙ get_or-drop at s i 0)

word_be : (s : List ℕ) (at : ℕ) → from_be_bytes w32 (take 4 (drop at s)) ≡ word s at
unfolding word
word_be s at =
    let b = byte s at 4 in
    omega (
      arith,
      b 0 at (omega arith) (lit< tt),
      b 1 (at + 1) refl (lit< tt),
      b 2 (at + 2) refl (lit< tt),
      b 3 (at + 3) refl (lit< tt),
    )

hyper_be : (s : List ℕ) (at : ℕ) → from_be_bytes w64 (take 8 (drop at s)) ≡ word s at * 2 ^ 32 + word s (at + 4)
unfolding word
hyper_be s at =
    let b = byte s at 8 in
    omega (
      arith,
      b 0 at (omega arith) (lit< tt),
      b 1 (at + 1) refl (lit< tt),
      b 2 (at + 2) refl (lit< tt),
      b 3 (at + 3) refl (lit< tt),
      b 4 (at + 4) refl (lit< tt),
      b 5 (at + 4 + 1) (omega arith) (lit< tt),
      b 6 (at + 4 + 2) (omega arith) (lit< tt),
      b 7 (at + 4 + 3) (omega arith) (lit< tt),
    )

module _ (s : List ℕ) (at n : ℕ) where
  pub unsigned_is : MatchOption (bytes_at s at 4) (n ≡ 0) (λ bytes. n ≡ from_be_bytes w32 bytes) → n ≡ unsigned s at
  unfolding unsigned
  unsigned_is h = go (there s at 4) h
    where
      go : (b : Bool) → MatchOption (cond b (Some (take 4 (drop at s))) None) (n ≡ 0) (λ bytes. n ≡ from_be_bytes w32 bytes)
          → n ≡ cond b (word s at) 0
      go true e = e ∙ word_be s at
      go false e = e

  pub hyper_is : MatchOption (bytes_at s at 8) (n ≡ 0) (λ bytes. n ≡ from_be_bytes w64 bytes) → n ≡ hyper s at
  unfolding hyper
  hyper_is h = go (there s at 8) h
    where
      go : (b : Bool) → MatchOption (cond b (Some (take 8 (drop at s))) None) (n ≡ 0) (λ bytes. n ≡ from_be_bytes w64 bytes)
          → n ≡ cond b (word s at * 2 ^ 32 + word s (at + 4)) 0
      go true e = e ∙ hyper_be s at
      go false e = e
