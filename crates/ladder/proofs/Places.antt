-- A ladder of which the first i places are solved and written. Assumes nothing.
use mathlib.Core.Path.{◌≡◌, refl, sym, ap, ◌∙◌, subst}
use mathlib.Core.Bool.{false}
use mathlib.Core.List.{List, map}
use Prim.Native.Nat.{ℕ, ◌+◌, ◌≤◌, ◌<◌, zero-le}
use native.Mathlib.Numerals.{add-one}
use native.Mathlib.Omega.{arith}
use lib.Ieee.{Float}
use lib.Seq.{take_all}
use lib.ListN.{length, take, get_or, set, length-map, get_or-map}
use Rattle.arithmetic.specs.Laws.Slices.{written, write_next, written_all}
use Rattle.explicit_black.specs.Quote.{Reply, refusal, implied_black_volatility_input}
use Rattle.ladder.specs.Ladder.{total_of, volatility_of, count_of, number_of, takes_root, roots_after, replies, trues, root_places, length_refusal}
use Rattle.ladder.specs.Ladder.{solved_ladder}
use Rattle.std.specs.Prelude.{Ok}
use Rattle.ladder.specs.Replies.{view_ladder}
use Rattle.ladder.specs.Laws.Places.{replies_length, root_places_length, reply_at_lem, root_at, trues_next, trues_few, Lengths, accepted}

module _ (side : ℕ) (f t : Float) (ks ps : List Float) where
  abbrev all : List Reply
  all = replies side f t ks ps

  -- at its entry a slice held `before`; now it holds what g has of the first i replies, and then what it held
  abbrev Written : {A : Type 0} → (Reply → A) → ℕ → List A → List A → Type 0
  Written g i before now = now ≡ written i (map g all) before

  pub record Sofar (t₀ v₀ : List Float) (c₀ r₀ : List ℕ) (i roots : ℕ) (ts vs : List Float) (cs rs : List ℕ) : Type 0 where
    pub lengths : Lengths (length ks) (length ps) (length t₀) (length v₀) (length c₀) (length r₀)
    pub within : i ≤ length ks
    pub counted : roots ≡ trues (take i (root_places side f t ks ps))
    pub totals : Written total_of i t₀ ts
    pub volatilities : Written volatility_of i v₀ vs
    pub counts : Written count_of i c₀ cs
    pub refusals : Written number_of i r₀ rs

  pub nothing_yet : (t₀ v₀ : List Float) (c₀ r₀ : List ℕ) {roots : ℕ}
      → length_refusal (length ks) (length ps) (length t₀) (length v₀) (length c₀) (length r₀) ≡ 0 → roots ≡ 0
      → Sofar t₀ v₀ c₀ r₀ 0 roots t₀ v₀ c₀ r₀
  unfolding trues
  nothing_yet t₀ v₀ c₀ r₀ h e = record {
    lengths = accepted _ _ _ _ _ _ h;
    within = zero-le;
    counted = e;
    totals = refl;
    volatilities = refl;
    counts = refl;
    refusals = refl;
  }

  module _ (e : length ps ≡ length ks) where
    -- a slice of as many places keeps its length, and in the end holds what g has of all replies
    module _ {A : Type 0} (g : Reply → A) (i : ℕ) (before now : List A) (h : length before ≡ length ks) (w : Written g i before now) where
      values_length : length (map g all) ≡ length before
      values_length = length-map all g ∙ replies_length side f t ks ps e ∙ sym h

      all_written : length ks ≤ i → now ≡ map g all
      all_written l = w ∙ written_all i (map g all) before values_length (subst (λ (n : ℕ). n ≤ i) (sym h ∙ sym values_length) l)

      -- the value of the next place's reply is written there
      next_written : (a b : Float) (r : Reply) (v : A) → i < length ks
          → r ≡ implied_black_volatility_input side (get_or ps i b) f (get_or ks i a) t → v ≡ g r → Written g (i + 1) before (set now i v)
      next_written a b r v l q u =
          let value : get_or (map g all) i (g (refusal 0 0)) ≡ v =
          get_or-map g all i (refusal 0 0) ∙ ap g (reply_at_lem side f t ks ps e i l a b (refusal 0 0) ∙ sym q) ∙ sym u in
          rw (w, ← value)
          (write_next (map g all) before i (g (refusal 0 0)) (subst (λ (n : ℕ). i < n) (sym h ∙ sym values_length) l)
          (subst (λ (n : ℕ). i < n) (sym h) l))

module _ {side : ℕ} {f t : Float} {ks ps t₀ v₀ : List Float} {c₀ r₀ : List ℕ} {i roots : ℕ} {ts vs : List Float} {cs rs : List ℕ}
    (s : Sofar side f t ks ps t₀ v₀ c₀ r₀ i roots ts vs cs rs) where
  abbrev l : Lengths (length ks) (length ps) (length t₀) (length v₀) (length c₀) (length r₀)
  l = s.lengths

  abbrev e : length ps ≡ length ks
  e = l.prices_equal

  -- fewer roots were taken than a ladder has places
  pub room : i < length ks → roots < 500
  room h = let few = trues_few (root_places side f t ks ps) i in let c = s.counted in let m = l.few in omega arith

  -- the reply at the next place, and the count after it
  pub one_more : (a b : Float) (r : Reply) (n : ℕ) (v w : Float) (c d : ℕ) → i < length ks
      → r ≡ implied_black_volatility_input side (get_or ps i b) f (get_or ks i a) t
      → n ≡ roots_after (takes_root side (get_or ps i b) f (get_or ks i a) t) roots
      → (v ≡ total_of r) × (w ≡ volatility_of r) × (c ≡ count_of r) × (d ≡ number_of r)
      → Sofar side f t ks ps t₀ v₀ c₀ r₀ (i + 1) n (set ts i v) (set vs i w) (set cs i c) (set rs i d)
  one_more a b r n v w c d h q m u = record {
    lengths = l;
    within = omega arith;
    counted = m ∙ rw (s.counted, ← root_at side f t ks ps e i h a b false, add-one i) (sym (trues_next (root_places side f t ks ps) i few));
    totals = next_written side f t ks ps e total_of i t₀ ts l.totals_equal s.totals a b r v h q u.0;
    volatilities = next_written side f t ks ps e volatility_of i v₀ vs l.volatilities_equal s.volatilities a b r w h q u.1;
    counts = next_written side f t ks ps e count_of i c₀ cs l.counts_equal s.counts a b r c h q u.2;
    refusals = next_written side f t ks ps e number_of i r₀ rs l.refusals_equal s.refusals a b r d h q u.3;
  }
    where
      few : i < length (root_places side f t ks ps)
      few = rw (root_places_length side f t ks ps e) h

  pub all_places : {n : ℕ} → n ≡ roots → length ks ≤ i → view_ladder (Ok n) ts vs cs rs ≡ solved_ladder side f t ks ps
  unfolding solved_ladder
  all_places q h =
      rw (
        q,
        s.counted,
        take_all i (root_places side f t ks ps) (rw (root_places_length side f t ks ps e) h),
        all_written side f t ks ps e total_of i t₀ ts l.totals_equal s.totals h,
        all_written side f t ks ps e volatility_of i v₀ vs l.volatilities_equal s.volatilities h,
        all_written side f t ks ps e count_of i c₀ cs l.counts_equal s.counts h,
        all_written side f t ks ps e number_of i r₀ rs l.refusals_equal s.refusals h,
      )
