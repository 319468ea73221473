-- `sqrt::sqrt` meets its contract: a law of `SqrtPaths` for each path, with the contract of `of_normal` where it is called. Assumes nothing.
use Rattle.std.proofs.Common.{◌≡◌, ℕ, T, sym, ap, ◌∙◌, subst, arith}
use lib.Ieee.{Float, binary64, fits, is_nan, to_bits, of_bits}
use lib.Ieee.Bits.{of_bits-to_bits, to_bits-lt}
use denote.Floats.{passes}
use Rattle.arithmetic.specs.Sqrt.{sqrt}
use Rattle.arithmetic.specs.Laws.Patterns.{bits_no_nan}
use Rattle.arithmetic.proofs.SqrtPaths.{of_nan, of_zero, of_itself, of_below, whole_no_nan, whole_normal, of_whole}
use Rattle.arithmetic.proofs.sqrt.sqrt.Goals as goal
use Rattle.arithmetic.proofs.sqrt.sqrt.Goals.{then-b-lt-TWO_TO_52+else-b-eq0, else-b-lt-TWO_TO_52}

abbrev root-of : ℕ → Float
root-of b = sqrt (of_bits binary64 b)

pub returns-then-is_nan : goal.returns-then-is_nan
returns-then-is_nan c = of_nan c.args.x c.if-is_nan.ensures.value

pub returns-then-b-le-SIGN : goal.returns-then-b-le-SIGN
returns-then-b-le-SIGN c =
    let held : T (fits binary64 c.args.x) = passes _ c.well_formed.0.1 in
    let back : of_bits binary64 (to_bits binary64 c.args.x) ≡ c.args.x = of_bits-to_bits binary64 c.args.x held in
    let is_number = ap is_nan back ∙ sym c.if-is_nan.ensures.value in
    sym (subst (λ (y : Float). sqrt y ≡ y) back
    (of_itself (to_bits binary64 c.args.x) c.if-b-ge-INFINITY.true (omega (arith, c.if-b-le-SIGN.true)) is_number))

pub returns-then-b-ge-INFINITY : goal.returns-then-b-ge-INFINITY
returns-then-b-ge-INFINITY c =
    let held : T (fits binary64 c.args.x) = passes _ c.well_formed.0.1 in
    let back : of_bits binary64 (to_bits binary64 c.args.x) ≡ c.args.x = of_bits-to_bits binary64 c.args.x held in
    of_below (to_bits binary64 c.args.x) (omega (arith, c.if-b-le-SIGN.false)) (to_bits-lt binary64 c.args.x held) ∙ ap sqrt back

pub returns-then-b-eq0 : goal.returns-then-b-eq0
returns-then-b-eq0 c =
    let held : T (fits binary64 c.args.x) = passes _ c.well_formed.0.1 in
    let back : of_bits binary64 (to_bits binary64 c.args.x) ≡ c.args.x = of_bits-to_bits binary64 c.args.x held in
    sym (subst (λ (y : Float). sqrt y ≡ y) back (of_zero (to_bits binary64 c.args.x) c.if-b-eq0.true))

pub float_to_bits-c : goal.float_to_bits-c
float_to_bits-c c = whole_no_nan _ (omega arith) (omega arith)

pub of_normal-r-requires : goal.of_normal-r-requires
of_normal-r-requires c = elim c.if-b-lt-TWO_TO_52.branch [ then-b-lt-TWO_TO_52+else-b-eq0 h ↦ rw h.c-is (whole_normal _ (omega arith) h.if-b-lt-TWO_TO_52.true) | else-b-lt-TWO_TO_52 h ↦ rw h.c-is (omega arith, omega arith) ]

pub float_from_bits-result : goal.float_from_bits-result
float_from_bits-result c = bits_no_nan _ (omega arith)

pub returns-then-b-lt-TWO_TO_52-2 : goal.returns-then-b-lt-TWO_TO_52-2
returns-then-b-lt-TWO_TO_52-2 c =
    let held : T (fits binary64 c.args.x) = passes _ c.well_formed.0.1 in
    let back : of_bits binary64 (to_bits binary64 c.args.x) ≡ c.args.x = of_bits-to_bits binary64 c.args.x held in
    elim c.if-b-lt-TWO_TO_52.branch [
      | then-b-lt-TWO_TO_52+else-b-eq0 h ↦ of_whole _ (omega arith) c.if-b-lt-TWO_TO_52-2.true _ (c.of_normal-r.ensures ∙ ap root-of h.c-is) ∙ ap sqrt back
      | else-b-lt-TWO_TO_52 h ↦ absurd (omega arith)
    ]

pub returns-else-b-lt-TWO_TO_52-2 : goal.returns-else-b-lt-TWO_TO_52-2
returns-else-b-lt-TWO_TO_52-2 c =
    let held : T (fits binary64 c.args.x) = passes _ c.well_formed.0.1 in
    let back : of_bits binary64 (to_bits binary64 c.args.x) ≡ c.args.x = of_bits-to_bits binary64 c.args.x held in
    elim c.if-b-lt-TWO_TO_52.branch [
      | then-b-lt-TWO_TO_52+else-b-eq0 h ↦ absurd (omega arith)
      | else-b-lt-TWO_TO_52 h ↦ c.of_normal-r.ensures ∙ ap root-of h.c-is ∙ ap sqrt back
    ]
