-- `Terms::sum` meets its contract: a law of `SumOneScale` for each order of the terms. Assumes nothing.
use Rattle.std.proofs.Common.{◌≡◌, ◌*◌, ◌^◌, Bool, true, false, ltb, ◌&&◌, ap, ◌∙◌, rules}
use lib.Ieee.{binary64, round, sum}
use Rattle.arithmetic.specs.declared.pair.Pair.{Pair}
use Rattle.arithmetic.specs.Internal.Pair.{val}
use Rattle.arithmetic.specs.Internal.Exponent.{above}
use Rattle.arithmetic.proofs.SumOneScale.{sum_alike, sum_less, sum_more}
use Rattle.arithmetic.proofs.mul_add.Terms.sum.Goals.{then-s-t, else-s-t+then-lt, else-s-t+else-lt, then-s, else-s}
use Rattle.arithmetic.proofs.mul_add.Terms.sum.Goals as goal

pub returns : goal.returns
returns c =
    let a = c.args.self.a in
    let b = c.args.self.b in
    let s = c.args.s in
    let t = c.args.t in
    let e = above 2148 c.args.self.e.value in
    let rounded = λ (r : Bool × Pair). round binary64 r.0 (val r.1 * 2 ^ e) (2 ^ 2148) in
    let exact : rounded c.if-s-t.negative ≡ sum binary64 s (val a * 2 ^ e) t (val b * 2 ^ e) (2 ^ 2148) = elim c.if-s-t.branch [
      | then-s-t w ↦ ap rounded w.negative-is ∙ sum_alike (val a) (val b) e s t (val w.add.result) w.add.ensures w.if-s-t.true
      | else-s-t+then-lt w ↦
          let less : ltb (val c.args.self.a) (val c.args.self.b) ≡ true = search rules in
          ap rounded w.negative-is ∙ sum_less (val a) (val b) e s t (val w.sub.result) w.sub.ensures w.if-s-t.false less
      | else-s-t+else-lt w ↦
          let not_less : ltb (val c.args.self.a) (val c.args.self.b) ≡ false = search rules in
          let negative : w.if-s.negative ≡ (c.args.s && ltb (val c.args.self.b) (val c.args.self.a)) =
          elim w.if-s.branch [ then-s v ↦ search rules | else-s v ↦ search rules ] in
          ap rounded w.negative-is
          ∙ sum_more (val a) (val b) e s t (val w.sub-else-lt.result) w.if-s.negative w.sub-else-lt.ensures negative w.if-s-t.false not_less
    ] in
    c.round.ensures ∙ exact
