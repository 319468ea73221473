-- `power_table::power_at` meets its contract: the literal in each arm of the match is the value that the definition computes. Assumes nothing.
use mathlib.Core.Path.{◌≡◌, refl, sym, ap, ◌∙◌}
use Prim.Native.Nat.{ℕ}
use native.Mathlib.Omega.{arith}
use lib.Ieee.{Float, mul, neg, of_bits, round}
use Rattle.arithmetic.specs.Exp.{exp}
use Rattle.special_function.specs.Internal.PowerTable.{power_at}
use Rattle.special_function.proofs.power_table.power_at.Goals as goal

at : {j k : ℕ} {v : Float} → j ≡ k → v ≡ power_at k → v ≡ power_at j
at e h = h ∙ ap power_at (sym e)

pub returns-in-7 : goal.returns-in-7
unfolding power_at exp mul neg of_bits round
returns-in-7 c = at c.in-7.is refl

pub returns-in-8 : goal.returns-in-8
unfolding power_at exp mul neg of_bits round
returns-in-8 c = at c.in-8.is refl

pub returns-in-9 : goal.returns-in-9
unfolding power_at exp mul neg of_bits round
returns-in-9 c = at c.in-9.is refl

pub returns-in-10 : goal.returns-in-10
unfolding power_at exp mul neg of_bits round
returns-in-10 c = at c.in-10.is refl

pub returns-in-11 : goal.returns-in-11
unfolding power_at exp mul neg of_bits round
returns-in-11 c = at c.in-11.is refl

pub returns-in-12 : goal.returns-in-12
unfolding power_at exp mul neg of_bits round
returns-in-12 c = at c.in-12.is refl

pub returns-in-13 : goal.returns-in-13
unfolding power_at exp mul neg of_bits round
returns-in-13 c = at c.in-13.is refl

pub returns-in-14 : goal.returns-in-14
unfolding power_at exp mul neg of_bits round
returns-in-14 c = at c.in-14.is refl

pub returns-in-15 : goal.returns-in-15
unfolding power_at exp mul neg of_bits round
returns-in-15 c = at c.in-15.is refl

pub returns-in-16 : goal.returns-in-16
unfolding power_at exp mul neg of_bits round
returns-in-16 c = at c.in-16.is refl

pub returns-in-17 : goal.returns-in-17
unfolding power_at exp mul neg of_bits round
returns-in-17 c = at c.in-17.is refl

pub returns-in-18 : goal.returns-in-18
unfolding power_at exp mul neg of_bits round
returns-in-18 c = at c.in-18.is refl

pub returns-in-19 : goal.returns-in-19
unfolding power_at exp mul neg of_bits round
returns-in-19 c = at c.in-19.is refl

pub returns-in-20 : goal.returns-in-20
unfolding power_at exp mul neg of_bits round
returns-in-20 c = at c.in-20.is refl

pub returns-in-21 : goal.returns-in-21
unfolding power_at exp mul neg of_bits round
returns-in-21 c = at c.in-21.is refl

pub returns-in-22 : goal.returns-in-22
unfolding power_at exp mul neg of_bits round
returns-in-22 c = at c.in-22.is refl

pub returns-in-23 : goal.returns-in-23
unfolding power_at exp mul neg of_bits round
returns-in-23 c = at c.in-23.is refl

pub returns-in-24 : goal.returns-in-24
unfolding power_at exp mul neg of_bits round
returns-in-24 c = at c.in-24.is refl

pub returns-in-25 : goal.returns-in-25
unfolding power_at exp mul neg of_bits round
returns-in-25 c = at c.in-25.is refl

pub returns-in-26 : goal.returns-in-26
unfolding power_at exp mul neg of_bits round
returns-in-26 c = at c.in-26.is refl

pub returns-in-27 : goal.returns-in-27
unfolding power_at exp mul neg of_bits round
returns-in-27 c = at c.in-27.is refl

pub returns-in-28 : goal.returns-in-28
unfolding power_at exp mul neg of_bits round
returns-in-28 c = at c.in-28.is refl

pub returns-in-29 : goal.returns-in-29
unfolding power_at exp mul neg of_bits round
returns-in-29 c = at c.in-29.is refl

pub returns-in-30 : goal.returns-in-30
unfolding power_at exp mul neg of_bits round
returns-in-30 c = at c.in-30.is refl

pub returns-in-31 : goal.returns-in-31
unfolding power_at exp mul neg of_bits round
returns-in-31 c = at c.in-31.is refl

pub returns-in-32 : goal.returns-in-32
unfolding power_at exp mul neg of_bits round
returns-in-32 c = at c.in-32.is refl

pub returns-in-33 : goal.returns-in-33
unfolding power_at exp mul neg of_bits round
returns-in-33 c = at c.in-33.is refl

pub returns-in-34 : goal.returns-in-34
unfolding power_at exp mul neg of_bits round
returns-in-34 c = at c.in-34.is refl

pub returns-in-35 : goal.returns-in-35
unfolding power_at exp mul neg of_bits round
returns-in-35 c = at c.in-35.is refl

pub returns-in-36 : goal.returns-in-36
unfolding power_at exp mul neg of_bits round
returns-in-36 c = at c.in-36.is refl

pub returns-in-37 : goal.returns-in-37
unfolding power_at exp mul neg of_bits round
returns-in-37 c = at c.in-37.is refl

pub returns-in-38 : goal.returns-in-38
unfolding power_at exp mul neg of_bits round
returns-in-38 c = at c.in-38.is refl

pub returns-in-39 : goal.returns-in-39
unfolding power_at exp mul neg of_bits round
returns-in-39 c = at c.in-39.is refl

pub returns-in-40 : goal.returns-in-40
unfolding power_at exp mul neg of_bits round
returns-in-40 c = at c.in-40.is refl

pub returns-in-41 : goal.returns-in-41
unfolding power_at exp mul neg of_bits round
returns-in-41 c = at c.in-41.is refl

pub returns-in-42 : goal.returns-in-42
unfolding power_at exp mul neg of_bits round
returns-in-42 c = at c.in-42.is refl

pub returns-in_default : goal.returns-in_default
unfolding power_at exp mul neg of_bits round
returns-in_default c = let is_43 : c.args.j ≡ 43 = omega arith in at is_43 refl
