-- `Pair::jam` meets its contract, by `jam_pair` and `jam_pair_far`. Assumes nothing.
use Rattle.std.proofs.Common.{ℕ, ◌+◌, ◌-◌, ◌*◌, ◌/◌, ◌%◌, ◌^◌, ap, ◌∙◌, rules}
use lib.Bits.{bit_or}
use Rattle.arithmetic.specs.Internal.Pair.{val, jammed}
use Rattle.arithmetic.proofs.Pairs.{val_lt, jam_pair, jam_pair_far}
use Rattle.arithmetic.proofs.pair.Pair.jam.Goals as goal

pub returns-then-d-lt-WORD : goal.returns-then-d-lt-WORD
returns-then-d-lt-WORD c =
    let a = c.args.self in
    let d = c.args.d in
    c.from-then-d-lt-WORD-2.ensures
    ∙ ap (λ (n : ℕ). n / 2 ^ d / 2 * 2 % 2 ^ 128 + c.from-then-d-lt-WORD.result) c.from.ensures
    ∙ ap (λ (m : ℕ). val a / 2 ^ d / 2 * 2 % 2 ^ 128 + m) (c.from-then-d-lt-WORD.ensures ∙ c.min.ensures)
    ∙ jam_pair a.hi a.lo (search rules) d (val_lt a (search rules) (search rules)) c.if-d-lt-WORD.true

pub returns-else-d-lt-WORD : goal.returns-else-d-lt-WORD
returns-else-d-lt-WORD c =
    let a = c.args.self in
    let d = c.args.d in
    c.from-else-d-lt-WORD.ensures
    ∙ c.jam.ensures
    ∙ ap (λ (m : ℕ). jammed (bit_or a.hi m) (d - 64)) c.min-else-d-lt-WORD.ensures
    ∙ jam_pair_far a.hi a.lo (search rules) d c.if-d-lt-WORD.false
