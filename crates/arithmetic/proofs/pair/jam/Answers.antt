-- `pair::jam` meets its contract, by `jam_word` and `jam_word_far`. Assumes nothing.
use Rattle.std.proofs.Common.{ℕ, ◌+◌, ◌*◌, ◌/◌, ◌%◌, ◌^◌, ap, ◌∙◌, rules}
use Rattle.arithmetic.proofs.Pairs.{jam_word, jam_word_far}
use Rattle.arithmetic.proofs.pair.jam.Goals as goal

pub returns-then-d-lt-WORD : goal.returns-then-d-lt-WORD
returns-then-d-lt-WORD c =
    let a = c.args in
    ap (λ (m : ℕ). a.n / 2 ^ a.d / 2 * 2 % 2 ^ 64 + m) c.min.ensures ∙ jam_word a.n a.d (search rules) c.if-d-lt-WORD.true

pub returns-else-d-lt-WORD : goal.returns-else-d-lt-WORD
returns-else-d-lt-WORD c = let a = c.args in c.min-else-d-lt-WORD.ensures ∙ jam_word_far a.n a.d (search rules) c.if-d-lt-WORD.false
