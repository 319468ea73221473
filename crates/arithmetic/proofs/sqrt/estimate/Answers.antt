-- `sqrt::estimate` is safe: each product is of two numbers of 32 bits. Assumes nothing.
use Rattle.std.proofs.Common.{ℕ, ◌*◌, ◌/◌, ◌^◌, ◌<◌, arith, shr_lt, w64, Fits}
use Rattle.arithmetic.specs.Laws.Numbers.{mul_lt_pow}
use Rattle.arithmetic.proofs.sqrt.estimate.Goals as goal

of-halves : {a b : ℕ} → a < 2 ^ 32 → b < 2 ^ 32 → Fits w64 (a * b)
of-halves A B = let p = mul_lt_pow 32 32 A B in omega (arith, p)

pub overflow_mul-h4 : goal.overflow_mul-h4
overflow_mul-h4 c =
    let square : c.high-u2.result / 2 ^ 32 < 2 ^ 32 = shr_lt 32 32 c.high-u2.type_inv in
    of-halves square square

pub overflow_mul-t4 : goal.overflow_mul-t4
overflow_mul-t4 c = of-halves (omega arith) (omega arith)

pub overflow_mul-t5 : goal.overflow_mul-t5
overflow_mul-t5 c =
    let square : c.high-u2.result / 2 ^ 32 < 2 ^ 32 = shr_lt 32 32 c.high-u2.type_inv in
    let fourth : (let h2 = c.high-u2.result / 2 ^ 32 in h2 * h2 / 2 ^ 32 < 2 ^ 32) = shr_lt 32 32 (mul_lt_pow 32 32 square square) in
    of-halves (omega arith) fourth

pub overflow_mul-t6 : goal.overflow_mul-t6
overflow_mul-t6 c =
    let square : c.high-u2.result / 2 ^ 32 < 2 ^ 32 = shr_lt 32 32 c.high-u2.type_inv in
    let fourth : (let h2 = c.high-u2.result / 2 ^ 32 in h2 * h2 / 2 ^ 32 < 2 ^ 32) = shr_lt 32 32 (mul_lt_pow 32 32 square square) in
    of-halves (omega arith) fourth
