-- `y_prime_tail_expansion_rational_function_part_plus_1` meets its contract: what each call ensures is the definition's. Assumes nothing.
use Rattle.std.specs.Float.Ieee.{neg, of_bits}
use Rattle.bs_option_price.specs.BsOptionPrice.{y_prime_tail_expansion_rational_function_part_plus1}
use Rattle.bs_option_price.proofs.y_prime_tail_expansion_rational_function_part_plus_1.Goals as goal

pub returns : goal.returns
unfolding y_prime_tail_expansion_rational_function_part_plus1 neg of_bits
returns c = rw (c.mul_add2_sel.ensures, c.at.ensures)
