-- For the inner functions of src/place.rt; the entry's contract cites none of these. Definitions only.
use Rattle.std.specs.Prelude.{Float}
use Rattle.arithmetic.specs.Operations.{◌⊗◌}
use Rattle.arithmetic.specs.Sqrt.{sqrt}
use Rattle.bs_option_price.specs.BsOptionPrice.{negative_abs_log_moneyness}
use Rattle.explicit_black.specs.Quote.{Reply, reply, normalised_time_value, from_time_value}

-- the reply where tests 1 to 6 decide nothing
abbrev pub open_reply : Float → Float → Float → Float → Float → Reply
open_reply forward time price intrinsic strike =
    reply time (from_time_value (negative_abs_log_moneyness forward strike) (normalised_time_value price intrinsic (sqrt forward ⊗ sqrt strike)))
