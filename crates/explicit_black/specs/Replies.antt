-- Which number and values each case of an entry's reply stands for (REQUIREMENTS 13.4): the entries' contracts speak through it. Definitions only.
use Rattle.std.specs.Prelude.{ℕ, Float, Result, Ok, Err}
use Rattle.explicit_black.specs.declared.quote.Answer.{Answer}
use Rattle.explicit_black.specs.declared.refusal.Refusal.{Refusal}
use Rattle.explicit_black.specs.declared.refusal.Refused.{Refused}
use Rattle.explicit_black.specs.Refusal.{number}
use Rattle.explicit_black.specs.Quote.{Reply, answer, refusal}
use Rattle.explicit_black.specs.Price.{PriceReply, price, refusal as refusal_of_price}

-- an answer's total volatility, volatility and count; a refusal's number and count
abbrev pub view_reply : Result Answer Refused → Reply
view_reply (Ok a) = answer a.total a.volatility a.count
view_reply (Err r) = refusal (number r.refusal) r.count

-- a price; a refusal's number and count
abbrev pub view_price_reply : Result Float Refused → PriceReply
view_price_reply (Ok p) = price p
view_price_reply (Err r) = refusal_of_price (number r.refusal) r.count

-- the number of the first test that applies, or 0
abbrev pub view_refusal : Result Unit Refusal → ℕ
view_refusal (Ok _) = 0
view_refusal (Err r) = number r
