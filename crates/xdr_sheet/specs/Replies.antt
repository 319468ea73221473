-- What the code's replies stand for in the types of the definitions (REQUIREMENTS 13.4), and the terms that it reads. Definitions only.
use Rattle.std.specs.Prelude.{ℕ, ◌+◌, List, Option, Some, None, Result, Ok, Err}
use Rattle.explicit_black.specs.declared.quote.Answer.{Answer}
use Rattle.explicit_black.specs.declared.refusal.Refused.{Refused}
use Rattle.explicit_black.specs.declared.terms.OptionTerms.{OptionTerms}
use Rattle.explicit_black.specs.Refusal.{number}
use Rattle.explicit_black.specs.Replies.{view_reply}
use Rattle.xdr_sheet.specs.Xdr.{unsigned, double}
use Rattle.xdr_sheet.specs.Sheet.{forward_at, strike_at, time_at, Size, quotes, refused, SheetReply, replied, no_quote}

abbrev pub view_size : Result ℕ Refused → Size
view_size (Ok n) = quotes n
view_size (Err r) = refused (number r.refusal) r.count

abbrev pub view_sheet_reply : Option (Result Answer Refused) → SheetReply
view_sheet_reply (Some r) = replied (view_reply r)
view_sheet_reply None = no_quote

-- the side and figures of the record that starts at `at`, but for its price or volatility
abbrev pub terms_at : List ℕ → ℕ → OptionTerms
terms_at s at = record {
  side = unsigned s at;
  forward = double s (at + forward_at);
  strike = double s (at + strike_at);
  time = double s (at + time_at);
}
