-- The number of each refusal (REQUIREMENTS 5.1). Definitions only.
use Rattle.std.specs.Prelude.{ℕ}
use Rattle.explicit_black.specs.declared.refusal.Refusal.{Refusal}
use Rattle.explicit_black.specs.declared.refusal.Refusal.TheVariants.{UnknownSide, NotFinite, NotPositive, NegativeTime, PriceAtExpiry, AboveBound}
use Rattle.explicit_black.specs.declared.refusal.Refusal.TheVariants.{BelowIntrinsic, AboveNormalisedBound, NoVolatility, MalformedSheet}
use Rattle.explicit_black.specs.declared.refusal.Refusal.TheVariants.{NegativeVolatility, UnequalLengths, TooManyStrikes, UnwritableOffset}
use Rattle.explicit_black.specs.declared.refusal.Refusal.TheVariants.{FactorNotPositive}

abbrev pub number : Refusal → ℕ
number UnknownSide = 1
number NotFinite = 2
number NotPositive = 3
number NegativeTime = 4
number PriceAtExpiry = 5
number AboveBound = 6
number BelowIntrinsic = 7
number AboveNormalisedBound = 8
number NoVolatility = 9
number MalformedSheet = 10
number NegativeVolatility = 11
number UnequalLengths = 12
number TooManyStrikes = 13
number UnwritableOffset = 14
number FactorNotPositive = 15
