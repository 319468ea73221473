-- What a function with an allowance hands back where it passes an error of its callee on. Assumes nothing.
use Rattle.std.specs.Prelude.{◌≡◌, ℕ, IsErr}
use Rattle.std.specs.declared.result.Result.{Result}
use Rattle.std.specs.declared.result.Result.TheVariants.{Ok, Err}
use Rattle.arithmetic.specs.Laws.Choices.{never}
use Rattle.inverse_gaussian.specs.Counted.{Metered, spent}
use Rattle.inverse_gaussian.specs.Internal.Searches.{metered}

pub passed_on : {T E R : Type 0} (view : T → R) (r : Result T E) (n : ℕ) {q : Metered R} → IsErr r → spent ≡ q → metered view r n ≡ q
passed_on {T} {E} {R} view r n {q} h e = split r h
  where
    split : (r : Result T E) → IsErr r → metered view r n ≡ q
    split (Ok x) h = never (cc)
    split (Err x) h = e
