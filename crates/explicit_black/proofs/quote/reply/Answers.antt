-- `quote::reply` meets its contract at an answer. Assumes nothing.
use Rattle.explicit_black.proofs.Allowed.{answers}
use Rattle.explicit_black.proofs.quote.reply.Goals as goal

pub returns-in-Ok : goal.returns-in-Ok
returns-in-Ok c = rw c.left-count.ensures (λ d e. answers _ _ _ _ _ d (rw c.in-Ok.is at e) c.volatility.ensures)
