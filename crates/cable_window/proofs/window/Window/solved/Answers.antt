-- `Window::solved` meets its contract: a reply fits, so that its count is a word. Assumes nothing.
use Rattle.cable_window.proofs.Steps.{found_fits}
use Rattle.cable_window.proofs.window.Window.solved.Goals as goal

pub overflow_cast-answer : goal.overflow_cast-answer
overflow_cast-answer c = record { fits = found_fits _ c.in-Ok.ensures }

pub overflow_cast-refused : goal.overflow_cast-refused
overflow_cast-refused c = record { fits = (found_fits _ c.in-Err.ensures).1 }
