-- `line_reader::line::seek` meets its contract: up to the word at i the search did not stop. Assumes nothing.
use Rattle.std.proofs.Common.{ℕ, Bool}
use Rattle.line_reader.specs.Places.{Decides}
use Rattle.line_reader.proofs.Searches.{Going}
use Rattle.line_reader.proofs.line.seek.Given as goal

abbrev pub invariant-loop-i : goal.invariant-loop-i
invariant-loop-i g l = (stop : ℕ → Bool) → Decides (goal.F-post g l.stops) stop → Going (g.L.Line.held l.line) l.from l.to stop l.i
