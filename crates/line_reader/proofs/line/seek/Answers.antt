-- `line_reader::line::seek` meets its contract: up to the word at i the search did not stop. Assumes nothing.
use Rattle.std.proofs.Common.{arith}
use Rattle.line_reader.proofs.Searches.{goes_on, stops_there}
use Rattle.line_reader.proofs.line.seek.Goals as goal

pub returns-then-stops-clause-ended : goal.returns-then-stops-clause-ended
returns-then-stops-clause-ended g c stop d =
    stops_there (c.loop-i.invariant stop d) (omega arith) c.word.ensures (d _ _ (omega arith) c.stops.ensures) c.if-stops.true

pub loop-i-preserved : goal.loop-i-preserved
loop-i-preserved g c stop d =
    goes_on (c.loop-i.invariant stop d) (omega arith) (omega arith) c.word.ensures (d _ _ (omega arith) c.stops.ensures) c.if-stops.false
