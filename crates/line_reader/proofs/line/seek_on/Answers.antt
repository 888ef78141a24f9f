-- `line_reader::line::seek_on` meets its contract: where the search does not stop at the first word, it goes on behind it. Assumes nothing.
use Rattle.std.proofs.Common.{arith}
use Rattle.line_reader.proofs.Searches.{not_gone, goes_on, stops_there, stops_at_end, ended_on}
use Rattle.line_reader.proofs.line.seek_on.Goals as goal

pub returns-then-from-to-clause-ended : goal.returns-then-from-to-clause-ended
returns-then-from-to-clause-ended g c stop d = stops_at_end (not_gone c.requires.range.0) (let e = c.if-from-to.true in omega arith)

pub returns-then-stops-clause-ended : goal.returns-then-stops-clause-ended
returns-then-stops-clause-ended g c stop d =
    stops_there (not_gone c.requires.range.0) (omega arith) c.word.ensures (d _ _ (omega arith) c.stops.ensures) c.if-stops.true

pub returns-clause-ended : goal.returns-clause-ended
returns-clause-ended g c stop d =
    ended_on (goes_on (not_gone c.requires.range.0) (omega arith) (omega arith) c.word.ensures (d _ _ (omega arith) c.stops.ensures) c.if-stops.false)
    (c.seek_apart.ensures.ended stop d)
