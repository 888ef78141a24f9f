-- `line_reader::line::seek_far` meets its contract: without a word to pass it ends where it began. Assumes nothing.
use Rattle.std.proofs.Common.{arith}
use Rattle.line_reader.proofs.Searches.{not_gone, stops_at_end}
use Rattle.line_reader.proofs.line.seek_far.Goals as goal

pub returns-then-from-to-clause-ended : goal.returns-then-from-to-clause-ended
returns-then-from-to-clause-ended g c stop d = stops_at_end (not_gone c.requires.range.0) (let e = c.if-from-to.true in omega arith)
