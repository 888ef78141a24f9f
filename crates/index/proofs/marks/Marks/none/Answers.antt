-- `index::marks::Marks::none` meets its contract: words of zeros have no mark. Assumes nothing.
use Rattle.index.proofs.Twice.{none_yet}
use Rattle.index.proofs.marks.Marks.none.Goals as goal

pub returns : goal.returns
returns c = none_yet 1024
