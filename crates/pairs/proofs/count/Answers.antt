-- `pairs::count` meets its contract. Assumes nothing.
use mathlib.Core.Path.{sym}
use Rattle.pairs.proofs.Laws.{length-pairs_in}
use Rattle.pairs.proofs.count.Goals as goal

pub returns : goal.returns
returns c = sym (length-pairs_in _)
