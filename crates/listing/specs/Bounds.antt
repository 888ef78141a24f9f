-- What the lines of a listing may count on when they are put into the buffer. Definitions only; no promise of a public function names them.
use Rattle.std.specs.Prelude.{ℕ, ◌+◌, ◌≤◌}
use Rattle.lines.specs.declared.Outcome.{Outcome}
use Rattle.lines.specs.Line.{most}
use Rattle.listing.specs.declared.Walk.{Walk}

-- an outcome on a line of n words, at or after the place that the walk has come to
pub record Within (n : ℕ) (w : Walk) (o : Outcome) : Type 0 where
  pub short : n ≤ most
  pub counted : w.reported + w.refused ≤ o.first
  pub forward : o.first ≤ o.after
  pub inside : o.after ≤ n
