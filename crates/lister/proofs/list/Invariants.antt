-- `lister::list`: the lines in the text stay within it.
use Rattle.std.proofs.Common.{◌≤◌, length}
use Rattle.lister.proofs.list.Given as goal

abbrev pub invariant-loop : goal.invariant-loop
invariant-loop l = l.at ≤ length l.text
