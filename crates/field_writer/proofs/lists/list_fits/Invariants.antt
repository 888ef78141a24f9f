-- `field_writer::lists::list_fits` meets its contract: what the numbers from k on say is what all of them say. Assumes nothing.
use mathlib.Core.Path.{◌≡◌}
use Prim.Native.Nat.{◌-◌}
use lib.ListN.{drop}
use Rattle.fields.specs.Lists.{list_fits}
use Rattle.field_writer.proofs.lists.list_fits.Given as goal

abbrev pub invariant-loop-k : goal.invariant-loop-k
invariant-loop-k l = list_fits l.step (l.n - l.k) (drop l.k l.list) ≡ list_fits l.step l.n l.list
