-- `report_items::given::agrees` meets its contract: what is left to test says what all the tests say, and so many are counted. Assumes nothing.
use mathlib.Core.Path.{◌≡◌}
use Prim.Native.Nat.{◌+◌, ◌-◌, ◌≤◌}
use Rattle.report_items.specs.Items.{last}
use Rattle.report_items.specs.Given.{item_gathered}
use Rattle.report_items.proofs.Tally.{tally_to, stand_to}
use Rattle.report_items.proofs.given.agrees.Given as goal

abbrev pub invariant-loop-n : goal.invariant-loop-n
invariant-loop-n l = record {
  few : l.count + (l.n - 1) ≤ last;
  stood : stand_to (l.n - 1) l.report (item_gathered l.v.0) ≡ stand_to last l.report (item_gathered l.v.0);
  counted : l.count + tally_to (l.n - 1) (item_gathered l.v.0) ≡ tally_to last (item_gathered l.v.0);
}
