-- `fields::parts::faults_by` meets its contract: what was seen before i or is found from i on is what all parts say. Assumes nothing.
use Rattle.std.proofs.Common.{◌≡◌, ◌-◌, ◌||◌, map}
use Rattle.fields.specs.Numbers.{part_rule_number}
use Rattle.fields.specs.Steps.{fault_within}
use Rattle.fields.proofs.parts.faults_by.Given as goal

abbrev pub invariant-loop-i : goal.invariant-loop-i
invariant-loop-i l = record {
  spare : (l.found.spare || fault_within 1 l.widths (map part_rule_number l.rules) l.v (11 - l.i) l.i) ≡ fault_within 1 l.widths (map part_rule_number l.rules) l.v 11 0;
  unused : (l.found.unused || fault_within 2 l.widths (map part_rule_number l.rules) l.v (11 - l.i) l.i) ≡ fault_within 2 l.widths (map part_rule_number l.rules) l.v 11 0;
}
