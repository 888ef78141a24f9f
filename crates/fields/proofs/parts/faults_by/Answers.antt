-- `fields::parts::faults_by` meets its contract: what was seen before i or is found from i on is what all parts say. Assumes nothing.
use Rattle.std.proofs.Common.{◌≡◌, ◌-◌, get_or, map, sym, ap, ◌∙◌, arith}
use Rattle.std.proofs.Math.ListN.{get_or-map}
use Rattle.fields.specs.declared.Rule.TheVariants.{Any}
use Rattle.fields.specs.Table.{fault_of}
use Rattle.fields.specs.Numbers.{part_rule_number, fault_number}
use Rattle.fields.specs.declared.Faults.{Faults}
use Rattle.fields.proofs.Values.{within_next, within_stop, within_none, noted, noted_is}
use Rattle.fields.proofs.parts.faults_by.Goals as goal
use Rattle.fields.proofs.parts.faults_by.Goals.{in-None, in-Some-Spare, in-Some-Unused}

pub returns-then-width-eq0 : goal.returns-then-width-eq0
returns-then-width-eq0 c =
    let l = c.loop-i in
    let a = c.args in
    let rs = map part_rule_number a.rules.now in
    let s = sym (within_stop 1 a.widths.now rs a.v.now (11 - l.i) l.i l.found.spare c.if-width-eq0.true) ∙ l.invariant.spare in
    let u = sym (within_stop 2 a.widths.now rs a.v.now (11 - l.i) l.i l.found.unused c.if-width-eq0.true) ∙ l.invariant.unused in
    rw (← s, ← u)

pub loop-i-preserved : goal.loop-i-preserved
loop-i-preserved c =
    let l = c.loop-i in
    let a = c.args in
    let ws = a.widths.now in
    let rs = map part_rule_number a.rules.now in
    let vs = a.v.now in
    let n : c.match-fault.found ≡ noted l.found c.fault.result =
    elim c.match-fault.branch [ in-None w ↦ rw w.in-None.is w.found-is | in-Some-Spare w ↦ rw (w.in-Some-Spare.is, w.in-Some-Spare.field-0-is) w.found-is | in-Some-Unused w ↦ rw (w.in-Some-Unused.is, w.in-Some-Unused.field-0-is) w.found-is ] in
    let f : fault_number c.fault.result ≡ fault_of (get_or rs l.i 0) (get_or vs l.i 0) = rw (get_or-map part_rule_number a.rules.now l.i Any) c.fault.ensures in
    let k = noted_is l.found c.fault.result in
    let s = ap (λ (x : Faults). x.spare) n ∙ k.0 in
    let u = ap (λ (x : Faults). x.unused) n ∙ k.1 in
    record {
      spare = sym (within_next 1 ws rs vs _ _ l.i l.found.spare _ _ (omega arith) c.if-width-eq0.false f s) ∙ l.invariant.spare;
      unused = sym (within_next 2 ws rs vs _ _ l.i l.found.unused _ _ (omega arith) c.if-width-eq0.false f u) ∙ l.invariant.unused;
    }

pub returns : goal.returns
returns c =
    let l = c.loop-i in
    let a = c.args in
    let rs = map part_rule_number a.rules.now in
    let s = sym (within_none 1 a.widths.now rs a.v.now (11 - l.i) l.i l.found.spare (omega arith)) ∙ l.invariant.spare in
    let u = sym (within_none 2 a.widths.now rs a.v.now (11 - l.i) l.i l.found.unused (omega arith)) ∙ l.invariant.unused in
    rw (← s, ← u)
