-- `frames::inserted::Filled::put_run` meets its contract: the run of the bits that were read is one of the bits that are there. Assumes nothing.
use mathlib.Core.Path.{ap, ◌∙◌}
use native.Mathlib.Omega.{arith}
use Rattle.bits.specs.Bits.{put_bits}
use Rattle.bits.proofs.Laws.{bits_of-lt, whole}
use Rattle.frames.proofs.Runs.{run_there}
use Rattle.frames.proofs.inserted.Filled.put_run.Goals as goal

pub invariant_of-run : goal.invariant_of-run
invariant_of-run g c =
    let m = c.min-count.ensures in
    record {
      in_range = (c.requires.1, omega (arith, c.requires.0, m), omega (arith, m), rw (c.read-bits.ensures ∙ whole _ _ _ (omega (arith, m))) (bits_of-lt _ _ _));
    }

pub returns : goal.returns
returns g c =
    let r = c.run-run.ensures in
    let m = c.min-count.ensures in
    let there = run_there c.args.b.now c.args.p c.args.ones c.min-count.result c.read-bits.result _ _ (omega (arith, m)) c.read-bits.ensures r in
    record {
      some = r.some;
      within = omega (arith, m, r.within);
      few = r.few;
      passes = there.1;
      put = c.put.ensures.0 ∙ ap (put_bits c.args.self.now.bytes c.args.self.now.count c.run-run.result.bits) there.0;
      counted = c.put.ensures.1;
    }
