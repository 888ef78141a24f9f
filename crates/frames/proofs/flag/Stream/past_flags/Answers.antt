-- `frames::flag::Stream::past_flags` meets its contract: what lies behind the flags from p on lies behind those from the place on. Assumes nothing.
use mathlib.Core.Path.{sym, ◌∙◌}
use native.Mathlib.Omega.{arith}
use Rattle.frames.proofs.Flagged.{flag_room, past_none, past_one}
use Rattle.frames.proofs.flag.Stream.past_flags.Goals as goal

pub overflow_add-p : goal.overflow_add-p
overflow_add-p c = omega (arith, flag_room _ _ _ (sym c.flag_at.ensures ∙ c.loop-p-test.true))

pub loop-p-smaller : goal.loop-p-smaller
loop-p-smaller c = omega (arith, flag_room _ _ _ (sym c.flag_at.ensures ∙ c.loop-p-test.true))

pub loop-p-preserved : goal.loop-p-preserved
loop-p-preserved c =
    let h = sym c.flag_at.ensures ∙ c.loop-p-test.true in
    (omega arith, omega (arith, flag_room _ _ _ h), sym (past_one _ _ _ h) ∙ c.loop-p.invariant.2)

pub returns : goal.returns
returns c =
    let l = c.loop-p in
    (l.invariant.0, l.invariant.1, sym (past_none _ (sym c.flag_at.ensures ∙ c.loop-p-test.false)) ∙ l.invariant.2)
