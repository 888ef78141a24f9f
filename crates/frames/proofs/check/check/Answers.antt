-- `frames::check::check` meets its contract: the register is the definition's when i bits are fed. Assumes nothing.
use mathlib.Core.Path.{◌≡◌, sym, ap, ◌∙◌}
use native.Mathlib.Omega.{arith}
use Rattle.frames.specs.Steps.{register_at}
use Rattle.frames.proofs.Bytewise.{bit_on, front_fed, check_is}
use Rattle.frames.proofs.check.check.Goals as goal

pub loop-i-init : goal.loop-i-init
loop-i-init c = c.fed_bytes-register.ensures ∙ front_fed _ _ (omega arith)

pub loop-i-preserved : goal.loop-i-preserved
loop-i-preserved c =
    let x = c.bit in
    c.fed-register.ensures ∙ sym (bit_on c.args.b.now c.loop-i.i x.result c.loop-i.register x.ensures.0 c.loop-i.invariant)

pub returns : goal.returns
returns c =
    let l = c.loop-i in
    let a = c.args in
    let e : l.i ≡ a.n = omega arith in
    c.from.ensures ∙ check_is a.b.now a.n l.register (l.invariant ∙ ap (register_at a.b.now) e)
