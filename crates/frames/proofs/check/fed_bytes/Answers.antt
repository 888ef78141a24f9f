-- `frames::check::fed_bytes` meets its contract: the register is the definition's when so many bytes are fed. Assumes nothing.
use mathlib.Core.Path.{refl, sym, ◌∙◌}
use native.Mathlib.Omega.{arith}
use Rattle.frames.specs.Stream.{bits_from, number}
use Rattle.frames.specs.Check.{feed}
use Rattle.frames.proofs.Bytewise.{byte_on}
use Rattle.frames.proofs.check.fed_bytes.Goals as goal

pub loop-byte-init : goal.loop-byte-init
unfolding bits_from feed number
loop-byte-init c = refl

pub loop-byte-preserved : goal.loop-byte-preserved
loop-byte-preserved c =
    let l = c.loop-byte in
    c.fed_byte-register.ensures ∙ sym (byte_on c.args.b.now l.byte-index _ l.register refl (omega (arith, c.type_inv.b l.byte-index)) l.invariant)
