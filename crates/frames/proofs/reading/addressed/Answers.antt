-- `frames::reading::addressed` meets its contract: the first eight bits tell the address. Assumes nothing.
use mathlib.Core.Path.{◌≡◌, sym, ap, ◌∙◌}
use native.Mathlib.Omega.{arith}
use Rattle.bits.specs.Bits.{bits_of}
use Rattle.bits.proofs.Laws.{whole}
use Rattle.frames.specs.Reading.{found_at}
use Rattle.frames.proofs.Judging.{to_the_sensor, from_the_sensor, neither}
use Rattle.frames.proofs.reading.addressed.Goals as goal

pub returns-in-192 : goal.returns-in-192
returns-in-192 c = c.frame.ensures ∙ ap (found_at _) (to_the_sensor _ _ (omega arith) (sym (c.read.ensures ∙ whole _ _ 8 (omega arith)) ∙ c.in-192.is))

pub returns-in-128 : goal.returns-in-128
returns-in-128 c = c.frame-in-128.ensures ∙ ap (found_at _) (from_the_sensor _ _ (omega arith) (sym (c.read.ensures ∙ whole _ _ 8 (omega arith)) ∙ c.in-128.is))

pub returns-in_default : goal.returns-in_default
returns-in_default c =
    let e : c.read.result ≡ bits_of c.args.body.now.bytes 0 8 = c.read.ensures ∙ whole _ _ 8 (omega arith) in
    c.nothing.ensures ∙ ap (found_at _) (neither _ _ (omega arith) (λ h. omega (arith, e, h)) (λ h. omega (arith, e, h)))
