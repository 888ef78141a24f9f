-- `pairs::eight` meets its contract: the part from a place on has all bytes from there. Assumes nothing.
use native.Mathlib.Omega.{arith}
use mathlib.Core.Path.{ap, ◌∙◌}
use mathlib.Core.List.{List}
use Prim.Native.Nat.{ℕ, ◌-◌}
use lib.ListN.{length, drop, length-drop}
use lib.Seq.{take_all}
use Rattle.bits.specs.Bits.{bits_of}
use Rattle.bits.proofs.Laws.{whole}
use Rattle.pairs.proofs.eight.Goals as goal

pub returns : goal.returns
returns c =
    let a = c.args in
    c.read.ensures ∙ whole _ 0 64 (omega arith)
    ∙ ap (λ (l : List ℕ). bits_of l 0 64) (take_all (length a.items.now - a.at) (drop a.at a.items.now) (rw length-drop (omega arith)))
