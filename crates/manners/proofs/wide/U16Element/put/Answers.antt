-- A breach is stored in two numbers: its place, and its rule's number. Assumes nothing.
use Rattle.std.proofs.Common.{ap, ◌∙◌, ◌+◌, ◌*◌, ℕ, set, arith}
use Rattle.manners.specs.Breaches.{numbers_of}
use Rattle.manners.proofs.Stored.{two_stores}
use Rattle.manners.proofs.wide.U16Element.put.Goals as goal

pub returns : goal.returns
unfolding numbers_of
returns c =
    let a = c.args in
    let l = a.list.now in
    let room = c.requires.room in
    ap (λ (n : ℕ). set (set l (a.k * 2) a.place) (a.k * 2 + 1) n) c.from.ensures ∙ two_stores l (a.k * 2) a.place _ (omega arith)
