-- A breach is stored in four bytes: those of its place, and those of its rule's number. Assumes nothing.
use Rattle.std.proofs.Common.{ℕ, ◌+◌, ◌*◌, ◌/◌, ◌%◌, ap, ◌∙◌, [], ◌∷◌, get_or, set, arith}
use Rattle.lines.specs.Bytes.{bytes_of}
use Rattle.manners.specs.Breaches.{numbers_of}
use Rattle.manners.proofs.Stored.{four_stores}
use Rattle.manners.proofs.bytes.U8Element.put.Goals as goal

pub returns : goal.returns
unfolding numbers_of bytes_of
returns c =
    let l = c.args.list.now in
    let at = c.args.k * 4 in
    let p = c.to_be_bytes.ensures in
    let r = c.to_be_bytes-2.ensures ∙ ap (λ (n : ℕ). n / 256 % 256 ∷ n % 256 ∷ []) c.from.ensures in
    let room = c.requires.room in
    (λ i. set (set (set (set l at (get_or (p i) 0 0)) (at + 1) (get_or (p i) 1 0)) (at + 2) (get_or (r i) 0 0)) (at + 3) (get_or (r i) 1 0))
    ∙ four_stores l at _ _ _ _ (omega arith)
