-- `field_reader::lists::Entries::any_unused` meets its contract: what the blocks from k on say is what all of them say. Assumes nothing.
use mathlib.Core.Path.{◌≡◌, sym, ap, ◌∙◌}
use Prim.Native.Nat.{◌+◌, ◌*◌}
use native.Mathlib.Omega.{arith}
use Rattle.bits.specs.Bits.{bits_of}
use Rattle.fields.specs.Lists.{block_unused}
use Rattle.field_reader.proofs.Entries.{any_unused_hit, any_unused_miss, any_unused_none}
use Rattle.field_reader.proofs.lists.Entries.any_unused.Goals as goal
use Rattle.field_reader.proofs.lists.Entries.any_unused.Goals.{After-block_unused}

-- what the block at k says
told : (c : After-block_unused) →
    let a = c.args.self.now in
    block_unused (bits_of a.bytes.now (a.before + 8 * c.loop-k.k) 8) ≡ c.block_unused.result
told c =
    ap block_unused (sym c.piece.ensures) ∙ sym c.block_unused.ensures

pub returns-then-block_unused : goal.returns-then-block_unused
returns-then-block_unused c =
    let l = c.loop-k in
    let a = c.args.self.now in
    sym (any_unused_hit a.bytes.now a.before a.n l.k (omega arith) (told ((goal.at.returns-then-block_unused c).After-block_unused) ∙ c.if-block_unused.true)) ∙ l.invariant

pub loop-k-preserved : goal.loop-k-preserved
loop-k-preserved c =
    let l = c.loop-k in
    let a = c.args.self.now in
    sym (any_unused_miss a.bytes.now a.before a.n l.k (omega arith) (told ((goal.at.loop-k-preserved c).After-block_unused) ∙ c.if-block_unused.false)) ∙ l.invariant

pub returns : goal.returns
returns c = sym (any_unused_none _ _ _ _ (omega arith)) ∙ c.loop-k.invariant
