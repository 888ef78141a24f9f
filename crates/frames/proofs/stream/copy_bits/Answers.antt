-- `frames::stream::copy_bits` meets its contract: k chunks are put, and then the rest. Assumes nothing.
use mathlib.Core.Path.{◌≡◌, refl, ap, ◌∙◌}
use mathlib.Core.List.{List}
use Prim.Native.Nat.{ℕ, ◌+◌, ◌-◌, ◌*◌, ◌/◌, ◌%◌, ◌^◌, ◌≤◌}
use native.Mathlib.Omega.{arith}
use Rattle.bits.specs.Bits.{bits_of, put_bits, Bytes}
use Rattle.frames.specs.Stream.{bits_from, put_all}
use Rattle.frames.proofs.Chunks.{are_bytes, put_more}
use Rattle.frames.proofs.stream.copy_bits.Goals as goal
use Rattle.frames.proofs.stream.copy_bits.Invariants.{Copied}

-- m bits more
more : {s₀ t s : List ℕ} {at from p : ℕ} → Copied s₀ at t from s p → Bytes s₀ → (m r : ℕ) (next : List ℕ) → m ≤ 64
    → r ≡ bits_of t (from + p) m % 2 ^ 64 → next ≡ put_bits s (at + p) m r → Copied s₀ at t from next (p + m)
more {s₀} {t} {s} {at} {from} {p} d b m r next h e put =
    record { is = put ∙ ap (λ (x : List ℕ). put_bits x (at + p) m r) d.is ∙ put_more s₀ t at from p m r b h e }

pub loop-k-init : goal.loop-k-init
unfolding bits_from put_all
loop-k-init c = record { is = refl }

pub loop-k-preserved : goal.loop-k-preserved
loop-k-preserved c =
    let l = c.loop-k in
    let e : l.k * 56 + 56 ≡ (l.k + 1) * 56 = omega arith in
    rw e at (more l.invariant (are_bytes c.args.s.now (λ j. grind arith)) 56 c.read.result _ (omega arith) c.read.ensures c.write.ensures)

pub returns : goal.returns
returns c =
    let l = c.loop-k in
    let n = c.args.n in
    let k : l.k ≡ n / 56 = omega arith in
    let e : n / 56 * 56 + (n - n / 56 * 56) ≡ n = omega arith in
    let d = more (rw k at l.invariant) (are_bytes c.args.s.now (λ j. grind arith)) (n - n / 56 * 56) c.read-2.result _ (omega arith) c.read-2.ensures c.write-2.ensures in
    rw e at d.is
