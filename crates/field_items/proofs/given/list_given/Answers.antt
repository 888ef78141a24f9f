-- `field_items::given::list_given` meets its contract: each number passed stands in the array. Assumes nothing.
use mathlib.Core.Path.{◌≡◌, ap, ◌∙◌}
use mathlib.Core.List.{List}
use Prim.Native.Nat.{ℕ, ◌+◌, ◌*◌, ◌<◌}
use native.Mathlib.Nat.{zero-add}
use native.Mathlib.Omega.{arith}
use lib.IntN.{ℤ, pos}
use lib.ListN.{length, get_or, set, length-set}
use mir.Syntax.{w32}
use mir.Val.{to_z, of_z}
use mir.Facts.{to_z-of_z}
use Rattle.std.proofs.lemmas.List.Edits.{fill_by_more}
use Rattle.bits.specs.Bits.{bits_of}
use Rattle.bits.proofs.Laws.{whole}
use Rattle.field_items.specs.Given.{signed_of}
use Rattle.field_items.proofs.Laws.{numbers_by}
use Rattle.field_items.proofs.given.list_given.Goals as goal

-- one more number
step : (f : ℕ → ℤ) (xs : List ℤ) (i : ℕ) (x : ℤ) → x ≡ f i → i < length xs → ((j : ℕ) → j < i → get_or xs j (pos 0) ≡ f j) → (j : ℕ) → j < i + 1 → get_or (set xs i x) j (pos 0) ≡ f j
step f xs i x e l h j k = rw e (fill_by_more f xs i (pos 0) l h j k)

pub loop-k-preserved : goal.loop-k-preserved
loop-k-preserved c =
    let l = c.loop-k in
    let b = c.args.list.now in
    let e : to_z w32 (of_z w32 c.signed.result) ≡ signed_of (bits_of b (64 * l.k) 64) =
    to_z-of_z {w = w32} (record { sfits = c.signed.type_inv }) ∙ c.signed.ensures ∙ ap signed_of (c.read.ensures ∙ whole _ _ _ (omega arith)) in
    record {
      thirty = simp length-set l.invariant.thirty;
      passed = step (λ (j : ℕ). signed_of (bits_of b (64 * j) 64)) l.x-items l.k _ e (omega arith) l.invariant.passed;
    }

pub returns : goal.returns
returns c =
    let l = c.loop-k in
    numbers_by c.args.list.now l.x-items 0 30 l.invariant.thirty (λ j k. rw zero-add (l.invariant.passed j (omega arith)))
