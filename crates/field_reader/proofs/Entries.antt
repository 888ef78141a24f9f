-- Laws of the entries that are read: the next of them, and the rest.
-- Assumes nothing.
use mathlib.Core.Path.{◌≡◌, refl, ap, ◌∙◌}
use mathlib.Core.List.{List, [], ◌∷◌}
use mathlib.Core.Bool.{Bool, true, false, ◌||◌}
use Prim.Native.Nat.{ℕ, suc, ◌+◌, ◌-◌, ◌*◌, ◌≤◌, ◌<◌}
use native.Mathlib.Decide.{dec_lt}
use native.Mathlib.Omega.{arith}
use lib.IntN.{ℤ}
use lib.ListN.{replicate}
use borrow.Author.Tests.{lt-ltb, le-ltb}
use Rattle.bits.specs.Bits.{bits_of}
use Rattle.fields.specs.Table.{values_of}
use Rattle.fields.specs.Lists.{block_unused, any_unused, entries_in}
use Rattle.fields.proofs.Entries.{next}
use Rattle.field_reader.specs.Lists.{entry_at}

-- of n entries from k on: the one at k, and the rest
values_step : (s : List ℕ) (a step n k : ℕ) → k < n →
    values_of s (a + step * k) (replicate (n - k) step) ≡ bits_of s (a + step * k) step ∷ values_of s (a + step * (k + 1)) (replicate (n - (k + 1)) step)
unfolding values_of
values_step s a step n k h =
    let e : n - k ≡ suc (n - (k + 1)) = omega arith in
    rw (e, next a step k) refl

values_none : (s : List ℕ) (a step n k : ℕ) → n ≤ k → values_of s a (replicate (n - k) step) ≡ []
unfolding values_of
values_none s a step n k h =
    let e : n - k ≡ 0 = omega arith in
    rw e refl

any_unused_step : (s : List ℕ) (a n k : ℕ) → k < n →
    any_unused (values_of s (a + 8 * k) (replicate (n - k) 8)) ≡ (block_unused (bits_of s (a + 8 * k) 8) || any_unused (values_of s (a + 8 * (k + 1)) (replicate (n - (k + 1)) 8)))
unfolding any_unused
any_unused_step s a n k h = rw (values_step s a 8 n k h) refl

pub any_unused_hit : (s : List ℕ) (a n k : ℕ) → k < n → block_unused (bits_of s (a + 8 * k) 8) ≡ true → any_unused (values_of s (a + 8 * k) (replicate (n - k) 8)) ≡ true
any_unused_hit s a n k h u =
    any_unused_step s a n k h ∙ ap (λ (t : Bool). t || any_unused (values_of s (a + 8 * (k + 1)) (replicate (n - (k + 1)) 8))) u

pub any_unused_miss : (s : List ℕ) (a n k : ℕ) → k < n → block_unused (bits_of s (a + 8 * k) 8) ≡ false →
    any_unused (values_of s (a + 8 * k) (replicate (n - k) 8)) ≡ any_unused (values_of s (a + 8 * (k + 1)) (replicate (n - (k + 1)) 8))
any_unused_miss s a n k h u =
    any_unused_step s a n k h ∙ ap (λ (t : Bool). t || any_unused (values_of s (a + 8 * (k + 1)) (replicate (n - (k + 1)) 8))) u

pub any_unused_none : (s : List ℕ) (a n k : ℕ) → n ≤ k → any_unused (values_of s a (replicate (n - k) 8)) ≡ false
unfolding any_unused
any_unused_none s a n k h = rw (values_none s a 8 n k h) refl

-- what is left of the list at entry k
abbrev pub rest : List ℕ → ℕ → ℕ → ℕ → ℕ → List ℤ
rest s a step n k = entries_in step (30 - k) (values_of s (a + step * k) (replicate (n - k) step))

pub rest_step : (s : List ℕ) (a step n k : ℕ) → k < 30 → rest s a step n k ≡ entry_at s a step n k ∷ rest s a step n (k + 1)
unfolding entries_in entry_at
rest_step s a step n k h = go (dec_lt k n)
  where
    room : 30 - k ≡ suc (30 - (k + 1))
    room = omega arith

    go : Dec (k < n) → rest s a step n k ≡ entry_at s a step n k ∷ rest s a step n (k + 1)
    go (yes l) = rw (room, values_step s a step n k l, lt-ltb k n l) refl
    go (no l) =
        rw (room, values_none s (a + step * k) step n k (omega arith), values_none s (a + step * (k + 1)) step n (k + 1) (omega arith), le-ltb k n (omega arith))
        refl
