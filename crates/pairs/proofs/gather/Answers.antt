-- `pairs::gather` meets its contract: what is found among the pairs behind those that are left. Assumes nothing.
use Rattle.std.specs.Prelude.{None, Option, Some}
use borrow.Author.Rules.{rules}
use native.Mathlib.Omega.{arith}
use mathlib.Core.Path.{◌≡◌, refl, sym, ap, ◌∙◌}
use mathlib.Core.List.{List, [], ◌∷◌, ◌++◌}
use Prim.Native.Nat.{ℕ, suc, ◌+◌, ◌-◌, ◌*◌, ◌/◌, ◌≤◌}
use lib.ListN.{length, drop, take, set, replicate}
use lib.Seq.{drop-drop}
use Rattle.std.proofs.lemmas.List.{length_push, same_from_push}
use Rattle.std.specs.Simd.{first_chunks}
use Rattle.pairs.specs.Pairs.{Pair, eight, pairs, pairs_in, find_in, each_from, gathered_from, Slot, slots}
use Rattle.pairs.proofs.Laws.{pairs_before, eight_within, chunks_more, slot_anew, slot_other}
use Rattle.pairs.proofs.gather.Goals as goal
use Rattle.pairs.proofs.gather.Invariants.{behind, Left}

-- one more of them
one_more : (s : List ℕ) (m : ℕ) → suc m ≤ length s / 16 → behind s m ≡ (eight (drop (16 * m) s), eight (drop (16 * m + 8) s)) ∷ behind s (suc m)
one_more s m h =
    let k : length s / 16 - m ≡ suc (length s / 16 - suc m) = omega arith in
    let n : 16 * m + 16 ≡ 16 * suc m = omega arith in
    ap (λ (x : ℕ). pairs x (drop (16 * m) s)) k
    ∙ pairs_before (length s / 16 - suc m) (16 * m) s
    ∙ ap (λ (x : ℕ). (eight (drop (16 * m) s), eight (drop (16 * m + 8) s)) ∷ pairs (length s / 16 - suc m) (drop x s)) n

-- none yet
none : (first : ℕ) (s : List ℕ) (rest : List (List ℕ)) → rest ≡ first_chunks 16 (length s / 16) s → length rest ≡ length s / 16 → Left first s rest (replicate slots None)
unfolding pairs each_from find_in
none first s rest e n =
    let z : length s / 16 - length s / 16 ≡ 0 = omega arith in
    record { within = omega (arith, n); chunks = rw n e; told = rw (n, z) refl }

-- the last of those that are left, and the others
module _ (first : ℕ) (s : List ℕ) (rest before : List (List ℕ)) (pair : List ℕ) (is : rest ≡ before ++ (pair ∷ [])) (found : List (Option ℕ)) (l : Left first s rest found) where
  abbrev n : ℕ
  n = length before

  more : length rest ≡ suc n
  more = ap length is ∙ length_push before pair ∙ omega arith

  parts : (before ≡ first_chunks 16 n s) × (pair ≡ take 16 (drop (16 * n) s))
  parts = same_from_push before (first_chunks 16 n s) pair (take 16 (drop (16 * n) s)) (sym is ∙ l.chunks ∙ ap (λ (k : ℕ). first_chunks 16 k s) more ∙ chunks_more n s)

  next : behind s n ≡ (eight pair, eight (drop 8 pair)) ∷ behind s (length rest)
  next =
      let a : eight pair ≡ eight (drop (16 * n) s) = ap eight parts.1 ∙ eight_within 16 0 (drop (16 * n) s) (omega arith) in
      let b : eight (drop 8 pair) ≡ eight (drop (16 * n + 8) s) =
      ap (λ (x : List ℕ). eight (drop 8 x)) parts.1 ∙ eight_within 16 8 (drop (16 * n) s) (omega arith) ∙ ap eight (drop-drop 8 (16 * n) s) in
      let m : suc n ≤ length s / 16 = omega (arith, more, l.within) in
      rw (a, b, more) (one_more s n m)

  with_next : {x : List (Option ℕ)} → x ≡ each_from (λ y. y) first slots ((eight pair, eight (drop 8 pair)) ∷ behind s (length rest)) → Left first s before x
  with_next e = record {
    within = omega (arith, more, l.within);
    chunks = parts.0;
    told = e ∙ ap (λ (ps : List Pair). each_from (λ y. y) first slots ps) (sym next);
  }

  sets : (m k v : ℕ) → m ≡ eight pair → v ≡ eight (drop 8 pair) → Slot first m (Some k) → Left first s before (set found k (Some v))
  sets m k v p q o =
      with_next (ap (λ (x : List (Option ℕ)). set x k (Some v)) l.told ∙ slot_anew (λ x. x) first m v k (behind s (length rest)) o ∙ rw (p, q) refl)

  leaves : (m : ℕ) → m ≡ eight pair → Slot first m None → Left first s before found
  leaves m p o = with_next (l.told ∙ sym (slot_other (λ x. x) first m (eight (drop 8 pair)) (behind s (length rest)) o) ∙ rw p refl)

pub loop-pair-init : goal.loop-pair-init
loop-pair-init c = none c.args.first c.args.items.now _ (search rules) (search rules)

pub loop-pair-preserved-in-Some-slot : goal.loop-pair-preserved-in-Some-slot
loop-pair-preserved-in-Some-slot c =
    let l = c.loop-pair in
    let a = c.args in
    sets a.first a.items.now _ _ _ c.in-Some.ensures.steps _ l.invariant c.eight.result c.in-Some-slot.k _ c.eight.ensures c.eight-in-Some-slot.ensures c.in-Some-slot.ensures

pub loop-pair-preserved : goal.loop-pair-preserved
loop-pair-preserved c =
    let l = c.loop-pair in
    let a = c.args in
    leaves a.first a.items.now _ _ _ c.in-Some.ensures.steps _ l.invariant c.eight.result c.eight.ensures c.in_default.ensures

pub returns : goal.returns
unfolding gathered_from pairs_in
returns c =
    let l = c.loop-pair in
    let s = c.args.items.now in
    let e = c.in-None.ensures.steps.0 in
    let n : length s / 16 - 0 ≡ length s / 16 = omega arith in
    rw (e, n) at l.invariant.told
