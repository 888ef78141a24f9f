-- Laws of pairs: how many there are, and what is found for numbers with one pair more. Assumes nothing.
use Rattle.std.specs.Prelude.{None, Option, Some}
use mathlib.Core.Path.{◌≡◌, refl, sym, ap, ◌∙◌}
use mathlib.Core.Bool.{Bool, true, false, cond}
use mathlib.Core.Logic.{◌⊎◌, inl, inr, ⊎_elim}
use mathlib.Core.List.{List, [], ◌∷◌, ◌++◌}
use Prim.Native.Nat.{ℕ, zero, suc, ◌+◌, ◌-◌, ◌*◌, ◌/◌, ◌%◌, ◌^◌, ◌≤◌, ◌<◌}
use native.Mathlib.Omega.{arith}
use lib.Dec.{eqb}
use lib.ListN.{length, drop, take, get_or, set}
use lib.Seq.{drop-drop}
use borrow.Author.Tests.{eq-eqb, ne_eqb}
use Rattle.std.proofs.lemmas.List.{get_or-drop, get_or-take}
use Rattle.std.specs.Simd.{first_chunks}
use Rattle.bits.specs.Bits.{bit_at}
use Rattle.bits.proofs.Laws.{bits_of_same}
use Rattle.pairs.specs.Pairs.{Pair, eight, pairs, pairs_in, find_in, each_from, Slot, slots}

length_pairs : (n : ℕ) (s : List ℕ) → length (pairs n s) ≡ n
unfolding pairs
length_pairs zero s = refl
length_pairs (suc n) s = ap suc (length_pairs n (drop 16 s))

pub length-pairs_in : (s : List ℕ) → length (pairs_in s) ≡ length s / 16
unfolding pairs_in
length-pairs_in s = length_pairs (length s / 16) s

-- the pair before those that are there
pub pairs_before : (k at : ℕ) (s : List ℕ) → pairs (suc k) (drop at s) ≡ (eight (drop at s), eight (drop (at + 8) s)) ∷ pairs k (drop (at + 16) s)
unfolding pairs
pairs_before k at s = rw (drop-drop 8 at s, drop-drop 16 at s) refl

-- the number of eight bytes among the first n is theirs in the whole list
pub eight_within : (n at : ℕ) (s : List ℕ) → at + 8 ≤ n → eight (drop at (take n s)) ≡ eight (drop at s)
unfolding bit_at
eight_within n at s h =
    bits_of_same (drop at (take n s)) (drop at s) 0 64 (λ k l.
    ap (λ (x : ℕ). x / 2 ^ (7 - (0 + k) % 8) % 2)
    (get_or-drop at (take n s) ((0 + k) / 8) 0 ∙ get_or-take n s (at + (0 + k) / 8) 0 (omega arith) ∙ sym (get_or-drop at s ((0 + k) / 8) 0)))

-- sixteen bytes more
pub chunks_more : (n : ℕ) (s : List ℕ) → first_chunks 16 (suc n) s ≡ first_chunks 16 n s ++ (take 16 (drop (16 * n) s) ∷ [])
chunks_more zero s = refl
chunks_more (suc n) s =
    let e : 16 * n + 16 ≡ 16 * suc n = omega arith in
    ap (λ (l : List (List ℕ)). take 16 s ∷ l) (chunks_more n (drop 16 s) ∙ rw (drop-drop (16 * n) 16 s, ← e) (ap (λ (x : ℕ). first_chunks 16 n (drop 16 s) ++ (take 16 (drop x s) ∷ [])) (omega arith)))

-- ---- what is found for numbers, with one pair more

-- a pair of another number leaves everything as it is
each_other : {X : Type 0} (f : Option ℕ → X) (n k : ℕ) (p : Pair) (ps : List Pair) → (p.0 < n) ⊎ (n + k ≤ p.0) → each_from f n k (p ∷ ps) ≡ each_from f n k ps
unfolding each_from find_in
each_other f n zero p ps h = refl
each_other {X} f n (suc k) p ps h =
    let e : eqb p.0 n ≡ false = ne_eqb p.0 n (λ q. ⊎_elim (λ a. omega arith) (λ b. omega arith) h) in
    ap (λ (b : Bool). f (cond b (Some p.1) (find_in n ps)) ∷ each_from f (suc n) k (p ∷ ps)) e
    ∙ ap (λ (l : List X). f (find_in n ps) ∷ l) (each_other f (suc n) k p ps (⊎_elim (λ a. inl (omega arith)) (λ b. inr (omega arith)) h))

-- one of these numbers has the pair's value
each_anew : {X : Type 0} (f : Option ℕ → X) (n k i : ℕ) (p : Pair) (ps : List Pair) → i < k → n + i ≡ p.0
    → set (each_from f n k ps) i (f (Some p.1)) ≡ each_from f n k (p ∷ ps)
unfolding each_from find_in
each_anew f n zero i p ps h q = absurd (omega arith)
each_anew {X} f n (suc k) zero p ps h q =
    let e : eqb p.0 n ≡ true = eq-eqb p.0 n (omega arith) in
    ap (λ (l : List X). f (Some p.1) ∷ l) (sym (each_other f (suc n) k p ps (inl (omega arith))))
    ∙ ap (λ (b : Bool). f (cond b (Some p.1) (find_in n ps)) ∷ each_from f (suc n) k (p ∷ ps)) (sym e)
each_anew {X} f n (suc k) (suc i) p ps h q =
    let e : eqb p.0 n ≡ false = ne_eqb p.0 n (λ r. omega arith) in
    ap (λ (l : List X). f (find_in n ps) ∷ l) (each_anew f (suc n) k i p ps (omega arith) (omega arith))
    ∙ ap (λ (b : Bool). f (cond b (Some p.1) (find_in n ps)) ∷ each_from f (suc n) k (p ∷ ps)) (sym e)

-- by the place that a slot names
pub slot_anew : {X : Type 0} (f : Option ℕ → X) (n m v k : ℕ) (ps : List Pair) → Slot n m (Some k) → set (each_from f n slots ps) k (f (Some v)) ≡ each_from f n slots ((m, v) ∷ ps)
slot_anew f n m v k ps o = each_anew f n slots k (m, v) ps o.0 o.1

pub slot_other : {X : Type 0} (f : Option ℕ → X) (n m v : ℕ) (ps : List Pair) → Slot n m None → each_from f n slots ((m, v) ∷ ps) ≡ each_from f n slots ps
slot_other f n m v ps o = each_other f n slots (m, v) ps o

-- what stands at a place
pub each_at : {X : Type 0} (f : Option ℕ → X) (n k i : ℕ) (d : X) (ps : List Pair) → i < k → get_or (each_from f n k ps) i d ≡ f (find_in (n + i) ps)
unfolding each_from
each_at f n zero i d ps h = absurd (omega arith)
each_at f n (suc k) zero d ps h = ap (λ (m : ℕ). f (find_in m ps)) (omega arith)
each_at f n (suc k) (suc i) d ps h =
    let e : suc n + i ≡ n + suc i = omega arith in
    each_at f (suc n) k i d ps (omega arith) ∙ ap (λ (m : ℕ). f (find_in m ps)) e
