-- Laws of the values that are read: the first i of them and the rest.
-- Assumes nothing.
use mathlib.Core.Path.{◌≡◌, refl, sym, ap, ◌∙◌}
use mathlib.Core.List.{List, [], ◌∷◌}
use Prim.Native.Nat.{ℕ, zero, suc, ◌+◌, ◌≤◌, ◌<◌}
use native.Mathlib.Decide.{dec_lt}
use native.Mathlib.Omega.{arith}
use lib.ListN.{length, take, get_or, replicate}
use lib.Seq.{get_or-take, ext_get_or}
use Rattle.bits.specs.Bits.{bits_of}
use Rattle.fields.specs.Table.{values_of}
use Rattle.fields.proofs.Rows.{values_fit, fit_at}
use Rattle.fields.proofs.Rounds.{values_of-length}

values_take : (s : List ℕ) (a : ℕ) (ws : List ℕ) (i : ℕ) → take i (values_of s a ws) ≡ values_of s a (take i ws)
unfolding values_of
values_take s a [] zero = refl
values_take s a [] (suc i) = refl
values_take s a (w ∷ ws) zero = refl
values_take s a (w ∷ ws) (suc i) = ap (λ (l : List ℕ). bits_of s a w ∷ l) (values_take s (a + w) ws i)

-- a part of no bits is 0
values_none : (s : List ℕ) (a : ℕ) (ws : List ℕ) (k : ℕ) → get_or ws k 0 ≡ 0 → get_or (values_of s a ws) k 0 ≡ 0
values_none s a ws k e = let h = rw e at (fit_at ws (values_of s a ws) (values_fit s a ws) k) in omega arith

-- the first i values, and zeros where no more parts have bits
pub values-are : (s : List ℕ) (a : ℕ) (ws vs : List ℕ) (i : ℕ) → length vs ≡ length ws → take i vs ≡ values_of s a (take i ws)
    → ((k : ℕ) → i ≤ k → get_or vs k 0 ≡ 0) → ((k : ℕ) → i ≤ k → get_or ws k 0 ≡ 0) → vs ≡ values_of s a ws
values-are s a ws vs i n t z y = ext_get_or 0 vs (values_of s a ws) (n ∙ sym (values_of-length s a ws)) (λ k l. at k (dec_lt k i))
  where
    at : (k : ℕ) → Dec (k < i) → get_or vs k 0 ≡ get_or (values_of s a ws) k 0
    at k (yes l) = sym (get_or-take i vs k 0 l) ∙ ap (λ (x : List ℕ). get_or x k 0) (t ∙ sym (values_take s a ws i)) ∙ get_or-take i (values_of s a ws) k 0 l
    at k (no l) = z k (omega arith) ∙ sym (values_none s a ws k (y k (omega arith)))

pub zeros_at : (n k : ℕ) → ◌≡◌ {A = ℕ} (get_or (replicate n 0) k 0) 0
zeros_at zero k = refl
zeros_at (suc n) zero = refl
zeros_at (suc n) (suc k) = zeros_at n k
