-- `pairs::gather` meets its contract: what is found among the pairs behind those that are left. Assumes nothing.
use Rattle.std.specs.Prelude.{Option}
use mathlib.Core.Path.{◌≡◌}
use mathlib.Core.List.{List}
use Prim.Native.Nat.{ℕ, ◌-◌, ◌*◌, ◌/◌, ◌≤◌}
use lib.ListN.{length, drop}
use Rattle.std.specs.Simd.{first_chunks}
use Rattle.pairs.specs.Pairs.{Pair, pairs, each_from, slots}
use Rattle.pairs.proofs.gather.Given as goal

-- the pairs from a place on, where so many are left before it
abbrev pub behind : List ℕ → ℕ → List Pair
behind s left = pairs (length s / 16 - left) (drop (16 * left) s)

-- these sixteen bytes a pair are left, and this is found behind them
pub record Left (first : ℕ) (s : List ℕ) (rest : List (List ℕ)) (found : List (Option ℕ)) : Type 0 where
  pub within : length rest ≤ length s / 16
  pub chunks : rest ≡ first_chunks 16 (length rest) s
  pub told : found ≡ each_from (λ x. x) first slots (behind s (length rest))

abbrev pub invariant-loop-pair : goal.invariant-loop-pair
invariant-loop-pair l = Left l.first l.items l.pair-iterator.iter.rest.now l.found
