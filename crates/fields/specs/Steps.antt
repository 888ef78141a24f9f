-- What a function that the reader and the writer share computes on the way. Definitions only; no promise of a reader or a writer names them.
use Rattle.std.specs.Prelude.{ℕ, zero, suc, ◌+◌, Bool, false, cond, ◌||◌, List, ◌==◌, slice_index}
use Rattle.fields.specs.declared.Faults.{Faults}
use Rattle.fields.specs.Table.{fault_of}

-- one of the n parts from i on, but none behind a part of no bits, has the fault k
unfoldable pub fault_within : ℕ → List ℕ → List ℕ → List ℕ → ℕ → ℕ → Bool
fault_within k ws rs vs zero i = false
fault_within k ws rs vs (suc n) i = cond (slice_index ws i == 0) false (fault_of (slice_index rs i) (slice_index vs i) == k || fault_within k ws rs vs n (i + 1))

-- both kinds of fault, of all eleven parts
abbrev pub faults_within : List ℕ → List ℕ → List ℕ → Faults
faults_within ws rs vs = record { spare = fault_within 1 ws rs vs 11 0; unused = fault_within 2 ws rs vs 11 0 }
