-- What the private functions of the reader ask and answer. Definitions only; no promise of a public function names them.
use Rattle.std.specs.Prelude.{ℕ, ◌-◌, ◌/◌, ◌≤◌, ◌<◌, ◌≡◌, Bool, cond, ⊤, Result, Ok, Err}
use Rattle.refusals.specs.declared.LineRefusal.{LineRefusal}
use Rattle.reports.specs.declared.RunRefusal.{RunRefusal}

-- bits a to b of seven words stand in one of them
abbrev pub InOneWord : ℕ → ℕ → Type 0
InOneWord a b = (0 < a) × (a ≤ b) × (b ≤ 91) × ((a - 1) / 13 ≡ (b - 1) / 13)

-- a row of the table: the refusal, where the condition holds
abbrev pub tested : Bool → LineRefusal → ℕ → Result ⊤ RunRefusal
tested b q o = cond b (Err (record { why = q; offset = o })) (Ok tt)
