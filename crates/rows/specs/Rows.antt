-- A table of rows, each a condition and an answer; the first row whose condition holds answers. Every reader and every writer is defined by
-- its rows, in document 01's order. Definitions only.
use Rattle.std.specs.Prelude.{Bool, cond, List, [], ◌∷◌}

pub record Row (A : Type 0) : Type 0 where
  -- the condition holds
  pub holds : Bool
  pub answer : A

abbrev pub row : {A : Type 0} → Bool → A → Row A
row b a = record { holds = b; answer = a }

-- the answer of the first row that holds; where none does, the other answer
abbrev pub first_of : {A : Type 0} → List (Row A) → A → A
first_of [] other = other
first_of (x ∷ rows) other = cond x.holds x.answer (first_of rows other)

-- rows with the same conditions, and what f makes of their answers
abbrev pub each : {A B : Type 0} → (A → B) → List (Row A) → List (Row B)
each f [] = []
each f (x ∷ rows) = row x.holds (f x.answer) ∷ each f rows
