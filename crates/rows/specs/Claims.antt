-- The law of rows: a row's answer is given exactly where its condition holds and that of no earlier row does. A, `accepts`, the rows and the
-- answers are any, so a table needs no proof of its own order: only that its rows refuse and that the other answer does not. Statements only, with what they need to be said; proofs/Claims.antt proves them.
use Rattle.std.specs.Prelude.{Bool, true, false, List, [], ◌∷◌, ◌++◌, ◌↔◌, ◌⊎◌, ◌≡◌}
use Rattle.rows.specs.Rows.{Row, first_of, each}

-- the first row that holds answers a
abbrev pub FirstIs : {A : Type 0} → List (Row A) → A → Type 0
FirstIs [] a = ⊥
FirstIs (x ∷ rows) a = ((x.holds ≡ true) × (x.answer ≡ a)) ⊎ ((x.holds ≡ false) × FirstIs rows a)

-- no row holds
abbrev pub NoneHolds : {A : Type 0} → List (Row A) → Type 0
NoneHolds [] = Unit {0}
NoneHolds (x ∷ rows) = (x.holds ≡ false) × NoneHolds rows

-- every row answers with a refusal, where `accepts` tells refusals from other answers
abbrev pub Refusing : {A : Type 0} → (A → Bool) → List (Row A) → Type 0
Refusing accepts [] = Unit {0}
Refusing accepts (x ∷ rows) = (accepts x.answer ≡ false) × Refusing accepts rows

-- a refusal is given exactly where its row is the first that holds
abbrev pub RefusedExactly : Type 1
RefusedExactly =
    (A : Type 0) (accepts : A → Bool) (rows : List (Row A)) (other a : A) → accepts other ≡ true → accepts a ≡ false
    → (first_of rows other ≡ a) ↔ FirstIs rows a

-- an answer that is no refusal is given exactly where no row holds, and it is the other answer
abbrev pub AcceptedExactly : Type 1
AcceptedExactly =
    (A : Type 0) (accepts : A → Bool) (rows : List (Row A)) (other a : A) → Refusing accepts rows → accepts a ≡ true
    → (first_of rows other ≡ a) ↔ (NoneHolds rows × (other ≡ a))

-- rows behind rows are asked where none of the first holds
abbrev pub Joined : Type 1
Joined = (A : Type 0) (rows more : List (Row A)) (other : A) → first_of (rows ++ more) other ≡ first_of rows (first_of more other)

-- what f makes of an answer is the answer of the rows with what f makes of theirs
abbrev pub Each : Type 1
Each = (A B : Type 0) (f : A → B) (rows : List (Row A)) (other : A) → first_of (each f rows) (f other) ≡ f (first_of rows other)
