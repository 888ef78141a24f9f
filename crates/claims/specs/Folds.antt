-- Document 02, Ticket 4, "Show the parity rule": the chain of folds that the parity leaf was at first, and the claim that it gives the same answers.
-- The folds are defined here only for this claim: no promise and no code uses them. Definitions and statement; proofs/Folds.antt proves it.
use Rattle.std.specs.Prelude.{ℕ, ◌/◌, ◌%◌, ◌<◌, ◌^◌, ◌≡◌, Bool, eqb}
use Rattle.std.specs.Int.Bits.{bit_xor}
use Rattle.words.specs.Word.{odd}

-- one fold: exclusive or of the number and the number shifted down by k bits
abbrev pub folded : ℕ → ℕ → ℕ
folded k n = bit_xor n (n / 2 ^ k)

-- four folds, one after the other; the lowest bit of the result is the answer
abbrev pub odd_by_folds : ℕ → Bool
odd_by_folds w = eqb (folded 1 (folded 2 (folded 4 (folded 8 w))) % 2) 1

-- for every number of sixteen bits the folds give the answer that the count of ones gives
abbrev pub FoldsAnswerTheSame : Type 0
FoldsAnswerTheSame = (w : ℕ) → w < 2 ^ 16 → odd_by_folds w ≡ odd w
