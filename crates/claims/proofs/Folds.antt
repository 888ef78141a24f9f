-- Each fold keeps the parity in half as many digits, and the last leaves one. Assumes nothing.
use Prim.Native.Nat.{ℕ, ◌%◌}
use mathlib.Core.Path.{◌≡◌, ap, sym, ◌∙◌}
use native.Mathlib.Nat.{mod-lt, mod-eq_of_lt}
use lib.Count.{ones}
use lib.Dec.{eqb, lit<}
use Rattle.words.proofs.Parity.{fold, one_digit}
use Rattle.claims.specs.Folds.{folded, FoldsAnswerTheSame}

-- the last digit of a number is its own number of ones
last_digit : (n : ℕ) → n % 2 ≡ ones (n % 2) % 2
last_digit n = sym (mod-eq_of_lt (mod-lt n (lit< tt))) ∙ ap (λ (x : ℕ). x % 2) (sym (one_digit (n % 2) (mod-lt n (lit< tt))))

pub folds_answer_the_same : FoldsAnswerTheSame
folds_answer_the_same w h =
    let a = folded 8 w in
    let b = folded 4 a in
    let c = folded 2 b in
    ap (λ (x : ℕ). eqb x 1) (last_digit (folded 1 c) ∙ fold 1 c ∙ fold 2 b ∙ fold 4 a ∙ fold 8 w ∙ ap (λ (x : ℕ). ones x % 2) (mod-eq_of_lt h))
