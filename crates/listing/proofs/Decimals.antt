-- A number in decimal: its last digit; the library prints the same; how many digits it has at most. Assumes nothing.
use Prim.Native.Nat.{ℕ, zero, suc, ◌+◌, ◌/◌, ◌%◌, ◌^◌, ◌≤◌, ◌<◌}
use mathlib.Core.Path.{◌≡◌, ap, sym, ◌∙◌}
use mathlib.Core.List.{List, [], ◌∷◌, ◌++◌}
use native.Mathlib.Omega.{arith}
use lib.Dec.{ltb}
use lib.ListN.{length}
use borrow.Author.Tests.{lt-ltb, le-ltb, ltb-false}
use Rattle.words.proofs.Tests.{picked, passed, by_test}
use Rattle.std.proofs.lemmas.Fmt.{decimal_by_steps, length-decimal-le}
use Rattle.std.specs.Fmt as Std
use Rattle.listing.specs.Letters.{digits, decimal}

-- more digits than enough change nothing
digits_enough : (k m n : ℕ) → n < k → n < m → digits k n ≡ digits m n
unfolding digits
digits_enough zero m n h g = absurd (omega arith)
digits_enough (suc k) zero n h g = absurd (omega arith)
digits_enough (suc k) (suc m) n h g =
    by_test (ltb n 10)
    (λ e. picked _ _ e ∙ sym (picked _ _ e))
    (λ e.
    let b = ltb-false n 10 e in
    passed _ _ e
    ∙ ap (λ (l : List ℕ). l ++ ((48 + n % 10) ∷ [])) (digits_enough k m (n / 10) (omega arith) (omega arith))
    ∙ sym (passed _ _ e))

pub one_digit : (n : ℕ) → n < 10 → decimal n ≡ (48 + n) ∷ []
unfolding decimal digits
one_digit n h = picked _ _ (lt-ltb n 10 h)

pub last_digit : (n : ℕ) → 10 ≤ n → decimal n ≡ decimal (n / 10) ++ ((48 + n % 10) ∷ [])
unfolding decimal digits
last_digit n h =
    passed _ _ (le-ltb n 10 h)
    ∙ ap (λ (l : List ℕ). l ++ ((48 + n % 10) ∷ [])) (digits_enough n (suc (n / 10)) (n / 10) (omega arith) (omega arith))

-- the library's decimal text is the same
pub same : (n : ℕ) → n < 2 ^ 64 → Std.decimal n ≡ decimal n
same = decimal_by_steps (λ m ds. ds ≡ decimal m) (λ m l. sym (one_digit m l)) (λ m ds l h. ap (λ (k : List ℕ). k ++ ((48 + m % 10) ∷ [])) h ∙ sym (last_digit m l))

pub five : (n : ℕ) → n < 100000 → length (decimal n) ≤ 5
five n h = rw (← same n (omega arith)) (length-decimal-le 5 n (omega arith) (omega arith) (omega arith))

pub twenty : (n : ℕ) → n < 2 ^ 64 → length (decimal n) ≤ 20
twenty n h = rw (← same n h) (length-decimal-le 20 n (omega arith) (omega arith) h)
