-- The claims of specs/Claims.antt, from the laws on parity and on layouts.
-- Assumes nothing.
use Prim.Native.Nat.{ℕ, zero, suc, ◌+◌, ◌/◌, ◌%◌, ◌-◌, ◌≤◌, ◌<◌, ◌^◌}
use mathlib.Core.Path.{◌≡◌, refl, ap, ap₂, sym, ◌∙◌, subst}
use mathlib.Core.Bool.{not}
use mathlib.Core.List.{[], ◌∷◌}
use native.Mathlib.Nat.{mod-lt}
use native.Mathlib.Omega.{arith}
use lib.Count.{ones, ones_step}
use lib.Dec.{eqb, lit<}
use lib.Pow.{shr-shr}
use Rattle.words.specs.Word.{idle, largest, data_bits, bits, ones_to, Good, AllGood}
use Rattle.words.specs.Layout.{Laid}
use Rattle.words.specs.Claims.{IdleIsEven, NoReportWordIsIdle, OneWordForData, OnesByBits, OddByBits, FlipTurnsParity, LaidOut}
use Rattle.words.proofs.Parity.{zero_ones, turned}
use Rattle.words.proofs.Layouts.{data_of_word, word_of_data, word_good, same_digits, laid_words, words_laid, words_good}

idle_ones : ones idle ≡ 10
unfolding ones
idle_ones = refl

pub idle_is_even : IdleIsEven
idle_is_even = ap (λ (n : ℕ). not (eqb (n % 2) 1)) idle_ones

pub no_report_word_is_idle : NoReportWordIsIdle
no_report_word_is_idle w g e = let p = g.parity in omega (arith, ap ones e, idle_ones)

pub one_word_for_data : OneWordForData
one_word_for_data d w h = (
  λ g. word_of_data w d g.0 g.1,
  λ e. (subst Good (sym e) (word_good d h), ap data_bits e ∙ data_of_word d),
)

-- bit k + 1 of one word
one_bit : (w k : ℕ) → k < 13 → bits (w ∷ []) (suc k) (suc k) ≡ w / 2 ^ (13 - suc k) % 2
one_bit w k h = same_digits (w ∷ []) {i = (suc k - 1) / 13} {j = 0} {t = 13 - suc k} {n = 1} (omega arith) (omega arith) (omega arith)

-- bits 1 to k are what stands above the other 13 - k
ones-to : (w k : ℕ) → w ≤ largest → k ≤ 13 → ones_to k (w ∷ []) ≡ ones (w / 2 ^ (13 - k))
unfolding ones_to
ones-to w zero h g = sym (ap ones (let e : w / 8192 ≡ 0 = omega arith in e) ∙ zero_ones)
ones-to w (suc k) h g =
    ap₂ (λ (x y : ℕ). x + y) (ones-to w k h (omega arith)) (one_bit w k (omega arith))
    ∙ next (13 - suc k) (13 - k) (omega arith)
  where
    next : (d e : ℕ) → e ≡ d + 1 → ones (w / 2 ^ e) + w / 2 ^ d % 2 ≡ ones (w / 2 ^ d)
    next d e p = rw p (omega (arith, ones_step (w / 2 ^ d), ap ones (shr-shr w d 1)))

pub ones_by_bits : OnesByBits
ones_by_bits w h = sym (ones-to w 13 h (omega arith) ∙ ap ones (let e : w / 1 ≡ w = omega arith in e))

pub odd_by_bits : OddByBits
odd_by_bits w h = ap (λ (n : ℕ). eqb (n % 2) 1) (ones_by_bits w h)

pub flip_turns_parity : FlipTurnsParity
flip_turns_parity k w = ap (λ (n : ℕ). eqb n 1) (turned (13 - k) w) ∙ digit (ones w % 2) (mod-lt (ones w) (lit< tt))
  where
    digit : (n : ℕ) → n < 2 → eqb (1 - n) 1 ≡ not (eqb n 1)
    digit zero h = refl
    digit (suc zero) h = refl
    digit (suc (suc n)) h = absurd (omega arith)

pub laid_out : LaidOut
laid_out l ws t = (
  λ h. laid_words l ws t h.0 h.1,
  λ h. (subst AllGood (sym h.0) (words_good l t h.1), subst (Laid l) (sym h.0) (words_laid l t h.1)),
)
