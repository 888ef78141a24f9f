-- Words are good, all of them, exactly when there is no first word that is too wide and no first even one.
-- Assumes nothing.
use Prim.Native.Nat.{ℕ, suc, ◌%◌}
use mathlib.Core.Path.{◌≡◌, refl, sym, ◌∙◌}
use mathlib.Core.Bool.{Bool, true, false, cond}
use mathlib.Core.List.{List, [], ◌∷◌}
use native.Mathlib.Omega.{arith}
use borrow.Author.Tests.{eqb-true, eq-eqb, ltb-false, le-ltb, not-false}
use lib.Count.{ones}
use lib.Dec.{ltb, leb-suc-suc}
use lib.ListN.{length}
use Rattle.words.specs.Word.{largest, wider_than_a_word, odd, even, Good, AllGood, first}

-- no word has the fault p
abbrev pub NoneHas : (ℕ → Bool) → List ℕ → Type 0
NoneHas p [] = Unit {0}
NoneHas p (w ∷ ws) = (p w ≡ false) × NoneHas p ws

none_first : (p : ℕ → Bool) (ws : List ℕ) → NoneHas p ws → ltb (first p ws) (length ws) ≡ false
unfolding first
none_first p [] h = refl
none_first p (w ∷ ws) h = rw (h.0, leb-suc-suc (suc (first p ws)) (length ws)) (none_first p ws h.1)

pub first_none : (p : ℕ → Bool) (ws : List ℕ) → ltb (first p ws) (length ws) ≡ false → NoneHas p ws
unfolding first
first_none p [] h = tt
first_none p (w ∷ ws) h = go (p w) refl h (first_none p ws)
  where
    go : (b : Bool) → p w ≡ b → ltb (cond b 0 (suc (first p ws))) (suc (length ws)) ≡ false
        → (ltb (first p ws) (length ws) ≡ false → NoneHas p ws) → NoneHas p (w ∷ ws)
    go true e k more = absurd (let z = ltb-false 0 (suc (length ws)) k in omega arith)
    go false e k more = (e, more (sym (leb-suc-suc (suc (first p ws)) (length ws)) ∙ k))

-- ---- one word

good_of : (w : ℕ) → wider_than_a_word w ≡ false → even w ≡ false → Good w
good_of w p q = record { narrow = ltb-false largest w p; parity = eqb-true (ones w % 2) 1 (not-false (odd w) q) }

pub not_too_wide : (w : ℕ) → Good w → wider_than_a_word w ≡ false
not_too_wide w g = le-ltb largest w g.narrow

pub not_even : (w : ℕ) → Good w → even w ≡ false
not_even w g = rw (eq-eqb (ones w % 2) 1 g.parity)

-- ---- all of them

pub first_good : (ws : List ℕ) → ltb (first wider_than_a_word ws) (length ws) ≡ false → ltb (first even ws) (length ws) ≡ false → AllGood ws
first_good ws p q = go ws (first_none wider_than_a_word ws p) (first_none even ws q)
  where
    go : (ws : List ℕ) → NoneHas wider_than_a_word ws → NoneHas even ws → AllGood ws
    go [] p q = tt
    go (w ∷ ws) p q = (good_of w p.0 q.0, go ws p.1 q.1)

pub good_first : (p : ℕ → Bool) → ((w : ℕ) → Good w → p w ≡ false) → (ws : List ℕ) → AllGood ws → ltb (first p ws) (length ws) ≡ false
good_first p each ws h = none_first p ws (go ws h)
  where
    go : (ws : List ℕ) → AllGood ws → NoneHas p ws
    go [] h = tt
    go (w ∷ ws) h = (each w h.0, go ws h.1)
