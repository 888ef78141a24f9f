-- What a call comes to, test by test, and what is told of it. Assumes nothing.
use Prim.Native.Nat.{ℕ, ◌-◌, ◌/◌, ◌%◌, ◌≤◌, ◌<◌}
use mathlib.Core.Path.{◌≡◌, refl, ap, sym, ◌∙◌}
use mathlib.Core.Bool.{true, false}
use mathlib.Core.List.{List, [], ◌∷◌, ◌++◌}
use native.Mathlib.Omega.{arith}
use lib.Dec.{ltb}
use lib.ListN.{length, drop}
use borrow.Author.Tests.{lt-ltb, le-ltb, eq-eqb, ne_eqb}
use Rattle.std.specs.Prelude.{codes, Some, None, Ok, Err}
use Rattle.lines.specs.Bytes.{most_bytes, read_bytes}
use Rattle.rows.specs.Rows.{row, first_of}
use Rattle.words.proofs.Tests.{picked, passed}
use Rattle.lines.proofs.ByteWords.{words_length}
use Rattle.listing.specs.declared.Walk.{Walk}
use Rattle.listing.specs.declared.WalkError.{WalkError}
use Rattle.listing.specs.Listing.{lister_form}
use Rattle.listing.specs.Walking.{closed, Step, Says, Ended, Astray, Cramped, step_on, step_at, step_in, said, came_to, Tells}

-- ---- what is told of a step

-- a line stands at the buffer's start
pub line_told : (s : Step) (next : Walk) (line e p : List ℕ) (n : ℕ) → came_to s ≡ Ok (Some next) → line ≡ said s → n ≡ length line → n ≤ 64
    → p ≡ line ++ drop (length line) e → Tells s e (Ok (Some (record { len = n; next = next }))) p
line_told (Says l w) next line e p n h is size fits leaves = record { answers = grind arith; fits = grind arith; leaves = grind arith }
line_told Ended next line e p n h is size fits leaves = grind arith
line_told Astray next line e p n h is size fits leaves = grind arith
line_told Cramped next line e p n h is size fits leaves = grind arith

-- nothing was put: the listing is whole, or the call is refused
pub end_told : (s : Step) (e : List ℕ) → came_to s ≡ Ok None → Tells s e (Ok None) e
end_told (Says l w) e h = grind arith
end_told Ended e h = record { answers = refl; fits = omega arith; leaves = refl }
end_told Astray e h = grind arith
end_told Cramped e h = grind arith

pub error_told : (s : Step) (e : List ℕ) (why : WalkError) → came_to s ≡ Err why → Tells s e (Err why) e
error_told (Says l w) e why h = grind arith
error_told Ended e why h = grind arith
error_told Astray e why h = record { answers = grind arith; fits = omega arith; leaves = refl }
error_told Cramped e why h = record { answers = grind arith; fits = omega arith; leaves = refl }

-- ---- the tests

pub is_cramped : (room : ℕ) (bytes : List ℕ) (w : Walk) → room < 64 → step_in room bytes w ≡ Cramped
unfolding step_in
is_cramped room bytes w h = picked _ _ (lt-ltb room 64 h)

pub roomy : (room : ℕ) (bytes : List ℕ) (w : Walk) → 64 ≤ room → step_in room bytes w ≡ step_at bytes w
unfolding step_in
roomy room bytes w r = passed _ _ (le-ltb room 64 r)

module _ (bytes : List ℕ) (w : Walk) where
  pub is_done : w.done ≡ true → step_at bytes w ≡ Ended
  unfolding step_at
  is_done d = picked _ _ d

  pub is_long : w.done ≡ false → most_bytes < length bytes → step_at bytes w ≡ Says (codes "LONG\n") (closed w)
  unfolding step_at
  is_long d h = passed _ _ d ∙ picked _ _ (lt-ltb most_bytes (length bytes) h)

  pub is_odd : w.done ≡ false → length bytes ≤ most_bytes → length bytes % 2 ≡ 1 → step_at bytes w ≡ Says (codes "ODD\n") (closed w)
  unfolding step_at
  is_odd d s h = passed _ _ d ∙ passed _ _ (le-ltb most_bytes (length bytes) s) ∙ picked _ _ (eq-eqb (length bytes % 2) 1 h)

-- on a recording of n words
module _ (bytes : List ℕ) (w : Walk) (n : ℕ) (d : w.done ≡ false) (s : length bytes ≤ most_bytes) (e : length bytes % 2 ≡ 1 → ⊥) (size : n ≡ length bytes / 2) where
  -- what is left behind the tests of the bytes
  worded : step_at bytes w ≡ first_of
      (row (ltb n w.place) Astray ∷ row (ltb w.place w.reported) Astray ∷ row (ltb (w.place - w.reported) w.refused) Astray ∷ [])
      (step_on n w (read_bytes lister_form bytes w.place))
  unfolding step_at
  worded =
      passed _ _ d ∙ passed _ _ (le-ltb most_bytes (length bytes) s) ∙ passed _ _ (ne_eqb (length bytes % 2) 1 e)
      ∙ ap (λ (k : ℕ). first_of
      (row (ltb k w.place) Astray ∷ row (ltb w.place w.reported) Astray ∷ row (ltb (w.place - w.reported) w.refused) Astray ∷ [])
      (step_on k w (read_bytes lister_form bytes w.place))) (words_length bytes ∙ sym size)

  pub is_beyond : n < w.place → step_at bytes w ≡ Astray
  is_beyond h = worded ∙ picked _ _ (lt-ltb n w.place h)

  pub is_over : w.place ≤ n → w.place < w.reported → step_at bytes w ≡ Astray
  is_over a h = worded ∙ passed _ _ (le-ltb n w.place a) ∙ picked _ _ (lt-ltb w.place w.reported h)

  pub is_more : w.place ≤ n → w.reported ≤ w.place → w.place - w.reported < w.refused → step_at bytes w ≡ Astray
  is_more a b h =
      worded ∙ passed _ _ (le-ltb n w.place a) ∙ passed _ _ (le-ltb w.place w.reported b) ∙ picked _ _ (lt-ltb (w.place - w.reported) w.refused h)

  pub is_read : w.place ≤ n → w.reported ≤ w.place → w.refused ≤ w.place - w.reported
      → step_at bytes w ≡ step_on n w (read_bytes lister_form bytes w.place)
  is_read a b c =
      worded ∙ passed _ _ (le-ltb n w.place a) ∙ passed _ _ (le-ltb w.place w.reported b) ∙ passed _ _ (le-ltb (w.place - w.reported) w.refused c)
