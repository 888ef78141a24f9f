-- A search along the words of a line: what the loop of each form cites, and one search after another. Assumes nothing.
use Prim.Native.Nat.{ℕ, suc, ◌+◌, ◌≤◌, ◌<◌}
use native.Mathlib.Nat.{zero-add}
use mathlib.Core.Path.{◌≡◌, refl, ap, sym, ◌∙◌}
use mathlib.Core.Bool.{Bool, true, false}
use mathlib.Core.List.{List, [], ◌∷◌}
use native.Mathlib.Omega.{arith}
use lib.ListN.{length, get_or, drop, length-drop}
use lib.Seq.{drop-cons, drop-drop}
use Rattle.words.specs.Word.{first}
use Rattle.words.proofs.Tests.{picked, passed, by_test}
use Rattle.line_reader.specs.Places.{next_at, Ended}

-- ---- word by word

-- up to a place the search did not stop
pub record Going (line : List ℕ) (from to : ℕ) (stop : ℕ → Bool) (i : ℕ) : Type 0 where
  pub onward : from ≤ i
  pub within : i ≤ to
  pub same : next_at line from stop ≡ next_at line i stop

module _ {line : List ℕ} {from to : ℕ} {stop : ℕ → Bool} {i w : ℕ} {b : Bool} (g : Going line from to stop i) where
  -- the word at i was fetched, and it was asked whether the search stops there
  told : {t : Bool} → w ≡ get_or line i 0 → b ≡ stop w → b ≡ t → stop (get_or line i 0) ≡ t
  told a e f = ap stop (sym a) ∙ sym e ∙ f

  pub goes_on : i < to → i < length line → w ≡ get_or line i 0 → b ≡ stop w → b ≡ false → Going line from to stop (i + 1)
  unfolding first
  goes_on m h a e f =
      let k : first stop (drop i line) ≡ suc (first stop (drop (suc i) line)) =
      ap (first stop) (drop-cons line i 0 h) ∙ passed _ _ (told a e f) in
      let s : i + 1 ≡ suc i = omega arith in
      let o = g.onward in
      record { onward = omega arith; within = omega arith; same = g.same ∙ rw (s, k) (omega arith) }

  pub stops_there : i < length line → w ≡ get_or line i 0 → b ≡ stop w → b ≡ true → Ended line from to stop i
  unfolding first
  stops_there h a e f =
      let k : first stop (drop i line) ≡ 0 = ap (first stop) (drop-cons line i 0 h) ∙ picked _ _ (told a e f) in
      let s = g.same in
      let m = g.within in
      record { onward = g.onward; within = m; there = omega arith }

pub stops_at_end : {line : List ℕ} {from to : ℕ} {stop : ℕ → Bool} {i : ℕ} → Going line from to stop i → to ≤ i → Ended line from to stop i
stops_at_end g h = let s = g.same in let m = g.within in record { onward = g.onward; within = m; there = omega arith }

-- a search that has not gone on yet
pub not_gone : {line : List ℕ} {from to : ℕ} {stop : ℕ → Bool} → from ≤ to → Going line from to stop from
not_gone h = record { onward = omega arith; within = h; same = refl }

-- up to a place the search did not stop, and from there on it ended
pub ended_on : {line : List ℕ} {from to : ℕ} {stop : ℕ → Bool} {i place : ℕ} → Going line from to stop i → Ended line i to stop place → Ended line from to stop place
ended_on g e =
    let s = g.same in
    let o = g.onward in
    let p = e.onward in
    let t = e.there in
    record { onward = omega arith; within = e.within; there = omega arith }

-- ---- a search up to the line's end

first_short : (p : ℕ → Bool) (ws : List ℕ) → first p ws ≤ length ws
unfolding first
first_short p [] = omega arith
first_short p (w ∷ ws) = let h = first_short p ws in by_test (p w) (λ e. rw e (omega arith)) (λ e. rw e (omega arith))

pub to_end : {line : List ℕ} {from : ℕ} {stop : ℕ → Bool} {place : ℕ} → Ended line from (length line) stop place → place ≡ next_at line from stop
to_end {line} {from} {stop} {place} e =
    let t = e.there in
    let o = e.onward in
    let m = e.within in
    let s = first_short stop (drop from line) in
    let d = length-drop from line in
    omega arith

-- ---- one search after the other

through : (p q : ℕ → Bool) → ((w : ℕ) → p w ≡ true → q w ≡ true) → (ws : List ℕ) → first p ws ≡ first q ws + first p (drop (first q ws) ws)
unfolding first
through p q h [] = refl
through p q h (w ∷ ws) =
    by_test (q w) (λ e. rw e (sym (zero-add _)))
    (λ e. let f : p w ≡ false = by_test (p w) (λ t. t ∙ sym (h w t) ∙ e) (λ t. t) in rw (e, f) (let k = through p q h ws in omega arith))

-- from the start on a search ends where it ends from the place on where another one stopped, if that one stops at all its words
pub next_through : (line : List ℕ) (from at : ℕ) (one other : ℕ → Bool) → ((w : ℕ) → other w ≡ true → one w ≡ true)
    → at ≡ next_at line from one → next_at line at other ≡ next_at line from other
next_through line from at one other h a =
    let p = other in
    let q = one in
    let rest = drop from line in
    let e : drop (first q rest) rest ≡ drop at line = drop-drop (first q rest) from line ∙ ap (λ (n : ℕ). drop n line) (sym a) in
    let k : first p rest ≡ first q rest + first p (drop at line) = through p q h rest ∙ ap (λ (l : List ℕ). first q rest + first p l) e in
    omega arith
