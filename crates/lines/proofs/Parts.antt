-- A line in parts that meet at idle words, and words that are replaced between two idle words: the claims Splits and Replaced, for any
-- answer to a run. Assumes nothing.
use Prim.Native.Nat.{ℕ, ◌+◌, ◌≤◌, ◌<◌}
use native.Mathlib.Nat.{add-zero, add_assoc}
use mathlib.Core.Path.{◌≡◌, refl, ap, sym, ◌∙◌}
use mathlib.Core.Bool.{Bool, true, false, cond}
use mathlib.Core.Logic.{inr}
use mathlib.Core.List.{List, [], ◌∷◌, ◌++◌, map, append_assoc}
use native.Mathlib.Omega.{arith}
use lib.Dec.{ltb}
use lib.ListN.{length, length-append}
use borrow.Author.Tests.{le-ltb, lt-ltb}
use Rattle.words.specs.Word.{idle}
use Rattle.lines.specs.declared.Outcome.{Outcome}
use Rattle.lines.specs.Line.{most, outcome_of, end_of, is_end, read_by, outcomes}
use Rattle.lines.specs.Stretches.{Run, runs_from, runs}
use Rattle.lines.specs.Claims.{Answer, moved, alone, before_end, Splits, outside, Replaced}
use Rattle.words.proofs.Tests.{picked, passed}
use Rattle.lines.proofs.Runs.{All, all_runs, along, runs_along, runs_three}
use Rattle.lines.proofs.Walked.{goes_on}
use Rattle.lines.proofs.Outcomes.{alone_free, one_each}

-- ---- the outcomes before the end are those of the runs

-- what is known of a run's outcome: it is no end, and its first word is the run's
pub record Inside (answer : Answer) (lo hi : ℕ) (r : Run) : Type 0 where
  pub lasts : is_end (alone answer r).what ≡ false
  pub from : lo ≤ (alone answer r).first
  pub below : (alone answer r).first < hi

inside : (answer : Answer) (p : ℕ) (ws : List ℕ) → length ws ≤ most → All (Inside answer p (p + length ws)) (runs_from p [] ws)
inside answer p ws m =
    all_runs (Inside answer p (p + length ws)) p (p + length ws)
    (λ q w l f a b.
    let e = alone_free answer q w l (omega arith) f in
    let s : (alone answer (record { place = q; words = w ∷ l })).first ≡ q = ap (λ (o : Outcome). o.first) e in
    record {
      lasts = ap (λ (o : Outcome). is_end o.what) e ∙ goes_on (answer (w ∷ l));
      from = omega arith;
      below = omega arith;
    })
    p [] ws tt (omega arith) (omega arith)

before_runs : (answer : Answer) (lo hi n : ℕ) (rs : List Run) → All (Inside answer lo hi) rs → before_end (map (alone answer) rs ++ (end_of n ∷ [])) ≡ map (alone answer) rs
unfolding before_end
before_runs answer lo hi n [] h = refl
before_runs answer lo hi n (r ∷ rs) h = passed _ _ h.0.lasts ∙ ap (λ (os : List Outcome). alone answer r ∷ os) (before_runs answer lo hi n rs h.1)

before-end : (answer : Answer) (line : List ℕ) → length line ≤ most → before_end (outcomes answer line) ≡ map (alone answer) (runs line)
before-end answer line m =
    ap before_end (one_each answer line m) ∙ before_runs answer 0 (0 + length line) (length line) (runs line) (inside answer 0 line m)

-- ---- moved along

map-append : {X Y : Type 0} (f : X → Y) (xs ys : List X) → map f (xs ++ ys) ≡ map f xs ++ map f ys
map-append f [] ys = refl
map-append f (x ∷ xs) ys = ap (λ (l : List _). f x ∷ l) (map-append f xs ys)

moved_twice : (p q : ℕ) (o : Outcome) → moved (p + q) o ≡ moved p (moved q o)
moved_twice p q o = λ i. outcome_of o.what (add_assoc p q o.first i) (add_assoc p q o.after i) (add_assoc p q o.named i)

alone_along : (answer : Answer) (q : ℕ) (rs : List Run) → map (alone answer) (map (along q) rs) ≡ map (moved q) (map (alone answer) rs)
alone_along answer q [] = refl
alone_along answer q (r ∷ rs) = λ i. moved_twice q r.place (read_by answer r.words 0) i ∷ alone_along answer q rs i

runs_moved : (answer : Answer) (q : ℕ) (ws : List ℕ) → map (alone answer) (runs_from q [] ws) ≡ map (moved q) (map (alone answer) (runs ws))
runs_moved answer q ws =
    ap (λ (k : ℕ). map (alone answer) (runs_from k [] ws)) (sym (add-zero q))
    ∙ ap (map (alone answer)) (runs_along q 0 [] ws)
    ∙ alone_along answer q (runs ws)

-- ---- a line in three parts

pub splits : Splits
splits answer pre mid post a b m =
    let line = pre ++ (mid ++ post) in
    let p = length pre in
    let q = p + length mid in
    let one = alone answer in
    let size : length line ≡ q + length post = length-append pre (mid ++ post) ∙ (let z = length-append mid post in omega arith) in
    let rs = runs_three pre mid post a b in
    let end = end_of (length line) ∷ [] in
    let M = map (moved p) (map one (runs mid)) in
    let P = map (moved q) (map one (runs post)) in
    let parts : map one (runs line) ≡ map one (runs pre) ++ (M ++ P) =
    ap (map one) rs
    ∙ map-append one (runs pre) (runs_from p [] mid ++ runs_from q [] post)
    ∙ ap (λ (os : List Outcome). map one (runs pre) ++ os)
    (map-append one (runs_from p [] mid) (runs_from q [] post) ∙ (λ i. runs_moved answer p mid i ++ runs_moved answer q post i)) in
    let last : P ++ end ≡ map (moved q) (outcomes answer post) =
    ap (λ (k : ℕ). P ++ (end_of k ∷ [])) size
    ∙ sym (map-append (moved q) (map one (runs post)) (end_of (length post) ∷ []))
    ∙ ap (map (moved q)) (sym (one_each answer post (omega arith))) in
    one_each answer line m
    ∙ ap (λ (os : List Outcome). os ++ end) parts
    ∙ append_assoc (map one (runs pre)) (M ++ P) end
    ∙ ap (λ (os : List Outcome). map one (runs pre) ++ os) (append_assoc M P end ∙ ap (λ (os : List Outcome). M ++ os) last)
    ∙ (λ i. sym (before-end answer pre (omega arith)) i
    ++ (map (moved p) (sym (before-end answer mid (omega arith)) i) ++ map (moved q) (outcomes answer post)))

-- ---- what stands outside

outside_append : (lo hi : ℕ) (os qs : List Outcome) → outside lo hi (os ++ qs) ≡ outside lo hi os ++ outside lo hi qs
unfolding outside
outside_append lo hi [] qs = refl
outside_append lo hi (o ∷ os) qs =
    ap (λ (l : List Outcome). cond (ltb o.first lo) (o ∷ l) (cond (ltb o.first hi) l (o ∷ l))) (outside_append lo hi os qs)
    ∙ kept (ltb o.first lo) (ltb o.first hi)
  where
    kept : (s t : Bool) → cond s (o ∷ (outside lo hi os ++ outside lo hi qs)) (cond t (outside lo hi os ++ outside lo hi qs) (o ∷ (outside lo hi os ++ outside lo hi qs)))
        ≡ cond s (o ∷ outside lo hi os) (cond t (outside lo hi os) (o ∷ outside lo hi os)) ++ outside lo hi qs
    kept true t = refl
    kept false true = refl
    kept false false = refl

none_outside : (answer : Answer) (lo hi : ℕ) (rs : List Run) → All (Inside answer lo hi) rs → outside lo hi (map (alone answer) rs) ≡ []
unfolding outside
none_outside answer lo hi [] h = refl
none_outside answer lo hi (r ∷ rs) h =
    passed _ _ (le-ltb (alone answer r).first lo h.0.from)
    ∙ picked _ _ (lt-ltb (alone answer r).first hi h.0.below)
    ∙ none_outside answer lo hi rs h.1

-- what is left outside depends on how many words stand between, and on nothing else of them
between : (answer : Answer) (a x b : List ℕ) (n : ℕ) → length x ≡ n → length (a ++ (idle ∷ (x ++ (idle ∷ b)))) ≤ most
    → outside (length a + 1) (length a + 1 + n) (outcomes answer (a ++ (idle ∷ (x ++ (idle ∷ b)))))
    ≡ outside (length a + 1) (length a + 1 + n) (before_end (outcomes answer (a ++ (idle ∷ []))))
    ++ outside (length a + 1) (length a + 1 + n) (map (moved (length a + 1 + n)) (outcomes answer (idle ∷ b)))
between answer a x b n k m =
    let pre = a ++ (idle ∷ []) in
    let post = idle ∷ b in
    let lo = length a + 1 in
    let hi = lo + n in
    let out = outside lo hi in
    let p : length pre ≡ lo = length-append a (idle ∷ []) in
    let same : a ++ (idle ∷ (x ++ post)) ≡ pre ++ (x ++ post) = sym (append_assoc a (idle ∷ []) (x ++ post)) in
    let size = length-append a (idle ∷ (x ++ post)) in
    let part = length-append x post in
    let top = before_end (outcomes answer pre) in
    let behind = map (moved hi) (outcomes answer post) in
    let inner : map (moved lo) (before_end (outcomes answer x)) ≡ map (alone answer) (runs_from lo [] x) =
    ap (map (moved lo)) (before-end answer x (omega arith)) ∙ sym (runs_moved answer lo x) in
    let none : out (map (moved lo) (before_end (outcomes answer x))) ≡ [] =
    ap out inner
    ∙ ap (λ (j : ℕ). outside lo (lo + j) (map (alone answer) (runs_from lo [] x))) (sym k)
    ∙ none_outside answer lo (lo + length x) (runs_from lo [] x) (inside answer lo x (omega arith)) in
    ap (λ (l : List ℕ). out (outcomes answer l)) same
    ∙ ap out
    (splits answer pre x post (inr (a, refl)) (inr (b, refl)) (let z = ap length same in omega arith)
    ∙ ap (λ (j : ℕ). top ++ (map (moved j) (before_end (outcomes answer x)) ++ map (moved (j + length x)) (outcomes answer post))) p
    ∙ ap (λ (j : ℕ). top ++ (map (moved lo) (before_end (outcomes answer x)) ++ map (moved (lo + j)) (outcomes answer post))) k)
    ∙ outside_append lo hi top (map (moved lo) (before_end (outcomes answer x)) ++ behind)
    ∙ ap (λ (os : List Outcome). out top ++ os)
    (outside_append lo hi (map (moved lo) (before_end (outcomes answer x))) behind ∙ ap (λ (os : List Outcome). os ++ out behind) none)

pub replaced : Replaced
replaced answer a x y b e m =
    let s = length-append a (idle ∷ (x ++ (idle ∷ b))) in
    let t = length-append a (idle ∷ (y ++ (idle ∷ b))) in
    let u = length-append x (idle ∷ b) in
    let v = length-append y (idle ∷ b) in
    between answer a x b (length x) refl m ∙ sym (between answer a y b (length x) (sym e) (omega arith))
