-- One outcome for each run, the number of calls, and reading from a place: the claims OneEach, CallsEnough and FromThere, for any answer to a
-- run. Assumes nothing.
use Rattle.std.specs.Prelude.{Result}
use Prim.Native.Nat.{ℕ, zero, suc, ◌+◌, ◌≤◌, ◌<◌}
use native.Mathlib.Nat.{add-zero, zero-add, add_assoc}
use mathlib.Core.Path.{◌≡◌, refl, ap, sym, ◌∙◌}
use mathlib.Core.Bool.{cond}
use mathlib.Core.List.{List, [], ◌∷◌, ◌++◌, map}
use native.Mathlib.Omega.{arith}
use lib.Dec.{eqb}
use lib.ListN.{length, drop, length-drop}
use borrow.Author.Tests.{ne_eqb}
use Rattle.words.specs.Word.{idle}
use Rattle.reports.specs.Runs.{answer_offset}
use Rattle.lines.specs.declared.Outcome.{Outcome}
use Rattle.lines.specs.Line.{most, outcome_of, end_of, what_of, is_end, gap, stretch, run_in, placed, outcome_at, read_by, calls}
use Rattle.lines.specs.Stretches.{Run, closed, runs_from, runs, runs_at}
use Rattle.lines.specs.Claims.{Answer, moved, alone, Solid, outcome_of_run, Meets, OneEach, CallsEnough, FromThere}
use Rattle.words.proofs.Tests.{picked, passed, by_test}
use Rattle.lines.proofs.Runs.{Free, free_gap, free_stretch}
use Rattle.lines.proofs.Walked.{read_there, goes_on, along_the_walk}
use Rattle.reports.specs.declared.Report.{Report}
use Rattle.reports.specs.declared.RunRefusal.{RunRefusal}

-- ---- a run alone and in the line

moved_placed : (f n : ℕ) (a : Result Report RunRefusal) → moved f (placed 0 n a) ≡ placed f n a
moved_placed f n a = λ i. outcome_of (what_of a) (add-zero f i) (f + zero-add n i) (f + zero-add (answer_offset a) i)

-- words without an idle one get alone what they get in the line
pub alone_free : (answer : Answer) (f w : ℕ) (ws : List ℕ) → length (w ∷ ws) ≤ most → Free (w ∷ ws)
    → alone answer (record { place = f; words = w ∷ ws }) ≡ placed f (length (w ∷ ws)) (answer (w ∷ ws))
alone_free answer f w ws m free =
    let l = w ∷ ws in
    ap (moved f)
    (read_there answer l 0 m (omega arith)
    ∙ ap (λ (k : ℕ). outcome_at answer (length l) (0 + k) (stretch (drop k l))) (free_gap l free)
    ∙ ap (outcome_at answer (length l) 0) (free_stretch l free))
    ∙ moved_placed f (length l) (answer l)

solid_free : (ws : List ℕ) → Solid ws → Free ws
solid_free [] s = tt
solid_free (w ∷ ws) s = (ne_eqb w idle s.0, solid_free ws s.1)

-- so a run that is met gets alone what it gets in the line
alone_met : (answer : Answer) (line : List ℕ) (p : ℕ) (r : Run) → length line ≤ most → Meets answer line p r → alone answer r ≡ outcome_of_run answer r
alone_met answer line p r m meets =
    let i = meets.inside in
    by_words r.words meets.some (omega arith) meets.solid
  where
    by_words : (ws : List ℕ) → 0 < length ws → length ws ≤ most → Solid ws → alone answer (record { place = r.place; words = ws }) ≡ placed r.place (length ws) (answer ws)
    by_words [] s n solid = absurd (omega arith)
    by_words (w ∷ ws) s n solid = alone_free answer r.place w ws n (solid_free (w ∷ ws) solid)

-- ---- the calls

-- a call that answers this outcome, and the calls after it
abbrev then : Answer → ℕ → List ℕ → Outcome → List Outcome
then answer k line o = o ∷ cond (is_end o.what) [] (calls answer k line o.after)

module _ (answer : Answer) (line : List ℕ) (m : length line ≤ most) where
  -- calls from a place on answer the outcomes of these runs, and the end
  abbrev Answered : ℕ → List Run → Type 0
  Answered p rs = (k : ℕ) → length rs < k → calls answer k line p ≡ map (alone answer) rs ++ (end_of (length line) ∷ [])

  at_end : (p : ℕ) → p ≤ length line → read_by answer line p ≡ end_of (length line) → Answered p []
  unfolding calls
  at_end p h e zero b = absurd (omega arith)
  at_end p h e (suc k) b = ap (then answer k line) e

  at_run : (p : ℕ) (r : Run) (rs : List Run) → Meets answer line p r → Answered (r.place + length r.words) rs → Answered p (r ∷ rs)
  unfolding calls
  at_run p r rs meets more zero b = absurd (omega arith)
  at_run p r rs meets more (suc k) b =
      let q = r.place + length r.words in
      ap (then answer k line) meets.outcome
      ∙ ap (λ (os : List Outcome). outcome_of_run answer r ∷ os) (passed [] (calls answer k line q) (goes_on (answer r.words)) ∙ more k (omega arith))
      ∙ ap (λ (o : Outcome). o ∷ (map (alone answer) rs ++ (end_of (length line) ∷ []))) (sym (alone_met answer line p r m meets))

  all_calls : (p : ℕ) → p ≤ length line → Answered p (runs_at line p)
  all_calls = along_the_walk answer line m Answered at_end (λ p r. at_run p r (runs_at line (r.place + length r.words)))

-- two runs are parted by a word: a line of n words has at most (n + 1) / 2 of them
opened : List ℕ → ℕ
opened [] = 0
opened (w ∷ ws) = 1

closed_more : (p : ℕ) (open' : List ℕ) (rs : List Run) → length (closed p open' rs) ≡ opened open' + length rs
unfolding opened
closed_more p [] rs = sym (zero-add (length rs))
closed_more p (w ∷ ws) rs = let z : suc (length rs) ≡ 1 + length rs = omega arith in z

none_open : opened [] ≡ 0
unfolding opened
none_open = refl

opened_snoc : (open' : List ℕ) (w : ℕ) → opened (open' ++ (w ∷ [])) ≡ 1
unfolding opened
opened_snoc [] w = refl
opened_snoc (x ∷ xs) w = refl

opened_one : (open' : List ℕ) → opened open' ≤ 1
unfolding opened
opened_one [] = omega arith
opened_one (w ∷ ws) = omega arith

few : (p : ℕ) (open' ws : List ℕ) → length (runs_from p open' ws) + length (runs_from p open' ws) ≤ length ws + 1 + opened open'
unfolding runs_from
few p open' [] = let c = closed_more p open' [] in let o = opened_one open' in omega arith
few p open' (w ∷ ws) =
    by_test (eqb w idle)
    (λ e.
    let q = p + length open' + 1 in
    let k = ap length (picked (closed p open' (runs_from q [] ws)) (runs_from p (open' ++ (w ∷ [])) ws) e) in
    let c = closed_more p open' (runs_from q [] ws) in
    let o = opened_one open' in
    let h = few q [] ws in
    let z : opened [] ≡ 0 = none_open in
    omega arith)
    (λ e.
    let k = ap length (passed (closed p open' (runs_from (p + length open' + 1) [] ws)) (runs_from p (open' ++ (w ∷ [])) ws) e) in
    let h = few p (open' ++ (w ∷ [])) ws in
    let z = opened_snoc open' w in
    omega arith)

-- a line of n words has at most (n + 1) / 2 runs
pub few_runs : (line : List ℕ) → length (runs line) + length (runs line) ≤ length line + 1
few_runs line = let h = few 0 [] line in let z = none_open in omega arith

pub one_each : OneEach
one_each answer line m = all_calls answer line m 0 (omega arith) (suc (length line)) (let h = few_runs line in omega arith)

pub calls_enough : CallsEnough
calls_enough answer line k m b = all_calls answer line m 0 (omega arith) k (let h = few_runs line in omega arith) ∙ sym (one_each answer line m)

-- ---- from a place

outcome_moved : (answer : Answer) (p n g : ℕ) (run : List ℕ) → moved p (outcome_at answer n g run) ≡ outcome_at answer (p + n) (p + g) run
outcome_moved answer p n g [] = refl
outcome_moved answer p n g (w ∷ ws) =
    λ i. outcome_of (what_of (answer (w ∷ ws))) (p + g) (sym (add_assoc p g (length (w ∷ ws))) i) (sym (add_assoc p g (answer_offset (answer (w ∷ ws)))) i)

pub from_there : FromThere
from_there answer line p m h =
    let rest = drop p line in
    let n = length-drop p line in
    let e : p + length rest ≡ length line = omega arith in
    read_there answer line p m h
    ∙ ap (λ (k : ℕ). outcome_at answer k (p + gap rest) (run_in rest)) (sym e)
    ∙ sym (outcome_moved answer p (length rest) (gap rest) (run_in rest))
    ∙ ap (λ (k : ℕ). moved p (outcome_at answer (length rest) k (run_in rest))) (sym (zero-add (gap rest)))
    ∙ ap (moved p) (sym (read_there answer rest 0 (omega arith) (omega arith)))
