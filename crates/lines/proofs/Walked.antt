-- The walk from outcome to outcome, for any answer to a run: the claims AlongTheWalk, StepByStep and Onward. Assumes nothing.
use Rattle.std.specs.Prelude.{Ok, Result, Err}
use Prim.Native.Nat.{ℕ, zero, suc, ◌+◌, ◌-◌, ◌≤◌, ◌<◌}
use native.Mathlib.Nat.{add-zero}
use mathlib.Core.Path.{◌≡◌, refl, ap, sym, ◌∙◌, subst}
use mathlib.Core.Bool.{false}
use mathlib.Core.Logic.{◌⊎◌, inl, inr, ⊎_elim}
use mathlib.Core.List.{List, [], ◌∷◌, ◌++◌, append_assoc}
use native.Mathlib.Omega.{arith}
use lib.Dec.{eqb}
use lib.ListN.{length, take, drop, replicate, length-drop}
use lib.Seq.{drop-drop, drop-length}
use borrow.Author.Tests.{le-ltb, eqb-true, eqb-false}
use Rattle.words.specs.Word.{idle}
use Rattle.lines.specs.declared.Outcome.{Outcome}
use Rattle.lines.specs.Line.{most, end_of, what_of, is_end, gap, stretch, run_in, outcome_at, read_by}
use Rattle.lines.specs.Stretches.{Run, closed, runs_from, runs_at, gathered}
use Rattle.lines.specs.Claims.{Answer, Solid, Meets, AlongTheWalk, StepByStep, Onward}
use Rattle.words.proofs.Tests.{picked, passed, by_test}
use Rattle.lines.proofs.Runs.{runs_next, gap_all}
use Rattle.reports.specs.declared.Report.{Report}
use Rattle.reports.specs.declared.RunRefusal.{RunRefusal}

-- ---- what runs bring

pub gathered_append : {R X : Type 0} (brings : R → List X) (rs ts : List R) → gathered brings (rs ++ ts) ≡ gathered brings rs ++ gathered brings ts
unfolding gathered
gathered_append brings [] ts = refl
gathered_append brings (r ∷ rs) ts =
    ap (λ (l : List _). brings r ++ l) (gathered_append brings rs ts) ∙ sym (append_assoc (brings r) (gathered brings rs) (gathered brings ts))

-- ---- what is read at a place

-- at a place of a line that is short enough the reader answers the run behind the idle words
pub read_there : (answer : Answer) (line : List ℕ) (p : ℕ) → length line ≤ most → p ≤ length line
    → read_by answer line p ≡ outcome_at answer (length line) (p + gap (drop p line)) (run_in (drop p line))
unfolding read_by
read_there answer line p m h = passed _ _ (le-ltb most (length line) m) ∙ passed _ _ (le-ltb (length line) p h)

pub goes_on : (a : Result Report RunRefusal) → is_end (what_of a) ≡ false
goes_on (Ok r) = refl
goes_on (Err refusal) = refl

-- ---- the run behind the idle words

stretch_short : (ws : List ℕ) → length (stretch ws) ≤ length ws
unfolding stretch
stretch_short [] = omega arith
stretch_short (w ∷ ws) =
    by_test (eqb w idle)
    (λ e. subst (λ (l : List ℕ). length l ≤ suc (length ws)) (sym (picked [] (w ∷ stretch ws) e)) (omega arith))
    (λ e. let h = stretch_short ws in subst (λ (l : List ℕ). length l ≤ suc (length ws)) (sym (passed [] (w ∷ stretch ws) e)) (omega arith))

stretch_solid : (ws : List ℕ) → Solid (stretch ws)
unfolding stretch
stretch_solid [] = tt
stretch_solid (w ∷ ws) =
    by_test (eqb w idle)
    (λ e. subst Solid (sym (picked [] (w ∷ stretch ws) e)) tt)
    (λ e. subst Solid (sym (passed [] (w ∷ stretch ws) e)) (eqb-false w idle e, stretch_solid ws))

-- the words in front of the first idle word, and the idle words in front
pub stretch_front : (ws : List ℕ) → take (length (stretch ws)) ws ≡ stretch ws
unfolding stretch
stretch_front [] = refl
stretch_front (w ∷ ws) =
    by_test (eqb w idle)
    (λ e. ap (λ (l : List ℕ). take (length l) (w ∷ ws)) (picked [] (w ∷ stretch ws) e) ∙ sym (picked [] (w ∷ stretch ws) e))
    (λ e.
    ap (λ (l : List ℕ). take (length l) (w ∷ ws)) (passed [] (w ∷ stretch ws) e)
    ∙ ap (λ (l : List ℕ). w ∷ l) (stretch_front ws)
    ∙ sym (passed [] (w ∷ stretch ws) e))

gap_front : (ws : List ℕ) → take (gap ws) ws ≡ replicate (gap ws) idle
unfolding gap
gap_front [] = refl
gap_front (w ∷ ws) =
    by_test (eqb w idle)
    (λ e.
    let k : gap (w ∷ ws) ≡ suc (gap ws) = picked _ _ e in
    ap (λ (n : ℕ). take n (w ∷ ws)) k ∙ (λ i. eqb-true w idle e i ∷ gap_front ws i) ∙ ap (λ (n : ℕ). replicate n idle) (sym k))
    (λ e. let k : gap (w ∷ ws) ≡ 0 = passed _ _ e in ap (λ (n : ℕ). take n (w ∷ ws)) k ∙ ap (λ (n : ℕ). replicate n idle) (sym k))

-- behind them none is left
gap_past : (ws : List ℕ) → gap (drop (gap ws) ws) ≡ 0
unfolding gap
gap_past [] = refl
gap_past (w ∷ ws) =
    by_test (eqb w idle)
    (λ e. let k : gap (w ∷ ws) ≡ suc (gap ws) = picked _ _ e in ap (λ (n : ℕ). gap (drop n (w ∷ ws))) k ∙ gap_past ws)
    (λ e. let k : gap (w ∷ ws) ≡ 0 = passed _ _ e in ap (λ (n : ℕ). gap (drop n (w ∷ ws))) k ∙ k)

gap_short : (ws : List ℕ) → gap ws ≤ length ws
unfolding gap
gap_short [] = omega arith
gap_short (w ∷ ws) =
    by_test (eqb w idle)
    (λ e. let h = gap_short ws in let k : gap (w ∷ ws) ≡ suc (gap ws) = picked _ _ e in omega arith)
    (λ e. let k : gap (w ∷ ws) ≡ 0 = passed _ _ e in omega arith)

run_short : (ws : List ℕ) → gap ws + length (run_in ws) ≤ length ws
run_short ws = let a = stretch_short (drop (gap ws) ws) in let b = gap_short ws in omega (arith, length-drop (gap ws) ws)

runs_none : (p : ℕ) (ws : List ℕ) → run_in ws ≡ [] → runs_from p [] ws ≡ []
unfolding runs_from
runs_none p ws e =
    runs_next p ws
    ∙ ap (λ (l : List ℕ). closed (p + gap ws) l (runs_from (p + gap ws + length l) [] (drop (gap ws + length l) ws))) e
    ∙ ap (λ (g : ℕ). runs_from (p + gap ws + 0) [] (drop g ws)) (add-zero (gap ws))
    ∙ ap (runs_from (p + gap ws + 0) []) (gap_all ws e)

runs_some : (p : ℕ) (line : List ℕ) (w : ℕ) (l : List ℕ) → run_in (drop p line) ≡ w ∷ l
    → runs_at line p ≡ record { place = p + gap (drop p line); words = w ∷ l } ∷ runs_at line (p + gap (drop p line) + length (w ∷ l))
runs_some p line w l e =
    let ws = drop p line in
    let f = p + gap ws in
    runs_next p ws
    ∙ ap (λ (l : List ℕ). closed f l (runs_from (f + length l) [] (drop (gap ws + length l) ws))) e
    ∙ ap (λ (r : List ℕ). record { place = f; words = w ∷ l } ∷ runs_from (f + length (w ∷ l)) [] r)
    (drop-drop (gap ws + length (w ∷ l)) p line
    ∙ ap (λ (n : ℕ). drop n line) (let z : p + (gap ws + length (w ∷ l)) ≡ p + gap ws + length (w ∷ l) = omega arith in z))

-- ---- a step

-- at a place is the end and no run is left, or a run is met, and behind it are the runs from there on
pub next_run : (answer : Answer) (line : List ℕ) (p : ℕ) → length line ≤ most → p ≤ length line
    → ((read_by answer line p ≡ end_of (length line)) × (runs_at line p ≡ []))
    ⊎ ((r : Run) × Meets answer line p r × (runs_at line p ≡ r ∷ runs_at line (r.place + length r.words)))
next_run answer line p m h =
    by_run (run_in (drop p line)) refl
  where
    by_run : (run : List ℕ) → run_in (drop p line) ≡ run
        → ((read_by answer line p ≡ end_of (length line)) × (runs_at line p ≡ []))
        ⊎ ((r : Run) × Meets answer line p r × (runs_at line p ≡ r ∷ runs_at line (r.place + length r.words)))
    by_run [] e = inl (read_there answer line p m h ∙ ap (outcome_at answer (length line) (p + gap (drop p line))) e, runs_none p (drop p line) e)
    by_run (w ∷ l) e =
        let ws = drop p line in
        let f = p + gap ws in
        let short = run_short ws in
        let size = ap length e in
        let d = length-drop p line in
        let here : drop f line ≡ drop (gap ws) ws = sym (drop-drop (gap ws) p line) in
        let far : f - p ≡ gap ws = omega arith in
        let none : gap (drop f line) ≡ 0 = ap gap here ∙ gap_past ws in
        let run : run_in (drop f line) ≡ w ∷ l = ap (λ (k : ℕ). stretch (drop k (drop f line))) none ∙ ap stretch here ∙ e in
        inr (
          record { place = f; words = w ∷ l },
          record {
            ahead = omega arith;
            some = omega arith;
            solid = subst Solid e (stretch_solid (drop (gap ws) ws));
            inside = omega arith;
            idle_before = ap (λ (k : ℕ). take k ws) far ∙ gap_front ws ∙ ap (λ (k : ℕ). replicate k idle) (sym far);
            there = ap (λ (k : ℕ). take k (drop f line)) (sym size) ∙ ap (take (length (run_in ws))) here ∙ stretch_front (drop (gap ws) ws) ∙ e;
            outcome = read_there answer line p m h ∙ ap (outcome_at answer (length line) f) e;
            again =
                read_there answer line f m (omega arith)
                ∙ ap (λ (k : ℕ). outcome_at answer (length line) (f + k) (run_in (drop f line))) none
                ∙ ap (λ (k : ℕ). outcome_at answer (length line) k (run_in (drop f line))) (add-zero f)
                ∙ ap (outcome_at answer (length line) f) run;
          },
          runs_some p line w l e,
        )

-- ---- the laws

module _ (answer : Answer) (line : List ℕ) (m : length line ≤ most) (P : ℕ → List Run → Type 0) (end : (p : ℕ) → p ≤ length line → read_by answer line p ≡ end_of (length line) → P p []) (run : (p : ℕ) (r : Run) → Meets answer line p r → P (r.place + length r.words) (runs_at line (r.place + length r.words)) → P p (r ∷ runs_at line (r.place + length r.words))) where
  along : (k p : ℕ) → p ≤ length line → length line - p < k → P p (runs_at line p)
  along zero p h b = absurd (omega arith)
  along (suc k) p h b =
      ⊎_elim
      (λ e. subst (P p) (sym e.1) (end p h e.0))
      (λ e.
      let r = e.0 in
      let a = e.1.ahead in
      let s = e.1.some in
      let i = e.1.inside in
      subst (P p) (sym e.2) (run p r e.1 (along k (r.place + length r.words) i (omega arith))))
      (next_run answer line p m h)

pub along_the_walk : AlongTheWalk
along_the_walk answer line m P end run p h = along answer line m P end run (suc (length line)) p h (omega arith)

-- behind the last word is no run
pub none_left : (line : List ℕ) → runs_at line (length line) ≡ []
unfolding runs_from
none_left line = ap (runs_from (length line) []) (drop-length line)

pub step_by_step : StepByStep
unfolding gathered
step_by_step answer line m X of_run of_outcome none same p h =
    ⊎_elim
    (λ e.
    let o = e.0 in
    let after : (read_by answer line p).after ≡ length line = ap (λ (x : Outcome). x.after) o in
    ap (gathered of_run) e.1
    ∙ sym (ap (gathered of_run) (none_left line))
    ∙ ap (λ (q : ℕ). gathered of_run (runs_at line q)) (sym after)
    ∙ ap (λ (l : List X). l ++ gathered of_run (runs_at line (read_by answer line p).after)) (sym (ap of_outcome o ∙ none)))
    (λ e.
    let r = e.0 in
    let o = e.1.outcome in
    let after : (read_by answer line p).after ≡ r.place + length r.words = ap (λ (x : Outcome). x.after) o in
    ap (gathered of_run) e.2
    ∙ ap (λ (q : ℕ). of_run r ++ gathered of_run (runs_at line q)) (sym after)
    ∙ ap (λ (l : List X). l ++ gathered of_run (runs_at line (read_by answer line p).after)) (sym (ap of_outcome o ∙ same r)))
    (next_run answer line p m h)

-- every outcome but the end goes on
pub onward : Onward
onward answer line p m h =
    ⊎_elim
    (λ e. inl e.0)
    (λ e.
    let r = e.0 in
    let o = e.1.outcome in
    let after : (read_by answer line p).after ≡ r.place + length r.words = ap (λ (x : Outcome). x.after) o in
    let a = e.1.ahead in
    let s = e.1.some in
    let i = e.1.inside in
    inr (ap (λ (x : Outcome). is_end x.what) o ∙ goes_on (answer r.words), omega arith, omega arith))
    (next_run answer line p m h)
