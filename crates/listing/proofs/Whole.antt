-- Successive fills are the whole listing: the claim Whole. The walk over a line from outcome to outcome is a law of lines; here is what is said of
-- a run, and at the end. Assumes nothing.
use Prim.Native.Nat.{ℕ, zero, suc, ◌+◌, ◌-◌, ◌/◌, ◌%◌, ◌≤◌, ◌<◌}
use native.Mathlib.Nat.{add-zero, zero-add, add_assoc}
use mathlib.Core.Path.{◌≡◌, refl, ap, sym, ◌∙◌}
use mathlib.Core.Bool.{Bool, true, false, not, cond}
use mathlib.Core.List.{List, [], ◌∷◌, ◌++◌, append-nil, append_assoc}
use native.Mathlib.Omega.{arith}
use lib.Dec.{eqb, ltb}
use lib.ListN.{length}
use borrow.Author.Tests.{ltb-true, ltb-false, eqb-true, eqb-false}
use Rattle.std.specs.Prelude.{codes, Result, Ok, Err}
use Rattle.refusals.specs.Numbers.{line_number}
use Rattle.reports.specs.declared.Report.{Report}
use Rattle.reports.specs.declared.RunRefusal.{RunRefusal}
use Rattle.reports.specs.Kinds.{kind_of}
use Rattle.lines.specs.declared.Outcome.{Outcome}
use Rattle.lines.specs.Bytes.{most_bytes, words_in}
use Rattle.lines.specs.Line.{most, end_of, placed, read_by}
use Rattle.reports.specs.Runs.{is_accepted}
use Rattle.lines.specs.Stretches.{Run, runs, runs_at, idle_words, words_where}
use Rattle.lines.specs.Claims.{outcome_of_run, Meets}
use Rattle.words.proofs.Tests.{picked, passed, by_test}
use Rattle.lines.proofs.ByteWords.{words_length}
use Rattle.lines.proofs.Walked.{along_the_walk}
use Rattle.lines.proofs.Outcomes.{few_runs}
use Rattle.lines.proofs.Totals.{totals_add}
use Rattle.listing.specs.declared.Walk.{Walk}
use Rattle.listing.specs.Letters.{report_line, refused_line, totals_line}
use Rattle.listing.specs.Listing.{answer, line_for, run_lines, listing_of, listing}
use Rattle.listing.specs.Walking.{at, start, closed, Step, Says, Ended, step_on, step_at, said, onward, fills, reached}
use Rattle.listing.specs.Claims.{Whole}
use Rattle.listing.proofs.Bounded.{by_words}
use Rattle.listing.proofs.Telling.{is_long, is_odd, is_read}

-- ---- calls and fills

-- the text is said and the walk is done
abbrev Says-all : ℕ → List ℕ → Walk → List ℕ → Type 0
Says-all k bytes w all = (fills k bytes w ≡ all) × ((reached k bytes w).done ≡ true)

done_fills : (k : ℕ) (bytes : List ℕ) (w : Walk) → w.done ≡ true → Says-all k bytes w []
unfolding fills reached step_at
done_fills zero bytes w h = (refl, h)
done_fills (suc k) bytes w h =
    let e : step_at bytes w ≡ Ended = picked _ _ h in
    let r = done_fills k bytes w h in (
      ap (λ (s : Step). said s ++ fills k bytes (onward w s)) e ∙ r.0,
      ap (λ (s : Step). (reached k bytes (onward w s)).done) e ∙ r.1,
    )

one_fill : (k : ℕ) (bytes : List ℕ) (w : Walk) (s : Step) (rest : List ℕ) → step_at bytes w ≡ s → Says-all k bytes (onward w s) rest → Says-all (suc k) bytes w (said s ++ rest)
unfolding fills reached
one_fill k bytes w s rest e r = (
  ap (λ (s : Step). said s ++ fills k bytes (onward w s)) e ∙ ap (λ (l : List ℕ). said s ++ l) r.0,
  ap (λ (s : Step). (reached k bytes (onward w s)).done) e ∙ r.1,
)

-- ---- one outcome

-- the words of the runs that pass a test
abbrev reported : List Run → ℕ
reported rs = words_where is_accepted answer rs

abbrev refused : List Run → ℕ
refused rs = words_where (λ a. not (is_accepted a)) answer rs

-- the totals, where so many words were counted
abbrev totals : ℕ → ℕ → ℕ → List ℕ
totals n r q = totals_line (n - r - q) r q n

-- the walk behind a run of c words at f that got this answer
abbrev behind : Walk → ℕ → ℕ → Result Report RunRefusal → Walk
behind w f c a = at (f + c) (w.reported + cond (is_accepted a) c 0) (w.refused + cond (not (is_accepted a)) c 0)

run_said : (n : ℕ) (w : Walk) (f c : ℕ) (a : Result Report RunRefusal) → step_on n w (placed f c a) ≡ Says (line_for f c a) (behind w f c a)
run_said n w f c (Ok report) =
    let z : f + c - f ≡ c = omega arith in
    ap (λ (k : ℕ). Says (report_line f (kind_of report) k) (at (f + c) (w.reported + k) w.refused)) z
    ∙ ap (λ (k : ℕ). Says (report_line f (kind_of report) c) (at (f + c) (w.reported + c) k)) (sym (add-zero w.refused))
run_said n w f c (Err refusal) =
    let z : f + c - f ≡ c = omega arith in
    ap (λ (k : ℕ). Says (refused_line f (line_number refusal.why) k (f + refusal.offset)) (at (f + c) w.reported (w.refused + k))) z
    ∙ ap (λ (k : ℕ). Says (refused_line f (line_number refusal.why) c (f + refusal.offset)) (at (f + c) k (w.refused + c))) (sym (add-zero w.reported))

-- a walk that has counted no more words than lie before its place
pub record Under-way (n : ℕ) (w : Walk) : Type 0 where
  pub going : w.done ≡ false
  pub inside : w.place ≤ n
  pub counted : w.reported + w.refused ≤ w.place

one_counts : (b : Bool) (c : ℕ) → cond b c 0 + cond (not b) c 0 ≡ c
one_counts true c = add-zero c
one_counts false c = zero-add c

-- ---- the walk

module _ (bytes : List ℕ) (short : length bytes ≤ most_bytes) (even : length bytes % 2 ≡ 1 → ⊥) where
  abbrev line : List ℕ
  line = words_in bytes

  abbrev n : ℕ
  n = length line

  few : n ≤ most
  few = let k = words_length bytes in omega arith

  -- what a call says, by the outcome at the walk's place
  step_is : (w : Walk) (p : ℕ) (o : Outcome) → Under-way n w → w.place ≡ p → read_by answer line p ≡ o → step_at bytes w ≡ step_on n w o
  step_is w p o s at e =
      let k = s.counted in
      is_read bytes w n s.going short even (words_length bytes) s.inside (omega arith) (omega arith)
      ∙ ap (step_on n w) (by_words bytes w.place short even ∙ ap (read_by answer line) at ∙ e)

  -- from a place on, a walk that is under way says these runs and then the totals
  abbrev Told : ℕ → List Run → Type 0
  Told p rs =
      (k : ℕ) (w : Walk) → Under-way n w → w.place ≡ p → length rs < k →
      Says-all k bytes w (run_lines rs ++ totals n (w.reported + reported rs) (w.refused + refused rs))

  end_told : (p : ℕ) → p ≤ n → read_by answer line p ≡ end_of n → Told p []
  unfolding run_lines words_where
  end_told p h e zero w s at b = absurd (omega arith)
  end_told p h e (suc k) w s at b =
      let t = Says (totals n w.reported w.refused) (closed w) in
      let all = one_fill k bytes w t [] (step_is w p (end_of n) s at e) (done_fills k bytes (closed w) refl) in (
        all.0
            ∙ append-nil (totals n w.reported w.refused)
            ∙ (λ i. totals n (sym (add-zero w.reported) i) (sym (add-zero w.refused) i)),
        all.1,
      )

  run_told : (p : ℕ) (r : Run) (rs : List Run) → Meets answer line p r → Told (r.place + length r.words) rs → Told p (r ∷ rs)
  unfolding run_lines words_where
  run_told p r rs meets more zero w s at b = absurd (omega arith)
  run_told p r rs meets more (suc k) w s at b =
      let f = r.place in
      let c = length r.words in
      let a = answer r.words in
      let next = behind w f c a in
      let ahead = meets.ahead in
      let so_far = s.counted in
      let one = one_counts (is_accepted a) c in
      let on : Under-way n next = record { going = refl; inside = meets.inside; counted = omega arith } in
      let is = step_is w p (outcome_of_run answer r) s at meets.outcome ∙ run_said n w f c a in
      let all = one_fill k bytes w (Says (line_for f c a) next) _ is (more k next on refl (omega arith)) in (
        all.0
            ∙ sym (append_assoc (line_for f c a) (run_lines rs) (totals n (next.reported + reported rs) (next.refused + refused rs)))
            ∙ (λ i. (line_for f c a ++ run_lines rs)
            ++ totals n (add_assoc w.reported (cond (is_accepted a) c 0) (reported rs) i) (add_assoc w.refused (cond (not (is_accepted a)) c 0) (refused rs) i)),
        all.1,
      )

  -- ---- the whole

  words_said : (k : ℕ) → (n + 1) / 2 + 1 ≤ k → Says-all k bytes start (listing_of line)
  words_said k enough =
      let runs_are = few_runs line in
      let ok : Under-way n start = record { going = refl; inside = omega arith; counted = omega arith } in
      let all = along_the_walk answer line few Told end_told (λ p r. run_told p r (runs_at line (r.place + length r.words))) 0 (omega arith) k start ok refl (omega arith) in
      let add = totals_add answer line in
      let left : n - (0 + reported (runs line)) - (0 + refused (runs line)) ≡ idle_words line = omega arith in (
        all.0
            ∙ ap (λ (i : ℕ). run_lines (runs line) ++ totals_line i (0 + reported (runs line)) (0 + refused (runs line)) n) left
            ∙ ap (λ (r : ℕ). run_lines (runs line) ++ totals_line (idle_words line) r (0 + refused (runs line)) n) (zero-add (reported (runs line)))
            ∙ ap (λ (q : ℕ). run_lines (runs line) ++ totals_line (idle_words line) (reported (runs line)) q n) (zero-add (refused (runs line))),
        all.1,
      )

-- one line is all that is said
alone_said : (k : ℕ) (bytes all : List ℕ) → 1 ≤ k → step_at bytes start ≡ Says all (closed start) → Says-all k bytes start all
alone_said zero bytes all h e = absurd (omega arith)
alone_said (suc k) bytes all h e =
    let r = one_fill k bytes start (Says all (closed start)) [] e (done_fills k bytes (closed start) refl) in
    (r.0 ∙ append-nil all, r.1)

pub whole : Whole
unfolding listing
whole bytes k enough =
    by_test (ltb most_bytes (length bytes))
    (λ e.
    let long = is_long bytes start refl (ltb-true most_bytes (length bytes) e) in
    let r = alone_said k bytes (codes "LONG\n") (omega arith) long in
    (r.0 ∙ sym (picked _ _ e), r.1))
    (λ e.
    let short = ltb-false most_bytes (length bytes) e in
    by_test (eqb (length bytes % 2) 1)
    (λ f.
    let odd = is_odd bytes start refl short (eqb-true (length bytes % 2) 1 f) in
    let r = alone_said k bytes (codes "ODD\n") (omega arith) odd in
    (r.0 ∙ sym (passed _ _ e ∙ picked _ _ f), r.1))
    (λ f.
    let r = words_said bytes short (eqb-false (length bytes % 2) 1 f) k enough in
    (r.0 ∙ sym (passed _ _ e ∙ passed _ _ f), r.1)))
