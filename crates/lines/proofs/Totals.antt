-- How many words are idle, in reports and in refused runs: the claims TotalsAdd and TotalsCounted, for any answer to a run.
-- Assumes nothing.
use Rattle.std.specs.Prelude.{Ok, Result, Err}
use Prim.Native.Nat.{ℕ, suc, ◌+◌, ◌-◌, ◌≤◌}
use native.Mathlib.Nat.{add-zero}
use mathlib.Core.Path.{◌≡◌, refl, ap, ◌∙◌}
use mathlib.Core.Bool.{Bool, true, false, not, cond}
use mathlib.Core.List.{List, [], ◌∷◌, ◌++◌, map}
use native.Mathlib.Omega.{arith}
use lib.Dec.{eqb}
use lib.ListN.{length, length-append}
use Rattle.words.specs.Word.{idle}
use Rattle.lines.specs.declared.What.{What}
use Rattle.lines.specs.declared.What.TheVariants as W
use Rattle.lines.specs.declared.Outcome.{Outcome}
use Rattle.lines.specs.Line.{most, end_of, what_of, is_report, is_refusal, placed, outcomes}
use Rattle.reports.specs.Runs.{is_accepted}
use Rattle.lines.specs.Stretches.{Run, closed, runs_from, runs, idle_words, words_where}
use Rattle.lines.specs.Claims.{Answer, alone, spanned, TotalsAdd, TotalsCounted}
use Rattle.words.proofs.Tests.{picked, passed, by_test}
use Rattle.lines.proofs.Runs.{All, all_runs}
use Rattle.lines.proofs.Outcomes.{alone_free, one_each}
use Rattle.reports.specs.declared.Report.{Report}
use Rattle.reports.specs.declared.RunRefusal.{RunRefusal}

-- ---- they add up

module _ (answer : Answer) where
  -- the words of these runs, in reports and refused
  both : List Run → ℕ
  both rs = words_where is_accepted answer rs + words_where (λ a. not (is_accepted a)) answer rs

  halves : (b : Bool) (n x y : ℕ) → cond b n 0 + x + (cond (not b) n 0 + y) ≡ n + (x + y)
  halves true n x y = omega arith
  halves false n x y = omega arith

  both_none : both [] ≡ 0
  unfolding both words_where
  both_none = refl

  both_closed : (p : ℕ) (open' : List ℕ) (rs : List Run) → both (closed p open' rs) ≡ length open' + both rs
  unfolding both words_where
  both_closed p [] rs = let z : both rs ≡ 0 + both rs = omega arith in z
  both_closed p (w ∷ ws) rs =
      halves (is_accepted (answer (w ∷ ws))) (length (w ∷ ws)) (words_where is_accepted answer rs) (words_where (λ a. not (is_accepted a)) answer rs)

  every_word : (p : ℕ) (open' ws : List ℕ) → idle_words ws + both (runs_from p open' ws) ≡ length open' + length ws
  unfolding runs_from idle_words
  every_word p open' [] = let c = both_closed p open' [] in let z = both_none in omega arith
  every_word p open' (w ∷ ws) =
      by_test (eqb w idle)
      (λ e.
      let q = p + length open' + 1 in
      let i : idle_words (w ∷ ws) ≡ suc (idle_words ws) = picked _ _ e in
      let r = ap both (picked (closed p open' (runs_from q [] ws)) (runs_from p (open' ++ (w ∷ [])) ws) e) in
      let c = both_closed p open' (runs_from q [] ws) in
      let h = every_word q [] ws in
      omega arith)
      (λ e.
      let i : idle_words (w ∷ ws) ≡ idle_words ws = passed _ _ e in
      let r = ap both (passed (closed p open' (runs_from (p + length open' + 1) [] ws)) (runs_from p (open' ++ (w ∷ [])) ws) e) in
      let n = length-append open' (w ∷ []) in
      let h = every_word p (open' ++ (w ∷ [])) ws in
      omega arith)

pub totals_add : TotalsAdd
unfolding both
totals_add answer line = let h = every_word answer 0 [] line in omega arith

-- ---- they are counted by the outcomes

-- a test on outcomes that is one on answers, and passes no end
pub record Same (test : What → Bool) (on : Result Report RunRefusal → Bool) : Type 0 where
  pub answers : (a : Result Report RunRefusal) → test (what_of a) ≡ on a
  pub none : test W.End ≡ false

module _ (answer : Answer) (test : What → Bool) (on : Result Report RunRefusal → Bool) (same : Same test on) where
  Counted : Run → Type 0
  Counted r = cond (test (alone answer r).what) ((alone answer r).after - (alone answer r).first) 0 ≡ cond (on (answer r.words)) (length r.words) 0

  counted : (p w : ℕ) (ws : List ℕ) → alone answer (record { place = p; words = w ∷ ws }) ≡ placed p (length (w ∷ ws)) (answer (w ∷ ws)) → Counted (record { place = p; words = w ∷ ws })
  unfolding Counted
  counted p w ws e =
      let n = length (w ∷ ws) in
      ap (λ (o : Outcome). cond (test o.what) (o.after - o.first) 0) e
      ∙ ap (λ (b : Bool). cond b (p + n - p) 0) (same.answers (answer (w ∷ ws)))
      ∙ ap (λ (k : ℕ). cond (on (answer (w ∷ ws))) k 0) (let z : p + n - p ≡ n = omega arith in z)

  all_counted : (n : ℕ) (rs : List Run) → All Counted rs → spanned test (map (alone answer) rs ++ (end_of n ∷ [])) ≡ words_where on answer rs
  unfolding Counted spanned words_where
  all_counted n [] h = ap (λ (b : Bool). cond b (n - n) 0 + 0) same.none ∙ add-zero 0
  all_counted n (r ∷ rs) h = λ i. h.0 i + all_counted n rs h.1 i

  count : (line : List ℕ) → length line ≤ most → spanned test (outcomes answer line) ≡ words_where on answer (runs line)
  count line m =
      ap (spanned test) (one_each answer line m)
      ∙ all_counted (length line) (runs line)
      (all_runs Counted 0 (length line) (λ p w ws f a b. counted p w ws (alone_free answer p w ws (omega arith) f)) 0 [] line tt (omega arith) (omega arith))

report_same : Same is_report is_accepted
report_same = record { answers = told; none = refl }
  where
    told : (a : Result Report RunRefusal) → is_report (what_of a) ≡ is_accepted a
    told (Ok r) = refl
    told (Err refusal) = refl

refusal_same : Same is_refusal (λ a. not (is_accepted a))
refusal_same = record { answers = told; none = refl }
  where
    told : (a : Result Report RunRefusal) → is_refusal (what_of a) ≡ not (is_accepted a)
    told (Ok r) = refl
    told (Err refusal) = refl

pub totals_counted : TotalsCounted
totals_counted answer line m = (
  count answer is_report is_accepted report_same line m,
  count answer is_refusal (λ a. not (is_accepted a)) refusal_same line m,
)
