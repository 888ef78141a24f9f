-- The runs of a line: the first is what stands behind the idle words in front; what every run has; the runs of a line in parts.
-- Assumes nothing.
use Prim.Native.Nat.{ℕ, zero, suc, ◌+◌, ◌≤◌}
use native.Mathlib.Nat.{add-zero, zero-add}
use mathlib.Core.Path.{◌≡◌, refl, ap, sym, ◌∙◌}
use mathlib.Core.Bool.{Bool, false}
use mathlib.Core.Logic.{⊎_elim}
use mathlib.Core.List.{List, [], ◌∷◌, ◌++◌, map, append-nil, append_assoc, cons≢nil}
use native.Mathlib.Omega.{arith}
use lib.Dec.{eqb}
use lib.ListN.{length, drop, replicate, length-append}
use lib.Seq.{append_snoc, drop-drop}
use borrow.Author.Tests.{ne_eqb}
use Rattle.words.specs.Word.{idle, AllGood}
use Rattle.words.proofs.Claims.{no_report_word_is_idle}
use Rattle.words.proofs.Faults.{NoneHas}
use Rattle.reports.proofs.Tests.{by_cond}
use Rattle.lines.specs.Line.{gap, stretch, run_in}
use Rattle.lines.specs.Stretches.{Run, closed, runs_from, runs}
use Rattle.lines.specs.Claims.{EndsIdle, BeginsIdle}
use Rattle.words.proofs.Tests.{picked, passed, by_test}

-- idle words in front belong to no run
runs_gap : (p : ℕ) (ws : List ℕ) → runs_from p [] ws ≡ runs_from (p + gap ws) [] (drop (gap ws) ws)
unfolding runs_from gap
runs_gap p [] = refl
runs_gap p (w ∷ ws) =
    by_test (eqb w idle)
    (λ e. let k : gap (w ∷ ws) ≡ suc (gap ws) = picked _ _ e in
    picked _ _ e ∙ runs_gap (p + 0 + 1) ws
    ∙ ap (λ (q : ℕ). runs_from q [] (drop (gap ws) ws)) (let z : p + 0 + 1 + gap ws ≡ p + suc (gap ws) = omega arith in z)
    ∙ ap (λ (g : ℕ). runs_from (p + g) [] (drop g (w ∷ ws))) (sym k))
    (λ e. let k : gap (w ∷ ws) ≡ 0 = passed _ _ e in
    ap (λ (q : ℕ). runs_from q [] (w ∷ ws)) (sym (add-zero p)) ∙ ap (λ (g : ℕ). runs_from (p + g) [] (drop g (w ∷ ws))) (sym k))

-- an open stretch goes on up to the next idle word
runs_open : (p : ℕ) (open' ws : List ℕ) → runs_from p open' ws ≡ closed p (open' ++ stretch ws) (runs_from (p + length (open' ++ stretch ws)) [] (drop (length (stretch ws)) ws))
unfolding runs_from stretch
runs_open p open' [] = ap (λ (l : List ℕ). closed p l []) (sym (append-nil open'))
runs_open p open' (w ∷ ws) =
    by_test (eqb w idle)
    (λ e. let k : stretch (w ∷ ws) ≡ [] = picked _ _ e in
    picked _ _ e
    ∙ ap (λ (q : ℕ). closed p open' (runs_from q [] ws)) (let z : p + length open' + 1 ≡ p + length open' + 0 + 1 = omega arith in z)
    ∙ ap (closed p open') (sym (picked (runs_from (p + length open' + 0 + 1) [] ws) (runs_from (p + length open') (w ∷ []) ws) e))
    ∙ ap (λ (l : List ℕ). closed p l (runs_from (p + length l) [] (w ∷ ws))) (sym (append-nil open'))
    ∙ ap (λ (l : List ℕ). closed p (open' ++ l) (runs_from (p + length (open' ++ l)) [] (drop (length l) (w ∷ ws)))) (sym k))
    (λ e. let k : stretch (w ∷ ws) ≡ w ∷ stretch ws = passed _ _ e in
    passed _ _ e ∙ runs_open p (open' ++ (w ∷ [])) ws
    ∙ ap (λ (l : List ℕ). closed p l (runs_from (p + length l) [] (drop (length (stretch ws)) ws))) (append_snoc open' w (stretch ws))
    ∙ ap (λ (l : List ℕ). closed p (open' ++ l) (runs_from (p + length (open' ++ l)) [] (drop (length l) (w ∷ ws)))) (sym k))

-- the first run and the others
pub runs_next : (p : ℕ) (ws : List ℕ)
    → runs_from p [] ws ≡ closed (p + gap ws) (run_in ws) (runs_from (p + gap ws + length (run_in ws)) [] (drop (gap ws + length (run_in ws)) ws))
runs_next p ws =
    runs_gap p ws ∙ runs_open (p + gap ws) [] (drop (gap ws) ws)
    ∙ ap (λ (l : List ℕ). closed (p + gap ws) (run_in ws) (runs_from (p + gap ws + length (run_in ws)) [] l)) (drop-drop (length (run_in ws)) (gap ws) ws)

-- no run behind the idle words: nothing is left
pub gap_all : (ws : List ℕ) → run_in ws ≡ [] → drop (gap ws) ws ≡ []
unfolding gap stretch
gap_all [] h = refl
gap_all (w ∷ ws) h =
    by_test (eqb w idle)
    (λ e. let k : gap (w ∷ ws) ≡ suc (gap ws) = picked _ _ e in
    ap (λ (g : ℕ). drop g (w ∷ ws)) k ∙ gap_all ws (sym (ap (λ (g : ℕ). stretch (drop g (w ∷ ws))) k) ∙ h))
    (λ e. let k : gap (w ∷ ws) ≡ 0 = passed _ _ e in
    absurd (cons≢nil (sym (passed [] (w ∷ stretch ws) e) ∙ sym (ap (λ (g : ℕ). stretch (drop g (w ∷ ws))) k) ∙ h)))

-- a run has no idle word
pub gap_stretch : (ws : List ℕ) → gap (stretch ws) ≡ 0
unfolding gap stretch
gap_stretch [] = refl
gap_stretch (w ∷ ws) =
    by_test (eqb w idle)
    (λ e. ap gap (picked [] (w ∷ stretch ws) e))
    (λ e. ap gap (passed [] (w ∷ stretch ws) e) ∙ passed _ _ e)

pub stretch_stretch : (ws : List ℕ) → stretch (stretch ws) ≡ stretch ws
unfolding stretch
stretch_stretch [] = refl
stretch_stretch (w ∷ ws) =
    by_test (eqb w idle)
    (λ e. ap stretch (picked [] (w ∷ stretch ws) e) ∙ sym (picked [] (w ∷ stretch ws) e))
    (λ e. ap stretch (passed [] (w ∷ stretch ws) e) ∙ passed _ _ e ∙ ap (λ (l : List ℕ). w ∷ l) (stretch_stretch ws) ∙ sym (passed [] (w ∷ stretch ws) e))

-- ---- words none of which is idle

abbrev is_idle : ℕ → Bool
is_idle w = eqb w idle

abbrev pub Free : List ℕ → Type 0
Free ws = NoneHas is_idle ws

pub free_stretch : (ws : List ℕ) → Free ws → stretch ws ≡ ws
unfolding stretch
free_stretch [] f = refl
free_stretch (w ∷ ws) f = passed [] (w ∷ stretch ws) f.0 ∙ ap (λ (l : List ℕ). w ∷ l) (free_stretch ws f.1)

pub free_gap : (ws : List ℕ) → Free ws → gap ws ≡ 0
free_gap ws f = sym (ap gap (free_stretch ws f)) ∙ gap_stretch ws

free_snoc : (ws : List ℕ) (w : ℕ) → Free ws → is_idle w ≡ false → Free (ws ++ (w ∷ []))
free_snoc [] w f e = (e, tt)
free_snoc (x ∷ ws) w f e = (f.0, free_snoc ws w f.1 e)

pub good_free : (ws : List ℕ) → AllGood ws → Free ws
good_free [] g = tt
good_free (w ∷ ws) g = (ne_eqb w idle (no_report_word_is_idle w g.0), good_free ws g.1)

-- ---- what holds of every run of a line

abbrev pub All : (Run → Type 0) → List Run → Type 0
All P [] = Unit {0}
All P (r ∷ rs) = P r × All P rs

-- what holds of all words without an idle one that lie from one place up to another holds of the runs there
module _ (P : Run → Type 0) (lo hi : ℕ) (each : (p w : ℕ) (ws : List ℕ) → Free (w ∷ ws) → lo ≤ p → p + length (w ∷ ws) ≤ hi → P (record { place = p; words = w ∷ ws })) where
  closed_all : (p : ℕ) (open' : List ℕ) (rs : List Run) → Free open' → lo ≤ p → p + length open' ≤ hi → All P rs → All P (closed p open' rs)
  closed_all p [] rs f a b h = h
  closed_all p (w ∷ ws) rs f a b h = (each p w ws f a b, h)

  pub all_runs : (p : ℕ) (open' ws : List ℕ) → Free open' → lo ≤ p → p + length open' + length ws ≤ hi → All P (runs_from p open' ws)
  unfolding runs_from
  all_runs p open' [] f a b = closed_all p open' [] f a (omega arith) tt
  all_runs p open' (w ∷ ws) f a b =
      by_cond (All P) (eqb w idle)
      (λ e. closed_all p open' (runs_from (p + length open' + 1) [] ws) f a (omega arith) (all_runs (p + length open' + 1) [] ws tt (omega arith) (omega arith)))
      (λ e. let k = length-append open' (w ∷ []) in all_runs p (open' ++ (w ∷ [])) ws (free_snoc open' w f e) a (omega arith))

-- ---- idle words, and words without one, in front

pub runs_idles : (p n : ℕ) (ws : List ℕ) → runs_from p [] (replicate n idle ++ ws) ≡ runs_from (p + n) [] ws
unfolding runs_from
runs_idles p zero ws = ap (λ (q : ℕ). runs_from q [] ws) (sym (add-zero p))
runs_idles p (suc n) ws =
    runs_idles (p + 0 + 1) n ws ∙ ap (λ (q : ℕ). runs_from q [] ws) (let z : p + 0 + 1 + n ≡ p + suc n = omega arith in z)

pub runs_words : (p : ℕ) (open' ws rest : List ℕ) → Free ws → runs_from p open' (ws ++ rest) ≡ runs_from p (open' ++ ws) rest
unfolding runs_from
runs_words p open' [] rest f = ap (λ (l : List ℕ). runs_from p l rest) (sym (append-nil open'))
runs_words p open' (w ∷ ws) rest f =
    passed _ _ f.0 ∙ runs_words p (open' ++ (w ∷ [])) ws rest f.1 ∙ ap (λ (l : List ℕ). runs_from p l rest) (append_snoc open' w ws)

pub runs_end : (p : ℕ) (run ws : List ℕ) → stretch ws ≡ [] → runs_from p run ws ≡ closed p run (runs_from (p + length run) [] ws)
runs_end p run ws e =
    runs_open p run ws
    ∙ ap (λ (l : List ℕ). closed p (run ++ l) (runs_from (p + length (run ++ l)) [] (drop (length l) ws))) e
    ∙ ap (λ (l : List ℕ). closed p l (runs_from (p + length l) [] ws)) (append-nil run)

-- ---- the runs before and behind an idle word

closed_append : (p : ℕ) (open' : List ℕ) (rs ts : List Run) → closed p open' rs ++ ts ≡ closed p open' (rs ++ ts)
closed_append p [] rs ts = refl
closed_append p (w ∷ ws) rs ts = refl

runs_split : (p : ℕ) (open' a b : List ℕ) → runs_from p open' (a ++ (idle ∷ b)) ≡ runs_from p open' a ++ runs_from (p + length open' + length a + 1) [] b
unfolding runs_from
runs_split p open' [] b =
    ap (λ (q : ℕ). closed p open' (runs_from q [] b)) (let z : p + length open' + 1 ≡ p + length open' + 0 + 1 = omega arith in z)
    ∙ sym (closed_append p open' [] (runs_from (p + length open' + 0 + 1) [] b))
runs_split p open' (w ∷ a) b =
    let q = p + length open' + 1 in
    by_test (eqb w idle)
    (λ e.
    picked _ _ e
    ∙ ap (closed p open') (runs_split q [] a b)
    ∙ ap (λ (n : ℕ). closed p open' (runs_from q [] a ++ runs_from n [] b)) (let z : q + 0 + length a + 1 ≡ p + length open' + suc (length a) + 1 = omega arith in z)
    ∙ sym (closed_append p open' (runs_from q [] a) (runs_from (p + length open' + suc (length a) + 1) [] b))
    ∙ ap (λ (rs : List Run). rs ++ runs_from (p + length open' + suc (length a) + 1) [] b) (sym (picked (closed p open' (runs_from q [] a)) (runs_from p (open' ++ (w ∷ [])) a) e)))
    (λ e.
    passed _ _ e
    ∙ runs_split p (open' ++ (w ∷ [])) a b
    ∙ ap (λ (n : ℕ). runs_from p (open' ++ (w ∷ [])) a ++ runs_from n [] b)
    (let k = length-append open' (w ∷ []) in
    let z : p + length (open' ++ (w ∷ [])) + length a + 1 ≡ p + length open' + suc (length a) + 1 = omega arith in z)
    ∙ ap (λ (rs : List Run). rs ++ runs_from (p + length open' + suc (length a) + 1) [] b) (sym (passed (closed p open' (runs_from q [] a)) (runs_from p (open' ++ (w ∷ [])) a) e)))

runs_parts : (p : ℕ) (a b : List ℕ) → runs_from p [] (a ++ (idle ∷ b)) ≡ runs_from p [] a ++ runs_from (p + length a + 1) [] b
runs_parts p a b =
    runs_split p [] a b ∙ ap (λ (n : ℕ). runs_from p [] a ++ runs_from (n + length a + 1) [] b) (add-zero p)

-- ---- the runs of a part of a line, moved along

abbrev pub along : ℕ → Run → Run
along q r = record { place = q + r.place; words = r.words }

closed_along : (q p : ℕ) (open' : List ℕ) (rs : List Run) → map (along q) (closed p open' rs) ≡ closed (q + p) open' (map (along q) rs)
closed_along q p [] rs = refl
closed_along q p (w ∷ ws) rs = refl

pub runs_along : (q p : ℕ) (open' ws : List ℕ) → runs_from (q + p) open' ws ≡ map (along q) (runs_from p open' ws)
unfolding runs_from
runs_along q p open' [] = sym (closed_along q p open' [])
runs_along q p open' (w ∷ ws) =
    let n = p + length open' + 1 in
    by_test (eqb w idle)
    (λ e.
    picked _ _ e
    ∙ ap (λ (k : ℕ). closed (q + p) open' (runs_from k [] ws)) (let z : q + p + length open' + 1 ≡ q + n = omega arith in z)
    ∙ ap (closed (q + p) open') (runs_along q n [] ws)
    ∙ sym (closed_along q p open' (runs_from n [] ws))
    ∙ ap (map (along q)) (sym (picked (closed p open' (runs_from n [] ws)) (runs_from p (open' ++ (w ∷ [])) ws) e)))
    (λ e.
    passed _ _ e
    ∙ runs_along q p (open' ++ (w ∷ [])) ws
    ∙ ap (map (along q)) (sym (passed (closed p open' (runs_from n [] ws)) (runs_from p (open' ++ (w ∷ [])) ws) e)))

-- the runs of a line in three parts that meet at idle words
runs_ends : (p : ℕ) (pre ws : List ℕ) → EndsIdle pre → runs_from p [] (pre ++ ws) ≡ runs_from p [] pre ++ runs_from (p + length pre) [] ws
unfolding runs_from
runs_ends p pre ws =
    ⊎_elim
    (λ e.
    ap (λ (l : List ℕ). runs_from p [] (l ++ ws)) e
    ∙ ap (λ (k : ℕ). runs_from k [] ws) (sym (add-zero p))
    ∙ ap (λ (l : List ℕ). runs_from p [] l ++ runs_from (p + length l) [] ws) (sym e))
    (λ h.
    let a = h.0 in
    let n = length-append a (idle ∷ []) in
    ap (λ (l : List ℕ). runs_from p [] (l ++ ws)) h.1
    ∙ ap (runs_from p []) (append_assoc a (idle ∷ []) ws)
    ∙ runs_parts p a ws
    ∙ ap (λ (k : ℕ). runs_from p [] a ++ runs_from k [] ws) (let z : p + length a + 1 ≡ p + length (a ++ (idle ∷ [])) = omega arith in z)
    ∙ ap (λ (rs : List Run). rs ++ runs_from (p + length (a ++ (idle ∷ []))) [] ws) (sym (append-nil (runs_from p [] a)) ∙ sym (runs_parts p a []))
    ∙ ap (λ (l : List ℕ). runs_from p [] l ++ runs_from (p + length l) [] ws) (sym h.1))

runs_begins : (p : ℕ) (ws post : List ℕ) → BeginsIdle post → runs_from p [] (ws ++ post) ≡ runs_from p [] ws ++ runs_from (p + length ws) [] post
unfolding runs_from
runs_begins p ws post =
    ⊎_elim
    (λ e.
    ap (λ (l : List ℕ). runs_from p [] (ws ++ l)) e
    ∙ ap (runs_from p []) (append-nil ws)
    ∙ sym (append-nil (runs_from p [] ws))
    ∙ ap (λ (l : List ℕ). runs_from p [] ws ++ runs_from (p + length ws) [] l) (sym e))
    (λ h.
    let b = h.0 in
    ap (λ (l : List ℕ). runs_from p [] (ws ++ l)) h.1
    ∙ runs_parts p ws b
    ∙ ap (λ (k : ℕ). runs_from p [] ws ++ runs_from k [] b) (let z : p + length ws + 1 ≡ p + length ws + 0 + 1 = omega arith in z)
    ∙ ap (λ (l : List ℕ). runs_from p [] ws ++ runs_from (p + length ws) [] l) (sym h.1))

pub runs_three : (pre mid post : List ℕ) → EndsIdle pre → BeginsIdle post
    → runs (pre ++ (mid ++ post)) ≡ runs pre ++ (runs_from (length pre) [] mid ++ runs_from (length pre + length mid) [] post)
runs_three pre mid post a b =
    let p = length pre in
    runs_ends 0 pre (mid ++ post) a
    ∙ ap (λ (k : ℕ). runs pre ++ runs_from k [] (mid ++ post)) (zero-add p)
    ∙ ap (λ (ts : List Run). runs pre ++ ts) (runs_begins p mid post b)
