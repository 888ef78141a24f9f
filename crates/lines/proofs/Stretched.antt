-- The runs of a line are its unbroken stretches: the claim RunsAre of specs/Claims.antt. Assumes nothing.
use Prim.Native.Nat.{ℕ, ◌+◌, ◌-◌, ◌≤◌}
use mathlib.Core.Path.{◌≡◌, ap, sym, ◌∙◌, subst}
use mathlib.Core.List.{List, [], ◌∷◌, ◌++◌, append-nil, append_assoc}
use native.Mathlib.Omega.{arith}
use lib.Dec.{eqb}
use lib.ListN.{length, replicate, length-append, replicate-append-replicate}
use lib.Seq.{append_snoc}
use borrow.Author.Tests.{eqb-true, eqb-false}
use Rattle.words.specs.Word.{idle}
use Rattle.lines.specs.Stretches.{Run, closed, runs_from}
use Rattle.lines.specs.Claims.{Solid, Stretches, shown, RunsAre}
use Rattle.words.proofs.Tests.{picked, passed, by_test}

-- ---- such runs they are

earlier : (p q : ℕ) (rs : List Run) → p ≤ q → Stretches q rs → Stretches p rs
earlier p q [] h s = tt
earlier p q (r ∷ rs) h s = (let a = s.0 in omega arith, s.1, s.2, s.3)

closed_stretches : (q p : ℕ) (open' : List ℕ) (rs : List Run) → q ≤ p → Solid open' → Stretches (p + length open' + 1) rs → Stretches q (closed p open' rs)
closed_stretches q p [] rs h o s = earlier q (p + 0 + 1) rs (omega arith) s
closed_stretches q p (w ∷ ws) rs h o s = (h, omega arith, o, s)

solid_snoc : (ws : List ℕ) (w : ℕ) → Solid ws → (w ≡ idle → ⊥) → Solid (ws ++ (w ∷ []))
solid_snoc [] w o h = (h, tt)
solid_snoc (x ∷ ws) w o h = (o.0, solid_snoc ws w o.1 h)

stretches : (q p : ℕ) (open' ws : List ℕ) → q ≤ p → Solid open' → Stretches q (runs_from p open' ws)
unfolding runs_from
stretches q p open' [] h o = closed_stretches q p open' [] h o tt
stretches q p open' (w ∷ ws) h o =
    let n = p + length open' + 1 in
    by_test (eqb w idle)
    (λ e. subst (Stretches q) (sym (picked (closed p open' (runs_from n [] ws)) (runs_from p (open' ++ (w ∷ [])) ws) e))
    (closed_stretches q p open' (runs_from n [] ws) h o (stretches n n [] ws (omega arith) tt)))
    (λ e. subst (Stretches q) (sym (passed (closed p open' (runs_from n [] ws)) (runs_from p (open' ++ (w ∷ [])) ws) e))
    (stretches q p (open' ++ (w ∷ [])) ws h (solid_snoc open' w o (eqb-false w idle e))))

-- ---- the line is they and idle words

abbrev idles : ℕ → List ℕ
idles n = replicate n idle

idles_end : (a b : ℕ) (ws : List ℕ) → b ≡ a + 1 → idles b ++ ws ≡ idles a ++ (idle ∷ ws)
idles_end a b ws e =
    ap (λ (n : ℕ). idles n ++ ws) e
    ∙ ap (λ (l : List ℕ). l ++ ws) (sym (replicate-append-replicate a 1 idle))
    ∙ append_assoc (idles a) (idle ∷ []) ws

shown_closed : (q p : ℕ) (open' ws : List ℕ) (rs : List Run) (n : ℕ) → q ≤ p
    → ((k : ℕ) → k ≤ p + length open' → shown k rs n ≡ idles (p + length open' - k) ++ ws)
    → shown q (closed p open' rs) n ≡ idles (p - q) ++ (open' ++ ws)
unfolding shown
shown_closed q p [] ws rs n h more =
    more q (omega arith) ∙ ap (λ (k : ℕ). idles k ++ ws) (let z : p + 0 - q ≡ p - q = omega arith in z)
shown_closed q p (w ∷ l) ws rs n h more =
    ap (λ (t : List ℕ). idles (p - q) ++ ((w ∷ l) ++ t))
    (more (p + length (w ∷ l)) (omega arith) ∙ ap (λ (k : ℕ). idles k ++ ws) (let z : p + length (w ∷ l) - (p + length (w ∷ l)) ≡ 0 = omega arith in z))

show : (q p : ℕ) (open' ws : List ℕ) (n : ℕ) → q ≤ p → n ≡ p + length open' + length ws
    → shown q (runs_from p open' ws) n ≡ idles (p - q) ++ (open' ++ ws)
unfolding runs_from shown
show q p open' [] n h e =
    shown_closed q p open' [] [] n h
    (λ k a. ap idles (let z : n - k ≡ p + length open' - k = omega arith in z) ∙ sym (append-nil (idles (p + length open' - k))))
show q p open' (w ∷ ws) n h e =
    let m = p + length open' + 1 in
    by_test (eqb w idle)
    (λ t.
    ap (λ (rs : List Run). shown q rs n) (picked (closed p open' (runs_from m [] ws)) (runs_from p (open' ++ (w ∷ [])) ws) t)
    ∙ shown_closed q p open' (w ∷ ws) (runs_from m [] ws) n h
    (λ k a.
    show k m [] ws n (omega arith) (omega arith)
    ∙ idles_end (p + length open' - k) (m - k) ws (omega arith)
    ∙ ap (λ (x : ℕ). idles (p + length open' - k) ++ (x ∷ ws)) (sym (eqb-true w idle t))))
    (λ t.
    ap (λ (rs : List Run). shown q rs n) (passed (closed p open' (runs_from m [] ws)) (runs_from p (open' ++ (w ∷ [])) ws) t)
    ∙ show q p (open' ++ (w ∷ [])) ws n h (let z = length-append open' (w ∷ []) in omega arith)
    ∙ ap (λ (l : List ℕ). idles (p - q) ++ l) (append_snoc open' w ws))

pub runs_are : RunsAre
runs_are line = (stretches 0 0 [] line (omega arith) tt, show 0 0 [] line (length line) (omega arith) (omega arith))
