-- Calls of the writer one after the other, and what one call leaves: the claims WrittenSo, Composed, OnlyItsWords and RefusedLeaves.
-- Assumes nothing.
use Rattle.std.specs.Prelude.{Ok, Result}
use Prim.Native.Nat.{ℕ, ◌+◌, ◌-◌, ◌<◌}
use native.Mathlib.Nat.{zero-add}
use mathlib.Core.Path.{◌≡◌, refl, ap, sym, ◌∙◌}
use mathlib.Core.Logic.{⊎_elim}
use mathlib.Core.List.{List, [], ◌∷◌, ◌++◌, append_assoc}
use native.Mathlib.Omega.{arith}
use lib.ListN.{length, take, drop, replicate, length-append, length-drop, length-replicate, replicate-append-replicate}
use lib.Seq.{take-append-add, take_at, drop_at, drop-append-add, length-take-le}
use Rattle.std.proofs.lemmas.List.{drop-replicate}
use Rattle.words.specs.Word.{idle}
use Rattle.reports.specs.declared.Report.{Report}
use Rattle.reports.specs.Altitude.{AltitudeForm}
use Rattle.reports.specs.Layouts.{words_of}
use Rattle.reports.proofs.Demand2.{takes_fits}
use Rattle.lines.specs.Writing.{write_at, left_as, next, puts, among, taken}
use Rattle.lines.specs.Spaced.{Spaced, line_of, reports_of, AllFit, Parted, Apart}
use Rattle.lines.specs.Claims.{WrittenSo, Composed, OnlyItsWords, RefusedLeaves}
use Rattle.lines.proofs.Puts.{put_put, write_cases}
use Rattle.lines.specs.declared.NotWritten.{NotWritten}

-- ---- one call

-- an accepted call had room, and gives the place after its words and the idle word
pub record Accepts (form : AltitudeForm) (line : List ℕ) (place next : ℕ) (r : Report) : Type 0 where
  pub room : length (words_of form r) < length line - place
  pub there : next ≡ place + length (words_of form r) + 1

accepts : (form : AltitudeForm) (line : List ℕ) (place p : ℕ) (r : Report) → write_at form line place r ≡ Ok p → Accepts form line place p r
accepts form line place p r e =
    ⊎_elim
    (λ h. let f = h.1 in let z : ◌≡◌ {A = ℕ} 0 1 = cc in absurd (omega arith))
    (λ h. let f = h.3 in record { room = h.2; there = cc })
    (write_cases form line place r)

pub composed : Composed
composed form line place p r e =
    let a = accepts form line place p r e in
    let n = a.room in
    ap (λ (k : ℕ). left_as (Ok k) line place (words_of form r)) a.there
    ∙ sym (put_put line place (words_of form r) (idle ∷ []) (omega arith))

pub only_its_words : OnlyItsWords
only_its_words form line place p r e =
    let a = accepts form line place p r e in
    let n = a.room in
    let at = a.there in
    let ws = words_of form r in
    let top = take place line in
    let rest = drop p line in
    let size : length top ≡ place = length-take-le place line (omega arith) in
    let words : length (ws ++ (idle ∷ rest)) ≡ length ws + length (idle ∷ rest) = length-append ws (idle ∷ rest) in
    let whole : length (top ++ (ws ++ (idle ∷ rest))) ≡ length top + length (ws ++ (idle ∷ rest)) = length-append top (ws ++ (idle ∷ rest)) in
    let behind = length-drop p line in
    let front = top ++ (ws ++ (idle ∷ [])) in
    let long = length-append top (ws ++ (idle ∷ [])) in
    let some = length-append ws (idle ∷ []) in
    let regroup : top ++ (ws ++ (idle ∷ rest)) ≡ front ++ rest =
    ap (λ (l : List ℕ). top ++ l) (sym (append_assoc ws (idle ∷ []) rest)) ∙ sym (append_assoc top (ws ++ (idle ∷ [])) rest) in (
      omega arith,
      take_at top (ws ++ (idle ∷ rest)) place size,
      ap (drop p) regroup ∙ drop_at front rest p (omega arith),
    )

pub refused_leaves : RefusedLeaves
refused_leaves form line place p r q e = (
  ⊎_elim (λ h. ap next (sym e ∙ h.1)) (λ h. let f = h.3 in let z : ◌≡◌ {A = ℕ} 0 1 = cc in absurd (omega arith)) (write_cases form line place r),
  ap (λ (w : Result ℕ NotWritten). left_as w line place (words_of form r)) e,
)

-- ---- calls one after the other on idle words

abbrev idles : ℕ → List ℕ
idles n = replicate n idle

-- words before the place, so many idle words, and idle words from the place on
abbrev spread : List ℕ → ℕ → ℕ → List ℕ
spread pre g m = pre ++ (idles g ++ idles m)

line_after : (form : AltitudeForm) (pre : List ℕ) (g m : ℕ) (r : Report)
    → left_as (Ok (length pre + g + length (words_of form r) + 1)) (spread pre g m) (length pre + g) (words_of form r)
    ≡ spread (pre ++ (idles g ++ words_of form r)) 1 (m - (length (words_of form r) + 1))
line_after form pre g m r =
    let ws = words_of form r in
    let k = length ws in
    let rest = idle ∷ idles (m - (k + 1)) in
    let front : take (length pre + g) (spread pre g m) ≡ pre ++ idles g =
    take-append-add pre (idles g ++ idles m) g ∙ ap (λ (l : List ℕ). pre ++ l) (take_at (idles g) (idles m) g (length-replicate g idle)) in
    let behind : drop (length pre + g + k + 1) (spread pre g m) ≡ idles (m - (k + 1)) =
    ap (λ (j : ℕ). drop j (spread pre g m)) (let z : length pre + g + k + 1 ≡ length pre + (g + (k + 1)) = omega arith in z)
    ∙ drop-append-add pre (idles g ++ idles m) (g + (k + 1))
    ∙ ap (λ (j : ℕ). drop (j + (k + 1)) (idles g ++ idles m)) (sym (length-replicate g idle))
    ∙ drop-append-add (idles g) (idles m) (k + 1)
    ∙ drop-replicate (k + 1) m idle in
    ap (λ (l : List ℕ). l ++ (ws ++ (idle ∷ drop (length pre + g + k + 1) (spread pre g m)))) front
    ∙ ap (λ (l : List ℕ). (pre ++ idles g) ++ (ws ++ (idle ∷ l))) behind
    ∙ append_assoc pre (idles g) (ws ++ rest)
    ∙ ap (λ (l : List ℕ). pre ++ l) (sym (append_assoc (idles g) ws rest))
    ∙ sym (append_assoc pre (idles g ++ ws) rest)

-- the first has so many idle words before it, and each other at least one
abbrev Ahead : ℕ → List Spaced → Type 0
Ahead g [] = Unit {0}
Ahead g (s ∷ ss) = (s.ahead ≡ g) × Parted ss

ahead_one : (ss : List Spaced) → Ahead 1 ss → Parted ss
ahead_one [] h = tt
ahead_one (s ∷ ss) h = (let e = h.0 in omega arith, h.1)

ahead_apart : (g : ℕ) (ss : List Spaced) → Ahead g ss → Apart ss
ahead_apart g [] h = tt
ahead_apart g (s ∷ ss) h = h.1

put_all : (form : AltitudeForm) (rs : List Report) (pre : List ℕ) (g m : ℕ)
    → (ss : List Spaced)
    × (tail : ℕ)
    × AllFit form ss
    × Ahead g ss
    × (reports_of ss ≡ taken form (spread pre g m) (length pre + g) rs)
    × (puts form (spread pre g m) (length pre + g) rs ≡ pre ++ line_of form ss tail)
unfolding puts taken line_of
put_all form [] pre g m = ([], g + m, tt, tt, refl, ap (λ (l : List ℕ). pre ++ l) (replicate-append-replicate g m idle))
put_all form (r ∷ rs) pre g m =
    let line = spread pre g m in
    let place = length pre + g in
    let ws = words_of form r in
    ⊎_elim
    (λ h.
    let k = put_all form rs pre g m in (
      k.0,
      k.1,
      k.2,
      k.3,
      k.4 ∙ sym (ap (λ (w : Result ℕ NotWritten). among w r (taken form (left_as w line place (words_of form r)) (next w) rs)) h.1),
      ap (λ (w : Result ℕ NotWritten). puts form (left_as w line place (words_of form r)) (next w) rs) h.1 ∙ k.5,
    ))
    (λ h.
    let pre' = pre ++ (idles g ++ ws) in
    let m' = m - (length ws + 1) in
    let k = put_all form rs pre' 1 m' in
    let there : place + length ws + 1 ≡ length pre' + 1 =
    (let a = length-append pre (idles g ++ ws) in let b = length-append (idles g) ws in let c = length-replicate g idle in omega arith) in
    let e : left_as (Ok (place + length ws + 1)) line place (words_of form r) ≡ spread pre' 1 m' = line_after form pre g m r in (
      record { ahead = g; report = r } ∷ k.0,
      k.1,
      (takes_fits form r h.0, k.2),
      (refl, ahead_one k.0 k.3),
      ap (λ (l : List Report). r ∷ l)
          (k.4 ∙ sym (ap (λ (l : List ℕ). taken form l (place + length ws + 1) rs) e ∙ ap (λ (p : ℕ). taken form (spread pre' 1 m') p rs) there))
          ∙ sym (ap (λ (w : Result ℕ NotWritten). among w r (taken form (left_as w line place (words_of form r)) (next w) rs)) h.3),
      ap (λ (w : Result ℕ NotWritten). puts form (left_as w line place (words_of form r)) (next w) rs) h.3
          ∙ ap (λ (l : List ℕ). puts form l (place + length ws + 1) rs) e
          ∙ ap (λ (p : ℕ). puts form (spread pre' 1 m') p rs) there
          ∙ k.5
          ∙ append_assoc pre (idles g ++ ws) (line_of form k.0 k.1)
          ∙ ap (λ (l : List ℕ). pre ++ l) (append_assoc (idles g) ws (line_of form k.0 k.1)),
    ))
    (write_cases form line place r)

pub written_so : WrittenSo
written_so form n place rs h =
    let k = put_all form rs [] place (n - place) in
    let e : idles n ≡ spread [] place (n - place) =
    ap idles (let z : n ≡ place + (n - place) = omega arith in z) ∙ sym (replicate-append-replicate place (n - place) idle) in (
      k.0,
      k.1,
      k.2,
      ahead_apart place k.0 k.3,
      k.4 ∙ ap (λ (p : ℕ). taken form (spread [] place (n - place)) p rs) (zero-add place) ∙ sym (ap (λ (l : List ℕ). taken form l place rs) e),
      ap (λ (l : List ℕ). puts form l place rs) e ∙ sym (ap (λ (p : ℕ). puts form (spread [] place (n - place)) p rs) (zero-add place)) ∙ k.5,
    )
