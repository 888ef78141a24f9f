-- The breaches from a place on, outcome by outcome, as the loops gather them. Assumes nothing.
use Prim.Native.Nat.{ℕ, ◌+◌, ◌≤◌, ◌<◌}
use mathlib.Core.Path.{◌≡◌, refl, ap, sym, ◌∙◌, subst}
use mathlib.Core.List.{List, [], ◌++◌}
use mathlib.Core.Bool.{cond}
use mathlib.Core.Logic.{⊎_elim}
use native.Mathlib.Omega.{arith}
use lib.ListN.{length, length-append}
use Rattle.reports.specs.declared.altitude.Form.{Form}
use Rattle.reports.specs.Altitude.{form_of}
use Rattle.reports.specs.Runs.{read_run}
use Rattle.lines.specs.declared.Outcome.{Outcome}
use Rattle.lines.specs.Line.{most, read_by}
use Rattle.lines.specs.Stretches.{gathered}
use Rattle.lines.specs.Claims.{Answer}
use Rattle.lines.proofs.Walked.{next_run, none_left, step_by_step}
use Rattle.std.specs.Prelude.{Option, Some, None, is_some}
use Rattle.manners.specs.declared.Rule.{Rule}
use Rattle.manners.specs.Breaches.{Breach, breaches_of, breaches, found_in, list_of, brought_by}
use Rattle.manners.specs.Steps.{count_of, breaches_at}
use Rattle.manners.proofs.Stored.{count_listed}
use Rattle.manners.proofs.Broken.{brought}

one_at_most : (x : Option Rule) → count_of x ≤ 1
one_at_most None = omega arith
one_at_most (Some rule) = omega arith

pub one_for_some : (x : Option Rule) → count_of x ≡ cond (is_some x) 1 0
one_for_some None = refl
one_for_some (Some rule) = refl

abbrev answer : Form → Answer
answer f = read_run (form_of f)

-- a step of a loop over the line: the outcome at a place
pub record Step (f : Form) (line : List ℕ) (place : ℕ) (o : Outcome) : Type 0 where
  pub brings : breaches_at (form_of f) line place ≡ brought_by o ++ breaches_at (form_of f) line o.after
  pub first : o.first ≤ length line
  pub after : o.after ≤ length line
  pub onward : place < length line → place < o.after

pub step : (f : Form) (line : List ℕ) (place : ℕ) (o : Outcome) → length line ≤ most → place ≤ length line → o ≡ read_by (answer f) line place → Step f line place o
step f line place o m h e =
    subst (Step f line place) (sym e)
    (⊎_elim
    (λ k.
    let first : (read_by (answer f) line place).first ≡ length line = ap (λ (x : Outcome). x.first) k.0 in
    let after : (read_by (answer f) line place).after ≡ length line = ap (λ (x : Outcome). x.after) k.0 in
    record { brings = brings; first = omega arith; after = omega arith; onward = λ l. omega arith })
    (λ k.
    let r = k.0 in
    let first : (read_by (answer f) line place).first ≡ r.place = ap (λ (x : Outcome). x.first) k.1.outcome in
    let after : (read_by (answer f) line place).after ≡ r.place + length r.words = ap (λ (x : Outcome). x.after) k.1.outcome in
    let a = k.1.ahead in
    let s = k.1.some in
    let i = k.1.inside in
    record { brings = brings; first = omega arith; after = omega arith; onward = λ l. omega arith })
    (next_run (answer f) line place m h))
  where
    brings : breaches_at (form_of f) line place ≡ brought_by (read_by (answer f) line place) ++ breaches_at (form_of f) line (read_by (answer f) line place).after
    brings = step_by_step (answer f) line m Breach (breaches_of (form_of f)) brought_by refl (brought f) place h

-- behind the last word none is left
none_behind : (f : Form) (line : List ℕ) → breaches_at (form_of f) line (length line) ≡ []
unfolding gathered
none_behind f line = ap (gathered (breaches_of (form_of f))) (none_left line)

pub none_from : (f : Form) (line : List ℕ) (place : ℕ) → place ≤ length line → length line ≤ place → length (breaches_at (form_of f) line place) ≡ 0
none_from f line place h l =
    let e : place ≡ length line = omega arith in
    ap (λ (p : ℕ). length (breaches_at (form_of f) line p)) e ∙ ap length (none_behind f line)

-- ---- counting

-- so many were counted up to a place
pub record Counted (f : Form) (line : List ℕ) (place k : ℕ) : Type 0 where
  pub inside : place ≤ length line
  pub few : k ≤ place
  pub together : k + length (breaches_at (form_of f) line place) ≡ length (breaches (form_of f) line)

pub counted_none : (f : Form) (line : List ℕ) → Counted f line 0 0
counted_none f line = record { inside = omega arith; few = omega arith; together = omega arith }

pub counted_more : {f : Form} {line : List ℕ} {place k j : ℕ} {o : Outcome} → Counted f line place k → place < length line → Step f line place o
    → count_of (found_in o.what) ≡ j → Counted f line o.after (k + j)
counted_more {f} {line} {place} {k} {j} {o} c h s is =
    let few = c.few in
    let one = one_at_most (found_in o.what) in
    let on = s.onward h in
    let n = ap length s.brings ∙ length-append (brought_by o) (breaches_at (form_of f) line o.after) in
    let b = count_listed o.first (found_in o.what) in
    let t = c.together in
    record { inside = s.after; few = omega arith; together = omega arith }

pub counted_all : {f : Form} {line : List ℕ} {place k : ℕ} → Counted f line place k → length line ≤ place → k ≡ length (breaches (form_of f) line)
counted_all {f} {line} {place} {k} c h =
    let n = none_from f line place c.inside h in
    let t = c.together in
    omega arith

-- what an outcome brings is the next of those that are left
pub next_is : {f : Form} {line : List ℕ} {place : ℕ} {o : Outcome} {x : Option Rule} → Step f line place o → found_in o.what ≡ x
    → breaches_at (form_of f) line place ≡ list_of o.first x ++ breaches_at (form_of f) line o.after
next_is {f} {line} {place} {o} s e = s.brings ∙ ap (λ (y : Option Rule). list_of o.first y ++ breaches_at (form_of f) line o.after) e

pub one_left : {f : Form} {line : List ℕ} {place : ℕ} {o : Outcome} {rule : Rule} → Step f line place o → found_in o.what ≡ Some rule
    → 1 ≤ length (breaches_at (form_of f) line place)
one_left {f} {line} {place} {o} s e = let n = ap length (next_is s e) in omega arith
