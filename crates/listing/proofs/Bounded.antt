-- Where an outcome of the reader lies: at or after the caller's place, and within the line. Assumes nothing.
use Prim.Native.Nat.{ℕ, ◌+◌, ◌-◌, ◌/◌, ◌%◌, ◌≤◌}
use mathlib.Core.Path.{◌≡◌, refl, ap, sym, ◌∙◌, subst}
use mathlib.Core.Logic.{⊎_elim}
use mathlib.Core.List.{List, [], ◌∷◌}
use native.Mathlib.Omega.{arith}
use lib.ListN.{length, drop}
use Rattle.reports.specs.Records.{report_of}
use Rattle.lines.specs.declared.Outcome.{Outcome}
use Rattle.lines.specs.Bytes.{most_bytes, words_in, read_bytes}
use Rattle.lines.specs.Line.{most, end_of, gap, run_in, placed, outcome_at, read_by}
use Rattle.lines.proofs.ByteWords.{words_length, bytes_as_words}
use Rattle.lines.proofs.Walked.{read_there, onward}
use Rattle.listing.specs.declared.Walk.{Walk}
use Rattle.listing.specs.Listing.{lister_form, answer}
use Rattle.listing.specs.Bounds.{Within}

-- from a place up to the end of a line of n words
pub record Between (p n : ℕ) (o : Outcome) : Type 0 where
  pub behind : p ≤ o.first
  pub forward : o.first ≤ o.after
  pub inside : o.after ≤ n

pub between : (line : List ℕ) (p : ℕ) → length line ≤ most → p ≤ length line → Between p (length line) (read_by answer line p)
between line p m h =
    by_run (run_in (drop p line)) refl
  where
    by_run : (run : List ℕ) → run_in (drop p line) ≡ run → Between p (length line) (read_by answer line p)
    by_run [] e =
        let o : read_by answer line p ≡ end_of (length line) = read_there answer line p m h ∙ ap (outcome_at answer (length line) (p + gap (drop p line))) e in
        subst (Between p (length line)) (sym o) (record { behind = h; forward = omega arith; inside = omega arith })
    by_run (w ∷ l) e =
        let f = p + gap (drop p line) in
        let o : read_by answer line p ≡ placed f (length (w ∷ l)) (answer (w ∷ l)) = read_there answer line p m h ∙ ap (outcome_at answer (length line) f) e in
        let first : (read_by answer line p).first ≡ f = ap (λ (x : Outcome). x.first) o in
        let after : (read_by answer line p).after ≡ f + length (w ∷ l) = ap (λ (x : Outcome). x.after) o in
        record {
          behind = omega arith;
          forward = omega arith;
          inside =
              ⊎_elim
              (λ x. let y : (read_by answer line p).after ≡ length line = ap (λ (z : Outcome). z.after) x in omega arith)
              (λ x. x.2)
              (onward answer line p m h);
        }

-- within 65,536 bytes, an even number, the reader of bytes is that of words
pub by_words : (bytes : List ℕ) (p : ℕ) → length bytes ≤ most_bytes → (length bytes % 2 ≡ 1 → ⊥) → read_bytes lister_form bytes p ≡ read_by answer (words_in bytes) p
by_words bytes p s e = (bytes_as_words lister_form bytes p (report_of lister_form []) s (omega arith)).0

pub within : (bytes : List ℕ) (w : Walk) (n : ℕ) (o : Outcome) → length bytes ≤ most_bytes → (length bytes % 2 ≡ 1 → ⊥) → n ≡ length bytes / 2
    → w.place ≤ n → w.reported ≤ w.place → w.refused ≤ w.place - w.reported → o ≡ read_bytes lister_form bytes w.place → Within n w o
within bytes w n o s e size a b c is =
    let k = words_length bytes in
    let t = between (words_in bytes) w.place (omega arith) (omega arith) in
    let i = is ∙ by_words bytes w.place s e in
    let first = ap (λ (x : Outcome). x.first) i in
    let after = ap (λ (x : Outcome). x.after) i in
    record {
      short = omega arith;
      counted = omega (arith, t.behind);
      forward = omega (arith, t.forward);
      inside = omega (arith, t.inside);
    }
