-- `frames::reading::read` meets its contract: 44 where the count is over the lent bits or no flag begins; else what stands behind the flag.
-- Assumes nothing.
use mathlib.Core.Path.{◌≡◌, refl, sym, ◌∙◌}
use mathlib.Core.Bool.{true, false}
use mathlib.Core.List.{List}
use Prim.Native.Nat.{ℕ}
use native.Mathlib.Nat.{add-zero}
use lib.ListN.{length}
use Rattle.frames.specs.declared.FrameRefusal.TheVariants as R
use Rattle.frames.specs.Frame.{flag}
use Rattle.frames.specs.Reading.{refused, begins, count_over, read_bits, stream_at, found_at, read_frame}
use Rattle.frames.specs.Steps.{behind_flag}
use Rattle.frames.proofs.reading.read.Goals as goal
use Rattle.frames.proofs.reading.read.Goals.{then-count_over-via-then-count_over, then-count_over-via-else-count_over+then-not-flag_at}

module _ (b : List ℕ) (count place : ℕ) where
  over : count_over (length b) count ≡ true → found_at place (refused R.CountOrFlag) ≡ read_frame b count place
  unfolding read_frame read_bits
  over e = sym (rw (e, add-zero place) refl)

  module _ (within : count_over (length b) count ≡ false) where
    no_flag : begins flag (stream_at b count place) ≡ false → found_at place (refused R.CountOrFlag) ≡ read_frame b count place
    unfolding read_frame read_bits
    no_flag e = sym (rw (within, e, add-zero place) refl)

    flagged : behind_flag place (stream_at b count place) ≡ read_frame b count place
    unfolding read_frame
    flagged = sym (rw within refl)

pub returns-then-count_over : goal.returns-then-count_over
returns-then-count_over c =
    elim c.then-count_over.branch [
      | then-count_over-via-then-count_over w ↦ c.nothing.ensures ∙ over _ _ _ (sym w.if-count_over.ensures)
      | then-count_over-via-else-count_over+then-not-flag_at w ↦
          c.nothing.ensures ∙ no_flag _ _ _ (sym w.if-count_over.ensures) (sym w.if-not-flag_at.ensures)
    ]

pub returns : goal.returns
returns c = c.behind_flag.ensures ∙ flagged _ _ _ (sym c.if-count_over.ensures)
