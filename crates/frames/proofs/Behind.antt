-- What the reader finds behind a flag, by the places to which its searches lead. For the reader's code. Assumes nothing.
use Prim.Native.Nat.{ℕ, ◌+◌, ◌-◌, ◌≤◌}
use mathlib.Core.Path.{◌≡◌, refl, sym, ap, ◌∙◌}
use mathlib.Core.Bool.{Bool, true, false}
use mathlib.Core.List.{List, [], ◌∷◌}
use native.Mathlib.Nat.{add-zero}
use native.Mathlib.Omega.{arith}
use borrow.Author.Tests.{eq-eqb, ne_eqb}
use lib.ListN.{length, take}
use Rattle.rows.proofs.Claims.{each_of}
use Rattle.frames.specs.declared.FrameRefusal.TheVariants as R
use Rattle.frames.specs.Stream.{bits_from}
use Rattle.frames.specs.Zeros.{zero_missing}
use Rattle.frames.specs.Frame.{flag}
use Rattle.frames.specs.Reading.{Answer, accepted, refused, end, Outcome, outcome, begins, past_flags, up_to_flag, stretch, body_in, closing, only_flags, no_closing_flag, body_rows, frame_in, judged_body, read_bits, stream_at, found_at}
use Rattle.frames.specs.Steps.{behind_flag}
use Rattle.frames.proofs.Tests.{by_test}
use Rattle.frames.proofs.Streamed.{length-bits_from, take-bits_from}
use Rattle.frames.proofs.Flagged.{flag_room}

-- what stands in front of the first flag are the first bits
up_to_prefix : (s : List Bool) → take (length (up_to_flag s)) s ≡ up_to_flag s
unfolding up_to_flag
up_to_prefix [] = refl
up_to_prefix (b ∷ s) = by_test (begins flag (b ∷ s)) (λ e. rw e refl) (λ e. rw e (ap (λ (t : List Bool). b ∷ t) (up_to_prefix s)))

up_to_most : (s : List Bool) → length (up_to_flag s) ≤ length s
unfolding up_to_flag
up_to_most [] = omega arith
up_to_most (b ∷ s) = by_test (begins flag (b ∷ s)) (λ e. rw e (omega arith)) (λ e. rw e (omega (arith, up_to_most s)))

-- a flag begins at the place, and the search for the last of neighbouring ones has led behind it
pub record Opened (b : List ℕ) (count place from : ℕ) : Type 0 where
  pub flagged : begins flag (stream_at b count place) ≡ true
  pub later : place ≤ from
  pub within : from ≤ count
  pub opens : stream_at b count from ≡ past_flags 0 (stream_at b count place)

module _ {b : List ℕ} {count place from : ℕ} (o : Opened b count place from) where
  abbrev s : List Bool
  s = stream_at b count place

  left : length (past_flags 0 s) ≡ count - from
  left = ap length (sym o.opens) ∙ length-bits_from b from (count - from)

  -- nothing is left
  pub ended : from ≡ count → found_at count end ≡ behind_flag place s
  unfolding read_bits only_flags
  ended e =
      let z = eq-eqb (length (past_flags 0 s)) 0 (left ∙ omega (arith, o.within)) in
      let room = flag_room b count place o.flagged in
      let p : place + length s ≡ count = rw (length-bits_from b place (count - place)) (omega arith) in
      sym (rw (o.flagged, z, p) refl)

  module _ (to : ℕ) (some : from ≡ count → ⊥) (closes : to ≡ from + length (up_to_flag (stream_at b count from))) where
    not_only : only_flags s ≡ false
    unfolding only_flags
    not_only = ne_eqb (length (past_flags 0 s)) 0 (λ e. some (omega (arith, left)))

    long : length (stretch s) ≡ to - from
    long = ap (λ (t : List Bool). length (up_to_flag t)) (sym o.opens) ∙ omega (arith, closes)

    -- the reader goes on to a place that is not before, nor behind the count
    pub goes : (from ≤ to) × (to ≤ count)
    goes = (omega (arith, closes), omega (arith, closes, up_to_most (stream_at b count from), length-bits_from b from (count - from)))

    -- what it goes through is the stretch
    pub stretch_is : bits_from b from (to - from) ≡ stretch s
    stretch_is =
        let n : length (up_to_flag (stream_at b count from)) ≡ to - from = omega (arith, closes) in
        sym (take-bits_from b from (to - from) (count - from) (omega (arith, goes.1)))
        ∙ ap (λ (k : ℕ). take k (stream_at b count from)) (sym n) ∙ up_to_prefix (stream_at b count from) ∙ ap up_to_flag o.opens

    pub zero-missing : zero_missing 0 (stretch s) ≡ true → found_at place (refused R.ZeroMissing) ≡ behind_flag place s
    unfolding read_bits
    zero-missing m = sym (rw (o.flagged, not_only, m, add-zero place) refl)

    module _ (none : zero_missing 0 (stretch s) ≡ false) where
      pub not_closed : to ≡ count → found_at place (refused R.NoClosingFlag) ≡ behind_flag place s
      unfolding read_bits no_closing_flag
      not_closed e =
          let z = eq-eqb (length (stretch s)) (length (past_flags 0 s)) (omega (arith, long, left)) in
          sym (rw (o.flagged, not_only, none, z, add-zero place) refl)

      pub closed : (to ≡ count → ⊥) → found_at to (judged_body (body_in s)) ≡ behind_flag place s
      unfolding read_bits no_closing_flag
      closed n =
          let z = ne_eqb (length (stretch s)) (length (past_flags 0 s)) (λ e. n (omega (arith, long, left, goes.0, goes.1))) in
          let c : place + closing s ≡ to = omega (arith, long, left, length-bits_from b place (count - place), goes.0) in
          let r = each_of Answer Outcome (λ a. outcome a (closing s)) (body_rows (body_in s)) (accepted (frame_in (body_in s))) in
          sym (rw (o.flagged, not_only, none, z, r, c) refl)
