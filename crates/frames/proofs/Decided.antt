-- What the writer decides: when it writes, and each of its refusals by the numbers that its code compares. Assumes nothing.
use Prim.Native.Nat.{ℕ, ◌+◌, ◌*◌, ◌≤◌, ◌<◌}
use mathlib.Core.Path.{◌≡◌, refl, sym, ap, ◌∙◌}
use mathlib.Core.Bool.{Bool, true, false}
use mathlib.Core.List.{List, ◌++◌}
use mathlib.Core.Logic.{◌↔◌}
use Rattle.std.proofs.Common.{Ok}
use native.Mathlib.Omega.{arith}
use borrow.Author.Tests.{lt-ltb, le-ltb, ltb-false}
use lib.ListN.{length}
use Rattle.rows.specs.Rows.{first_of}
use Rattle.rows.specs.Claims.{NoneHolds}
use Rattle.rows.proofs.Claims as law
use Rattle.fields.specs.declared.Direction.{Direction}
use Rattle.fields.proofs.Puts.{both_false}
use Rattle.frames.specs.declared.FrameRefusal.TheVariants as R
use Rattle.frames.specs.Stream.{bits_from, put_all}
use Rattle.frames.specs.Frame.{Frame, flag, between, frame_bits}
use Rattle.frames.specs.Reading.{count_over}
use Rattle.frames.specs.Writing.{Wrote, refused_at, given, write_rows, closing_place, write_frame, left_as, Writes}
use Rattle.frames.specs.Steps.{DecidedIs}
use Rattle.frames.proofs.Refused.{wrote}
use Rattle.frames.proofs.Streamed.{length-bits_from}
use Rattle.frames.proofs.Back.{length_frame}

-- what it needs to write a frame, and the place that it then answers
pub record Written (len count place : ℕ) (field : List ℕ) (n : ℕ) (f : Frame) (p : ℕ) : Type 0 where
  pub lent : count ≤ len * 8
  pub full : n ≤ length field * 8
  pub short : n ≤ 2008
  pub room : place + length (frame_bits f) ≤ count
  pub closes : closing_place place f ≡ p

pub written : (len count place : ℕ) (field : List ℕ) (n : ℕ) (f : Frame) (p : ℕ)
    → (first_of (write_rows len count place field n f) (Ok (closing_place place f)) ≡ Ok p) ↔ Written len count place field n f p
written len count place field n f p =
    let k = law.accepted_exactly Wrote wrote (write_rows len count place field n f) (Ok (closing_place place f)) (Ok p)
    (refl, (refl, (refl, tt))) refl in
    (λ e. to (k.0 e), λ w. k.1 (from w))
  where
    None : Type 0
    None = NoneHolds (write_rows len count place field n f) × (◌≡◌ {A = Wrote} (Ok (closing_place place f)) (Ok p))

    to : None → Written len count place field n f p
    to (h, e) =
        let c = both_false (count_over len count) (count_over (length field) n) h.0 in
        record {
          lent = ltb-false _ _ c.0;
          full = ltb-false _ _ c.1;
          short = ltb-false _ _ h.1.0;
          room = ltb-false _ _ h.1.1.0;
          closes = cc;
        }

    from : Written len count place field n f p → None
    from w = (
      (rw (le-ltb _ _ w.lent, le-ltb _ _ w.full) refl, (le-ltb _ _ w.short, (le-ltb _ _ w.room, tt))),
      ap Ok w.closes,
    )

-- ---- the code's decisions

module _ (len count place : ℕ) (way : Direction) (control : ℕ) (field : List ℕ) (n : ℕ) where
  abbrev f : Frame
  f = given way control field n

  abbrev answers : Wrote
  answers = write_frame len count place way control field n

  pub bytes_over : count_over len count ≡ true → refused_at R.CountOrFlag place ≡ answers
  unfolding write_frame
  bytes_over e = sym (rw e refl)

  module _ (lent : count_over len count ≡ false) where
    pub field_over : count_over (length field) n ≡ true → refused_at R.CountOrFlag place ≡ answers
    unfolding write_frame
    field_over e = sym (rw (lent, e) refl)

    module _ (full : count_over (length field) n ≡ false) where
      pub too_long : 2008 < n → refused_at R.WrongLength place ≡ answers
      unfolding write_frame
      too_long l = sym (rw (lent, full, lt-ltb _ _ l) refl)

      -- the frame's length, by that of what stands between the flags
      module _ (short : n ≤ 2008) (bytes : List ℕ) (m : ℕ) (is : bits_from bytes 0 m ≡ between f) where
        size : length (frame_bits f) ≡ 16 + m
        size = length_frame f ∙ ap (λ (k : ℕ). 16 + k) (sym (ap length is) ∙ length-bits_from bytes 0 m)

        pub no_room : count < place + (16 + m) → refused_at R.NoRoom place ≡ answers
        unfolding write_frame
        no_room l =
            let h : count < place + length (frame_bits f) = rw size l in
            sym (rw (lent, full, le-ltb _ _ short, lt-ltb _ _ h) refl)

        pub room : place + (16 + m) ≤ count → DecidedIs len count place way control field n (place + 8 + m) bytes m
        unfolding write_frame
        room l =
            record {
              closing_is =
                  sym
                  ((written len count place field n f (place + 8 + m)).1
                  (record {
                    lent = ltb-false _ _ lent;
                    full = ltb-false _ _ full;
                    short = short;
                    room = rw size l;
                    closes = rw size (omega arith);
                  }));
              between_is = is;
            }

-- the places of a frame that is written
pub places : (len count place : ℕ) (way : Direction) (control : ℕ) (field : List ℕ) (n p : ℕ) (bytes : List ℕ) (m : ℕ)
    → Ok p ≡ write_frame len count place way control field n → bits_from bytes 0 m ≡ between (given way control field n)
    → (place + 8 + m ≡ p) × (p + 8 ≤ len * 8)
unfolding write_frame
places len count place way control field n p bytes m e is =
    let f = given way control field n in
    let w = (written len count place field n f p).0 (sym e) in
    let k = length_frame f in
    let b : m ≡ length (between f) = sym (length-bits_from bytes 0 m) ∙ ap length is in
    (omega (arith, b, k, w.closes), omega (arith, k, w.closes, w.room, w.lent))

-- ---- a call

-- a call that is not refused has written the frame
pub framed : (bytes : List ℕ) (count place : ℕ) (way : Direction) (control : ℕ) (field : List ℕ) (n p : ℕ) (held : List ℕ) (m : ℕ) (exit : List ℕ)
    → DecidedIs (length bytes) count place way control field n p held m → exit ≡ put_all bytes place (flag ++ (bits_from held 0 m ++ flag))
    → Writes bytes count place way control field n (Ok p) exit
unfolding frame_bits
framed bytes count place way control field n p held m exit d put =
    let f = given way control field n in
    record {
      answers = d.closing_is;
      leaves =
          put ∙ ap (λ (b : List Bool). put_all bytes place (flag ++ (b ++ flag))) d.between_is
          ∙ ap (λ (x : Wrote). left_as x bytes place f) d.closing_is;
    }
