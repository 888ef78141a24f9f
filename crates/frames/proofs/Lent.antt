-- Frames in lent bytes: what was written reads back, also where the next frame shares its closing flag; what was read and is written again leaves
-- the bytes as they are; and all bits beside a frame stay. The claims HandedOut, WrittenReads, WrittenOn, ReadWrites and OthersStay, from the laws
-- of one frame (Back.antt) and of bits that are put (Streamed.antt).
-- Assumes nothing.
use Prim.Native.Nat.{ℕ, zero, suc, ◌+◌, ◌-◌, ◌*◌, ◌≤◌, ◌<◌}
use mathlib.Core.Path.{◌≡◌, refl, sym, ap, subst, ◌∙◌}
use mathlib.Core.Bool.{Bool}
use mathlib.Core.List.{List, ◌++◌, append_assoc}
use mathlib.Core.Logic.{⊎_elim, inl, inr}
use native.Mathlib.Nat.{add_assoc}
use native.Mathlib.Omega.{arith}
use Rattle.std.proofs.Common.{Ok}
use lib.ListN.{length, take, drop, replicate, length-append, length-take, length-drop}
use lib.Seq.{take-append_seam}
use borrow.Author.Tests.{ltb-false, le-ltb}
use Rattle.bits.specs.Bits.{put_bit}
use Rattle.fields.specs.declared.Direction.{Direction}
use Rattle.frames.specs.declared.What.TheVariants as W
use Rattle.frames.specs.declared.Found.{Found}
use Rattle.frames.specs.Stream.{bits_from, put_all, digits}
use Rattle.frames.specs.Frame.{Frame, frame_of, Fits, flag, between, frame_bits}
use Rattle.frames.specs.Reading.{Answer, accepted, refused, end, Outcome, outcome, count_over, read_bits, stream_at, field_bytes, found_at, read_frame}
use Rattle.frames.specs.Writing.{Wrote, given, write_rows, closing_place, write_frame, left_as, Writes}
use Rattle.frames.specs.Lists.{flags}
use Rattle.frames.specs.Claims.{opening, HandedOut, WrittenReads, WrittenOn, ReadWrites, OthersStay}
use Rattle.frames.proofs.Tests.{differ}
use Rattle.frames.proofs.Numbered.{length_digits}
use Rattle.frames.proofs.Streamed.{length-bits_from, bits_from_join, bit_is, put_there, take-bits_from, drop-bits_from, length-put_all, bits_from-put_all, bits_from-put_all_other}
use Rattle.rows.specs.Rows.{first_of}
use Rattle.frames.proofs.Decided.{Written, written}
use Rattle.frames.proofs.Back.{length_frame, reads_back, stands, written_again}

-- ---- bits

pub handed_out : HandedOut
handed_out bs h = bits_from-put_all (replicate 251 0) 0 bs (omega arith)

-- bits put where they stand change nothing
pub put_same : (s : List ℕ) (p n : ℕ) → put_all s p (bits_from s p n) ≡ s
unfolding put_all bits_from
put_same s p zero = refl
put_same s p (suc n) =
    ap (λ (t : List ℕ). put_all t (p + 1) (bits_from s (p + 1) n)) (ap (put_bit s p) (bit_is s p) ∙ put_there s p) ∙ put_same s (p + 1) n

-- ---- the writer

-- a call that writes
module _
    {bytes : List ℕ} {count place : ℕ} {way : Direction} {control : ℕ} {field : List ℕ} {n p : ℕ} {exit : List ℕ}
    (w : Writes bytes count place way control field n (Ok p) exit) where
  taken : Written (length bytes) count place field n (given way control field n) p
  unfolding write_frame
  taken = (written (length bytes) count place field n (given way control field n) p).0 (sym w.answers)

  left : exit ≡ put_all bytes place (frame_bits (given way control field n))
  left = w.leaves ∙ ap (λ (a : Wrote). left_as a bytes place (given way control field n)) (sym w.answers)

  left_lent : count ≤ length exit * 8
  left_lent = rw (left, length-put_all) taken.lent

  left_there : bits_from exit place (length (frame_bits (given way control field n))) ≡ frame_bits (given way control field n)
  left_there = rw left (bits_from-put_all bytes place (frame_bits (given way control field n)) (omega (arith, taken.lent, taken.room)))

  left_fits : control < 256 → Fits (given way control field n)
  left_fits h = record { control = h; field = rw length-bits_from taken.short }

pub others_stay : OthersStay
others_stay bytes count place way control field n p exit w g m o =
    let f = given way control field n in
    let t = taken w in
    rw (left w) (bits_from-put_all_other bytes place (frame_bits f) g m (⊎_elim inl (λ h. inr (omega (arith, t.closes, length_frame f))) o))

-- ---- the reader

-- a frame that stands in the bytes is read
read_there : (bytes : List ℕ) (count place : ℕ) (f : Frame) → Fits f → count ≤ length bytes * 8 → place + length (frame_bits f) ≤ count
    → bits_from bytes place (length (frame_bits f)) ≡ frame_bits f → read_frame bytes count place ≡ found_at (closing_place place f) (accepted f)
unfolding read_frame flags
read_there bytes count place f fits lent room here =
    let m = length (frame_bits f) in
    let e : count - place ≡ m + (count - place - m) = omega arith in
    let rest = bits_from bytes (place + m) (count - place - m) in
    let stream : stream_at bytes count place ≡ frame_bits f ++ rest =
    ap (bits_from bytes place) e ∙ bits_from_join bytes place m (count - place - m) ∙ ap (λ (s : List Bool). s ++ rest) here in
    let read : read_bits (count_over (length bytes) count) (stream_at bytes count place) ≡ outcome (accepted f) (closing_place 0 f) =
    (λ i. read_bits (le-ltb _ _ lent i) (stream i)) ∙ reads_back f 0 rest fits in
    let closes : place + closing_place 0 f ≡ closing_place place f = omega arith in
    ap (λ (o : Outcome). found_at (place + o.on) o.answer) read ∙ ap (λ (p : ℕ). found_at p (accepted f)) closes

pub written_reads : WrittenReads
written_reads bytes count place way control field n p exit small w =
    read_there exit count place (given way control field n) (left_fits w small) (left_lent w) (taken w).room (left_there w)
    ∙ (λ i. record { what = W.Frame way control (length-bits_from field 0 n i); place = (taken w).closes i; field = field_bytes (bits_from field 0 n) })

-- a frame begins and ends with a flag
frame_begins : (f : Frame) → take 8 (frame_bits f) ≡ flag
unfolding frame_bits digits
frame_begins f = refl

frame_ends : (f : Frame) → frame_bits f ≡ take (length (frame_bits f) - 8) (frame_bits f) ++ flag
unfolding frame_bits
frame_ends f =
    let front = flag ++ between f in
    let e : frame_bits f ≡ front ++ flag = simp append_assoc in
    let n : length (frame_bits f) - 8 ≡ length front = rw length_frame (simp (length-append, length_digits) (omega arith)) in
    rw (n, e, take-append_seam)

pub written_on : WrittenOn
written_on bytes count place way control field n p exit small w way' control' field' n' p' exit' w' =
    let f = given way control field n in
    let g = given way' control' field' n' in
    let t = taken w in
    let fits = left_fits w small in
    let m = length (frame_bits f) - 8 in
    let k = length (frame_bits g) in
    let a : length (frame_bits f) ≡ m + 8 = omega (arith, length_frame f) in
    let front : bits_from exit' place m ≡ take m (frame_bits f) =
    others_stay exit count p way' control' field' n' p' exit' w' place m (inl (omega (arith, t.closes)))
    ∙ sym (take-bits_from exit place m (length (frame_bits f)) (omega arith)) ∙ ap (take m) (left_there w) in
    let last : bits_from exit' (place + m) 8 ≡ flag =
    ap (λ (q : ℕ). bits_from exit' q 8) t.closes ∙ sym (take-bits_from exit' p 8 k (omega (arith, length_frame g)))
    ∙ ap (take 8) (left_there w') ∙ frame_begins g in
    let there : bits_from exit' place (length (frame_bits f)) ≡ frame_bits f =
    ap (bits_from exit' place) a ∙ bits_from_join exit' place m 8 ∙ (λ i. front i ++ last i) ∙ sym (frame_ends f) in
    read_there exit' count place f fits (left_lent w') t.room there
    ∙ sym (read_there exit count place f fits (left_lent w) t.room (left_there w))

-- bits cut out of a stream stand in the bytes
stand_there : (bytes : List ℕ) (count place k : ℕ) (bs : List Bool) → 0 < length bs → take (length bs) (drop k (stream_at bytes count place)) ≡ bs
    → (place + k + length bs ≤ count) × (bits_from bytes (place + k) (length bs) ≡ bs)
stand_there bytes count place k bs some e =
    let room : k + length bs ≤ count - place = omega (arith, simp (length-take, length-drop, length-bits_from) at (ap length e)) in (
      omega arith,
      sym (ap (take (length bs)) (drop-bits_from bytes place k (count - place) (omega arith))
          ∙ take-bits_from bytes (place + k) (length bs) (count - place - k) (omega arith)) ∙ e,
    )

-- a frame that was read is written where it stands
write_there : (bytes : List ℕ) (count place : ℕ) (f : Frame) (m : ℕ)
    → read_bits (count_over (length bytes) count) (stream_at bytes count place) ≡ outcome (accepted f) m
    → Writes bytes count (place + opening (stream_at bytes count place)) f.way f.control (field_bytes f.field) (length f.field)
    (Ok (place + m)) bytes
unfolding write_frame
write_there bytes count place f m read =
    let over = count_over (length bytes) count in
    let s = stream_at bytes count place in
    let q = place + opening s in
    let field = field_bytes f.field in
    let n = length f.field in
    let again = written_again over s f m read in
    let short = again.0.field in
    let at = stand_there bytes count place (opening s) (frame_bits f) (omega (arith, length_frame f)) again.1 in
    let same : given f.way f.control field n ≡ f = ap (frame_of f.way f.control) (handed_out f.field short) in
    let done : write_frame (length bytes) count q f.way f.control field n ≡ Ok (place + m) =
    ap (λ (g : Frame). first_of (write_rows (length bytes) count q field n g) (Ok (closing_place q g))) same
    ∙ (written (length bytes) count q field n f (place + m)).1
    record {
      lent = ltb-false _ _ (stands over s f m read).0;
      full = rw length-put_all short;
      short = short;
      room = at.0;
      closes = add_assoc place (opening s) _ ∙ ap (λ (k : ℕ). place + k) (sym again.2);
    } in
    record {
      answers = sym done;
      leaves =
          sym (ap (λ (a : Wrote). left_as a bytes q (given f.way f.control field n)) done
          ∙ ap (put_all bytes q) (ap frame_bits same ∙ sym at.1) ∙ put_same bytes q (length (frame_bits f)));
    }

pub read_writes : ReadWrites
unfolding read_frame
read_writes bytes count place way control n p field e = go o.answer o.on refl e
  where
    o : Outcome
    o = read_bits (count_over (length bytes) count) (stream_at bytes count place)

    Again : Found → Type 0
    Again y = Writes bytes count (place + opening (stream_at bytes count place)) way control y.field n (Ok y.place) bytes

    found : Found
    found = record { what = W.Frame way control n; place = p; field = field }

    go : (a : Answer) (m : ℕ) → o ≡ outcome a m → found_at (place + m) a ≡ found → Again found
    go (refused r) m read e = differ (cc (ap (λ (y : Found). y.what) e))
    go end m read e = differ (cc (ap (λ (y : Found). y.what) e))
    go (accepted f) m read e =
        let x : W.Frame f.way f.control (length f.field) ≡ W.Frame way control n = ap (λ (y : Found). y.what) e in
        let w : f.way ≡ way = cc in
        let c : f.control ≡ control = cc in
        let k : length f.field ≡ n = cc in
        subst Again e (rw (w, c, k) at (write_there bytes count place f m read))
