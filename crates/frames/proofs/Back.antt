-- One frame written and read, and read and written: the claims ReadsBack, AcceptedExactly and WrittenAgain.
-- Assumes nothing.
use Prim.Native.Nat.{ℕ, ◌+◌, ◌-◌, ◌≤◌, ◌<◌}
use mathlib.Core.Path.{◌≡◌, refl, sym, ap, subst, ◌∙◌}
use mathlib.Core.Bool.{Bool, true, false}
use mathlib.Core.List.{List, [], ◌++◌, append_assoc}
use mathlib.Core.Logic.{◌↔◌}
use native.Mathlib.Omega.{arith}
use lib.Dec.{ltb}
use lib.ListN.{length, take, drop, length-append, length-take, length-drop, take-append-drop}
use lib.Seq.{take-append_seam, drop-append_seam, take_at, drop_at, take-add, drop-drop}
use borrow.Author.Tests.{ltb-false, le-ltb, not-false}
use Rattle.rows.specs.Claims.{NoneHolds}
use Rattle.rows.proofs.Claims as law
use Rattle.fields.specs.declared.Direction.{Direction}
use Rattle.fields.specs.declared.Direction.TheVariants.{ToSensor, FromSensor}
use Rattle.fields.proofs.Puts.{both_false}
use Rattle.frames.specs.Stream.{digits}
use Rattle.frames.specs.Check.{check_of}
use Rattle.frames.specs.Zeros.{with_zeros, zeros_out, zero_missing}
use Rattle.frames.specs.Frame.{Frame, Fits, flag, address, message, body, between, frame_bits}
use Rattle.frames.specs.Reading.{accepted, Outcome, outcome, begins, wrong_length, wrong_check, unknown_address, way_in, control_in, field_in, frame_in, read_bits}
use Rattle.frames.specs.Writing.{closing_place}
use Rattle.frames.specs.Lists.{flags}
use Rattle.frames.specs.Claims.{Stretch, opening, ReadsBack, AcceptedExactly, WrittenAgain}
use Rattle.frames.proofs.Tests.{by_test}
use Rattle.frames.proofs.Numbered.{number_lt, length_digits, number_digits, digits_number, begins_eq, begins_whole}
use Rattle.frames.proofs.Checked.{length-check_of}
use Rattle.frames.proofs.Zeros.{taken_out, put_in, no_flag_inside}
use Rattle.frames.proofs.Refused.{reads}
use Rattle.frames.proofs.Flags.{is_stretch, laid, ahead, judges, judged, read_laid, laid_open, laid_by}

-- ---- the bits of a frame without inserted zeros

length_address : (w : Direction) → length (address w) ≡ 8
length_address ToSensor = length_digits 8 _
length_address FromSensor = length_digits 8 _

length_message : (f : Frame) → length (message f) ≡ 16 + length f.field
length_message f = simp (length-append, length_address, length_digits) (omega arith)

pub length_body : (f : Frame) → length (body f) ≡ 32 + length f.field
length_body f = rw (length-append, length_message, length-check_of) (omega arith)

-- bits that no row refuses
pub record Right (b : List Bool) : Type 0 where
  pub size : wrong_length b ≡ false
  pub check : wrong_check b ≡ false
  pub known : unknown_address b ≡ false

-- a frame's are such, and give the frame
right_check : (m : List Bool) → wrong_check (m ++ check_of m) ≡ false
unfolding wrong_check
right_check m =
    let n : length (m ++ check_of m) - 16 ≡ length m = rw (length-append, length-check_of) (omega arith) in
    rw (n, take-append_seam, drop-append_seam, (begins_whole (check_of m) (check_of m) refl).1 refl)

right_address : (w : Direction) (s c : List Bool) → (unknown_address ((address w ++ s) ++ c) ≡ false) × (way_in ((address w ++ s) ++ c) ≡ w)
unfolding unknown_address begins digits
right_address ToSensor s c = (refl, refl)
right_address FromSensor s c = (refl, refl)

body_right : (f : Frame) → Fits f → Right (body f)
unfolding wrong_length
body_right f h =
    let n = length_body f in
    let l = h.field in
    record {
      size = rw (le-ltb (length (body f)) 32 (omega arith), le-ltb 2040 (length (body f)) (omega arith));
      check = right_check (message f);
      known = (right_address f.way _ _).0;
    }

body_frame : (f : Frame) → Fits f → frame_in (body f) ≡ f
body_frame f h =
    let c = f.control in
    let s = f.field in
    let k = check_of (message f) in
    let parts : body f ≡ address f.way ++ (digits 8 c ++ (s ++ k)) = simp append_assoc in
    let behind : drop 8 (body f) ≡ digits 8 c ++ (s ++ k) = rw parts (drop_at (address f.way) _ 8 (length_address f.way)) in
    let control : control_in (body f) ≡ c = rw (behind, take_at (digits 8 c) (s ++ k) 8 (length_digits 8 c)) (number_digits 8 c h.control) in
    let n : length (body f) - 32 ≡ length s = rw length_body (omega arith) in
    let after : drop 16 (body f) ≡ s ++ k =
    sym (drop-drop 8 8 (body f)) ∙ ap (drop 8) behind ∙ drop_at (digits 8 c) (s ++ k) 8 (length_digits 8 c) in
    let field : field_in (body f) ≡ s = rw (n, after, take-append_seam) in
    let way : way_in (body f) ≡ f.way = (right_address f.way _ _).1 in
    λ i. record { way = way i; control = control i; field = field i }

-- and bits that no row refuses are a frame's
length_right : {b : List Bool} → Right b → (32 ≤ length b) × (length b ≤ 2040)
unfolding wrong_length
length_right {b} r =
    let h = both_false (ltb (length b) 32) (ltb 2040 (length b)) r.size in (ltb-false _ _ h.0, ltb-false _ _ h.1)

length_control : (b : List Bool) → 32 ≤ length b → length (take 8 (drop 8 b)) ≡ 8
length_control b l = simp (length-take, length-drop) (omega arith)

right_fits : (b : List Bool) → Right b → Fits (frame_in b)
right_fits b r =
    let l = length_right r in
    record { control = rw (length_control b l.0) at (number_lt (take 8 (drop 8 b))); field = simp length-take (omega arith) }

-- the last sixteen bits are the check sequence of the others
check_in : (b : List Bool) → 16 ≤ length b → wrong_check b ≡ false → b ≡ take (length b - 16) b ++ check_of (take (length b - 16) b)
unfolding wrong_check
check_in b l e =
    let n = length b - 16 in
    let m = take n b in
    let last : check_of m ≡ drop n b = (begins_whole (check_of m) (drop n b) (rw (length-check_of, length-drop) (omega arith))).0 (not-false _ e) in
    rw last (sym (take-append-drop n b))

address_in : (b : List Bool) → unknown_address b ≡ false → take 8 b ≡ address (way_in b)
unfolding unknown_address
address_in b e = by_test (begins (address ToSensor) b) (λ y. rw y (front ToSensor y)) (λ n. rw n (front FromSensor (not-false _ (rw n at e))))
  where
    front : (w : Direction) → begins (address w) b ≡ true → take 8 b ≡ address w
    front w y = ap (take 8) (begins_eq (address w) b y) ∙ take_at (address w) _ 8 (length_address w)

message_in : (b : List Bool) → 32 ≤ length b → unknown_address b ≡ false → take (length b - 16) b ≡ message (frame_in b)
message_in b l e =
    let n : length b - 16 ≡ 8 + (8 + (length b - 32)) = omega arith in
    let c : digits 8 (control_in b) ≡ take 8 (drop 8 b) = rw (length_control b l) at (digits_number (take 8 (drop 8 b))) in
    rw (n, take-add, take-add, drop-drop, address_in b e, c)

right_body : (b : List Bool) → Right b → b ≡ body (frame_in b)
right_body b r =
    let l = length_right r in
    check_in b (omega arith) r.check ∙ ap (λ (m : List Bool). m ++ check_of m) (message_in b l.0 r.known)

-- ---- the bits between the flags

-- they are those of a frame exactly when they are not refused
judged_exactly : (t : List Bool) (n : ℕ) (f : Frame) (m : ℕ) → (judged t n ≡ outcome (accepted f) m) ↔ ((t ≡ between f) × Fits f × (m ≡ n))
unfolding judged
judged_exactly t n f m =
    let k = law.accepted_exactly Outcome reads (judges t n) _ (outcome (accepted f) m) (refl, (refl, (refl, (refl, tt)))) refl in
    (λ e. to (k.0 e), λ h. k.1 (from h))
  where
    b : List Bool
    b = zeros_out 0 t

    to : NoneHolds (judges t n) × (outcome (accepted (frame_in b)) n ≡ outcome (accepted f) m) → (t ≡ between f) × Fits f × (m ≡ n)
    to (h, e) =
        let r : Right b = record { size = h.1.0; check = h.1.1.0; known = h.1.1.1.0 } in
        let a : accepted (frame_in b) ≡ accepted f = ap (λ (o : Outcome). o.answer) e in
        let g : frame_in b ≡ f = cc in (
          sym (put_in t h.0) ∙ ap (with_zeros 0) (right_body b r ∙ ap body g),
          subst Fits g (right_fits b r),
          sym (ap (λ (o : Outcome). o.on) e),
        )

    from : (t ≡ between f) × Fits f × (m ≡ n) → NoneHolds (judges t n) × (outcome (accepted (frame_in b)) n ≡ outcome (accepted f) m)
    from h =
        let out = taken_out (body f) in
        let e : b ≡ body f = ap (zeros_out 0) h.0 ∙ out.0 in
        let r = body_right f h.1 in (
          (ap (zero_missing 0) h.0 ∙ out.1, (ap wrong_length e ∙ r.size, (ap wrong_check e ∙ r.check, (ap unknown_address e ∙ r.known, tt)))),
          λ i. outcome (accepted ((ap frame_in e ∙ body_frame f h.1) i)) (sym h.2 i),
        )

-- and a frame's are a stretch
pub between_stretch : (f : Frame) → Stretch (between f)
between_stretch f =
    is_stretch (between f) [] (some f.way _ _) (no_flag_inside (body f) [])
  where
    some : (w : Direction) (s c : List Bool) → 0 < length (with_zeros 0 ((address w ++ s) ++ c))
    some ToSensor s c = unfold with_zeros digits in omega arith
    some FromSensor s c = unfold with_zeros digits in omega arith

-- ---- the bits with the flags

pub length_frame : (f : Frame) → length (frame_bits f) ≡ 16 + length (between f)
unfolding frame_bits
length_frame f = simp (length-append, length_digits) (omega arith)

-- a frame in a stream
pub framed : (k : ℕ) (f : Frame) (rest : List Bool) → flags k ++ (frame_bits f ++ rest) ≡ laid k (between f) rest
unfolding frame_bits
framed k f rest = simp append_assoc

-- how many bits stand in front of its opening flag, and in front of its closing flag
pub opening_at : (k : ℕ) (f : Frame) (rest : List Bool) → opening (laid k (between f) rest) ≡ length (flags k)
opening_at k f rest = rw (laid_open k (between f) rest (between_stretch f)) (omega arith)

pub closing_at : (k : ℕ) (f : Frame) → closing_place (length (flags k)) f ≡ ahead k (between f)
closing_at k f = rw length_frame (omega arith)

-- ---- the claims

-- a frame is read
pub read_frame : (f : Frame) (k : ℕ) (rest : List Bool) → Fits f
    → read_bits false (laid k (between f) rest) ≡ outcome (accepted f) (ahead k (between f))
read_frame f k rest h = read_laid k (between f) rest (between_stretch f) ∙ (judged_exactly (between f) _ f _).1 (refl, h, refl)

pub reads_back : ReadsBack
reads_back f k rest h = rw (framed k f rest, closing_at k f) (read_frame f k rest h)

pub accepted_exactly : AcceptedExactly
unfolding flags
accepted_exactly s rest f n st =
    let e : read_bits false (flag ++ (s ++ (flag ++ rest))) ≡ judged s (ahead 0 s) = read_laid 0 s rest st in
    let k = judged_exactly s (ahead 0 s) f n in
    (λ h. k.0 (sym e ∙ h), λ h. e ∙ k.1 h)

-- a frame that was read stands behind flags
pub record Stands (s : List Bool) (f : Frame) (n : ℕ) : Type 0 where
  pub more : ℕ
  pub rest : List Bool
  pub whole : s ≡ flags more ++ (frame_bits f ++ rest)
  pub opens : opening s ≡ length (flags more)
  pub closes : n ≡ closing_place (opening s) f
  pub fits : Fits f

pub stands : (over : Bool) (s : List Bool) (f : Frame) (n : ℕ) → read_bits over s ≡ outcome (accepted f) n → (over ≡ false) × Stands s f n
stands over s f n e =
    let k = laid_by reads (λ q. refl) (λ n. refl) over s (ap reads e) in
    let l = k.1 in
    let m = l.more in
    let j = (judged_exactly l.bits (ahead m l.bits) f n).0
    (sym (read_laid m l.bits l.rest l.between) ∙ (λ i. read_bits (sym k.0 i) (sym l.whole i)) ∙ e) in
    let w : s ≡ laid m (between f) l.rest = l.whole ∙ ap (λ (t : List Bool). laid m t l.rest) j.0 in
    let o : opening s ≡ length (flags m) = ap opening w ∙ opening_at m f l.rest in (
      k.0,
      record {
        more = m;
        rest = l.rest;
        whole = w ∙ sym (framed m f l.rest);
        opens = o;
        closes = j.2 ∙ ap (ahead m) j.0 ∙ sym (closing_at m f) ∙ ap (λ (k : ℕ). closing_place k f) (sym o);
        fits = j.1;
      },
    )

pub written_again : WrittenAgain
written_again over s f n e =
    let h = (stands over s f n e).1 in (
      h.fits,
      ap (λ (p : ℕ). take (length (frame_bits f)) (drop p s)) h.opens
          ∙ ap (λ (s : List Bool). take (length (frame_bits f)) (drop (length (flags h.more)) s)) h.whole
          ∙ simp (drop-append_seam, take-append_seam),
      h.closes,
    )
