-- A body in bytes: its parts by the numbers that they make, as the reader's code tests them. Assumes nothing.
use Prim.Native.Nat.{ℕ, ◌+◌, ◌-◌, ◌*◌, ◌≤◌, ◌<◌}
use mathlib.Core.Path.{◌≡◌, refl, sym, ap, ◌∙◌}
use mathlib.Core.Bool.{Bool, true, false, not}
use mathlib.Core.List.{List}
use native.Mathlib.Decide.{dec_lt}
use native.Mathlib.Nat.{zero-add}
use native.Mathlib.Omega.{arith}
use borrow.Author.Tests.{eq-eqb, ne_eqb, lt-ltb, le-ltb}
use lib.Dec.{eqb, lit<}
use lib.ListN.{length, take, drop, replicate}
use Rattle.bits.specs.Bits.{bits_of}
use Rattle.fields.specs.declared.Direction.{Direction}
use Rattle.fields.specs.declared.Direction.TheVariants.{ToSensor, FromSensor}
use Rattle.frames.specs.declared.FrameRefusal.TheVariants as R
use Rattle.frames.specs.declared.What.TheVariants as W
use Rattle.frames.specs.Stream.{bits_from, put_all, number}
use Rattle.frames.specs.Check.{check_of}
use Rattle.frames.specs.Frame.{frame_of, address}
use Rattle.frames.specs.Reading.{accepted, refused, begins, wrong_length, wrong_check, unknown_address, control_in, field_in, judged_body, field_bytes, found_at}
use Rattle.frames.specs.Steps.{addressed_body}
use Rattle.frames.proofs.Numbered.{begins_number}
use Rattle.frames.proofs.Checked.{length-check_of}
use Rattle.frames.proofs.Streamed.{length-bits_from, take-bits_from, drop-bits_from, number_bits_from, bits_from-put_all}
use Rattle.frames.proofs.Flagged.{begins_by_number}

-- a part of a body: n bits behind the first a
part : (s : List ℕ) (count a n : ℕ) → a + n ≤ count → take n (drop a (bits_from s 0 count)) ≡ bits_from s a n
part s count a n h =
    let z : 0 + a ≡ a = zero-add a in
    ap (take n) (drop-bits_from s 0 a count (omega arith)) ∙ rw z (take-bits_from s a n (count - a) (omega arith))

control_is : (s : List ℕ) (count : ℕ) → 16 ≤ count → control_in (bits_from s 0 count) ≡ bits_of s 8 8
control_is s count h = ap number (part s count 8 8 (omega arith)) ∙ number_bits_from s 8 8

field_is : (s : List ℕ) (count : ℕ) → 32 ≤ count → field_in (bits_from s 0 count) ≡ bits_from s 16 (count - 32)
field_is s count h =
    ap (λ (n : ℕ). take (n - 32) (drop 16 (bits_from s 0 count))) (length-bits_from s 0 count) ∙ part s count 16 (count - 32) (omega arith)

pub frame_found : (s : List ℕ) (count x place : ℕ) (way : Direction) (field : List ℕ) → 32 ≤ count → x ≡ bits_of s 8 8
    → field ≡ field_bytes (bits_from s 16 (count - 32))
    → found_at place (accepted (frame_of way (control_in (bits_from s 0 count)) (field_in (bits_from s 0 count))))
    ≡ record { what = W.Frame way x (count - 32); place = place; field = field }
frame_found s count x place way field h e f =
    rw (control_is s count (omega arith), sym e, field_is s count h, length-bits_from s 16 (count - 32), f) refl

-- ---- the address

module _ (s : List ℕ) (count : ℕ) (h : 32 ≤ count) where
  abbrev b : List Bool
  b = bits_from s 0 count

  to_sensor : begins (address ToSensor) b ≡ eqb 0xC0 (bits_of s 0 8)
  to_sensor = begins_by_number s 0 count 8 0xC0 (omega arith) (lit< tt)

  from_sensor_is : begins (address FromSensor) b ≡ eqb 0x80 (bits_of s 0 8)
  from_sensor_is = begins_by_number s 0 count 8 0x80 (omega arith) (lit< tt)

  pub to_the_sensor : bits_of s 0 8 ≡ 0xC0 → accepted (frame_of ToSensor (control_in b) (field_in b)) ≡ addressed_body b
  unfolding unknown_address
  to_the_sensor e =
      let t = to_sensor ∙ eq-eqb _ _ (sym e) in
      sym (rw t refl)

  pub from_the_sensor : bits_of s 0 8 ≡ 0x80 → accepted (frame_of FromSensor (control_in b) (field_in b)) ≡ addressed_body b
  unfolding unknown_address
  from_the_sensor e =
      let n : eqb 0xC0 (bits_of s 0 8) ≡ false = ap (eqb 0xC0) e in
      let t = to_sensor ∙ n in
      let f = from_sensor_is ∙ eq-eqb _ _ (sym e) in
      sym (rw (t, f) refl)

  pub neither : (bits_of s 0 8 ≡ 0xC0 → ⊥) → (bits_of s 0 8 ≡ 0x80 → ⊥) → refused R.UnknownAddress ≡ addressed_body b
  unfolding unknown_address
  neither m n =
      let t = to_sensor ∙ ne_eqb _ _ (λ e. m (sym e)) in
      let f = from_sensor_is ∙ ne_eqb _ _ (λ e. n (sym e)) in
      sym (rw (t, f) refl)

-- ---- length and check sequence

-- too short or too long
pub wrong-length : (b : List Bool) → wrong_length b ≡ true → refused R.WrongLength ≡ judged_body b
wrong-length b e = sym (rw e refl)

pub too_short : (s : List ℕ) (count : ℕ) → count < 32 → wrong_length (bits_from s 0 count) ≡ true
unfolding wrong_length
too_short s count h = rw (length-bits_from s 0 count, lt-ltb count 32 h) refl

pub too_long : (s : List ℕ) (count : ℕ) → 2040 < count → wrong_length (bits_from s 0 count) ≡ true
unfolding wrong_length
too_long s count h = rw (length-bits_from s 0 count, le-ltb count 32 (omega arith), lt-ltb 2040 count h) refl

module _ (s : List ℕ) (count : ℕ) (low : 32 ≤ count) (high : count ≤ 2040) where
  right_length : wrong_length (bits_from s 0 count) ≡ false
  unfolding wrong_length
  right_length = rw (length-bits_from s 0 count, le-ltb count 32 low, le-ltb 2040 count high) refl

  check_by_number : wrong_check (bits_from s 0 count) ≡ not (eqb (number (check_of (bits_from s 0 (count - 16)))) (bits_of s (count - 16) 16))
  unfolding wrong_check
  check_by_number =
      let n = count - 16 in
      let m : count - n ≡ 16 = omega arith in
      let z : 0 + n ≡ n = zero-add n in
      let k = length-check_of (bits_from s 0 n) in
      let last : drop n (bits_from s 0 count) ≡ bits_from s n 16 = drop-bits_from s 0 n count (omega arith) ∙ rw (z, m) refl in
      let told : begins (check_of (bits_from s 0 n)) (bits_from s n 16) ≡ eqb (number (check_of (bits_from s 0 n))) (bits_of s n 16) =
      begins_number (check_of (bits_from s 0 n)) (bits_from s n 16) (rw (k, length-bits_from s n 16) (omega arith))
      ∙ ap (λ (j : ℕ). eqb (number (check_of (bits_from s 0 n))) (number (take j (bits_from s n 16)))) k
      ∙ ap (eqb (number (check_of (bits_from s 0 n)))) (ap number (take-bits_from s n 16 16 (omega arith)) ∙ number_bits_from s n 16) in
      rw (length-bits_from s 0 count, take-bits_from s 0 n count (omega arith), last) (ap not told)

  pub right_check : number (check_of (bits_from s 0 (count - 16))) ≡ bits_of s (count - 16) 16 → addressed_body (bits_from s 0 count) ≡ judged_body (bits_from s 0 count)
  right_check e = sym (rw (right_length, check_by_number ∙ ap not (eq-eqb _ _ e)) refl)

  pub wrong-check : (number (check_of (bits_from s 0 (count - 16))) ≡ bits_of s (count - 16) 16 → ⊥) → refused R.WrongCheck ≡ judged_body (bits_from s 0 count)
  wrong-check n = sym (rw (right_length, check_by_number ∙ ap not (ne_eqb _ _ n)) refl)

-- ---- the bits that the bytes stand for

-- too long a body is refused by its length alone, and any other is in the bytes
pub judged_bits : (b : List Bool) (bytes : List ℕ) (count : ℕ) → count ≡ length b → bytes ≡ put_all (replicate 255 0) 0 b
    → judged_body (bits_from bytes 0 count) ≡ judged_body b
unfolding wrong_length
judged_bits b bytes count e f = go (dec_lt 2040 count)
  where
    go : Dec (2040 < count) → judged_body (bits_from bytes 0 count) ≡ judged_body b
    go (yes l) =
        let w : wrong_length b ≡ true = rw (sym e, le-ltb count 32 (omega arith), lt-ltb 2040 count l) refl in
        sym (wrong-length (bits_from bytes 0 count) (too_long bytes count l)) ∙ wrong-length b w
    go (no l) =
        let zeros : List ℕ = replicate 255 0 in
        let room : 0 + length b ≤ length zeros * 8 = omega arith in
        ap judged_body (ap (bits_from bytes 0) e ∙ ap (λ (t : List ℕ). bits_from t 0 (length b)) f ∙ bits_from-put_all zeros 0 b room)
