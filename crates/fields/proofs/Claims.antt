-- The claims of specs/Claims.antt that are demand 2, from the laws; Exactly.antt has those of the refusals.
-- Assumes nothing.
use Rattle.std.proofs.Common.{◌≡◌, ℕ, ◌+◌, ◌/◌, true, false, List, length, get_or, drop, replicate, ℤ, sym, refl, ap, ◌∙◌, arith, le-ltb, Ok, Result, Some}
use lib.ListN.{length-replicate}
use Rattle.rows.specs.Claims.{NoneHolds}
use Rattle.bits.specs.Bits.{Bytes}
use Rattle.fields.specs.declared.Record.{Record}
use Rattle.fields.specs.Table.{row_at, place_of}
use Rattle.fields.specs.Reading.{read_rows, record_of, answer_of, start_of, list_of, text_in, text_place, read_field, text_of}
use Rattle.fields.specs.Writing.{field_in, numbers_in, way_in, put_in, bytes_in, takes, bits_in, no_room, left_as, left_of}
use Rattle.fields.specs.Claims.{PartsRead, PartsWrite, RecordBack, NumbersBack, WrittenReads, WrittenBytes, FieldsMean}
use Rattle.fields.specs.declared.Direction.{Direction}
use Rattle.fields.specs.declared.Found.{Found}
use Rattle.fields.proofs.Forth.{place, place_is, way-is, head_is, takes_is, bits_is, bytes_is, way_same, entries_length, drop_bytes}
use Rattle.fields.proofs.Taking.{taken}
use Rattle.fields.proofs.Return.{read_is, text_read, text-place}
use Rattle.fields.proofs.Puts.{fit_of}
use Rattle.fields.proofs.Exactly.{accepted_exactly, written_exactly}
use Rattle.fields.proofs.Back.{parts_read, parts_write, place_in, record_back, place_back, place_low, values_back}
use Rattle.refusals.specs.declared.FieldRefusal.{FieldRefusal}

-- ---- demand 2, its three parts

pub parts_read_back : PartsRead
parts_read_back s ws vs r f n = parts_read s 0 ws vs (omega arith) (fit_of ws vs n f)

pub parts_write_back : PartsWrite
parts_write_back = parts_write

pub records_back : RecordBack
records_back f = (
  λ n. absurd (let e = place_back f in let z : ◌≡◌ {A = ℕ} 0 1 = cc in omega arith),
  λ i h. let e = place_back f in let q : place_in f ≡ i = cc in rw (← q) (record_back f),
)

pub numbers_back : NumbersBack
numbers_back = values_back

pub written_reads : WrittenReads
unfolding takes bytes_in put_in bits_in way_in
written_reads r l t h n b =
    let i = place_in (field_in r) in
    let low = place_low (field_in r) in
    let at : place_of (get_or (numbers_in r) 0 0) ≡ Some i = place_back (field_in r) in
    let k = taken i r l (length t) (rw at at h) in
    rw at (read_is i r l t low at k n b, text_read i r l t low at k n b)

pub written_bytes : WrittenBytes
unfolding left_of bytes_in
written_bytes r l t h =
    let n = (bits_in r + 7) / 8 in
    let z = replicate {A = ℕ} n 0 in
    let room : no_room r z ≡ false = le-ltb (length z) n (omega (arith, length-replicate {A = ℕ} n 0)) in
    ap (λ (w : Result ℕ FieldRefusal). left_as w z (put_in r l t z)) ((written_exactly r l t z (bits_in r)).1 ((rw h refl, (room, tt)), refl))

-- ---- demand 2

-- what is written for a record, a list and a text, and that the writer takes them
abbrev Means : List ℕ → ℕ → Direction → Record → List ℤ → List ℕ → Type 0
Means s n w r l t = (s ≡ bytes_in r l t) × (n ≡ bits_in r) × (w ≡ way_in r) × (takes r l t ≡ true) × (length l ≡ 30) × Bytes t

forth : (s : List ℕ) (n : ℕ) (w : Direction) → Bytes s → NoneHolds (read_rows s n w)
    → Means s n w (record_of s n w) (list_of s (Ok (record_of s n w))) (drop (text_in s (start_of s n w)) s)
unfolding bytes_in put_in bits_in way_in takes
forth s n w b none =
    let p = place s n w b none in
    let i = p.0 in
    let h = p.1 in
    let q = place_is s n w b none i h in (
      rw q (sym (bytes_is s n w b none i h)),
      rw q (sym (bits_is s n w b none i h)),
      rw q (way_same (row_at i).way w (way-is s n w b none i h)),
      rw q (takes_is s n w b none i h),
      ap length (head_is s n w b none i h).4 ∙ entries_length (row_at i).step 30 _,
      drop_bytes s (text_in s (start_of s n w)) b,
    )

pub fields_mean : FieldsMean
unfolding read_field text_of
fields_mean s n w r l t b = (there, back)
  where
    there : (read_field s n w ≡ record { answer = Ok r; list = l }) × (text_of s n w ≡ t) → Means s n w r l t
    there e =
        let a : answer_of s n w ≡ Ok r = ap (λ (f : Found). f.answer) e.0 in
        let x = (accepted_exactly s n w r).0 a in
        let p = place s n w b x.0 in
        let er = x.1 in
        let c : answer_of s n w ≡ Ok (record_of s n w) = a ∙ ap Ok (sym er) in
        let el : list_of s (Ok (record_of s n w)) ≡ l = ap (list_of s) (sym c) ∙ ap (λ (f : Found). f.list) e.0 in
        let et : drop (text_in s (start_of s n w)) s ≡ t =
        sym (ap (λ (y : Result Record FieldRefusal). drop (text_place s y) s) c ∙ ap (λ (k : ℕ). drop k s) (text-place s (record_of s n w) ∙ ap (text_in s) (head_is s n w b x.0 p.0 p.1).1)) ∙ e.1 in
        rw (← er, ← el, ← et) (forth s n w b x.0)

    back : Means s n w r l t → (read_field s n w ≡ record { answer = Ok r; list = l }) × (text_of s n w ≡ t)
    back e = rw (e.0, e.1, e.2) (written_reads r l t e.3 e.4 e.5)
