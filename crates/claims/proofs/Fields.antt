-- Link data fields: what it is to have a layout, and a record written out again into any lent bytes. Assumes nothing.
use Rattle.std.specs.Prelude.{Ok}
use Prim.Native.Nat.{ℕ, ◌+◌, ◌/◌, ◌≤◌}
use mathlib.Core.Path.{◌≡◌, refl, sym, ap, ◌∙◌}
use mathlib.Core.Bool.{true, not}
use mathlib.Core.List.{List, ◌++◌}
use mathlib.Core.Logic.{◌↔◌}
use native.Mathlib.Omega.{arith}
use lib.IntN.{ℤ}
use lib.ListN.{length, take, drop}
use lib.Seq.{take_at}
use borrow.Author.Tests.{ltb-false, le-ltb}
use Rattle.words.proofs.Tests.{holds}
use Rattle.bits.specs.Bits.{Bytes}
use Rattle.fields.specs.declared.Direction.{Direction}
use Rattle.fields.specs.declared.Record.{Record}
use Rattle.fields.specs.declared.Found.{Found}
use Rattle.fields.specs.Reading.{answer_of, list_of, read_field, text_of}
use Rattle.fields.specs.Writing.{takes, bits_in, way_in, bytes_in, written_of}
use Rattle.fields.proofs.Exactly.{written_exactly}
use Rattle.fields.proofs.Claims.{written_reads, fields_mean}
use Rattle.claims.proofs.Anywhere.{left_anywhere, bytes_length}
use Rattle.claims.specs.Demands.{WritesField, HasFieldLayout}

-- ---- layouts

-- what is read of an accepted field, whole
whole : (s : List ℕ) (n : ℕ) (w : Direction) (r : Record) → answer_of s n w ≡ Ok r → read_field s n w ≡ record { answer = Ok r; list = (read_field s n w).list }
unfolding read_field
whole s n w r e = λ i. record { answer = e i; list = list_of s (answer_of s n w) }

pub has_layout : (s : List ℕ) (n : ℕ) (w : Direction) (r : Record) → Bytes s → (answer_of s n w ≡ Ok r) ↔ HasFieldLayout s n w r
unfolding read_field
has_layout s n w r b = (
  λ e. let m = (fields_mean s n w r (read_field s n w).list (text_of s n w) b).0 (whole s n w r e, refl) in
      ((read_field s n w).list, text_of s n w, m.0, m.1, m.2, m.3, m.4, m.5),
  λ h. ap (λ (f : Found). f.answer) ((fields_mean s n w r h.0 h.1 b).1 (h.2, h.3, h.4, h.5, h.6, h.7)).0,
)

-- ---- written out again

pub again : (s : List ℕ) (n : ℕ) (w : Direction) (r : Record) → Bytes s → answer_of s n w ≡ Ok r
    → (b : List ℕ) → Bytes b → length s ≤ length b
    → WritesField r (read_field s n w).list (text_of s n w) b (Ok n) (s ++ drop (length s) b)
again s n w r b e x c m =
    let l = (read_field s n w).list in
    let t = text_of s n w in
    let k = (fields_mean s n w r l t b).0 (whole s n w r e, refl) in
    let size : length s ≡ (bits_in r + 7) / 8 = ap length k.0 ∙ bytes_length r l t in
    let room : (bits_in r + 7) / 8 ≤ length x = omega arith in
    record {
      answers = sym ((written_exactly r l t x n).1 ((ap not k.3, (le-ltb _ _ room, tt)), sym k.1));
      leaves =
          (λ j. k.0 j ++ drop (size j) x)
          ∙ sym (left_anywhere r l t x k.3 c room);
    }

-- ---- written and read

-- a call that answers a bit count was given a record that the writer takes, and room; the count is the record's
written_so : (r : Record) (l : List ℤ) (t b : List ℕ) (n : ℕ) → written_of r l t b ≡ Ok n → (takes r l t ≡ true) × ((bits_in r + 7) / 8 ≤ length b) × (n ≡ bits_in r)
written_so r l t b n e = let k = (written_exactly r l t b n).0 e in (holds (takes r l t) k.0.0, ltb-false _ _ k.0.1.0, sym k.1)

pub read_left : (r : Record) (l : List ℤ) (t b : List ℕ) (n : ℕ) (exit : List ℕ) → length l ≡ 30 → Bytes t → Bytes b → WritesField r l t b (Ok n) exit
    → (read_field (take ((n + 7) / 8) exit) n (way_in r) ≡ record { answer = Ok r; list = l }) × (text_of (take ((n + 7) / 8) exit) n (way_in r) ≡ t)
read_left r l t b n exit room bt bb w =
    let k = written_so r l t b n (sym w.answers) in
    let size = (bits_in r + 7) / 8 in
    let own : take ((n + 7) / 8) exit ≡ bytes_in r l t =
    (λ i. take ((k.2 i + 7) / 8) ((w.leaves ∙ left_anywhere r l t b k.0 bb k.1) i)) ∙ take_at (bytes_in r l t) (drop size b) size (bytes_length r l t) in
    rw (own, k.2) (written_reads r l t k.0 room bt)
