-- What the writer of fields leaves in any lent bytes that have room: the field's own bytes, as over zeros, and the bytes behind them as they
-- were. Shown bit by bit. Assumes nothing.
use Rattle.std.specs.Prelude.{Result, Some}
use Prim.Native.Nat.{ℕ, zero, suc, ◌+◌, ◌-◌, ◌*◌, ◌/◌, ◌%◌, ◌≤◌, ◌<◌}
use mathlib.Core.Path.{◌≡◌, refl, sym, ap, ◌∙◌}
use mathlib.Core.Bool.{true, not}
use mathlib.Core.List.{List, [], ◌∷◌, ◌++◌}
use mathlib.Core.Logic.{inl, inr}
use native.Mathlib.Omega.{arith}
use lib.Dec.{ltb}
use lib.IntN.{ℤ}
use lib.ListN.{length, get_or, drop, replicate, length-replicate, length-append, length-drop, get_or-append}
use lib.Seq.{ext_get_or, get_or-append-add, get_or-drop}
use borrow.Author.Tests.{ltb-true, ltb-false, le-ltb}
use Rattle.bits.specs.Bits.{bit_at, put_bit, put_bits, Bytes}
use Rattle.bits.proofs.Laws.{put_bit_same, put_bits_other, length-put_bit, length-put_bits, put_bits_bytes, bits_of_same, byte_bits}
use Rattle.words.proofs.Tests.{by_test}
use Rattle.fields.specs.declared.Record.{Record}
use Rattle.fields.specs.declared.Record.TheVariants.{Single, Relay}
use Rattle.fields.specs.Table.{place_of, row_at, widths_at, size_in}
use Rattle.fields.specs.Reading.{listed}
use Rattle.fields.specs.Writing.{field_in, numbers_in, head_bits, head_widths, head_values, bits_at, bits_in, widths_in, values_in, put_all, sum_of, fill_of, put_field, takes_at, takes, put_in, left_as, left_of, bytes_in}
use Rattle.fields.proofs.Exactly.{written_exactly}
use Rattle.fields.proofs.Puts.{length-put_all, list_fits_room, entries_bits-length}
use Rattle.fields.proofs.Taking.{Taken, taken, widths_length, widths_sum, sum_same, numbers_length}
use Rattle.fields.proofs.Rounds.{sum_join}
use Rattle.fields.proofs.Facts.{steps_told}
use Rattle.fields.proofs.Back.{zeros_bytes, put_all_bytes, place_in, place_back, place_low}
use Rattle.refusals.specs.declared.FieldRefusal.{FieldRefusal}

-- ---- bits that were put, whatever stood there

abbrev Agree : ℕ → List ℕ → List ℕ → Type 0
Agree a x y = (p : ℕ) → p < a → bit_at x p ≡ bit_at y p

put_last : (x : List ℕ) (f n v p : ℕ) → p ≡ f + n → f + suc n ≤ length x * 8 → bit_at (put_bits (put_bit x (f + n) (v % 2)) f n (v / 2)) p ≡ v % 2
put_last x f n v p e m =
    put_bits_other (put_bit x (f + n) (v % 2)) f n (v / 2) p (inr (omega arith)) ∙ ap (bit_at (put_bit x (f + n) (v % 2))) e
    ∙ put_bit_same x (f + n) (v % 2) (omega arith) (omega arith)

put_same : (x y : List ℕ) (f n v p : ℕ) → f ≤ p → p < f + n → f + n ≤ length x * 8 → f + n ≤ length y * 8 → bit_at (put_bits x f n v) p ≡ bit_at (put_bits y f n v) p
unfolding put_bits
put_same x y f zero v p a b c d = absurd (omega arith)
put_same x y f (suc n) v p a b c d =
    by_test (ltb p (f + n))
    (λ e. put_same (put_bit x (f + n) (v % 2)) (put_bit y (f + n) (v % 2)) f n (v / 2) p a (ltb-true p (f + n) e) (rw length-put_bit (omega arith))
    (rw length-put_bit (omega arith)))
    (λ e. let q = ltb-false p (f + n) e in
    put_last x f n v p (omega arith) c ∙ sym (put_last y f n v p (omega arith) d))

put_agree : (x y : List ℕ) (f n v : ℕ) → f + n ≤ length x * 8 → f + n ≤ length y * 8 → Agree f x y → Agree (f + n) (put_bits x f n v) (put_bits y f n v)
put_agree x y f n v c d h p q =
    by_test (ltb p f)
    (λ e. let k = ltb-true p f e in put_bits_other x f n v p (inl k) ∙ h p k ∙ sym (put_bits_other y f n v p (inl k)))
    (λ e. put_same x y f n v p (ltb-false p f e) q c d)

all_agree : (x y : List ℕ) (a : ℕ) (ws vs : List ℕ) → length ws ≡ length vs → a + sum_of ws ≤ length x * 8 → a + sum_of ws ≤ length y * 8 → Agree a x y → Agree (a + sum_of ws) (put_all x a ws vs) (put_all y a ws vs)
unfolding put_all
all_agree x y a [] vs l c d h p q = h p (omega arith)
all_agree x y a (w ∷ ws) [] l c d h p q = absurd (omega arith)
all_agree x y a (w ∷ ws) (v ∷ vs) l c d h p q =
    all_agree (put_bits x a w v) (put_bits y a w v) (a + w) ws vs (omega arith) (rw length-put_bits (omega arith)) (rw length-put_bits (omega arith))
    (put_agree x y a w v (omega arith) (omega arith) h) p (omega arith)

all_stay : (x : List ℕ) (a : ℕ) (ws vs : List ℕ) (p : ℕ) → a + sum_of ws ≤ p → bit_at (put_all x a ws vs) p ≡ bit_at x p
unfolding put_all
all_stay x a [] vs p h = refl
all_stay x a (w ∷ ws) [] p h = refl
all_stay x a (w ∷ ws) (v ∷ vs) p h = all_stay (put_bits x a w v) (a + w) ws vs p (omega arith) ∙ put_bits_other x a w v p (inr (omega arith))

-- bytes that agree on the bits of one byte have the same byte there
same_byte : (x y : List ℕ) (i : ℕ) → Bytes x → Bytes y → ((k : ℕ) → k < 8 → bit_at x (i * 8 + k) ≡ bit_at y (i * 8 + k)) → get_or x i 0 ≡ get_or y i 0
same_byte x y i b c h = sym (byte_bits x i b) ∙ bits_of_same x y (i * 8) 8 h ∙ byte_bits y i c

-- ---- a record that the writer takes

module _ (i : ℕ) (r : Record) (l : List ℤ) (t : List ℕ) (low : i < 21) (k : Taken i r l (length t)) where
  abbrev vs : List ℕ
  vs = numbers_in r

  abbrev row : ℕ
  row = (row_at i).step

  abbrev m : ℕ
  m = listed i vs

  abbrev n : ℕ
  n = bits_at i r

  abbrev size : ℕ
  size = (n + 7) / 8

  head-sum : (x : Record) → (sum_of (head_widths x) ≡ head_bits x) × (length (head_widths x) ≡ length (head_values x))
  head-sum (Single f) = (refl, refl)
  head-sum (Relay x f) = (refl, refl)

  -- its parts have the bits that are answered, and as many values as widths
  all_sum : sum_of (widths_in i r t) ≡ n
  unfolding size_in
  all_sum =
      sum_join (head_widths r) (widths_at i ++ (replicate m row ++ replicate (length t) 8))
      ∙ ap (λ (x : ℕ). sum_of (head_widths r) + x) (sum_join (widths_at i) (replicate m row ++ replicate (length t) 8))
      ∙ ap (λ (x : ℕ). sum_of (head_widths r) + (sum_of (widths_at i) + x)) (sum_join (replicate m row) (replicate (length t) 8))
      ∙ (omega (arith, (head-sum r).0, widths_sum i (let h = low in omega arith), sum_same m row, sum_same (length t) 8, k.text, steps_told (row_at i) vs))

  all_length : length (widths_in i r t) ≡ length (values_in i r l t)
  all_length =
      simp (length-append, length-replicate)
      (omega (arith, (head-sum r).1, widths_length i (let h = low in omega arith), numbers_length (field_in r), entries_bits-length row m l (list_fits_room row m l k.list)))

  module _ (b : List ℕ) (bytes : Bytes b) (room : size ≤ length b) where
    abbrev z : List ℕ
    z = replicate size 0

    abbrev out : List ℕ
    out = put_field i r l t b

    abbrev own : List ℕ
    own = put_field i r l t z

    length_out : length out ≡ length b
    unfolding put_field
    length_out = length-put_bits _ _ _ _ ∙ length-put_all b 0 _ _

    length_own : length own ≡ size
    unfolding put_field
    length_own = length-put_bits _ _ _ _ ∙ length-put_all z 0 _ _ ∙ length-replicate size 0

    bytes_out : Bytes out
    unfolding put_field
    bytes_out = put_bits_bytes _ _ _ _ (put_all_bytes b 0 _ _ bytes)

    bytes_own : Bytes own
    unfolding put_field
    bytes_own = put_bits_bytes _ _ _ _ (put_all_bytes z 0 _ _ (zeros_bytes size))

    front : Agree (size * 8) out own
    unfolding put_field
    front p q =
        let ws = widths_in i r t in
        let us = values_in i r l t in
        let e = all_sum in
        let lz = length-replicate {A = ℕ} size 0 in
        let lb = length-put_all b 0 ws us in
        let ly = length-put_all z 0 ws us in
        put_agree (put_all b 0 ws us) (put_all z 0 ws us) n (fill_of n) 0 (omega arith) (omega arith)
        (λ x h. all_agree b z 0 ws us all_length (omega arith) (omega arith) (λ y g. absurd (omega arith)) x (omega arith))
        p (omega arith)

    behind : (p : ℕ) → size * 8 ≤ p → bit_at out p ≡ bit_at b p
    unfolding put_field
    behind p q =
        let ws = widths_in i r t in
        let us = values_in i r l t in
        let e = all_sum in
        put_bits_other (put_all b 0 ws us) n (fill_of n) 0 p (inr (omega arith)) ∙ all_stay b 0 ws us p (omega arith)

    put_anywhere : out ≡ own ++ drop size b
    put_anywhere =
        ext_get_or 0 out (own ++ drop size b) (length_out ∙ sym (length-append own (drop size b) ∙ omega (arith, length_own, length-drop size b))) each
      where
        each : (j : ℕ) → j < length out → get_or out j 0 ≡ get_or (own ++ drop size b) j 0
        each j h =
            by_test (ltb j size)
            (λ e. let q = ltb-true j size e in
            same_byte out own j bytes_out bytes_own (λ x g. front (j * 8 + x) (omega arith))
            ∙ sym (get_or-append own (drop size b) 0 j (omega (arith, length_own))))
            (λ e. let q = ltb-false j size e in
            let at : length own + (j - size) ≡ j = omega (arith, length_own) in
            let from : size + (j - size) ≡ j = omega arith in
            same_byte out b j bytes_out bytes (λ x g. behind (j * 8 + x) (omega arith))
            ∙ ap (λ (y : ℕ). get_or b y 0) (sym from) ∙ sym (get_or-drop size b (j - size) 0)
            ∙ sym (get_or-append-add own (drop size b) (j - size) 0) ∙ ap (λ (y : ℕ). get_or (own ++ drop size b) y 0) at)

-- what a call that is not refused leaves: the field's bytes, and those behind as they were
pub left_anywhere : (r : Record) (l : List ℤ) (t b : List ℕ) → takes r l t ≡ true → Bytes b → (bits_in r + 7) / 8 ≤ length b → left_of r l t b ≡ bytes_in r l t ++ drop ((bits_in r + 7) / 8) b
unfolding takes left_of put_in bytes_in bits_in
left_anywhere r l t b h c m =
    let i = place_in (field_in r) in
    let at : place_of (get_or (numbers_in r) 0 0) ≡ Some i = place_back (field_in r) in
    let k : takes_at i r l (length t) ≡ true = rw at at h in
    let n : (bits_at i r + 7) / 8 ≤ length b = rw at at m in
    let written = (written_exactly r l t b (bits_in r)).1 ((ap not h, (le-ltb (length b) ((bits_in r + 7) / 8) m, tt)), refl) in
    ap (λ (w : Result ℕ FieldRefusal). left_as w b (put_in r l t b)) written
    ∙ rw at (put_anywhere i r l t (place_low (field_in r)) (taken i r l (length t) k) b c n)

pub bytes_length : (r : Record) (l : List ℤ) (t : List ℕ) → length (bytes_in r l t) ≡ (bits_in r + 7) / 8
unfolding bytes_in put_in bits_in put_field
bytes_length r l t =
    let i = place_in (field_in r) in
    let at : place_of (get_or (numbers_in r) 0 0) ≡ Some i = place_back (field_in r) in
    rw at (length-put_bits _ _ _ _ ∙ length-put_all _ 0 _ _ ∙ length-replicate ((bits_at i r + 7) / 8) 0)
