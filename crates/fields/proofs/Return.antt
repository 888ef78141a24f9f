-- A record that the writer takes, written over zeros, is read as that record, its list and its text.
-- Assumes nothing.
use Rattle.std.proofs.Common.{◌≡◌, ℕ, ◌+◌, ◌*◌, ◌/◌, ◌%◌, ◌<◌, ◌≤◌, Bool, true, false, cond, not, ◌&&◌, eqb, ltb, leb, List, [], ◌∷◌, ◌++◌, length, get_or, drop, replicate, ℤ, sym, refl, ap, ◌∙◌, subst, add-zero, mul-zero, zero-add, arith, length-drop, take_all, pow_pos, ltb-true, le-ltb, eq-eqb, ne_eqb, le-leb, Ok, Result, Some}
use lib.ListN.{length-replicate}
use lib.Seq.{drop-length}
use borrow.Author.Tests.{not-true}
use native.Mathlib.Decide.{ℕ_discrete}
use Rattle.rows.specs.Claims.{NoneHolds}
use Rattle.bits.specs.Bits.{bits_of, Bytes}
use Rattle.bits.proofs.Laws.{bits_of-put_bits, length-put_bits, put_bits_bytes}
use Rattle.fields.specs.declared.Direction.{Direction}
use Rattle.fields.specs.declared.Direction.TheVariants.{ToSensor, FromSensor}
use Rattle.fields.specs.declared.Field.{Field}
use Rattle.fields.specs.declared.Record.{Record}
use Rattle.fields.specs.declared.Record.TheVariants.{Single, Relay}
use Rattle.fields.specs.Table.{place_of, row_at, widths_at, rules_at, values_of, fault_of, has_fault, count_in, size_in}
use Rattle.fields.specs.Records.{field_of, numbers_of}
use Rattle.fields.specs.Lists.{any_unused, entries_in, list_fits, entries_bits}
use Rattle.fields.specs.Reading.{from_sensor, same_way_as, type_of, values_at, opens, start_of, record_in, record_of, not_relayed, listed, listed_as, list_in, list_of, text_in, text_place, text_of, read_field, answer_of, block_count, blocks_in, field_rows, read_rows, count_out_of_range, wrong_byte_count, bit_after_count, unknown_type, wrong_direction, wrong_bit_count, spare_bit_set, value_not_in_use, sized_by}
use Rattle.fields.specs.Writing.{field_in, numbers_in, head_bits, head_widths, head_values, head_fits, relays_at, text_length_by, bits_at, widths_in, values_in, put_all, fill_of, put_field, sum_of}
use Rattle.fields.proofs.Rows.{Fit, found_code, carried}
use Rattle.fields.proofs.Puts.{length-put_all, list_fits_room, entries_bits-length, both_true, head_small}
use Rattle.fields.proofs.Taking.{Taken, head-sum, head_lengths, parts_sum, widths_length, widths_sum, sum_same, numbers_length, fit_numbers}
use Rattle.fields.proofs.Back.{parts_read, place_in, record_back, place_back, spares_zero, spares-zero, first_eight, zeros_bytes, put_all_bytes}
use Rattle.fields.proofs.Facts.{no_relay, base_least, entry_listed, none_listed, size_most, text_whole}
use Rattle.fields.proofs.Exactly.{accepted_exactly}
use Rattle.fields.proofs.Rounds.{append_inj, values_of_join, values_of-length, fit_join, values_stay, bytes_fit, entries_fit, list_back, used_back, values_bytes}
use Rattle.refusals.specs.declared.FieldRefusal.{FieldRefusal}

fault_one : (r v : ℕ) → cond (eqb r 1) (eqb v 0) true ≡ true → eqb (fault_of r v) 1 ≡ false
fault_one r v h = go (eqb r 1) refl
  where
    other : (a b c d e : Bool) (x y z u q : Bool) → eqb (cond a (cond x 2 0) (cond b (cond y 0 2) (cond c (cond z 0 2) (cond d (cond u 0 2) (cond e (cond q 2 0) 0))))) 1 ≡ false
    other true b c d e true y z u q = refl
    other true b c d e false y z u q = refl
    other false true c d e x true z u q = refl
    other false true c d e x false z u q = refl
    other false false true d e x y true u q = refl
    other false false true d e x y false u q = refl
    other false false false true e x y z true q = refl
    other false false false true e x y z false q = refl
    other false false false false true x y z u true = refl
    other false false false false true x y z u false = refl
    other false false false false false x y z u q = refl

    go : (b : Bool) → eqb r 1 ≡ b → eqb (fault_of r v) 1 ≡ false
    go true e = let z : eqb v 0 ≡ true = rw e at h in rw (e, z) refl
    go false e = rw e (other (eqb r 2) (eqb r 3) (eqb r 4) (eqb r 5) (eqb r 6) (eqb v 0) (eqb v 1) (leb v 4) (leb v 5) (eqb (v % 8) 7))

no_spare : (rs vs : List ℕ) → spares_zero rs vs ≡ true → has_fault 1 rs vs ≡ false
unfolding has_fault
no_spare [] vs h = refl
no_spare (r ∷ rs) [] h = refl
no_spare (r ∷ rs) (v ∷ vs) h =
    let b = both_true (cond (eqb r 1) (eqb v 0) true) (spares_zero rs vs) h in
    rw (fault_one r v b.0) (no_spare rs vs b.1)

spares_out : (f : Field) (i : ℕ) → place_of (get_or (numbers_of f) 0 0) ≡ Some i → has_fault 1 (rules_at i) (numbers_of f) ≡ false
spares_out f i h = let e = place_back f in let q : place_in f ≡ i = cc in rw (← q) (no_spare (rules_at (place_in f)) (numbers_of f) (spares-zero f))

record_at : (f : Field) (i : ℕ) → place_of (get_or (numbers_of f) 0 0) ≡ Some i → field_of i (numbers_of f) ≡ f
record_at f i h = let e = place_back f in let q : place_in f ≡ i = cc in rw (← q) (record_back f)

same_way : (w : Direction) → same_way_as w w ≡ true
unfolding same_way_as from_sensor
same_way ToSensor = refl
same_way FromSensor = refl

not_opened : (s : List ℕ) (n i : ℕ) → type_of s 0 ≡ (row_at i).code → eqb (row_at i).code 0x03 ≡ false → opens s n (row_at i).way ≡ false
unfolding opens
not_opened s n i t c = rw (t, c) refl

is_opened : (s : List ℕ) (n i : ℕ) → bits_of s 0 8 ≡ 3 → from_sensor (row_at i).way ≡ true → 24 ≤ n → opens s n (row_at i).way ≡ true
unfolding opens
is_opened s n i p d l = rw (p, d, le-leb 24 n l) refl

-- what stands before the field tells whether it is a relay
opened_by : (s : List ℕ) (n i : ℕ) (r : Record) → values_of s 0 (head_widths r) ≡ head_values r → type_of s (head_bits r) ≡ (row_at i).code → eqb (row_at i).code 0x03 ≡ false
    → head_fits i r ≡ true → head_bits r + 8 ≤ n → record_in s (head_bits r) ≡ field_in r
    → (start_of s n (row_at i).way ≡ head_bits r) × (record_of s n (row_at i).way ≡ r) × (not_relayed (type_of s (head_bits r)) (head_bits r) ≡ false)
unfolding values_of head_fits relays_at not_relayed
opened_by s n i (Single f) h t c k l e = let o = not_opened s n i t c in (rw o refl, rw o (ap Single e), refl)
opened_by s n i (Relay x f) h t c k l e =
    let p : bits_of s 0 8 ≡ 3 = ap (λ (u : List ℕ). get_or u 0 0) h in
    let q : bits_of s 8 8 ≡ x = ap (λ (u : List ℕ). get_or u 1 0) h in
    let b = both_true (ltb x 256) (from_sensor (row_at i).way && not (eqb (row_at i).code 0x62)) k in
    let d = both_true (from_sensor (row_at i).way) (not (eqb (row_at i).code 0x62)) b.1 in
    let g = not-true (eqb (row_at i).code 0x62) d.1 in
    let o = is_opened s n i p d.0 (omega arith) in
    (rw o refl, rw (o, q, e) refl, rw (t, c, g) refl)

-- the list beside the record
listed_by : (s : List ℕ) (i : ℕ) (r : Record) (l : List ℤ) → place_of (type_of s (head_bits r)) ≡ Some i → values_at s (head_bits r) i ≡ numbers_in r
    → values_of s (head_bits r + (row_at i).base) (replicate (listed i (numbers_in r)) (row_at i).step) ≡ entries_bits (row_at i).step (listed i (numbers_in r)) l
    → list_fits (row_at i).step (listed i (numbers_in r)) l ≡ true → length l ≡ 30 → (head_bits r ≡ 16 → listed i (numbers_in r) ≡ 0) → list_of s (Ok r) ≡ l
unfolding list_in entries_in entries_bits
listed_by s i (Single f) l p v x h n z =
    let y : values_of s (row_at i).base (replicate (listed i (numbers_of f)) (row_at i).step) ≡ entries_bits (row_at i).step (listed i (numbers_of f)) l = rw zero-add at x in
    rw (p, v, y) (list_back (row_at i).step (listed i (numbers_of f)) l 30 n h)
listed_by s i (Relay x f) l p v y h n z = rw (z refl) at (list_back (row_at i).step (listed i (numbers_of f)) l 30 n h)

pub text-place : (s : List ℕ) (r : Record) → text_place s (Ok r) ≡ text_in s (head_bits r)
text-place s (Single f) = refl
text-place s (Relay x f) = refl

-- the text
text_by : (s : List ℕ) (a i : ℕ) (t : List ℕ) (c : ℕ) → place_of (type_of s a) ≡ Some i → Bytes s → i < 22 → a % 8 ≡ 0 → length s ≡ (a + ((row_at i).base + (row_at i).step * c) + 7) / 8
    → ((row_at i).step ≡ 80 → (length t ≡ 10 * c) × (values_of s (a + (row_at i).base) (replicate (length t) 8) ≡ t)) → (((row_at i).step ≡ 80 → ⊥) → length t ≡ 0)
    → drop (text_in s a) s ≡ t
unfolding text_in
text_by s a i t c p b low w n long short = go (ℕ_discrete (row_at i).step 80)
  where
    empty : (u : List ℕ) → length u ≡ 0 → [] ≡ u
    empty [] h = refl
    empty (x ∷ u) h = absurd (omega arith)

    go : Dec ((row_at i).step ≡ 80) → drop (text_in s a) s ≡ t
    go (yes e) =
        let j = (a + (row_at i).base) / 8 in
        let g = text_whole i low e in
        let at : a + (row_at i).base ≡ j * 8 = omega arith in
        let y = long e in
        let m : length s ≡ (a + ((row_at i).base + 80 * c) + 7) / 8 = rw e at n in
        rw (p, eq-eqb (row_at i).step 80 e)
        (sym (take_all (length t) (drop j s) (omega (arith, length-drop j s, y.0)))
        ∙ sym (values_bytes s j (length t) b (omega (arith, y.0)))
        ∙ ap (λ (x : ℕ). values_of s x (replicate (length t) 8)) (sym at) ∙ y.1)
    go (no e) = rw (p, ne_eqb (row_at i).step 80 e) (drop-length s ∙ empty t (short e))

module _ (i : ℕ) (r : Record) (l : List ℤ) (t : List ℕ) (low : i < 21) (place : place_of (get_or (numbers_in r) 0 0) ≡ Some i) (k : Taken i r l (length t)) (room : length l ≡ 30) (bytes : Bytes t) where
  abbrev vs : List ℕ
  vs = numbers_in r

  abbrev ws : List ℕ
  ws = widths_at i

  abbrev row : ℕ
  row = (row_at i).step

  abbrev m : ℕ
  m = listed i vs

  abbrev n : ℕ
  n = bits_at i r

  abbrev size : ℕ
  size = (n + 7) / 8

  abbrev out : List ℕ
  out = put_field i r l t (replicate size 0)

  head_fit : Fit (head_widths r) (head_values r)
  unfolding head_fits relays_at
  head_fit = go r k.head
    where
      go : (x : Record) → head_fits i x ≡ true → Fit (head_widths x) (head_values x)
      go (Single f) h = tt
      go (Relay x f) h = (omega arith, (ltb-true x 256 (both_true (ltb x 256) _ h).0, tt))

  listed_room : m ≤ 30
  listed_room = omega (arith, list_fits_room row m l k.list)

  all_fit : Fit (widths_in i r t) (values_in i r l t)
  all_fit =
      fit_join (head_widths r) (head_values r) _ _ head_fit
      (fit_join ws vs _ _ (fit_numbers i r (omega arith) k.fits)
      (fit_join (replicate m row) (entries_bits row m l) _ _ (entries_fit row m l (entry_listed i vs (omega arith) (numbers_length (field_in r))) k.list) (bytes_fit t bytes)))

  all_sum : sum_of (widths_in i r t) ≡ n
  all_sum = parts_sum i r vs t (omega arith) k.text

  out_length : length out ≡ size
  unfolding put_field
  out_length = length-put_bits _ _ _ _ ∙ length-put_all _ 0 _ _ ∙ length-replicate size 0

  out_bytes : Bytes out
  unfolding put_field
  out_bytes = put_bits_bytes _ _ _ _ (put_all_bytes _ 0 _ _ (zeros_bytes size))

  -- every part reads back
  all_back : values_of out 0 (widths_in i r t) ≡ values_in i r l t
  unfolding put_field
  all_back =
      values_stay (put_all (replicate size 0) 0 (widths_in i r t) (values_in i r l t)) n (fill_of n) 0 0 (widths_in i r t) (omega (arith, all_sum))
      ∙ parts_read (replicate size 0) 0 (widths_in i r t) (values_in i r l t) (omega (arith, all_sum, length-replicate {A = ℕ} size 0)) all_fit

  -- and nothing stands behind them
  no_more : bits_of out n (fill_of n) ≡ 0
  unfolding put_field
  no_more =
      bits_of-put_bits (put_all (replicate size 0) 0 (widths_in i r t) (values_in i r l t)) n (fill_of n) 0
      (omega (arith, length-put_all (replicate size 0) 0 (widths_in i r t) (values_in i r l t), length-replicate {A = ℕ} size 0)) (pow_pos (fill_of n))

  -- group by group
  parted : (values_of out 0 (head_widths r) ≡ head_values r) × (values_at out (head_bits r) i ≡ vs)
      × (values_of out (head_bits r + (row_at i).base) (replicate m row) ≡ entries_bits row m l)
      × (values_of out (head_bits r + (row_at i).base + row * m) (replicate (length t) 8) ≡ t)
  parted =
      let rest2 = replicate m row ++ replicate (length t) 8 in
      let a = append_inj (values_of out 0 (head_widths r)) (head_values r) (values_of out (0 + sum_of (head_widths r)) (ws ++ rest2)) (vs ++ (entries_bits row m l ++ t))
      (values_of-length out 0 (head_widths r) ∙ head_lengths r) (sym (values_of_join out 0 (head_widths r) (ws ++ rest2)) ∙ all_back) in
      let e1 : 0 + sum_of (head_widths r) ≡ head_bits r = omega (arith, head-sum r) in
      let a1 = ap (λ (x : ℕ). values_of out x (ws ++ rest2)) (sym e1) ∙ a.1 in
      let b = append_inj (values_of out (head_bits r) ws) vs (values_of out (head_bits r + sum_of ws) rest2) (entries_bits row m l ++ t)
      (values_of-length out (head_bits r) ws ∙ widths_length i (omega arith) ∙ sym (numbers_length (field_in r))) (sym (values_of_join out (head_bits r) ws rest2) ∙ a1) in
      let e2 : head_bits r + sum_of ws ≡ head_bits r + (row_at i).base = ap (λ (x : ℕ). head_bits r + x) (widths_sum i (omega arith)) in
      let b1 = ap (λ (x : ℕ). values_of out x rest2) (sym e2) ∙ b.1 in
      let c = append_inj (values_of out (head_bits r + (row_at i).base) (replicate m row)) (entries_bits row m l) (values_of out (head_bits r + (row_at i).base + sum_of (replicate m row)) (replicate (length t) 8)) t
      (values_of-length out (head_bits r + (row_at i).base) (replicate m row) ∙ length-replicate m row ∙ sym (entries_bits-length row m l (omega (arith, listed_room))))
      (sym (values_of_join out (head_bits r + (row_at i).base) (replicate m row) (replicate (length t) 8)) ∙ b1) in
      let e3 : head_bits r + (row_at i).base + sum_of (replicate m row) ≡ head_bits r + (row_at i).base + row * m = ap (λ (x : ℕ). head_bits r + (row_at i).base + x) (sum_same m row) in
      (a.0, b.0, c.0, ap (λ (x : ℕ). values_of out x (replicate (length t) 8)) (sym e3) ∙ c.1)

  type_back : type_of out (head_bits r) ≡ get_or vs 0 0
  type_back = sym (first_eight out (head_bits r) i low) ∙ ap (λ (x : List ℕ). get_or x 0 0) parted.1

  here : place_of (type_of out (head_bits r)) ≡ Some i
  here = ap place_of type_back ∙ place

  code_is : type_of out (head_bits r) ≡ (row_at i).code
  code_is = type_back ∙ sym (found_code (get_or vs 0 0) i place)

  record-in : record_in out (head_bits r) ≡ field_in r
  record-in = rw here (ap (field_of i) parted.1 ∙ record_at (field_in r) i place)

  most : n ≤ 2008
  most = omega (arith, size_most i vs (let h = low in omega arith) (fit_numbers i r (let h = low in omega arith) k.fits), head_small r)

  least : head_bits r + 8 ≤ n
  unfolding size_in
  least = omega (arith, base_least i (let h = low in omega arith))

  told : (start_of out n (row_at i).way ≡ head_bits r) × (record_of out n (row_at i).way ≡ r) × (not_relayed (type_of out (head_bits r)) (head_bits r) ≡ false)
  told = opened_by out n i r parted.0 code_is (no_relay i low) k.head least record-in

  no_block : any_unused (blocks_in out (head_bits r) i) ≡ false
  unfolding block_count listed_as any_unused values_of
  no_block = go (ℕ_discrete row 8)
    where
      go : Dec (row ≡ 8) → any_unused (blocks_in out (head_bits r) i) ≡ false
      go (yes e) =
          let q : count_in (row_at i) vs ≡ m = sym (ap (λ (b : Bool). cond b 0 (count_in (row_at i) vs)) (ne_eqb row 80 (λ u. omega arith))) in
          rw (eq-eqb row 8 e, parted.1)
          (ap any_unused
          (ap (λ (c : ℕ). values_of out (head_bits r + (row_at i).base) (replicate c 8)) q
          ∙ ap (λ (w : ℕ). values_of out (head_bits r + (row_at i).base) (replicate m w)) (sym e)
          ∙ parted.2
          ∙ ap (λ (w : ℕ). entries_bits w m l) e)
          ∙ used_back m l (subst (λ (w : ℕ). list_fits w m l ≡ true) e k.list))
      go (no e) = rw (ne_eqb row 8 e) refl

  unused : value_not_in_use out (head_bits r) ≡ false
  unfolding value_not_in_use
  unused = rw (here, no_block, parted.1, k.used) refl

  sized-is : wrong_bit_count out n (head_bits r) ≡ false
  unfolding wrong_bit_count sized_by
  sized-is = rw (here, no_relay i low, parted.1, eq-eqb n n refl) refl

  spare_is : spare_bit_set out (head_bits r) ≡ false
  unfolding spare_bit_set
  spare_is = rw (here, parted.1) (spares_out (field_in r) i place)

  none : NoneHolds (read_rows out n (row_at i).way)
  unfolding count_out_of_range wrong_byte_count bit_after_count unknown_type wrong_direction
  none =
      let field : NoneHolds (field_rows out n (head_bits r) (row_at i).way) =
      (rw here refl, (rw code_is (carried i (omega arith)), (rw (here, same_way (row_at i).way) refl, (told.2, (sized-is, (spare_is, (unused, tt))))))) in
      (rw (le-ltb n 8 (omega (arith, least)), le-ltb 2008 n (omega (arith, most))) refl, (rw (eq-eqb (length out) size out_length) refl, (rw no_more refl, rw told.0 field)))

  -- ---- the answer, the list and the text

  accepted : answer_of out n (row_at i).way ≡ Ok r
  accepted = (accepted_exactly out n (row_at i).way r).1 (none, told.1)

  -- what is relayed has no list
  no_list : head_bits r ≡ 16 → m ≡ 0
  unfolding head_fits relays_at
  no_list h = go r k.head h
    where
      go : (x : Record) → head_fits i x ≡ true → head_bits x ≡ 16 → m ≡ 0
      go (Single f) q e = absurd (omega arith)
      go (Relay y f) q e = none_listed i vs (omega arith) (numbers_length (field_in r)) (both_true (from_sensor (row_at i).way) _ (both_true (ltb y 256) _ q).1).0

  list_is : list_of out (Ok r) ≡ l
  list_is = listed_by out i r l here parted.1 parted.2 k.list room no_list

  whole_head : head_bits r % 8 ≡ 0
  whole_head = go r
    where
      go : (x : Record) → head_bits x % 8 ≡ 0
      go (Single f) = refl
      go (Relay x f) = refl

  text_is : drop (text_in out (head_bits r)) out ≡ t
  unfolding size_in listed_as text_length_by
  text_is =
      text_by out (head_bits r) i t (count_in (row_at i) vs) here out_bytes (omega arith) whole_head out_length
      (λ e. (k.text ∙ ap (λ (b : Bool). cond b (10 * count_in (row_at i) vs) 0) (eq-eqb row 80 e), place-of e ∙ parted.3))
      (λ ne. k.text ∙ ap (λ (b : Bool). cond b (10 * count_in (row_at i) vs) 0) (ne_eqb row 80 ne))
    where
      place-of : row ≡ 80 → values_of out (head_bits r + (row_at i).base) (replicate (length t) 8) ≡ values_of out (head_bits r + (row_at i).base + row * m) (replicate (length t) 8)
      place-of e =
          let z : m ≡ 0 = ap (λ (b : Bool). cond b 0 (count_in (row_at i) vs)) (eq-eqb row 80 e) in
          ap (λ (x : ℕ). values_of out x (replicate (length t) 8)) (sym (ap (λ (c : ℕ). head_bits r + (row_at i).base + row * c) z ∙ ap (λ (y : ℕ). head_bits r + (row_at i).base + y) (mul-zero row) ∙ add-zero _))

  pub read_is : read_field out n (row_at i).way ≡ record { answer = Ok r; list = l }
  unfolding read_field
  read_is = rw (accepted, list_is) refl

  pub text_read : text_of out n (row_at i).way ≡ t
  unfolding text_of
  text_read = ap (λ (x : Result Record FieldRefusal). drop (text_place out x) out) accepted ∙ ap (λ (x : ℕ). drop x out) (text-place out r) ∙ text_is
