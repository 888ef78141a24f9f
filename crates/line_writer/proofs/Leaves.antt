-- Words put into a line of bytes: one word after the other, and the two leaves of a call. Assumes nothing.
use Rattle.std.specs.Prelude.{Ok}
use Prim.Native.Nat.{ℕ, suc, ◌+◌, ◌*◌, ◌-◌, ◌/◌, ◌%◌, ◌≤◌, ◌<◌}
use mathlib.Core.Path.{◌≡◌, refl, ap, sym, ◌∙◌}
use mathlib.Core.List.{List, [], ◌∷◌, ◌++◌, append-nil, append_assoc}
use native.Mathlib.Omega.{arith}
use native.Mathlib.Numerals.{add-one}
use lib.ListN.{length, get_or, take, drop, set, length-append, length-drop, drop_of_length-le}
use lib.Seq.{take_all, drop-cons, take-suc, set_at, append_snoc, length-take-le}
use Rattle.words.specs.Word.{idle}
use Rattle.lines.specs.Bytes.{bytes_of}
use Rattle.lines.specs.Claims.{put}
use Rattle.lines.specs.ByteWriting.{bytes_left}
use Rattle.lines.proofs.ByteWords.{bytes_length}
use Rattle.lines.proofs.Puts.{put_put}
use Rattle.line_writer.specs.Deciding.{put_bytes}

-- ---- a part that was lent and came back

-- the part of a line from a place on
part_is : (line : List ℕ) (place : ℕ) → take (length line - place) (drop place line) ≡ drop place line
part_is line place = take_all (length line - place) (drop place line) (let n = length-drop place line in omega arith)

pub put_back : (line : List ℕ) (place n : ℕ) (ws part : List ℕ) → length ws ≡ n
    → part ≡ ws ++ drop n (take (length line - place) (drop place line))
    → take place line ++ (part ++ drop (length line - place) (drop place line)) ≡ put line place ws
put_back line place n ws part z e =
    let d = length-drop place line in
    ap (λ (l : List ℕ). take place line ++ (part ++ l)) (drop_of_length-le (drop place line) {i = length line - place} (omega arith))
    ∙ ap (λ (l : List ℕ). take place line ++ l)
    (append-nil part ∙ e ∙ ap (λ (l : List ℕ). ws ++ drop n l) (part_is line place) ∙ ap (λ (k : ℕ). ws ++ drop k (drop place line)) (sym z))

-- ---- the bytes of words

bytes_append : (ws vs : List ℕ) → bytes_of (ws ++ vs) ≡ bytes_of ws ++ bytes_of vs
unfolding bytes_of
bytes_append [] vs = refl
bytes_append (w ∷ ws) vs = ap (λ (l : List ℕ). w / 256 % 256 ∷ w % 256 ∷ l) (bytes_append ws vs)

-- ---- the leaf's loop: one word more is two bytes more

pair_set : (front : List ℕ) (x y a b : ℕ) (rest : List ℕ) (n : ℕ) → length front ≡ n → set (set (front ++ (x ∷ y ∷ rest)) n a) (n + 1) b ≡ front ++ (a ∷ b ∷ rest)
pair_set front x y a b rest n e =
    let k = length-append front (a ∷ []) in
    ap (λ (l : List ℕ). set l (n + 1) b) (set_at front x (y ∷ rest) a n e ∙ sym (append_snoc front a (y ∷ rest)))
    ∙ set_at (front ++ (a ∷ [])) y rest b (n + 1) (omega arith)
    ∙ append_snoc front a (b ∷ rest)

two_left : (part : List ℕ) (n : ℕ) → n + 1 < length part → drop n part ≡ get_or part n 0 ∷ get_or part (n + 1) 0 ∷ drop (n + 2) part
two_left part n h =
    let e : suc n ≡ n + 1 = omega arith in
    let f : suc (n + 1) ≡ n + 2 = omega arith in
    drop-cons part n 0 (omega arith)
    ∙ ap (λ (k : ℕ). get_or part n 0 ∷ drop k part) e
    ∙ ap (λ (l : List ℕ). get_or part n 0 ∷ l) (drop-cons part (n + 1) 0 h ∙ ap (λ (k : ℕ). get_or part (n + 1) 0 ∷ drop k part) f)

pub pair_more : (part ws : List ℕ) (i : ℕ) → i * 2 + 1 < length part → i < length ws
    → set (set (bytes_of (take i ws) ++ drop (i * 2) part) (i * 2) (get_or ws i 0 / 256 % 256)) (i * 2 + 1) (get_or ws i 0 % 256)
    ≡ bytes_of (take (i + 1) ws) ++ drop ((i + 1) * 2) part
unfolding bytes_of
pair_more part ws i h k =
    let w = get_or ws i 0 in
    let front = bytes_of (take i ws) in
    let n : length (take i ws) ≡ i = length-take-le i ws (omega arith) in
    let m : length front ≡ i * 2 = bytes_length (take i ws) ∙ ap (λ (j : ℕ). j * 2) n in
    let rest = drop (i * 2 + 2) part in
    let more : take (i + 1) ws ≡ take i ws ++ (w ∷ []) = ap (λ (j : ℕ). take j ws) (add-one i) ∙ take-suc ws i 0 k in
    ap (λ (l : List ℕ). set (set (front ++ l) (i * 2) (w / 256 % 256)) (i * 2 + 1) (w % 256)) (two_left part (i * 2) h)
    ∙ pair_set front (get_or part (i * 2) 0) (get_or part (i * 2 + 1) 0) (w / 256 % 256) (w % 256) rest (i * 2) m
    ∙ sym (append_assoc front (w / 256 % 256 ∷ w % 256 ∷ []) rest)
    ∙ ap (λ (l : List ℕ). l ++ rest) (sym (bytes_append (take i ws) (w ∷ [])) ∙ ap bytes_of (sym more))
    ∙ ap (λ (j : ℕ). bytes_of (take (i + 1) ws) ++ drop j part) (let z : i * 2 + 2 ≡ (i + 1) * 2 = omega arith in z)

-- ---- words and an idle word behind them

pub bytes_put : (bytes : List ℕ) (place : ℕ) (ws : List ℕ) → place * 2 ≤ length bytes
    → put_bytes (put_bytes bytes place ws) (place + length ws) (idle ∷ []) ≡ bytes_left (Ok (place + length ws + 1)) bytes place ws
unfolding bytes_of
bytes_put bytes place ws h =
    let front = bytes_of ws in
    let one = bytes_of (idle ∷ []) in
    let m = bytes_length ws in
    let at : (place + length ws) * 2 ≡ place * 2 + length front = omega arith in
    let next : place * 2 + length front + 2 ≡ (place + length ws + 1) * 2 = omega arith in
    ap (λ (k : ℕ). take k (put_bytes bytes place ws) ++ (one ++ drop 2 (drop k (put_bytes bytes place ws)))) at
    ∙ put_put bytes (place * 2) front one h
    ∙ ap (λ (l : List ℕ). take (place * 2) bytes ++ l)
    (sym (append_assoc front one (drop (place * 2 + length front + 2) bytes))
    ∙ ap (λ (l : List ℕ). l ++ drop (place * 2 + length front + 2) bytes) (sym (bytes_append ws (idle ∷ []))))
    ∙ ap (λ (k : ℕ). take (place * 2) bytes ++ (bytes_of (ws ++ (idle ∷ [])) ++ drop k bytes)) next
