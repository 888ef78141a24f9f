-- Each answer is given exactly under its condition: the first row that holds answers. From the law of `rows`. Assumes nothing.
use Rattle.std.proofs.Common.{Bool, true, false, refl, ap, Err, Ok, Result, ℕ}
use Rattle.rows.proofs.Claims as law
use Rattle.fields.specs.Reading.{read_rows, record_of, answer_of}
use Rattle.fields.specs.Writing.{bits_in, writer_rows, written_of, left_of, left_as, put_in}
use Rattle.fields.specs.Claims.{RefusedExactly, AcceptedExactly, WriterRefuses, WrittenExactly, RefusedUntouched}
use Rattle.fields.specs.declared.Record.{Record}
use Rattle.refusals.specs.declared.FieldRefusal.{FieldRefusal}

-- ---- the reader

abbrev is_accepted : Result Record FieldRefusal → Bool
is_accepted (Ok x) = true
is_accepted (Err r) = false

pub refused_exactly : RefusedExactly
unfolding answer_of
refused_exactly s n w r = law.refused_exactly (Result Record FieldRefusal) is_accepted (read_rows s n w) (Ok (record_of s n w)) (Err r) refl refl

pub accepted_exactly : AcceptedExactly
unfolding answer_of
accepted_exactly s n w x =
    let k = law.accepted_exactly (Result Record FieldRefusal) is_accepted (read_rows s n w) (Ok (record_of s n w)) (Ok x) (refl, (refl, (refl, (refl, (refl, (refl, (refl, (refl, (refl, (refl, tt)))))))))) refl in
    (λ e. let m = k.0 e in let same = m.1 in (m.0, (cc)), λ h. k.1 (h.0, ap Ok h.1))

-- ---- the writer

abbrev pub is_written : Result ℕ FieldRefusal → Bool
is_written (Ok n) = true
is_written (Err r) = false

pub writer_refuses : WriterRefuses
unfolding written_of
writer_refuses r l t s q = law.refused_exactly (Result ℕ FieldRefusal) is_written (writer_rows r l t s) (Ok (bits_in r)) (Err q) refl refl

pub written_exactly : WrittenExactly
unfolding written_of
written_exactly r l t s n =
    let k = law.accepted_exactly (Result ℕ FieldRefusal) is_written (writer_rows r l t s) (Ok (bits_in r)) (Ok n) (refl, (refl, tt)) refl in
    (λ e. let m = k.0 e in let same = m.1 in (m.0, (cc)), λ h. k.1 (h.0, ap Ok h.1))

pub refused_untouched : RefusedUntouched
unfolding left_of
refused_untouched r l t s x e = ap (λ (w : Result ℕ FieldRefusal). left_as w s (put_in r l t s)) e
