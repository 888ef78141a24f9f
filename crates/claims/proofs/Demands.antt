-- The demands, each sentence from the law below it. Assumes nothing.
use Rattle.std.specs.Prelude.{None, Option, Result, Some}
use Prim.Native.Nat.{ℕ, ◌+◌}
use mathlib.Core.Path.{◌≡◌, refl, sym, ap, ◌∙◌}
use mathlib.Core.List.{List, [], ◌∷◌, ◌++◌, map}
use lib.ListN.{length}
use Rattle.words.proofs.Claims as words
use Rattle.measures.proofs.Claims as measures
use Rattle.reports.specs.declared.Report.{Report}
use Rattle.reports.specs.Altitude.{AltitudeForm, form_of}
use Rattle.reports.specs.Layouts.{words_of}
use Rattle.reports.specs.Runs.{read_run}
use Rattle.reports.specs.Values.{Counted, counts, none, Yields}
use Rattle.reports.proofs.Altitudes.{forms_sound}
use Rattle.reports.proofs.Claims as reports
use Rattle.reports.proofs.Demand2 as demand2
use Rattle.reports.proofs.Refusals as runs
use Rattle.lines.specs.Line.{end_of, read_at}
use Rattle.lines.specs.Bytes.{words_in, read_bytes}
use Rattle.lines.specs.Links.{received_on}
use Rattle.lines.specs.Spaced.{Spaced, line_of, reports_of, back}
use Rattle.lines.specs.Writing.{left_as}
use Rattle.lines.specs.ByteWriting.{bytes_left}
use Rattle.lines.proofs.Linked as linked
use Rattle.lines.proofs.Linked.{given}
use Rattle.lines.proofs.Refused as refused
use Rattle.lines.proofs.Walked as walked
use Rattle.lines.proofs.Outcomes as outcomes
use Rattle.lines.proofs.Stretched.{runs_are}
use Rattle.lines.proofs.Parts as parts
use Rattle.lines.proofs.Totals as totals
use Rattle.lines.proofs.Back as lists
use Rattle.lines.proofs.Written as written
use Rattle.fields.proofs.Claims as fields
use Rattle.fields.proofs.Exactly as exactly
use Rattle.claims.specs.Demands.{TakeEveryInputAndEnd, OneNumberedRefusal, NoSkipWithoutAName, GivenExactly, LeavesUntouched, MeanWhatIsPrinted, AcceptedExactly, WrittenAgain, ReadAgain, EqualLinesEqualLists, ReadingGivesTheList, OneOutcomeEach, Doubles, between, reports_in, InEachForm, Demands}
use Rattle.claims.proofs.Numbers.{numbers_differ, no_number_is_zero}
use Rattle.claims.proofs.Twelve.{twelve}
use Rattle.claims.proofs.Printed.{as_printed, only_printed, entries_as_printed, rules_as_printed, all_have_rules}
use Rattle.claims.proofs.Places.{end_exactly, end_of_bytes, report_words, report_words_of_bytes, read_written, read_written_bytes}
use Rattle.claims.proofs.OnLinks.{end_on, report_on}
use Rattle.claims.proofs.Fields.{has_layout, again, read_left}
use Rattle.measures.specs.declared.Measured.{Measured}
use Rattle.lines.specs.declared.NotWritten.{NotWritten}

-- ---- demand 1

take_every_input : TakeEveryInputAndEnd
take_every_input = record {
  words = λ form line place r. (_, _, record { answers = refl; leaves = refl }, λ b left w. (w.answers, w.leaves));
  bytes = λ form bytes place r. (_, _, record { answers = refl; leaves = refl }, λ b left w. (w.answers, w.leaves));
  fields = λ r l t s. (_, _, record { answers = refl; leaves = refl }, λ b left w. (w.answers, w.leaves));
  onward = walked.onward;
  enough = outcomes.calls_enough;
}

one_refusal : OneNumberedRefusal
one_refusal = record {
  end = λ form link line place. end_on link place (read_at form line place) _ (end_exactly form line place);
  end_of_bytes = λ form link bytes place. end_on link place (read_bytes form bytes place) _ (end_of_bytes form bytes place);
  numbers = numbers_differ;
  none_is_0 = no_number_is_zero;
}

no_skip : NoSkipWithoutAName
no_skip = record { words_add = totals.totals_add; words_counted = totals.totals_counted }

given_exactly : GivenExactly
given_exactly = record {
  reading_words = refused.reader_refuses;
  reading_bytes = refused.byte_reader_refuses;
  places = refused.places_given;
  writing_words = refused.writer_refuses;
  writing_bytes = refused.byte_writer_refuses;
  reading_fields = exactly.refused_exactly;
  writing_fields = exactly.writer_refuses;
}

untouched : LeavesUntouched
untouched = record {
  words = λ form line place r q p exit w.
      w.leaves ∙ ap (λ (x : Result ℕ NotWritten). left_as x line place (words_of form r)) (sym w.answers);
  bytes = λ form bytes place r q p exit w.
      w.leaves ∙ ap (λ (x : Result ℕ NotWritten). bytes_left x bytes place (words_of form r)) (sym w.answers);
  fields = λ r l t s q exit w. w.leaves ∙ exactly.refused_untouched r l t s q (sym w.answers);
}

-- ---- demand 2

one_value : (c : Counted) (x y : Option Measured) → Doubles x → Doubles y → Yields c x → Yields c y → x ≡ y
one_value (counts r a t) (Some m) (Some n) d e p q =
    λ i. Some (record {
      range = measures.exact_is_one r m.range n.range d.0 e.0 p.range q.range i;
      azimuth = measures.exact_is_one a m.azimuth n.azimuth d.1 e.1 p.azimuth q.azimuth i;
      time = measures.exact_is_one t m.time n.time d.2 e.2 p.time q.time i;
    })
one_value (counts r a t) (Some m) None d e p q = absurd q
one_value (counts r a t) None y d e p q = absurd p
one_value none (Some m) y d e p q = absurd p
one_value none None (Some n) d e p q = absurd q
one_value none None None d e p q = refl

meaning : MeanWhatIsPrinted
meaning = record {
  runs = demand2.demand_2;
  forms = forms_sound;
  layouts = words.laid_out;
  of_twelve_bits = reports.twelve_bits_a_word;
  of_four_or_seven = demand2.words_length;
  fields = fields.fields_mean;
  fields_by_bits = as_printed;
  no_other_type = only_printed;
  rules_by_bits = rules_as_printed;
  rules_of_all = all_have_rules;
  lists_by_bits = entries_as_printed;
  weights = measures.weights_as_printed;
  weights_in_code = measures.weights_in_code;
  values = one_value;
  twelve = twelve;
}

accepted : AcceptedExactly
accepted = record {
  runs = runs.accepted_exactly;
  runs_by_words = demand2.layout_is_words;
  fields = exactly.accepted_exactly;
  fields_by_bytes = has_layout;
}

written_again : WrittenAgain
written_again = record {
  runs = demand2.written_again;
  there = λ form sound link.
      record {
        on_a_line = λ line place r.
            report_on link place (read_at form line place) (λ o. words_of form r ≡ between o.first o.after line) r (report_words form sound line place r);
        on_bytes = λ bytes place r.
            report_on link place (read_bytes form bytes place) (λ o. words_of form r ≡ between o.first o.after (words_in bytes)) r
            (report_words_of_bytes form sound bytes place r);
      };
  fields = again;
}

read_again : ReadAgain
read_again = record {
  runs = demand2.read_back;
  runs_taken = demand2.takes_what_fits;
  there = λ form sound link l.
      record {
        on_a_line = λ line place r next exit w. given link place _ l ∙ ap (received_on link) (read_written form sound line place r next exit w);
        in_bytes = λ bytes place r next exit w. given link place _ l ∙ ap (received_on link) (read_written_bytes form sound bytes place r next exit w);
      };
  fields = read_left;
}

-- ---- demand 3

equal_lists : EqualLinesEqualLists
equal_lists = record { lists = lists.equal_lists; written = written.written_so }

-- the reports among the outcomes of a list that reads back
reports_back : (form : AltitudeForm) (link p : ℕ) (ss : List Spaced) (n : ℕ)
    → reports_in (map (received_on link) (back form p ss ++ (end_of n ∷ []))) ≡ reports_of ss
unfolding back
reports_back form link p [] n = refl
reports_back form link p (s ∷ ss) n =
    ap (λ (rs : List Report). s.report ∷ rs) (reports_back form link (p + s.ahead + length (words_of form s.report)) ss n)

list_back : ReadingGivesTheList
list_back = record {
  outcomes_are = lists.reads_back;
  reader = lists.reader_returns;
  list = λ form sound link l ss tail f a m.
      ap reports_in
      ((linked.on_one_link).outcomes_are (read_run form) link (line_of form ss tail) l
      ∙ ap (map (received_on link)) (lists.reads_back (read_run form) form (lists.reader_returns form sound) ss tail f a m))
      ∙ reports_back form link 0 ss (length (line_of form ss tail));
}

one_each : OneOutcomeEach
one_each = record { outcomes_are = outcomes.one_each; stretches = runs_are }

-- ---- in each form

in_each_form : InEachForm
in_each_form form =
    let f = form_of form in
    let sound = forms_sound form in
    record {
      runs = demand2.demand_2 f sound;
      layouts = demand2.layout_is_words f sound;
      written_again = demand2.written_again f sound;
      words_there = written_again.there f sound;
      read_back = demand2.read_back f sound;
      read_there = read_again.there f sound;
      equal_lists = lists.equal_lists f sound;
      reader = lists.reader_returns f sound;
      list_back = list_back.list f sound;
    }

-- ---- all of them

pub demands : Demands
demands = record {
  take_every_input = take_every_input;
  one_refusal = one_refusal;
  no_skip = no_skip;
  given_exactly = given_exactly;
  untouched = untouched;
  meaning = meaning;
  accepted = accepted;
  written_again = written_again;
  read_again = read_again;
  one_number = record { one_call = linked.with_its_number; calls = linked.on_one_link; bytes = linked.bytes_as_their_words };
  equal_lists = equal_lists;
  list_back = list_back;
  one_each = one_each;
  replaced = parts.replaced;
  each_form = in_each_form;
}
