-- The requests, each sentence from the law below it. Assumes nothing.
use mathlib.Core.Path.{refl, ap}
use native.Mathlib.Omega.{arith}
use Rattle.words.proofs.Claims as words
use Rattle.reports.proofs.Altitudes as altitudes
use Rattle.lines.specs.declared.Received.{Received}
use Rattle.lines.proofs.Linked as linked
use Rattle.lines.proofs.Refused as line_refused
use Rattle.frames.proofs.Back as back
use Rattle.frames.proofs.Checked as checked
use Rattle.frames.proofs.Ends as ends
use Rattle.frames.proofs.Lent as lent
use Rattle.frames.proofs.Lists as lists
use Rattle.frames.proofs.Refused as refused
use Rattle.frames.proofs.Zeros as zeros
use Rattle.index.specs.Entries.{entry_of}
use Rattle.index.proofs.Claims as index
use Rattle.manners.proofs.Answered as answered
use Rattle.manners.proofs.Broken as broken
use Rattle.manners.proofs.Exactly as exactly
use Rattle.manners.proofs.Worked.{worked}
use Rattle.claims.specs.Requests.{ReadAndWriteThem, FlagsAndIdle, PlacesAnswered, TheWriter, TheirOwnRoundTrip, FrameRefusals, OneSegmentAccepted, UplinkKeepsItsMinimum, RefusalsLoseThisCase, TakesReportsWithANumber, EntersAndReplaces, EqualsTheOneWorkedOutAfresh, IndexRefusals, CountsTheOnes, ItsPromiseStays, TheFormAsAnInput, RangeAndPatterns, RefusalsOfAltitudes, TheRules, ExactlyTheBreaches, StaysAccepted, MannersRefusals, OneAnswerOneList, LinkOfEveryOutcome, NoPartOfTheWords, FixedNumber, LinkRefusal, Requests}
use Rattle.claims.proofs.Numbers.{numbers_differ, no_number_is_zero}
use Rattle.claims.proofs.OneSegment as segment
use Rattle.claims.proofs.Folds.{folds_answer_the_same}
use Rattle.claims.proofs.Twelve as twelve
use Rattle.claims.proofs.TwoForms as forms
use Rattle.claims.proofs.Demands.{demands}

-- ---- Ticket 1

read_and_write : ReadAndWriteThem
read_and_write = record {
  accepted = back.accepted_exactly;
  zeros_taken_out = zeros.taken_out;
  zeros_put_in = zeros.put_in;
  no_flag_inside = zeros.no_flag_inside;
  known_checks = checked.known_checks;
  remainder = checked.remainder;
  burst_found = checked.burst_found;
  one_flip_found = checked.one_flip_found;
  two_flips_found = checked.two_flips_found;
}

flags_and_idle : FlagsAndIdle
flags_and_idle = record {
  shared_flags_and_idle = lists.list_reads_back;
  written_on_a_shared_flag = lent.written_on;
  end = ends.end_exactly;
  no_field = λ way control h. record { control = h; field = omega arith };
}

places : PlacesAnswered
places = record { refusals = refused.reader_refuses; frame = back.written_again; writing = ends.refused_stays }

writer : TheWriter
writer = record {
  allows_one = λ bytes count place way control field n. (_, _, record { answers = refl; leaves = refl }, λ b left w. (w.answers, w.leaves));
  others_stay = lent.others_stay;
}

round_trip : TheirOwnRoundTrip
round_trip = record {
  written_and_read = lent.written_reads;
  wherever_it_stands = back.reads_back;
  read_and_written = lent.read_writes;
  field_handed_out = lent.handed_out;
  equal_lists = lists.equal_lists;
  calls_enough = lists.calls_enough;
  not_behind = lists.not_behind;
}

refusals : FrameRefusals
refusals = record {
  reading = refused.reader_refuses;
  writing = refused.writer_refuses;
  nothing_written = ends.refused_stays;
  numbers = numbers_differ;
  none_is_0 = no_number_is_zero;
}

-- ---- Ticket 2

accepted : OneSegmentAccepted
accepted = record {
  bare_read = segment.bare_read;
  relayed_read = segment.relayed_read;
  bare_written = segment.bare_written;
  relayed_written = segment.relayed_written;
}

uplink : UplinkKeepsItsMinimum
uplink = record { read = segment.uplink_read; written = segment.uplink_written }

lost : RefusalsLoseThisCase
lost = record {
  value = segment.not_in_use_before;
  one_segment_read = segment.one_segment_read;
  others_read = segment.others_read_as_before;
  count = segment.count_stays;
  spares = segment.spares_stay;
  taken = segment.taken_before;
  one_segment_written = segment.one_segment_written;
  others_written = segment.others_written_as_before;
  table = segment.rows_and_widths_stay;
}

-- ---- Ticket 3

takes : TakesReportsWithANumber
takes = record {
  number = index.number_as_printed;
  refused = λ q. refl;
  end = refl;
  left = index.left_exactly;
  stays = index.zero_is_left;
}

enters : EntersAndReplaces
enters = record {
  new = index.entered_exactly;
  later_report = index.replaced_exactly;
  kept = index.never_broken;
  found = index.found_exactly;
  missing = index.missing_exactly;
}

afresh : EqualsTheOneWorkedOutAfresh
afresh = record {
  from_unused = index.from_unused;
  begins = index.begins;
  onward = index.onward;
  all_fit = index.room_for_all;
  line = index.over_a_line;
  clicked = index.found_is_latest;
}

index_refusals : IndexRefusals
index_refusals = record {
  entering = index.enter_refuses;
  finding = index.find_refuses;
  broken = index.broken_exactly;
  full = index.full_exactly;
  stays = index.refused_stays;
  numbers = numbers_differ;
  none_is_0 = no_number_is_zero;
}

-- ---- Ticket 4

counts : CountsTheOnes
counts = record { counted = words.ones_by_bits; asked = words.odd_by_bits; each_bit = words.flip_turns_parity; bit_13 = words.one_word_for_data }

stays : ItsPromiseStays
stays = record { folds = folds_answer_the_same }

-- ---- Ticket 5

input : TheFormAsAnInput
input = record {
  run = forms.new_reading;
  lowest = forms.minus_zero_is_lowest;
  place = forms.new_outcome;
  place_of_bytes = forms.new_outcome_of_bytes;
  same = forms.equal_readings;
  rest = forms.rest_stays;
  entry = forms.same_entry;
  written = forms.equal_writing;
  words = forms.turned_words;
  calls = forms.same_calls;
}

range : RangeAndPatterns
range = record {
  ranges = altitudes.range_of_each;
  patterns = altitudes.every_pattern_valid;
  cases = twelve.in_the_new_form;
  written_cases = twelve.written_in_the_new_form;
}

altitude_refusals : RefusalsOfAltitudes
altitude_refusals = record { never_9 = forms.never_minus_zero; never_9_in_bytes = forms.never_minus_zero_in_bytes; eleven = forms.eleven_follows }

-- ---- Ticket 6

rules : TheRules
rules = record {
  same = broken.same_of_record;
  found = broken.found_exactly;
  one = broken.at_most_one;
  one_of_record = broken.at_most_one_of_record;
  numbers = exactly.rules_numbered;
  worked = worked;
}

exactly_the_breaches : ExactlyTheBreaches
exactly_the_breaches = record {
  exactly = exactly.exactly_the_breaches;
  by_place = exactly.by_place;
  outcomes = exactly.from_the_outcomes;
  both_forms = exactly.same_in_both_forms;
  parts = exactly.splits_in_parts;
  outside = exactly.replaced;
  no_more = exactly.no_more;
}

stays_accepted : StaysAccepted
stays_accepted = record {
  read = exactly.read_there;
  listed = answered.listed_exactly;
  bytes_listed = answered.byte_listed_exactly;
}

one_list : OneAnswerOneList
one_list = record {
  words = λ form line list. (_, _, record { answers = refl; leaves = refl }, λ b left w. (w.answers, w.leaves));
  bytes = λ form bytes list. (_, _, record { answers = refl; leaves = refl }, λ b left w. (w.answers, w.leaves));
}

manners_refusals : MannersRefusals
manners_refusals = record {
  words = answered.list_refuses;
  of_bytes = answered.byte_list_refuses;
  nothing_written = answered.refused_stays;
  behind = answered.behind_stays;
  bytes = answered.bytes_as_words;
  numbers_in_bytes = exactly.numbers_in_bytes;
  numbers = numbers_differ;
  none_is_0 = no_number_is_zero;
}

-- ---- Ticket 7

link_of_every_outcome : LinkOfEveryOutcome
link_of_every_outcome = record { fifteen = refl; given = linked.with_its_number; in_range = linked.number_in_range; manners = refl }

no_part_of_the_words : NoPartOfTheWords
no_part_of_the_words = record {
  alone = linked.differ_in_the_number;
  entry = λ form link other bytes place scan h k.
      ap (λ (r : Received). entry_of r.outcome scan) ((linked.differ_in_the_number).bytes form link other bytes place h k);
}

fixed_number : FixedNumber
fixed_number = record {
  words = demands.written_again.there;
  back = demands.read_again.there;
  one_number = demands.one_number;
  list = demands.list_back.list;
}

link_refusal : LinkRefusal
link_refusal = record {
  exactly = linked.no_such_link_exactly;
  gives = linked.no_such_link_gives;
  rows = line_refused.reader_refuses;
  byte_rows = line_refused.byte_reader_refuses;
  thirteen = refl;
  numbers = numbers_differ;
  none_is_0 = no_number_is_zero;
}

-- ---- all of them

pub requests : Requests
requests = record {
  ticket_1 = record {
    read_and_write = read_and_write;
    flags_and_idle = flags_and_idle;
    places = places;
    writer = writer;
    round_trip = round_trip;
    refusals = refusals;
  };
  ticket_2 = record { accepted = accepted; uplink = uplink; refusals = lost };
  ticket_3 = record {
    one_answer = λ table e. (_, _, record { answers = refl; leaves = refl }, λ b left w. (w.answers, w.leaves));
    takes = takes;
    enters = enters;
    afresh = afresh;
    refusals = index_refusals;
  };
  ticket_4 = record { counts = counts; stays = stays };
  ticket_5 = record {
    input = input;
    from_c = altitudes.numbers_of_forms;
    range = range;
    one_form = record { demands = demands.each_form; sound = altitudes.forms_sound };
    refusals = altitude_refusals;
  };
  ticket_6 = record { one_answer = one_list; rules = rules; list = exactly_the_breaches; stays = stays_accepted; refusals = manners_refusals };
  ticket_7 = record { every_outcome = link_of_every_outcome; no_part = no_part_of_the_words; fixed = fixed_number; refusal = link_refusal };
}
