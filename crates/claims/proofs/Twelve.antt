-- The worked cases, the twelve and those of the new form, computed row by row from the written definitions. Assumes nothing.
use mathlib.Core.Path.{refl}
use lib.Count.{ones, ones_in}
use Rattle.words.specs.Word.{first}
use Rattle.reports.specs.Conditions.{zeros, four_zeros, height_spares, seven_spares}
use Rattle.reports.specs.Records.{height_of, four_of, seven_of, report_of}
use Rattle.lines.specs.Line.{gap, stretch, read_by, calls}
use Rattle.bits.specs.Bits.{bit_at, bits_of}
use Rattle.fields.specs.Table.{table, rows, row_at, place_from, widths, widths_at, rules, rules_at, values_of, has_fault, count_in, size_in}
use Rattle.fields.specs.Records.{field_at}
use Rattle.fields.specs.Lists.{entry_of, any_unused, entries_in}
use Rattle.fields.specs.Reading.{from_sensor, same_way_as, count_out_of_range, wrong_byte_count, bit_after_count, type_not_carried, unknown_type, wrong_direction, not_relayed, sized_by, wrong_bit_count, spare_bit_set, block_count, value_not_in_use, opens, answer_of, listed_as, list_in, read_field, text_in, text_of}
use Rattle.claims.specs.Twelve.{Twelve, InTheNewForm, WrittenInTheNewForm}

pub twelve : Twelve
unfolding ones ones_in first zeros four_zeros height_spares seven_spares height_of four_of seven_of report_of gap stretch read_by calls bit_at bits_of table rows row_at place_from widths widths_at rules rules_at values_of has_fault count_in size_in field_at entry_of any_unused entries_in from_sensor same_way_as count_out_of_range wrong_byte_count bit_after_count type_not_carried unknown_type wrong_direction not_relayed sized_by wrong_bit_count spare_bit_set block_count value_not_in_use opens answer_of listed_as list_in read_field text_in text_of
twelve = refl

pub in_the_new_form : InTheNewForm
unfolding ones ones_in first zeros four_zeros height_spares seven_spares height_of four_of seven_of report_of gap stretch read_by calls
in_the_new_form = refl

pub written_in_the_new_form : WrittenInTheNewForm
unfolding ones ones_in
written_in_the_new_form = record { of_c2 = refl; lowest = refl; highest = refl; minus_one = refl; sea_level = refl; too_low = refl; too_high = refl }
