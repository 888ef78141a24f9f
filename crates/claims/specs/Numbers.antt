-- The numbers of all refusals, of every component, and of all kinds of report: no two share one, and none is 0. A component that brings refusals
-- of its own gets a case here. (120 to 128, what is no report and what was done in an index or in a list, are numbers of host, frame_host, index_host
-- and manners_host; tests/header.rs compares them with these.) Definitions and statements; proofs/Numbers.antt proves them.
use Rattle.std.specs.Prelude.{ℕ, ◌<◌, ◌≡◌}
use Rattle.refusals.specs.declared.LineRefusal.{LineRefusal}
use Rattle.refusals.specs.declared.FieldRefusal.{FieldRefusal}
use Rattle.refusals.specs.Numbers.{line_number, field_number}
use Rattle.frames.specs.declared.FrameRefusal.{FrameRefusal}
use Rattle.frames.specs.Numbers.{frame_number}
use Rattle.index.specs.declared.IndexRefusal.{IndexRefusal}
use Rattle.index.specs.Numbers.{index_number}
use Rattle.manners.specs.declared.MannersRefusal.{MannersRefusal}
use Rattle.manners.specs.Numbers.{manners_number}
use Rattle.reports.specs.declared.kinds.Kind.{Kind}
use Rattle.reports.specs.Kinds.{kind_number}

-- a refusal of the line, of a link data field, of a frame, of the index, of manners; the kind of a report
pub data Named : Type 0 where
  line : LineRefusal → Named
  field : FieldRefusal → Named
  frame : FrameRefusal → Named
  index : IndexRefusal → Named
  manners : MannersRefusal → Named
  kind : Kind → Named

abbrev pub number_of : Named → ℕ
number_of (line q) = line_number q
number_of (field q) = field_number q
number_of (frame q) = frame_number q
number_of (index q) = index_number q
number_of (manners q) = manners_number q
number_of (kind k) = kind_number k

-- a number names one of them
abbrev pub NumbersDiffer : Type 0
NumbersDiffer = (a b : Named) → number_of a ≡ number_of b → a ≡ b

-- 0 is free to say "not refused"
abbrev pub NoNumberIsZero : Type 0
NoNumberIsZero = (a : Named) → 0 < number_of a
