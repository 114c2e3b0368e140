-- The rows, computed.
use Rattle.std.proofs.Common.{refl}
use Rattle.std.specs.Prelude.{⊤}
use Rattle.std.specs.Fmt.{digits}
use Rattle.serde_json.proofs.OnLiterals.{serde_json_on_literals}
use Rattle.it_certificate.specs.Numerals.{magnitude_of, integer_of, step_of}
use Rattle.it_certificate.specs.Values.{pair_value, proof_value, row_value, answer_members, answer_value, answer_text}
use Rattle.it_certificate.specs.Parts.{integer_at, count_at, pair_at, certificate_at, answer_kind_at, proofs_at, point_at, back_at, cause_kind_at, cause_at, marked_row_at, rows_at, set_at, parts_at, unmarked_row_at}
use Rattle.it_certificate.specs.AnswerReading.{no_at, undecided_at, contained_at}
use Rattle.it_certificate.specs.Obligations.{obligation_count}
use Rattle.it_certificate.specs.CodeReading.{tells_code}
use Rattle.it_certificate.specs.FactorReading.{factor_kind_at}
use Rattle.it_certificate.specs.OriginReading.{tells_origins}
use Rattle.it_certificate.specs.Reports.{report_of, tells_misfit, tells_outer}
use Rattle.it_certificate.specs.Sources.{source_key}
use Rattle.it_certificate.specs.Rows.{NumbersReadAsSaid, TextsReadAsSaid, KindsReadAsSaid, ProofsReadAsSaid, PointsReadAsSaid, CausesReadAsSaid, RegionsReadAsSaid, ContainmentsReadAsSaid, LinesWrittenAsSaid}

-- what unfolds to read a literal report
unfoldable report_on_literals : ⊤
unfolding serde_json_on_literals magnitude_of integer_of step_of integer_at count_at pair_at certificate_at answer_kind_at proofs_at
    point_at back_at cause_kind_at cause_at unmarked_row_at marked_row_at rows_at set_at parts_at no_at undecided_at contained_at
    obligation_count factor_kind_at tells_code tells_origins tells_misfit tells_outer source_key report_of
report_on_literals = tt

pub numbers_read_as_said : NumbersReadAsSaid
unfolding magnitude_of integer_of step_of
numbers_read_as_said = record {
  empty = refl;
  zero = refl;
  minus_zero = refl;
  minus = refl;
  two_signs = refl;
  plus = refl;
  blank = refl;
  point = refl;
  zeros = refl;
  minus_zeros = refl;
  greatest = refl;
  too_great = refl;
  least = refl;
  too_little = refl;
  all_digits = refl;
  digit_more = refl;
  step = refl;
  step_more = refl;
  step_zeros = refl;
  step_minus_zero = refl;
  step_minus = refl;
}

pub texts_read_as_said : TextsReadAsSaid
unfolding serde_json_on_literals count_at
texts_read_as_said = record {
  word = refl;
  blank = refl;
  doubled = refl;
  two_values = refl;
  control = refl;
  mark = refl;
  surrogate = refl;
  leading_zero = refl;
  past_floats = refl;
  deep = refl;
  too_deep = refl;
  count = refl;
  greatest = refl;
  too_large = refl;
  past_64_bits = refl;
  negative = refl;
  minus_zero = refl;
  point = refl;
  exponent = refl;
  text = refl;
}

pub kinds_read_as_said : KindsReadAsSaid
unfolding report_on_literals
kinds_read_as_said = record {
  no_object = refl;
  no_key = refl;
  no_text = refl;
  other_word = refl;
  no_question = refl;
  no_copies = refl;
  no_sharing = refl;
  misfit = refl;
  region_of_inequality = refl;
  open_of_inequality = refl;
  yes_of_elimination = refl;
  undecided_of_containment = refl;
}

pub proofs_read_as_said : ProofsReadAsSaid
unfolding report_on_literals
proofs_read_as_said = record {
  missing = refl;
  none = refl;
  one = refl;
  two = refl;
  one_of_two = refl;
  zeros_and_again = refl;
  no_scale = refl;
  scale_as_number = refl;
  point_in_number = refl;
  triple = refl;
}

pub points_read_as_said : PointsReadAsSaid
unfolding report_on_literals
points_read_as_said = record {
  missing = refl;
  short = refl;
  no_side = refl;
  forward = refl;
  back_of_inequality = refl;
  back = refl;
  number = refl;
}

pub causes_read_as_said : CausesReadAsSaid
unfolding report_on_literals
causes_read_as_said = record {
  missing = refl;
  other = refl;
  no_place = refl;
  pivots = refl;
  number = refl;
  too_large = refl;
  pivots_of_rate = refl;
  width = refl;
  width_of_rate = refl;
  width_of_none = refl;
  scale = refl;
  scale_zeros = refl;
  rows = refl;
  rows_of_number = refl;
}

pub regions_read_as_said : RegionsReadAsSaid
unfolding report_on_literals
regions_read_as_said = record {
  missing = refl;
  none = refl;
  two = refl;
  other_mark = refl;
  falling = refl;
  twice = refl;
  empty_set = refl;
  outside = refl;
  zero = refl;
}

pub containments_read_as_said : ContainmentsReadAsSaid
unfolding report_on_literals
containments_read_as_said = record {
  nothing = refl;
  no_part = refl;
  outside = refl;
  no_proof = refl;
  two_proofs = refl;
  three_proofs = refl;
  no_count = refl;
  count_as_text = refl;
  count = refl;
}

pub lines_written_as_said : LinesWrittenAsSaid
unfolding serde_json_on_literals digits pair_value proof_value row_value answer_members answer_value answer_text
lines_written_as_said = record {
  yes = refl;
  no = refl;
  undecided = refl;
  scale = refl;
  region = refl;
  contained = refl;
  open_search = refl;
}
