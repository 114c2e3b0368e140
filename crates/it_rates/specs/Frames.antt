-- The frame in which the hull of a question's rays is made: multipliers stand at the first rate that is eliminated.
use Rattle.std.specs.Prelude.{ℕ, List, slice_index_or}
use Rattle.it_space.specs.declared.spaces.Space.{Space}
use Rattle.it_spans.specs.declared.types.Frame.{Frame}
use Rattle.it_question.specs.Questions.{BodyView}
use Rattle.it_demand.specs.QuestionSpaces.{space_of}
use Rattle.it_rates.specs.Asked.{gone_rates}

-- the frame over the space s without the rates `gone`, where at most `rows` rows may be left after each ray
abbrev pub frame_in : ℕ → Space → List ℕ → Frame
frame_in rows s gone = record { space = s; spare = slice_index_or gone 0 0; rows = rows }

-- the frame over the space of a question, without the rates that it eliminates
abbrev pub hull_frame : ℕ → BodyView → Frame
hull_frame rows q = frame_in rows (space_of q.names) (gone_rates q.verb)
