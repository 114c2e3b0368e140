-- Texts and what they read as, worked out by hand: numbers, JSON, and the first key at fault of reports on three questions.
use Rattle.std.specs.Prelude.{◌≡◌, ℕ, ◌++◌, ◌^◌, ◌-◌, List, [], ◌∷◌, Option, Some, None, Result, Ok, Err, codes, option_map, is_some, true, false, replicate, pos, negsuc}
use Rattle.serde_json.specs.Data.{number, unsigned, object, member, no_members}
use Rattle.serde_json.specs.Read.{read}
use Rattle.it_space.specs.Answers.{AnswerView}
use Rattle.it_space.specs.Answers.AnswerView.{Yes, No, Undecided, Region, Contained, Open}
use Rattle.it_space.specs.declared.answers.Cause.TheVariants as causes
use Rattle.it_space.specs.declared.answers.Mark.TheVariants as marks
use Rattle.it_syntax.specs.NamesViews.{NamesView}
use Rattle.it_syntax.specs.Meaning.{RelationView}
use Rattle.it_syntax.specs.Givens.{Function}
use Rattle.it_syntax.specs.declared.types.Sign.{Sign}
use Rattle.it_syntax.specs.declared.types.Sign.TheVariants.{AtLeast, Equal}
use Rattle.it_question.specs.OwnLines.{RegionView}
use Rattle.it_question.specs.Questions.{QuestionView, VerbView, Prove, Eliminate, Contain}
use Rattle.it_certificate.specs.declared.keys.Key.{Key}
use Rattle.it_certificate.specs.declared.keys.Key.TheVariants as keys
use Rattle.it_certificate.specs.Numerals.{integer_of, step_of}
use Rattle.it_certificate.specs.Parts.{count_at}
use Rattle.it_certificate.specs.Values.{answer_text}
use Rattle.it_certificate.specs.Reports.{Answered, Misfit, Reading, report_of}
use Rattle.it_certificate.specs.Sources.{Text}

-- ---- numbers

-- the greatest number has 39 digits
pub record NumbersReadAsSaid : Type 0 where
  pub empty : integer_of [] ≡ None
  pub zero : integer_of (codes "0") ≡ Some (pos 0)
  pub minus_zero : integer_of (codes "-0") ≡ Some (pos 0)
  pub minus : integer_of (codes "-") ≡ None
  pub two_signs : integer_of (codes "--1") ≡ None
  pub plus : integer_of (codes "+1") ≡ None
  pub blank : integer_of (codes " 1") ≡ None
  pub point : integer_of (codes "1.0") ≡ None
  pub zeros : integer_of (codes "007") ≡ Some (pos 7)
  pub minus_zeros : integer_of (codes "-007") ≡ Some (negsuc 6)
  pub greatest : integer_of (codes "170141183460469231731687303715884105727") ≡ Some (pos (2 ^ 127 - 1))
  pub too_great : integer_of (codes "170141183460469231731687303715884105728") ≡ None
  pub least : integer_of (codes "-170141183460469231731687303715884105727") ≡ Some (negsuc (2 ^ 127 - 2))
  pub too_little : integer_of (codes "-170141183460469231731687303715884105728") ≡ None
  pub all_digits : integer_of (codes "000000000000000000000000000000000000007") ≡ Some (pos 7)
  pub digit_more : integer_of (codes "0000000000000000000000000000000000000007") ≡ None
  pub step : step_of (codes "4294967295") ≡ Some 4294967295
  pub step_more : step_of (codes "4294967296") ≡ None
  pub step_zeros : step_of (codes "007") ≡ Some 7
  pub step_minus_zero : step_of (codes "-0") ≡ Some 0
  pub step_minus : step_of (codes "-1") ≡ None

-- ---- JSON

-- whether a text is JSON, and the count that its value is, if it is one
abbrev pub count_in : List ℕ → Option (Option ℕ)
count_in text = option_map count_at (read text)

-- n arrays, one inside the other
abbrev pub nesting : ℕ → List ℕ
nesting n = replicate n 91 ++ replicate n 93

-- texts that are JSON or not, and values that are a count or not
pub record TextsReadAsSaid : Type 0 where
  pub word : read (codes "x") ≡ None
  pub blank : read [] ≡ None
  pub doubled : read (codes "{\"a\":1,\"a\":2}") ≡ Some (object (member (codes "a") (number (unsigned 2)) no_members))
  pub two_values : read (codes "1 2") ≡ None
  pub control : read (34 ∷ 9 ∷ 34 ∷ []) ≡ None
  pub mark : read (239 ∷ 187 ∷ 191 ∷ 49 ∷ []) ≡ None
  pub surrogate : read (codes "\"\\ud800\"") ≡ None
  pub leading_zero : read (codes "01") ≡ None
  pub past_floats : read (codes "1e400") ≡ None
  pub deep : is_some (read (nesting 127)) ≡ true
  pub too_deep : read (nesting 128) ≡ None
  pub count : count_in (codes "7") ≡ Some (Some 7)
  pub greatest : count_in (codes "4294967295") ≡ Some (Some 4294967295)
  pub too_large : count_in (codes "4294967296") ≡ Some None
  pub past_64_bits : count_in (codes "18446744073709551616") ≡ Some None
  pub negative : count_in (codes "-1") ≡ Some None
  pub minus_zero : count_in (codes "-0") ≡ Some None
  pub point : count_in (codes "1.0") ≡ Some None
  pub exponent : count_in (codes "1e0") ≡ Some None
  pub text : count_in (codes "\"7\"") ≡ Some None

-- ---- reports

-- the names X, Y and of a rate R: four coordinates
abbrev pub two_names : NamesView
two_names = record { variables = codes "X" ∷ codes "Y" ∷ []; rates = codes "R" ∷ [] }

-- the relation of this sign between two empty sums
abbrev pub relation_by : Sign → RelationView
relation_by sign = record { left = []; sign = sign; right = [] }

-- the question of this verb with these names, without own lines
abbrev pub question_by : VerbView → QuestionView
question_by verb = record { body = record { names = two_names; lines = record { givens = []; rows = [] }; verb = verb }; text = [] }

-- the question whether an inequality holds: it has one target
abbrev pub inequality : QuestionView
inequality = question_by (Prove (relation_by AtLeast))

-- the question whether an equality holds: it has two targets
abbrev pub equality : QuestionView
equality = question_by (Prove (relation_by Equal))

-- the question that eliminates the rate R
abbrev pub elimination : QuestionView
elimination = question_by (Eliminate (0 ∷ []))

-- a containment whose second region has an auxiliary U and three obligations
abbrev pub second_region : RegionView
second_region = record {
  names = record { variables = codes "X" ∷ codes "Y" ∷ codes "U" ∷ []; rates = codes "R" ∷ [] };
  auxiliaries = 1;
  lines = record { givens = Function 4 1 ∷ []; rows = relation_by AtLeast ∷ [] };
}

-- the question whether a region without lines lies in that one
abbrev pub containment : QuestionView
containment = question_by (Contain (record { names = two_names; auxiliaries = 0; lines = record { givens = []; rows = [] } }) second_region [])

-- what a line without the key `question` reads as, once its question is this one
abbrev pub report_on : QuestionView → List ℕ → Option (Result Reading Key)
report_on q text = option_map (report_of (Some (Text q))) (read text)

-- a line about the question has its first fault at this key
abbrev pub is_fault : QuestionView → Key → List ℕ → Type 0
is_fault q key text = report_on q text ≡ Some (Err key)

-- a line about the question reads as this answer to it
abbrev pub is_answer : QuestionView → AnswerView → List ℕ → Type 0
is_answer q answer text = report_on q text ≡ Some (Ok (Answered (Text q) answer))

-- lines at fault in the kind of their answer, and one without a question
pub record KindsReadAsSaid : Type 0 where
  pub no_object : is_fault inequality keys.Answer (codes "[]")
  pub no_key : is_fault inequality keys.Answer (codes "{}")
  pub no_text : is_fault inequality keys.Answer (codes "{\"answer\":1}")
  pub other_word : is_fault inequality keys.Answer (codes "{\"answer\":\"Yes\"}")
  pub no_question : option_map (report_of None) (read (codes "{\"answer\":\"yes\"}")) ≡ Some (Err keys.Question)
  pub no_copies : option_map (report_of None) (read (codes "{\"answer\":\"yes\",\"copies\":0,\"question\":\"\"}")) ≡ Some (Err keys.Copies)
  pub no_sharing : option_map (report_of None) (read (codes "{\"answer\":\"yes\",\"copies\":0,\"sharing\":null}")) ≡ Some (Err keys.Sharing)
  pub misfit : option_map (report_of None) (read (codes "{\"answer\":\"misfit\",\"cause\":\"verb\"}")) ≡ Some (Ok Misfit)
  pub region_of_inequality : is_fault inequality keys.Answer (codes "{\"answer\":\"region\",\"rows\":[]}")
  pub open_of_inequality : is_fault inequality keys.Answer (codes "{\"answer\":\"open\",\"tried\":1}")
  pub yes_of_elimination : is_fault elimination keys.Answer (codes "{\"answer\":\"yes\"}")
  pub undecided_of_containment : is_fault containment keys.Answer (codes "{\"answer\":\"undecided\",\"cause\":\"scale\",\"at\":\"0\"}")

-- how many certificates a yes has, and how their scales and weights are written
pub record ProofsReadAsSaid : Type 0 where
  pub missing : is_fault inequality keys.Proofs (codes "{\"answer\":\"yes\"}")
  pub none : is_fault inequality keys.Proofs (codes "{\"answer\":\"yes\",\"proofs\":[]}")
  pub one : is_answer inequality (Yes (record { scale = pos 1; weights = (2, pos 1) ∷ [] } ∷ [])) (codes "{\"answer\":\"yes\",\"proofs\":[{\"scale\":\"1\",\"weights\":[[2,\"1\"]]}]}")
  pub two : is_fault inequality keys.Proofs (codes "{\"answer\":\"yes\",\"proofs\":[{\"scale\":\"1\",\"weights\":[]},{\"scale\":\"1\",\"weights\":[]}]}")
  pub one_of_two : is_fault equality keys.Proofs (codes "{\"answer\":\"yes\",\"proofs\":[{\"scale\":\"1\",\"weights\":[]}]}")
  pub zeros_and_again : is_answer inequality (Yes (record { scale = pos 0; weights = (2, pos 0) ∷ (1, negsuc 0) ∷ (2, pos 1) ∷ [] } ∷ []))
      (codes "{\"proofs\":[{\"weights\":[[2,\"0\"],[1,\"-1\"],[2,\"1\"]],\"more\":[],\"scale\":\"0\"}],\"answer\":\"yes\"}")
  pub no_scale : is_fault inequality keys.Proofs (codes "{\"answer\":\"yes\",\"proofs\":[{\"weights\":[]}]}")
  pub scale_as_number : is_fault inequality keys.Proofs (codes "{\"answer\":\"yes\",\"proofs\":[{\"scale\":1,\"weights\":[]}]}")
  pub point_in_number : is_fault inequality keys.Proofs (codes "{\"answer\":\"yes\",\"proofs\":[{\"scale\":\"1\",\"weights\":[[2.0,\"1\"]]}]}")
  pub triple : is_fault inequality keys.Proofs (codes "{\"answer\":\"yes\",\"proofs\":[{\"scale\":\"1\",\"weights\":[[2,\"1\",0]]}]}")

-- the point of a no, and its side
pub record PointsReadAsSaid : Type 0 where
  pub missing : is_fault inequality keys.Point (codes "{\"answer\":\"no\",\"side\":\"forward\"}")
  pub short : is_fault inequality keys.Point (codes "{\"answer\":\"no\",\"point\":[\"0\",\"1\",\"1\"],\"side\":\"forward\"}")
  pub no_side : is_fault inequality keys.Side (codes "{\"answer\":\"no\",\"point\":[\"0\",\"1\",\"1\",\"-0\"]}")
  pub forward : is_answer inequality (No false (pos 0 ∷ pos 1 ∷ pos 1 ∷ pos 0 ∷ [])) (codes "{\"answer\":\"no\",\"point\":[\"0\",\"1\",\"1\",\"-0\"],\"side\":\"forward\"}")
  pub back_of_inequality : is_fault inequality keys.Side (codes "{\"answer\":\"no\",\"point\":[\"0\",\"1\",\"1\",\"0\"],\"side\":\"back\"}")
  pub back : is_answer equality (No true (pos 0 ∷ pos 1 ∷ pos 1 ∷ pos 0 ∷ [])) (codes "{\"answer\":\"no\",\"point\":[\"0\",\"1\",\"1\",\"0\"],\"side\":\"back\"}")
  pub number : is_fault inequality keys.Point (codes "{\"answer\":\"no\",\"point\":[0,\"1\",\"1\",\"0\"],\"side\":\"forward\"}")

-- the cause of an undecided answer, and the step or the rate that it has
pub record CausesReadAsSaid : Type 0 where
  pub missing : is_fault inequality keys.Cause (codes "{\"answer\":\"undecided\",\"at\":\"7\"}")
  pub other : is_fault inequality keys.Cause (codes "{\"answer\":\"undecided\",\"at\":\"7\",\"cause\":\"time\"}")
  pub no_place : is_fault inequality keys.At (codes "{\"answer\":\"undecided\",\"cause\":\"pivots\"}")
  pub pivots : is_answer inequality (Undecided (causes.Pivots 7)) (codes "{\"answer\":\"undecided\",\"at\":\"007\",\"cause\":\"pivots\"}")
  pub number : is_fault inequality keys.At (codes "{\"answer\":\"undecided\",\"at\":7,\"cause\":\"pivots\"}")
  pub too_large : is_fault inequality keys.At (codes "{\"answer\":\"undecided\",\"at\":\"4294967296\",\"cause\":\"pivots\"}")
  pub pivots_of_rate : is_fault inequality keys.At (codes "{\"answer\":\"undecided\",\"at\":\"R\",\"cause\":\"pivots\"}")
  pub width : is_answer inequality (Undecided (causes.Width 7)) (codes "{\"answer\":\"undecided\",\"at\":\"7\",\"cause\":\"width\"}")
  pub width_of_rate : is_answer elimination (Undecided (causes.WideRate 0)) (codes "{\"answer\":\"undecided\",\"at\":\"R\",\"cause\":\"width\"}")
  pub width_of_none : is_fault elimination keys.At (codes "{\"answer\":\"undecided\",\"at\":\"S\",\"cause\":\"width\"}")
  pub scale : is_answer inequality (Undecided causes.Scale) (codes "{\"answer\":\"undecided\",\"at\":\"0\",\"cause\":\"scale\"}")
  pub scale_zeros : is_fault inequality keys.At (codes "{\"answer\":\"undecided\",\"at\":\"00\",\"cause\":\"scale\"}")
  pub rows : is_answer inequality (Undecided (causes.Rows 0)) (codes "{\"answer\":\"undecided\",\"at\":\"R\",\"cause\":\"rows\"}")
  pub rows_of_number : is_fault elimination keys.At (codes "{\"answer\":\"undecided\",\"at\":\"0\",\"cause\":\"rows\"}")

-- the rows of a region, and their marks
pub record RegionsReadAsSaid : Type 0 where
  pub missing : is_fault elimination keys.Rows (codes "{\"answer\":\"region\"}")
  pub none : is_answer elimination (Region []) (codes "{\"answer\":\"region\",\"rows\":[]}")
  pub two : is_answer elimination (Region ((marks.Plain, (1, pos 1) ∷ (4, negsuc 1) ∷ []) ∷ (marks.Needed, []) ∷ []))
      (codes "{\"answer\":\"region\",\"rows\":[{\"mark\":\"plain\",\"row\":[[1,\"1\"],[4,\"-2\"]]},{\"mark\":\"needed\",\"row\":[]}]}")
  pub other_mark : is_fault elimination keys.Rows (codes "{\"answer\":\"region\",\"rows\":[{\"mark\":\"sure\",\"row\":[]}]}")
  pub falling : is_fault elimination keys.Rows (codes "{\"answer\":\"region\",\"rows\":[{\"mark\":\"plain\",\"row\":[[4,\"1\"],[1,\"1\"]]}]}")
  pub twice : is_fault elimination keys.Rows (codes "{\"answer\":\"region\",\"rows\":[{\"mark\":\"plain\",\"row\":[[1,\"1\"],[1,\"1\"]]}]}")
  pub empty_set : is_fault elimination keys.Rows (codes "{\"answer\":\"region\",\"rows\":[{\"mark\":\"plain\",\"row\":[[0,\"1\"]]}]}")
  pub outside : is_fault elimination keys.Rows (codes "{\"answer\":\"region\",\"rows\":[{\"mark\":\"plain\",\"row\":[[5,\"1\"]]}]}")
  pub zero : is_fault elimination keys.Rows (codes "{\"answer\":\"region\",\"rows\":[{\"mark\":\"plain\",\"row\":[[1,\"-0\"]]}]}")

-- the parts and the three proofs of a containment, of which `parts` is judged first, and the count of an open search
pub record ContainmentsReadAsSaid : Type 0 where
  pub nothing : is_fault containment keys.Parts (codes "{\"answer\":\"contained\"}")
  pub no_part : is_fault containment keys.Parts (codes "{\"answer\":\"contained\",\"parts\":[],\"proofs\":[]}")
  pub outside : is_fault containment keys.Parts (codes "{\"answer\":\"contained\",\"parts\":[4]}")
  pub no_proof : is_fault containment keys.Proofs (codes "{\"answer\":\"contained\",\"parts\":[3]}")
  pub two_proofs : is_fault containment keys.Proofs (codes "{\"answer\":\"contained\",\"parts\":[3],\"proofs\":[{\"scale\":\"1\",\"weights\":[]},{\"scale\":\"1\",\"weights\":[]}]}")
  pub three_proofs : is_answer containment (Contained (3 ∷ []) (replicate 3 (record { scale = pos 1; weights = [] })))
      (codes "{\"answer\":\"contained\",\"parts\":[3],\"proofs\":[{\"scale\":\"1\",\"weights\":[]},{\"scale\":\"1\",\"weights\":[]},{\"scale\":\"1\",\"weights\":[]}]}")
  pub no_count : is_fault containment keys.Tried (codes "{\"answer\":\"open\"}")
  pub count_as_text : is_fault containment keys.Tried (codes "{\"answer\":\"open\",\"tried\":\"1\"}")
  pub count : is_answer containment (Open 256) (codes "{\"answer\":\"open\",\"tried\":256}")

-- ---- lines as they are written

-- the line of an answer of each kind
pub record LinesWrittenAsSaid : Type 0 where
  pub yes : answer_text (codes "vars X, Y\nprove I(X;Y) >= 0\n") two_names (Yes (record { scale = pos 1; weights = (0, pos 0) ∷ (2, pos 1) ∷ [] } ∷ []))
      ≡ codes "{\"answer\":\"yes\",\"proofs\":[{\"scale\":\"1\",\"weights\":[[2,\"1\"]]}],\"question\":\"vars X, Y\\nprove I(X;Y) >= 0\\n\"}"
  pub no : answer_text (codes "q\n") two_names (No true (pos 0 ∷ negsuc 0 ∷ [])) ≡ codes "{\"answer\":\"no\",\"point\":[\"0\",\"-1\"],\"question\":\"q\\n\",\"side\":\"back\"}"
  pub undecided : answer_text (codes "q\n") two_names (Undecided (causes.WideRate 0)) ≡ codes "{\"answer\":\"undecided\",\"at\":\"R\",\"cause\":\"width\",\"question\":\"q\\n\"}"
  pub scale : answer_text (codes "q\n") two_names (Undecided causes.Scale) ≡ codes "{\"answer\":\"undecided\",\"at\":\"0\",\"cause\":\"scale\",\"question\":\"q\\n\"}"
  pub region : answer_text (codes "q\n") two_names (Region ((marks.Plain, (1, pos 1) ∷ (4, negsuc 1) ∷ []) ∷ []))
      ≡ codes "{\"answer\":\"region\",\"question\":\"q\\n\",\"rows\":[{\"mark\":\"plain\",\"row\":[[1,\"1\"],[4,\"-2\"]]}]}"
  pub contained : answer_text (codes "q\n") two_names (Contained (3 ∷ []) (record { scale = pos 1; weights = [] } ∷ []))
      ≡ codes "{\"answer\":\"contained\",\"parts\":[3],\"proofs\":[{\"scale\":\"1\",\"weights\":[]}],\"question\":\"q\\n\"}"
  pub open_search : answer_text (codes "q\n") two_names (Open 256) ≡ codes "{\"answer\":\"open\",\"question\":\"q\\n\",\"tried\":256}"
