-- The reading of a report line: what it is about and its answer, or the first key that is missing or of another shape.
use Rattle.std.specs.Prelude.{◌≡◌, ℕ, List, length, map, Bool, false, if◌then◌else◌, codes, Option, Some, None, option_map, option_and_then, Result, Ok, Err, ok_or, IsUtf8}
use Rattle.std.specs.Option.{option_map_or}
use Rattle.std.specs.Str.{bytes_eq}
use Rattle.serde_json.specs.Data.{Data}
use Rattle.serde_json.specs.Find.{get}
use Rattle.serde_json.specs.Read.{read}
use Rattle.it_space.specs.Answers.{AnswerView, CertificateView, answer_view, certificate_view}
use Rattle.it_space.specs.Answers.{AnswerView as answers}
use Rattle.it_space.specs.Spaces.{size_of}
use Rattle.it_syntax.specs.NamesViews.{NamesView}
use Rattle.it_question.specs.declared.sizes.FileLimits.{FileLimits}
use Rattle.it_question.specs.Limits.{IsQuestion}
use Rattle.it_question.specs.Questions.{VerbView, Prove, Eliminate, Contain}
use Rattle.it_demand.specs.QuestionSpaces.{space_of}
use Rattle.it_demand.specs.Targets.{targets}
use Rattle.it_certificate.specs.declared.keys.Key.{Key}
use Rattle.it_certificate.specs.declared.keys.Key.TheVariants as keys
use Rattle.it_certificate.specs.declared.keys.ReportFault.{ReportFault}
use Rattle.it_certificate.specs.declared.keys.ReportFault.TheVariants as faults
use Rattle.it_ratio.specs.BestViews.{BestView, best_view}
use Rattle.it_certificate.specs.declared.kinds.FactorKind.{FactorKind}
use Rattle.it_certificate.specs.declared.kinds.AnswerKind.{AnswerKind}
use Rattle.it_certificate.specs.declared.kinds.AnswerKind.TheVariants.{Yes, No, Undecided, Region, Contained, Open}
use Rattle.it_certificate.specs.declared.types.Reported.{Reported}
use Rattle.it_certificate.specs.declared.types.Reported.TheVariants as reported
use Rattle.it_certificate.specs.Parts.{text_of, answer_kind_at, count_at, proofs_at, rows_at}
use Rattle.it_certificate.specs.AnswerReading.{and_then, no_at, undecided_at, contained_at}
use Rattle.it_certificate.specs.AnswerShapes.{HasQuestionShape}
use Rattle.it_certificate.specs.FactorReading.{factor_kind_at, verb_best}
use Rattle.it_certificate.specs.FactorShapes.{HasFactorShape}
use Rattle.it_certificate.specs.CodeReading.{HasCodedShape, ReportedCodeView, names_code, tells_code}
use Rattle.it_certificate.specs.OriginReading.{HasDerivedShape, answer_origins, tells_origins}
use Rattle.it_certificate.specs.Bounds.{BoundsView, HasBoundsShape, bounds_view, verb_bounds}
use Rattle.it_certificate.specs.Obligations.{obligation_count}
use Rattle.it_certificate.specs.Sources.{Source, IsSourceAt, asked, source_key}

-- ---- the answers that each verb gives

-- The answer of this kind to a question of this verb, or the first key at fault. The sets of a containment are over the variables of
-- the first region, one for each auxiliary of the second.
abbrev pub verb_answer : NamesView → VerbView → AnswerKind → Data → Result AnswerView Key
verb_answer v (Prove r) Yes d = ok_or (option_map answers.Yes (proofs_at (length (targets (length v.variables) r)) d)) keys.Proofs
verb_answer v (Prove r) No d = no_at (size_of (space_of v)) r.sign d
verb_answer v (Prove r) Undecided d = undecided_at v.rates d
verb_answer v (Eliminate rates) Undecided d = undecided_at v.rates d
verb_answer v (Eliminate rates) Region d = ok_or (option_map answers.Region (rows_at (size_of (space_of v)) d)) keys.Rows
verb_answer v (Contain first second tries) Contained d = contained_at second.auxiliaries (length first.names.variables) (obligation_count second) d
verb_answer v (Contain first second tries) Open d = ok_or (option_map answers.Open (option_and_then count_at (get (codes "tried") d))) keys.Tried
verb_answer v verb kind d = Err keys.Answer

-- ---- the report

-- what a line says
-- `Answered`: an answer to what the line is about
-- `Coded`: a no, with the code claimed for its point
-- `Derived`: a region, with a certificate for each of its rows
-- `Factored`: what is found of the factors of the relation
-- `Bounded`: an outer bound
-- `Misfit`: that a question can't have what is asked for, which claims nothing
pub data Reading : Type 0 where
  Answered : (source : Source) (answer : AnswerView) → Reading
  Coded : (source : Source) (answer : AnswerView) (code : ReportedCodeView) → Reading
  Derived : (source : Source) (answer : AnswerView) (origins : List CertificateView) → Reading
  Factored : (source : Source) (best : BestView) → Reading
  Bounded : (source : Source) (bounds : BoundsView) → Reading
  Misfit : Reading

-- whether the word of the answer is `misfit`
unfoldable pub tells_misfit : Data → Bool
tells_misfit d = option_map_or (λ text. bytes_eq text (codes "misfit")) (text_of (get (codes "answer") d)) false

-- whether the word of the answer is `outer`
unfoldable pub tells_outer : Data → Bool
tells_outer d = option_map_or (λ text. bytes_eq text (codes "outer")) (text_of (get (codes "answer") d)) false

-- the answer of this kind to the question that is asked
abbrev pub answer_to : Source → AnswerKind → Data → Result AnswerView Key
answer_to source kind d = verb_answer (asked source).body.names (asked source).body.verb kind d

-- what is found of this kind of the factors that the question asks for
abbrev pub best_to : Source → FactorKind → Data → Result BestView Key
best_to source kind d = verb_best (asked source).body.names (asked source).body.verb kind d

-- the code of the variables of the question that is asked
abbrev pub code_to : Source → Data → Result ReportedCodeView Key
code_to source d = names_code (asked source).body.names d

-- the bounds of the question that is asked
abbrev pub bounds_to : Source → Data → Result BoundsView Key
bounds_to source d = verb_bounds (asked source).body.names (asked source).body.verb d

-- The reading of a line without code, origins, factors or bounds. `own` is what it is about, if anything. The keys are judged
-- in this order: `answer`, that of what the line is about, `answer` again by the verb, and those that the answer needs.
abbrev pub answer_of : Option Source → Data → Result Reading Key
answer_of own d =
    and_then (ok_or (answer_kind_at d) keys.Answer) (λ kind.
    and_then (ok_or own (source_key d)) (λ source.
    and_then (answer_to source kind d) (λ answer. Ok (Answered source answer))))

-- the reading of a no with a code: in the same order, and then its code
abbrev pub coded_of : Option Source → Data → Result Reading Key
coded_of own d =
    and_then (ok_or own (source_key d)) (λ source.
    and_then (answer_to source No d) (λ answer.
    and_then (code_to source d) (λ code. Ok (Coded source answer code))))

-- the reading of a region with origins: in the same order, and then its origins
abbrev pub derived_of : Option Source → Data → Result Reading Key
derived_of own d =
    and_then (ok_or own (source_key d)) (λ source.
    and_then (answer_to source Region d) (λ answer.
    and_then (answer_origins answer d) (λ origins. Ok (Derived source answer origins))))

-- the reading of a line about factors of this kind: in the same order
abbrev pub best_of : Option Source → FactorKind → Data → Result Reading Key
best_of own kind d =
    and_then (ok_or own (source_key d)) (λ source.
    and_then (best_to source kind d) (λ best. Ok (Factored source best)))

-- the reading of an outer bound: in the same order
abbrev pub bounded_of : Option Source → Data → Result Reading Key
bounded_of own d =
    and_then (ok_or own (source_key d)) (λ source.
    and_then (bounds_to source d) (λ bounds. Ok (Bounded source bounds)))

-- the reading by the kind, if the line is about factors; else by whether there is a code, or origins
abbrev pub reading_by : Option Source → Option FactorKind → Data → Result Reading Key
reading_by own (Some kind) d = best_of own kind d
reading_by own None d = if tells_code d then coded_of own d else if tells_origins d then derived_of own d else answer_of own d

-- the reading by the word of the answer; of a misfit nothing else is read
unfoldable pub report_of : Option Source → Data → Result Reading Key
report_of own d = if tells_misfit d then Ok Misfit else if tells_outer d then bounded_of own d else reading_by own (factor_kind_at d) d

-- the reading of a JSON value, where what it is about is within these limits
pub record ReadsAs (limits : FileLimits) (value : Data) (r : Result Reading Key) : Type 0 where
  pub own : Option Source
  pub source : IsSourceAt limits value own
  pub is : report_of own value ≡ r

-- the line is JSON, and this is its reading within these limits
pub record ReadsReport (limits : FileLimits) (line : List ℕ) (r : Result Reading Key) : Type 0 where
  pub value : Data
  pub utf8 : IsUtf8 line
  pub is_json : read line ≡ Some value
  pub reads : ReadsAs limits value r

-- what was read of a line, by the question that is asked
abbrev pub IsReported : Reading → Reported → Type 0
IsReported (Answered source a) (reported.Answered question answer) = (asked source ≡ question) × (a ≡ answer_view answer)
IsReported (Coded source a c) (reported.Coded question answer code) = (asked source ≡ question) × (a ≡ answer_view answer) × (c ≡ code)
IsReported (Derived source a ws) (reported.Derived question answer origins) = (asked source ≡ question) × (a ≡ answer_view answer) × (ws ≡ map certificate_view origins.items)
IsReported (Factored source b) (reported.Factored question best) = (asked source ≡ question) × (b ≡ best_view best)
IsReported (Bounded source b) (reported.Bounded question bounds) = (asked source ≡ question) × (b ≡ bounds_view bounds)
IsReported Misfit reported.Misfit = Unit {0}
IsReported reading r = ⊥

-- what the reader of a line gives: what the line says, its first key at fault, that it has no JSON reading, or that allocation
-- failed
abbrev pub Reports : FileLimits → List ℕ → Result Reported ReportFault → Type 0
Reports limits line (Ok r) = (reading : Reading) × IsReported reading r × ReadsReport limits line (Ok reading)
Reports limits line (Err (faults.Shape key)) = ReadsReport limits line (Err key)
Reports limits line (Err faults.NotJson) = IsUtf8 line → read line ≡ None
Reports limits line (Err faults.Memory) = Unit {0}

-- the question that was read is within the limits, and what was read with it fits it: an answer, one with its code or its
-- origins, what is found of its factors, or bounds
abbrev pub KeepsLimits : Reported → Type 0
KeepsLimits (reported.Answered q a) = IsQuestion q.body × HasQuestionShape q.body (answer_view a)
KeepsLimits (reported.Coded q a c) = IsQuestion q.body × HasCodedShape q.body (answer_view a) c
KeepsLimits (reported.Derived q a ws) = IsQuestion q.body × HasDerivedShape q.body (answer_view a) (map certificate_view ws.items)
KeepsLimits (reported.Factored q b) = IsQuestion q.body × HasFactorShape q.body (best_view b)
KeepsLimits (reported.Bounded q b) = IsQuestion q.body × HasBoundsShape q.body (bounds_view b)
KeepsLimits reported.Misfit = Unit {0}
