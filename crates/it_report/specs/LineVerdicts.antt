-- The verdict on a line of a report, and its own line.
use Rattle.std.specs.Prelude.{◌≡◌, ℕ, ℤ, List, ◌++◌, Bool, true, false, not, codes, decimal}
use Rattle.std.specs.Fmt.{signed_decimal}
use Rattle.it_syntax.specs.NamesViews.{NamesView}
use Rattle.it_certificate.specs.declared.keys.Key.{Key}
use Rattle.it_certificate.specs.declared.keys.Key.TheVariants as keys
use Rattle.it_check.specs.declared.verdicts.Verdict.{Verdict}
use Rattle.it_check.specs.declared.verdicts.Verdict.TheVariants.{Valid, BadScale, UnknownGenerator, NegativeWeight, Width, Mismatch, BrokenElemental, UnmetConstraint, NotViolated}
use Rattle.it_print.specs.Lines.{coordinate_text}
use Rattle.it_spans.specs.declared.types.Fault.{Fault}
use Rattle.it_spans.specs.declared.types.Fault.TheVariants.{NoRow, Refused, TooMany, TooWide}
use Rattle.it_spans.specs.declared.types.HullVerdict.{HullVerdict}
use Rattle.it_spans.specs.declared.types.HullVerdict.TheVariants as hulls
use Rattle.it_report.specs.BoundsVerdicts.{is_hull}
use Rattle.it_report.specs.RowVerdicts.{is_valid}
use Rattle.it_report.specs.declared.factors.FactorVerdict.{FactorVerdict}
use Rattle.it_report.specs.declared.factors.FactorVerdict.TheVariants.{BelowOne, Checked, NotZero}

-- The verdict on a line of a report.
-- `NotJson`: it has no reading as JSON
-- `Shape`: this key is missing or of another shape
-- `Skipped`: its answer isn't judged
-- `Judged`: the verdict on its answer, with the names of its question
-- `Weighed`: the verdict on what it says of factors, with the names of its question
-- `OtherCode`: a no that is valid by itself, with a code by which the value of this set is another
-- `Hulled`: an outer bound whose rows and rays are valid by themselves, with this verdict on the rows as the hull of the rays
pub data LineVerdict : Type 0 where
  NotJson : LineVerdict
  Shape : (key : Key) → LineVerdict
  Skipped : LineVerdict
  Judged : (names : NamesView) (verdict : Verdict) → LineVerdict
  Weighed : (names : NamesView) (verdict : FactorVerdict) → LineVerdict
  OtherCode : (names : NamesView) (set : ℕ) → LineVerdict
  Hulled : (verdict : HullVerdict) → LineVerdict

-- nothing is wrong with what is said of factors
abbrev pub is_right : FactorVerdict → Bool
is_right (Checked verdict) = is_valid verdict
is_right verdict = false

-- all but the valid and the skipped ones
abbrev pub is_invalid : LineVerdict → Bool
is_invalid Skipped = false
is_invalid (Judged names verdict) = not (is_valid verdict)
is_invalid (Weighed names verdict) = not (is_right verdict)
is_invalid (Hulled verdict) = not (is_hull verdict)
is_invalid verdict = true

-- a key as it stands in reports
abbrev pub key_text : Key → List ℕ
key_text keys.Answer = codes "answer"
key_text keys.Sharing = codes "sharing"
key_text keys.Copies = codes "copies"
key_text keys.Question = codes "question"
key_text keys.Factor = codes "factor"
key_text keys.Proofs = codes "proofs"
key_text keys.Point = codes "point"
key_text keys.Side = codes "side"
key_text keys.Cause = codes "cause"
key_text keys.At = codes "at"
key_text keys.Phase = codes "phase"
key_text keys.Rows = codes "rows"
key_text keys.Parts = codes "parts"
key_text keys.Tried = codes "tried"
key_text keys.Rays = codes "rays"
key_text keys.Code = codes "code"
key_text keys.Origins = codes "origins"

-- a coordinate by the name of its set or rate, and the two numbers that differ there
abbrev pub mismatch_text : NamesView → ℕ → ℤ → ℤ → List ℕ
mismatch_text names c left right = coordinate_text names c ++ codes " " ++ signed_decimal left ++ codes " " ++ signed_decimal right

-- the words of a verdict on an answer; a coordinate has the name of its set or rate
unfoldable pub verdict_text : NamesView → Verdict → List ℕ
verdict_text names Valid = codes "valid"
verdict_text names (BadScale scale) = codes "invalid scale " ++ signed_decimal scale
verdict_text names (UnknownGenerator i) = codes "invalid generator " ++ decimal i
verdict_text names (NegativeWeight i) = codes "invalid negative " ++ decimal i
verdict_text names (Width place) = codes "invalid width " ++ decimal place
verdict_text names (Mismatch c left right) = codes "invalid mismatch " ++ mismatch_text names c left right
verdict_text names (BrokenElemental i x) = codes "invalid elemental " ++ decimal i ++ codes " " ++ signed_decimal x
verdict_text names (UnmetConstraint i x) = codes "invalid constraint " ++ decimal i ++ codes " " ++ signed_decimal x
verdict_text names (NotViolated x) = codes "invalid target " ++ signed_decimal x

-- the words of a verdict on what is said of factors
unfoldable pub factor_verdict_text : NamesView → FactorVerdict → List ℕ
factor_verdict_text names (BelowOne den) = codes "invalid factor " ++ signed_decimal den
factor_verdict_text names (Checked verdict) = verdict_text names verdict
factor_verdict_text names (NotZero x) = codes "invalid zero " ++ signed_decimal x

-- the first set whose value is another by a code
unfoldable pub other_text : NamesView → ℕ → List ℕ
other_text names set = codes "invalid code " ++ coordinate_text names set

-- what is wrong with the steps of a hull: with a ray, or with a row that is dropped after it, both by number from 0
abbrev pub fault_text : Fault → List ℕ
fault_text (TooMany ray) = codes "many " ++ decimal ray
fault_text (TooWide ray) = codes "wide " ++ decimal ray
fault_text (NoRow ray number) = codes "drop " ++ decimal ray ++ codes " " ++ decimal number
fault_text (Refused ray number verdict) = codes "drop " ++ decimal ray ++ codes " " ++ decimal number

-- the words of a verdict on rows as the hull of rays; a place is that of a row, counted from 0
unfoldable pub hull_text : HullVerdict → List ℕ
hull_text hulls.Valid = codes "valid"
hull_text (hulls.Faulty fault) = codes "invalid " ++ fault_text fault
hull_text (hulls.OtherRow place) = codes "invalid hull " ++ decimal place

-- the words about a line
abbrev pub words_of : LineVerdict → List ℕ
words_of NotJson = codes "invalid json"
words_of (Shape key) = codes "invalid shape " ++ key_text key
words_of Skipped = codes "skipped"
words_of (Judged names verdict) = verdict_text names verdict
words_of (Weighed names verdict) = factor_verdict_text names verdict
words_of (OtherCode names set) = other_text names set
words_of (Hulled verdict) = hull_text verdict

-- the line `words` about line `k`; lines are counted from 1
unfoldable pub numbered_line : ℕ → List ℕ → List ℕ
numbered_line k words = decimal k ++ codes " " ++ words ++ codes "\n"

-- the line of a verdict on line k
abbrev pub verdict_line : ℕ → LineVerdict → List ℕ
verdict_line k v = numbered_line k (words_of v)

-- the line of this verdict on line k, and whether it says `invalid`
abbrev pub IsLineOf : ℕ → LineVerdict → List ℕ → Bool → Type 0
IsLineOf k v text invalid = (text ≡ verdict_line k v) × (invalid ≡ is_invalid v)
