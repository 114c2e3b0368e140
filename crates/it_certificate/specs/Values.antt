-- An answer as a line of JSON, without the line's end.
use Rattle.std.specs.Prelude.{ℕ, ◌<◌, ℤ, List, [], map, filter, length, if◌then◌else◌, codes, decimal, nat_lt, slice_index_or, IsAscii}
use Rattle.std.specs.Fmt.{signed_decimal}
use Rattle.serde_json.specs.Data.{Data, Members, unsigned, number, string, array, object, item, no_items, member, no_members, put}
use Rattle.serde_json.specs.View.{items_of}
use Rattle.serde_json.specs.Written.{compact_text}
use Rattle.it_space.specs.Rows.{Terms}
use Rattle.it_space.specs.Answers.{AnswerView, CertificateView, IfRate, is_nonzero_weight, mark_word}
use Rattle.it_space.specs.Answers.AnswerView.{Yes, No, Undecided, Region, Contained, Open}
use Rattle.it_space.specs.declared.answers.Cause.{Cause}
use Rattle.it_space.specs.declared.answers.Cause.TheVariants.{Pivots, Width, Scale, Rows, WideRate}
use Rattle.it_space.specs.declared.answers.Mark.{Mark}
use Rattle.it_spans.specs.Drops.{DropView}
use Rattle.it_spans.specs.Spans.{StepView}
use Rattle.it_syntax.specs.NamesViews.{NamesView}
use Rattle.it_certificate.specs.Bounds.{BoundsView}
use Rattle.it_certificate.specs.declared.types.SourceText.{SourceText}
use Rattle.it_certificate.specs.declared.types.SourceText.TheVariants as texts

-- an integer as decimal text
abbrev pub integer_value : ℤ → Data
integer_value z = string (signed_decimal z)

-- a count as a number of JSON
abbrev pub count_value : ℕ → Data
count_value n = number (unsigned n)

-- an array with the value of each item
abbrev pub list_value : {A : Type 0} → (A → Data) → List A → Data
list_value f xs = array (items_of (map f xs))

-- a term or a weight: the number of its coordinate or generator, and its integer as text
unfoldable pub pair_value : ℕ × ℤ → Data
pair_value p = array (item (count_value p.0) (item (integer_value p.1) no_items))

-- a certificate; weights of 0 are left out
unfoldable pub proof_value : CertificateView → Data
proof_value c = object
    (member (codes "scale") (integer_value c.scale)
    (member (codes "weights") (list_value pair_value (filter is_nonzero_weight c.weights)) no_members))

-- a row with its mark
unfoldable pub row_value : Mark × Terms → Data
row_value r = object
    (member (codes "mark") (string (mark_word r.0))
    (member (codes "row") (list_value pair_value r.1) no_members))

-- the word of a cause
abbrev pub cause_word : Cause → List ℕ
cause_word (Pivots steps) = codes "pivots"
cause_word (Width step) = codes "width"
cause_word Scale = codes "scale"
cause_word (Rows r) = codes "rows"
cause_word (WideRate r) = codes "width"

-- the step, budget or rate of a cause, as text
abbrev pub step_or_rate_word : NamesView → Cause → List ℕ
step_or_rate_word v (Pivots steps) = decimal steps
step_or_rate_word v (Width step) = decimal step
step_or_rate_word v Scale = codes "0"
step_or_rate_word v (Rows r) = slice_index_or v.rates r []
step_or_rate_word v (WideRate r) = slice_index_or v.rates r []

-- the members of an answer, without what it is about; `v` has the names of the question that is asked, by which causes name
-- rates. The keys are in alphabetical order. The side is `back` where it is the second target that is violated.
unfoldable pub answer_members : NamesView → AnswerView → Members
answer_members v (Yes proofs) =
    member (codes "answer") (string (codes "yes"))
    (member (codes "proofs") (list_value proof_value proofs) no_members)
answer_members v (No back values) =
    member (codes "answer") (string (codes "no"))
    (member (codes "point") (list_value integer_value values)
    (member (codes "side") (string (if back then codes "back" else codes "forward")) no_members))
answer_members v (Undecided cause) =
    member (codes "answer") (string (codes "undecided"))
    (member (codes "at") (string (step_or_rate_word v cause))
    (member (codes "cause") (string (cause_word cause)) no_members))
answer_members v (Region rows) =
    member (codes "answer") (string (codes "region"))
    (member (codes "rows") (list_value row_value rows) no_members)
answer_members v (Contained parts proofs) =
    member (codes "answer") (string (codes "contained"))
    (member (codes "parts") (list_value count_value parts)
    (member (codes "proofs") (list_value proof_value proofs) no_members))
answer_members v (Open tried) =
    member (codes "answer") (string (codes "open"))
    (member (codes "tried") (count_value tried) no_members)

-- the answer to the question of a text
unfoldable pub answer_value : List ℕ → NamesView → AnswerView → Data
answer_value text v answer = object (put (codes "question") (string text) (answer_members v answer))

-- the line of that answer
unfoldable pub answer_text : List ℕ → NamesView → AnswerView → List ℕ
answer_text text v answer = compact_text (answer_value text v answer)

-- the members of a region with a certificate for each of its rows
abbrev pub derived_members : NamesView → List (Mark × Terms) → List CertificateView → Members
derived_members v rows origins = put (codes "origins") (list_value proof_value origins) (answer_members v (Region rows))

-- a region with a certificate for each of its rows as the answer to the question of a text
unfoldable pub derived_value : List ℕ → NamesView → List (Mark × Terms) → List CertificateView → Data
derived_value text v rows origins = object (put (codes "question") (string text) (derived_members v rows origins))

-- the line of a region with a certificate for each of its rows
unfoldable pub derived_text : List ℕ → NamesView → List (Mark × Terms) → List CertificateView → List ℕ
derived_text text v rows origins = compact_text (derived_value text v rows origins)

-- ---- lines about a question with copies or an outer bound, or about a sharing file

-- a byte of ASCII, or a question mark in its place
abbrev pub ascii_byte : ℕ → ℕ
ascii_byte b = if nat_lt b 128 then b else 63

-- bytes as a text in ASCII
abbrev pub ascii_string : List ℕ → Data
ascii_string bytes = string (map ascii_byte bytes)

-- the members of a question that can't have what is asked for, with the words of the reason
abbrev pub misfit_members : List ℕ → Members
misfit_members words = member (codes "answer") (string (codes "misfit")) (member (codes "cause") (ascii_string words) no_members)

-- a row without a mark
unfoldable pub unmarked_row_value : Terms → Data
unmarked_row_value r = object (member (codes "row") (list_value pair_value r) no_members)

-- a row that is dropped; weights of 0 are left out
unfoldable pub drop_value : DropView → Data
drop_value d = object
    (member (codes "row") (count_value d.row)
    (member (codes "scale") (integer_value d.proof.scale)
    (member (codes "weights") (list_value pair_value (filter is_nonzero_weight d.proof.weights)) no_members)))

-- a ray, and the rows that are dropped after it
unfoldable pub step_value : StepView → Data
step_value s = object
    (member (codes "drops") (list_value drop_value s.drops)
    (member (codes "point") (list_value integer_value s.ray) no_members))

-- the members of an outer bound, without what it is about
unfoldable pub bounds_members : BoundsView → Members
bounds_members b =
    member (codes "answer") (string (codes "outer"))
    (member (codes "proofs") (list_value proof_value b.proofs)
    (member (codes "rays") (list_value step_value b.steps)
    (member (codes "rows") (list_value unmarked_row_value b.rows) no_members)))

-- the texts of what a line is about: of a question, of a head and a question, or of a sharing file
pub data SourceTexts : Type 0 where
  OfQuestion : (text : List ℕ) → SourceTexts
  OfCopies : (head text : List ℕ) → SourceTexts
  OfSharing : (text : List ℕ) → SourceTexts

-- texts as contracts see them
abbrev pub source_texts : SourceText → SourceTexts
source_texts (texts.Question text) = OfQuestion text.now
source_texts (texts.Copies head text) = OfCopies head.now text.now
source_texts (texts.Sharing text) = OfSharing text.now

-- the members `ms` with those of what the line is about
abbrev pub with_source : SourceTexts → Members → Members
with_source (OfQuestion text) ms = put (codes "question") (ascii_string text) ms
with_source (OfCopies head text) ms = put (codes "question") (ascii_string text) (put (codes "copies") (ascii_string head) ms)
with_source (OfSharing text) ms = put (codes "sharing") (ascii_string text) ms

-- the line of the members `ms` about `source`
unfoldable pub report_text : SourceTexts → Members → List ℕ
report_text source ms = compact_text (object (with_source source ms))

-- ---- what can be written

-- one of the rates, and its name is ASCII
abbrev pub IsAsciiRate : NamesView → ℕ → Type 0
IsAsciiRate v r = (r < length v.rates) × IsAscii (slice_index_or v.rates r [])

-- the answers that can be written with these names
abbrev pub IsWritable : NamesView → AnswerView → Type 0
IsWritable v (Yes proofs) = Unit {0}
IsWritable v (No back values) = Unit {0}
IsWritable v (Undecided cause) = IfRate (IsAsciiRate v) cause
IsWritable v (Region rows) = Unit {0}
IsWritable v (Contained parts proofs) = Unit {0}
IsWritable v (Open tried) = Unit {0}
