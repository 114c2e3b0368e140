-- The linear code that a report line claims for a point: its keys, each as far as its shape goes, and the shape of what is
-- read.
use Rattle.std.specs.Prelude.{◌≡◌, ℕ, ◌+◌, ◌^◌, ◌≤◌, ◌==◌, List, length, Bool, false, ◌&&◌, if◌then◌else◌, codes, Option, Some, None, option_map, option_and_then, is_some, nat_le, Result, ok_or}
use Rattle.std.specs.Option.{option_map_or}
use Rattle.std.specs.Str.{bytes_eq}
use Rattle.serde_json.specs.Data.{Data}
use Rattle.serde_json.specs.Find.{get}
use Rattle.it_codes.specs.Codes.{CodeView, most_messages, size, variables_of}
use Rattle.it_codes.specs.declared.codes.Field.{Field}
use Rattle.it_codes.specs.declared.codes.Field.TheVariants.{Two, Three}
use Rattle.it_space.specs.Answers.{AnswerView}
use Rattle.it_space.specs.Answers.AnswerView.{No}
use Rattle.it_syntax.specs.NamesViews.{NamesView}
use Rattle.it_question.specs.Questions.{BodyView}
use Rattle.it_certificate.specs.declared.keys.Key.{Key}
use Rattle.it_certificate.specs.declared.keys.Key.TheVariants as keys
use Rattle.it_certificate.specs.AnswerShapes.{HasQuestionShape}
use Rattle.it_certificate.specs.Numerals.{below}
use Rattle.it_certificate.specs.Parts.{count_at, list_at, of_length, text_of}

-- a code, and what one symbol counts in the values of a point
pub record ReportedCodeView : Type 0 where
  pub code : CodeView
  pub times : ℕ

-- ---- as it is read

-- whether the word of the answer is `no` and there is a code
unfoldable pub tells_code : Data → Bool
tells_code d = option_map_or (λ text. bytes_eq text (codes "no") && is_some (get (codes "code") d)) (text_of (get (codes "answer") d)) false

-- the field of `n` elements
abbrev pub field_of : ℕ → Option Field
field_of n = if n == 2 then Some Two else if n == 3 then Some Three else None

-- the most symbols that a message has, so that there are at most 4,096 messages
abbrev pub most_symbols : Field → ℕ
most_symbols Two = 12
most_symbols Three = 7

-- a number from 1
abbrev pub some_of : ℕ → Option ℕ
some_of n = if nat_le 1 n then Some n else None

-- the field
abbrev pub field_at : Data → Option Field
field_at d = option_and_then field_of (option_and_then count_at (get (codes "field") d))

-- the number of symbols of a message
abbrev pub symbols_at : Field → Data → Option ℕ
symbols_at field d = option_and_then (below (most_symbols field + 1)) (option_and_then count_at (get (codes "symbols") d))

-- what one symbol counts in the values of a point
abbrev pub times_at : Data → Option ℕ
times_at d = option_and_then some_of (option_and_then count_at (get (codes "times") d))

-- an element of a field with q elements
unfoldable pub coefficient_at : ℕ → Data → Option ℕ
coefficient_at q d = option_and_then (below q) (count_at d)

-- a linear function of k symbols, by its coefficients
unfoldable pub function_at : ℕ → ℕ → Data → Option (List ℕ)
function_at q k d = option_and_then (of_length k) (list_at (coefficient_at q) (Some d))

-- a variable, by its functions
unfoldable pub variable_at : ℕ → ℕ → Data → Option (List (List ℕ))
variable_at q k d = list_at (function_at q k) (Some d)

-- `n` variables
unfoldable pub variables_at : ℕ → ℕ → ℕ → Data → Option (List (List (List ℕ)))
variables_at q k n d = option_and_then (of_length n) (list_at (variable_at q k) (get (codes "functions") d))

-- a code of `n` variables
unfoldable pub code_in : ℕ → Data → Option ReportedCodeView
code_in n d =
    option_and_then (λ field.
    option_and_then (λ symbols.
    option_and_then (λ variables.
    option_map (λ times. record { code = record { field = field; symbols = symbols; variables = variables }; times = times }) (times_at d))
    (variables_at (size field) symbols n d)) (symbols_at field d)) (field_at d)

-- the code of a line about a question with these names
unfoldable pub names_code : NamesView → Data → Result ReportedCodeView Key
names_code v d = ok_or (option_and_then (code_in (length v.variables)) (get (codes "code") d)) keys.Code

-- ---- what is read

-- the shape of a code of `n` variables, right or not
pub record HasCodeShape (n : ℕ) (c : ReportedCodeView) : Type 0 where
  pub variables : variables_of c.code ≡ n
  pub messages : size c.code.field ^ c.code.symbols ≤ most_messages
  pub times : 1 ≤ c.times

-- the answer is a no
abbrev pub IsNo : AnswerView → Type 0
IsNo (No back values) = Unit {0}
IsNo answer = ⊥

-- the shape of an answer with a code that a question wants, right or not: a no, and a code of the question's variables
pub record HasCodedShape (q : BodyView) (answer : AnswerView) (c : ReportedCodeView) : Type 0 where
  pub answered : HasQuestionShape q answer
  pub no : IsNo answer
  pub code : HasCodeShape (length q.names.variables) c
