-- Steps of the text of a code.
use Rattle.std.proofs.Common.{◌≡◌, ℕ, ◌+◌, ◌<◌, ◌≤◌, ◌||◌, if◌then◌else◌, List, [], ◌∷◌, ◌++◌, length, map, drop, get_or, Bool, true, false, Some, refl, sym, ap, ◌∙◌, append_assoc, codes, arith}
use Rattle.std.specs.List.{slice_get}
use Rattle.std.proofs.lemmas.Option.{get_or_from_slice_get}
use Rattle.it_codes.specs.Codes.{functions_of, variables_of}
use Rattle.it_codes.specs.declared.codes.Variable.{Variable}
use Rattle.it_question.specs.Questions.{BodyView}
use Rattle.it_space.specs.Answers.{AnswerView}
use Rattle.it_space.proofs.ListLemmas.{drop_item}
use Rattle.it_certificate.specs.CodeReading.{HasCodedShape, ReportedCodeView}
use Rattle.it_print.specs.Lines.{joined_texts, or_zero}
use Rattle.it_print.proofs.LineLemmas.{or_zero_unless, sum_step}
use Rattle.it_tell.specs.CodeTexts.{code_text, function_text, symbol_texts, variable_text, variable_texts}
use Rattle.it_tell.specs.Steps.{IsAnsweredText, IsCodedText}
use Rattle.it_tell.specs.Tellings.{indented_line}
use Rattle.it_tell.specs.declared.settings.Options.{Options}

-- a function before its first symbol
pub function_begins : (cs : List ℕ) (out : List ℕ) → out ++ joined_texts (codes " + ") false (or_zero (symbol_texts 1 cs)) ≡ out ++ function_text cs
unfolding function_text
function_begins cs out = refl

-- a function, and the symbols that are still to write
pub term_step : (some wanted : Bool) (text : List ℕ) (rest : List (List ℕ)) (out : List ℕ)
    → (out ++ joined_texts (codes " + ") some (if wanted then text ∷ [] else [])) ++ joined_texts (codes " + ") (some || wanted) (or_zero_unless (some || wanted) rest)
    ≡ out ++ joined_texts (codes " + ") some (or_zero_unless some ((if wanted then text ∷ [] else []) ++ rest))
term_step some wanted text rest out = sum_step some wanted text rest out

-- one more text
pub text_step : (separator text : List ℕ) (rest : List (List ℕ)) (some : Bool) (out : List ℕ)
    → (out ++ (if some then separator else []) ++ text) ++ joined_texts separator true rest ≡ out ++ joined_texts separator some (text ∷ rest)
text_step separator text rest some out =
    ap (λ (t : List ℕ). t ++ joined_texts separator true rest) (append_assoc out (if some then separator else []) text)
    ∙ append_assoc out ((if some then separator else []) ++ text) (joined_texts separator true rest)

-- a function of what each item is seen as
seen_as : {A B C : Type 0} (f : A → B) (g : B → C) (xs : List A) → map (λ x. g (f x)) xs ≡ map g (map f xs)
seen_as f g [] = refl
seen_as f g (x ∷ xs) = ap (λ ys. g (f x) ∷ ys) (seen_as f g xs)

-- the texts of a variable's functions
pub functions_same : (v : Variable) → joined_texts (codes ", ") false (map (λ f. function_text f.items) v.functions.items) ≡ joined_texts (codes ", ") false (map function_text (functions_of v))
functions_same v = ap (joined_texts (codes ", ") false) (seen_as (λ f. f.items) function_text v.functions.items)

-- one more variable of a code
pub variable_step : (names : List (List ℕ)) (variables : List Variable) (i : ℕ) (v : Variable) (name : List ℕ) (some : Bool) (out : List ℕ)
    → i < length variables → v ≡ get_or variables i v → slice_get names i ≡ Some name
    → (out ++ (if some then codes ", " else []) ++ variable_text name (functions_of v)) ++ joined_texts (codes ", ") true (variable_texts names (i + 1) (map functions_of (drop (i + 1) variables)))
    ≡ out ++ joined_texts (codes ", ") some (variable_texts names i (map functions_of (drop i variables)))
variable_step names variables i v name some out h is named =
    text_step (codes ", ") (variable_text name (functions_of v)) (variable_texts names (i + 1) (map functions_of (drop (i + 1) variables))) some out
    ∙ ap (λ (n : List ℕ). out ++ joined_texts (codes ", ") some (variable_text n (functions_of v) ∷ variable_texts names (i + 1) (map functions_of (drop (i + 1) variables)))) (sym (get_or_from_slice_get names i name [] named))
    ∙ ap (λ xs. out ++ joined_texts (codes ", ") some (variable_texts names i (map functions_of xs))) (sym (drop_item variables i v h is))

-- a code has as many variables as there are names
pub named_variables : (q : BodyView) (a : AnswerView) (c : ReportedCodeView) → HasCodedShape q a c
    → variables_of c.code ≤ length q.names.variables
named_variables q a c h = omega (arith, h.code.variables)

-- the line of a code below those of an answer
pub coded_appended : (options : Options) (k : ℕ) (q : BodyView) (a : AnswerView) (c : ReportedCodeView) (answered text : List ℕ)
    → IsAnsweredText options k q a answered
    → text ≡ answered ++ indented_line (code_text q.names.variables c) → IsCodedText options k q a c text
unfolding IsAnsweredText IsCodedText
coded_appended options k q a c answered text told is =
    (told.0, (told.1.0, is ∙ ap (λ t. t ++ indented_line (code_text q.names.variables c)) told.1.1))
