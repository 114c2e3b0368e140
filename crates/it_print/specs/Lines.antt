-- The lines of an answer, as bytes.
use Rattle.std.specs.Prelude.{◌≡◌, ℕ, ◌+◌, ◌-◌, ◌^◌, ◌<◌, ◌≤◌, ℤ, pos, unsigned_abs, int_lt, map, filter, flat_map, All, List, [], ◌∷◌, ◌++◌, length, Bool, true, false, ◌&&◌, ◌||◌, if◌then◌else◌, ◌==◌, codes, decimal, drop, nat_le, nat_lt, slice_index_or, bit_or}
use Rattle.std.specs.Fmt.{signed_decimal}
use Rattle.it_space.specs.Sets.{has_member}
use Rattle.it_space.specs.Answers.{AnswerView, CertificateView, IfRate, is_nonzero_weight, mark_word}
use Rattle.it_space.specs.Answers.AnswerView.{Yes, No, Undecided, Region, Contained, Open}
use Rattle.it_space.specs.declared.answers.Answer.{Answer}
use Rattle.it_space.specs.declared.answers.Answer.TheVariants as answers
use Rattle.it_space.specs.declared.answers.Cause.{Cause}
use Rattle.it_space.specs.declared.answers.Cause.TheVariants.{Pivots, Width, Scale, Rows, WideRate}
use Rattle.it_space.specs.declared.answers.Certificate.{Certificate}
use Rattle.it_space.specs.declared.answers.Mark.{Mark}
use Rattle.it_space.specs.Rows.{Terms, point_of}
use Rattle.it_space.specs.Spaces.{most_coordinates}
use Rattle.it_problems.specs.declared.problems.Constraint.{Constraint}
use Rattle.it_problems.specs.declared.problems.Kind.{Kind}
use Rattle.it_problems.specs.declared.problems.Kind.TheVariants.{Inequality, Equation}
use Rattle.it_problems.specs.declared.problems.Origin.{Origin}
use Rattle.it_problems.specs.declared.problems.Origin.TheVariants.{Given, Rate}
use Rattle.it_polymatroid.specs.Elementals.{Elemental, Conditional, Mutual, elementals, elemental_at}
use Rattle.it_syntax.specs.NamesViews.{NamesView}
use Rattle.it_question.specs.Questions.{BodyView, VerbView, Contain}
use Rattle.it_canon.specs.TrueLines.{variable_count}
use Rattle.it_question.specs.ProblemLines.{problem_names}
use Rattle.it_question.specs.QuestionLimits.{most_names}

-- texts with a separator between them, and before them if `some`: another text stands before
abbrev pub joined_texts : List ℕ → Bool → List (List ℕ) → List ℕ
joined_texts separator some [] = []
joined_texts separator some (text ∷ texts) = (if some then separator else []) ++ text ++ joined_texts separator true texts

-- the names of a set's members, from variable i on
abbrev pub members_from : ℕ → List (List ℕ) → ℕ → List (List ℕ)
members_from i [] set = []
members_from i (name ∷ names) set = (if has_member set i then name ∷ [] else []) ++ members_from (i + 1) names set

-- the names of a set's members in order of declaration, with `,` between them
unfoldable pub set_text : List (List ℕ) → ℕ → List ℕ
set_text names set = joined_texts (codes ",") false (members_from 0 names set)

-- what is given, after a bar, or nothing
abbrev pub given_set_text : List (List ℕ) → ℕ → List ℕ
given_set_text names set = if set == 0 then [] else codes "|" ++ set_text names set

-- an elemental inequality as `H(X|Y,Z)` or `I(X;Y|Z)`
unfoldable pub elemental_text : List (List ℕ) → Elemental → List ℕ
elemental_text names (Conditional i) =
    codes "H(" ++ set_text names (2 ^ i) ++ given_set_text names (2 ^ length names - 1 - 2 ^ i) ++ codes ")"
elemental_text names (Mutual i j k) =
    codes "I(" ++ set_text names (2 ^ i) ++ codes ";" ++ set_text names (2 ^ j) ++ given_set_text names k ++ codes ")"

-- the origin of a constraint: `given J`, `given J.I` where the line gives several, or `row J`
unfoldable pub origin_text : Origin → List ℕ
origin_text (Given line part parts) = codes "given " ++ decimal line ++ (if nat_lt 1 parts then codes "." ++ decimal part else [])
origin_text (Rate line) = codes "row " ++ decimal line

-- the origins of constraints, in order
abbrev pub origins_of : List Constraint → List Origin
origins_of cs = map (λ c. c.origin) cs

-- generator number g, by the variables' names and the origins of the constraints
unfoldable pub generator_text : List (List ℕ) → List Origin → ℕ → List ℕ
generator_text names origins g =
    if nat_lt g (length (elementals (length names))) then elemental_text names (elemental_at (length names) g)
    else origin_text (slice_index_or origins (g - length (elementals (length names))) (Rate 0))

-- a weight before its generator
unfoldable pub weight_text : List (List ℕ) → List Origin → ℕ × ℤ → List ℕ
weight_text names origins weight = signed_decimal weight.1 ++ codes " " ++ generator_text names origins weight.0

-- the texts, or `0` alone where there are none
abbrev pub or_zero : List (List ℕ) → List (List ℕ)
or_zero [] = codes "0" ∷ []
or_zero texts = texts

-- the weights other than 0 of a certificate with ` + ` between them, or `0`
unfoldable pub sum_text : List (List ℕ) → List Origin → List (ℕ × ℤ) → List ℕ
sum_text names origins weights = joined_texts (codes " + ") false (or_zero (map (weight_text names origins) (filter is_nonzero_weight weights)))

-- a certificate: the scale, and the sum
unfoldable pub certificate_text : List (List ℕ) → List Origin → CertificateView → List ℕ
certificate_text names origins w = signed_decimal w.scale ++ codes " : " ++ sum_text names origins w.weights

-- certificates with ` and ` between them
abbrev pub proofs_text : List (List ℕ) → List Origin → List CertificateView → List ℕ
proofs_text names origins ws = joined_texts (codes " and ") false (map (certificate_text names origins) ws)

-- a coordinate as `h(X,Y)`, or as a rate's name
unfoldable pub coordinate_text : NamesView → ℕ → List ℕ
coordinate_text v c =
    if nat_lt c (2 ^ length v.variables) then codes "h(" ++ set_text v.variables c ++ codes ")" else slice_index_or v.rates (c - 2 ^ length v.variables) []

-- whether each variable that isn't a member of the set s raises its value at p, of the variables with these names, from variable i on
abbrev pub each_raises : ℕ → List (List ℕ) → (ℕ → ℤ) → ℕ → Bool
each_raises i [] p s = true
each_raises i (name ∷ names) p s = (has_member s i || int_lt (p s) (p (bit_or s (2 ^ i)))) && each_raises (i + 1) names p s

-- Whether a line has the value at coordinate c. Of a question with more names than usual it has those of the rates and of the point's
-- closed sets, which each further variable raises: any other set has the value of the least of them around it. (J. Oxley, "Matroid Theory",
-- 2011, calls these sets flats.)
abbrev pub is_told : NamesView → List ℤ → ℕ → Bool
is_told v values c = nat_le (length v.variables) most_names || (nat_le (2 ^ length v.variables) c || each_raises 0 v.variables (point_of values) c)

-- the coordinates from c on with their values, those that f tells
abbrev pub pair_texts : NamesView → (ℕ → Bool) → ℕ → List ℤ → List (List ℕ)
pair_texts v f c [] = []
pair_texts v f c (x ∷ xs) = (if f c then (coordinate_text v c ++ codes "=" ++ signed_decimal x) ∷ [] else []) ++ pair_texts v f (c + 1) xs

-- the values of a point with a blank between them
unfoldable pub values_text : NamesView → List ℤ → List ℕ
values_text v values = joined_texts (codes " ") false (pair_texts v (is_told v values) 1 values)

-- the cause why a question is undecided
unfoldable pub cause_text : NamesView → Cause → List ℕ
cause_text v (Pivots steps) = codes "pivots " ++ decimal steps
cause_text v (Width step) = codes "width " ++ decimal step
cause_text v Scale = codes "scale"
cause_text v (Rows r) = codes "rows " ++ slice_index_or v.rates r []
cause_text v (WideRate r) = codes "width " ++ slice_index_or v.rates r []

-- the sign of a term that is the first or not, and negative or not: with blanks round it after another term
abbrev pub sign_text : Bool → Bool → List ℕ
sign_text true true = codes "-"
sign_text true false = []
sign_text false true = codes " - "
sign_text false false = codes " + "

-- a term, the first or a later one: its sign, its coefficient without it unless it is 1, and its coordinate
unfoldable pub term_text : NamesView → Bool → ℕ × ℤ → List ℕ
term_text v is_first t =
    sign_text is_first (int_lt t.1 (pos 0)) ++ (if unsigned_abs t.1 == 1 then [] else decimal (unsigned_abs t.1) ++ codes " ") ++ coordinate_text v t.0

-- terms in order; `is_first` says whether the first of them is the first of its row
abbrev pub terms_text : NamesView → Bool → Terms → List ℕ
terms_text v is_first [] = []
terms_text v is_first (t ∷ ts) = term_text v is_first t ++ terms_text v false ts

-- ` >= 0` or ` = 0`, by the kind of a row
abbrev pub kind_text : Kind → List ℕ
kind_text Inequality = codes " >= 0"
kind_text Equation = codes " = 0"

-- the terms of a row by coordinate, or `0`, and what it is to be: at least 0, or 0
unfoldable pub row_text : NamesView → Kind → Terms → List ℕ
row_text v kind terms = (if length terms == 0 then codes "0" else terms_text v true terms) ++ kind_text kind

-- the line of a row of the region that answers question k
unfoldable pub row_line : ℕ → NamesView → Mark × Terms → List ℕ
row_line k v row = decimal k ++ codes " row " ++ mark_word row.0 ++ codes " " ++ row_text v Inequality row.1 ++ codes "\n"

-- the line with the number of a region's rows, and those of the rows
abbrev pub region_lines : ℕ → NamesView → List (Mark × Terms) → List ℕ
region_lines k v rows = decimal k ++ codes " region " ++ decimal (length rows) ++ codes "\n" ++ flat_map (row_line k v) rows

-- `undecided`, and its cause
unfoldable pub undecided_line : ℕ → NamesView → Cause → List ℕ
undecided_line k v cause = decimal k ++ codes " undecided " ++ cause_text v cause ++ codes "\n"

-- the names of the variables of a question's problem
abbrev pub variable_names : BodyView → List (List ℕ)
variable_names q = (problem_names q).variables

-- the names of the auxiliary variables that a containment asks for
abbrev pub auxiliary_names : NamesView → VerbView → List (List ℕ)
auxiliary_names v (Contain first second tries) = drop (length v.variables) second.names.variables
auxiliary_names v verb = []

-- the set that an auxiliary variable stands for, or `0` where it is empty
unfoldable pub part_for : List (List ℕ) → List ℕ → ℕ → List ℕ
part_for variables name set = codes " " ++ name ++ codes ":=" ++ (if set == 0 then codes "0" else set_text variables set)

-- the sets of the auxiliary variables, in order
abbrev pub parts_for : List (List ℕ) → List (List ℕ) → List ℕ → List ℕ
parts_for variables (name ∷ names) (set ∷ sets) = part_for variables name set ++ parts_for variables names sets
parts_for variables names sets = []

-- the sets for the auxiliary variables of a question's second region, by the names of the first one
abbrev pub substitution_text : BodyView → List ℕ → List ℕ
substitution_text q sets = parts_for (variable_names q) (auxiliary_names q.names q.verb) sets

-- `contained`, and the substitution
unfoldable pub contained_line : ℕ → BodyView → List ℕ → List ℕ
contained_line k q sets = decimal k ++ codes " contained" ++ substitution_text q sets ++ codes "\n"

-- `open`, and the number of candidates tried
unfoldable pub open_line : ℕ → ℕ → List ℕ
open_line k tried = decimal k ++ codes " open " ++ decimal tried ++ codes "\n"

-- the rate of a cause, where it has one, is one of m
abbrev pub IsCauseOf : ℕ → Cause → Type 0
IsCauseOf m cause = IfRate (λ r. r < m) cause

-- the coordinates of a row are those of the names
abbrev pub IsRowOver : NamesView → Terms → Type 0
IsRowOver v terms = All (λ t. t.0 < 2 ^ length v.variables + length v.rates) terms

-- the lines of an answer to question k, with the origins of its constraints; a region's rows have a line each
abbrev pub answer_line : ℕ → BodyView → List Origin → AnswerView → List ℕ
answer_line k q origins (Yes ws) = decimal k ++ codes " yes " ++ proofs_text (variable_names q) origins ws ++ codes "\n"
answer_line k q origins (No is_back values) = decimal k ++ codes " no " ++ values_text (problem_names q) values ++ codes "\n"
answer_line k q origins (Undecided cause) = undecided_line k (problem_names q) cause
answer_line k q origins (Region rows) = region_lines k (problem_names q) rows
answer_line k q origins (Contained parts proofs) = contained_line k q parts
answer_line k q origins (Open tried) = open_line k tried

-- the generators of these certificates are there, of n variables and m constraints
abbrev pub AreListed : ℕ → ℕ → List Certificate → Type 0
AreListed n m proofs = All (λ c. All (λ w. w.0 < length (elementals n) + m) c.weights.items) proofs

-- The answer can be printed with m constraints: the generators of each certificate are there, the point's values, the cause's rate and
-- the rows are of the question's names, and there is a set for each auxiliary variable.
abbrev pub IsPrintable : BodyView → ℕ → Answer → Type 0
IsPrintable q m (answers.Yes proofs) = AreListed (variable_count q) m proofs.items
IsPrintable q m (answers.No back point) = (length point < 2 ^ variable_count q + length (problem_names q).rates) × (length point ≤ most_coordinates)
IsPrintable q m (answers.Undecided cause) = IsCauseOf (length (problem_names q).rates) cause
IsPrintable q m (answers.Region rows) = All (λ row. IsRowOver (problem_names q) row.1) rows.items
IsPrintable q m (answers.Contained parts proofs) = (length parts.items ≡ length (auxiliary_names q.names q.verb)) × AreListed (variable_count q) m proofs.items
IsPrintable q m (answers.Open tried) = Unit {0}
