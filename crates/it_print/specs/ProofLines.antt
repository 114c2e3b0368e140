-- The lines of an answer with the rows that its proofs use, as bytes.
use Rattle.std.specs.Prelude.{ℕ, ℤ, List, [], ◌∷◌, ◌++◌, length, filter, flat_map, codes, decimal}
use Rattle.std.specs.Fmt.{signed_decimal}
use Rattle.it_space.specs.Answers.{AnswerView, CertificateView, is_nonzero_weight}
use Rattle.it_space.specs.Answers.AnswerView.{Yes, Contained}
use Rattle.it_space.specs.Rows.{Terms}
use Rattle.it_problems.specs.declared.problems.Constraint.{Constraint}
use Rattle.it_problems.specs.declared.problems.Kind.TheVariants.{Inequality}
use Rattle.it_problems.specs.declared.problems.Origin.{Origin}
use Rattle.it_elemental.specs.Generators.{Generator, generator_at, generator_list}
use Rattle.it_syntax.specs.NamesViews.{NamesView}
use Rattle.it_question.specs.Questions.{BodyView}
use Rattle.it_question.specs.ProblemLines.{problem_names}
use Rattle.it_print.specs.Lines.{answer_line, origins_of, weight_text, row_text}

-- generator number g: an elemental inequality, or a constraint
abbrev pub generator_rows : NamesView → List Constraint → ℕ → Generator
generator_rows v cs g = generator_at (generator_list (length v.variables) cs) g

-- the row of a generator
abbrev pub generator_row_text : NamesView → Generator → List ℕ
generator_row_text v g = row_text v g.kind g.row

-- a weight before its generator, and the generator's row
unfoldable pub weight_line : ℕ → NamesView → List Origin → (ℕ → Generator) → ℕ × ℤ → List ℕ
weight_line k v origins rows weight =
    decimal k ++ codes " proof " ++ weight_text v.variables origins weight ++ codes " : " ++ generator_row_text v (rows weight.0) ++ codes "\n"

-- the multiple of a target that weights add up to: the scale, and the target's row
abbrev pub sum_line : ℕ → NamesView → ℤ → Terms → List ℕ
sum_line k v scale target = decimal k ++ codes " sum " ++ signed_decimal scale ++ codes " : " ++ row_text v Inequality target ++ codes "\n"

-- the weights other than 0 of a certificate, a line each, and the multiple of its target that they add up to
unfoldable pub certificate_lines : ℕ → NamesView → List Origin → (ℕ → Generator) → CertificateView → Terms → List ℕ
certificate_lines k v origins rows w target = flat_map (weight_line k v origins rows) (filter is_nonzero_weight w.weights) ++ sum_line k v w.scale target

-- the lines of each certificate with its target
abbrev pub proof_lines : ℕ → NamesView → List Origin → (ℕ → Generator) → List CertificateView → List Terms → List ℕ
proof_lines k v origins rows (w ∷ ws) (target ∷ targets) = certificate_lines k v origins rows w target ++ proof_lines k v origins rows ws targets
proof_lines k v origins rows ws targets = []

-- the certificates of a yes and of a containment
abbrev pub proofs_in : AnswerView → List CertificateView
proofs_in (Yes ws) = ws
proofs_in (Contained parts ws) = ws
proofs_in answer = []

-- the lines of an answer, and after them those of its certificates
abbrev pub proof_text : ℕ → BodyView → List Origin → (ℕ → Generator) → List Terms → AnswerView → List ℕ
proof_text k q origins rows targets answer = answer_line k q origins answer ++ proof_lines k (problem_names q) origins rows (proofs_in answer) targets

-- the lines of an answer and of its certificates, by the constraints of the question's problem
abbrev pub proof_text_by : ℕ → BodyView → List Constraint → List Terms → AnswerView → List ℕ
proof_text_by k q cs targets answer = proof_text k q (origins_of cs) (generator_rows (problem_names q) cs) targets answer
