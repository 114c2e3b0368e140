-- Posed questions: their names, their generators, and the texts of their certificates.
use Rattle.std.specs.Prelude.{ℕ, List, ◌+◌, ◌<◌, All, length}
use Rattle.it_space.specs.Answers.{certificate_view}
use Rattle.it_space.specs.declared.answers.Certificate.{Certificate}
use Rattle.it_problems.specs.declared.problems.Origin.{Origin}
use Rattle.it_polymatroid.specs.Elementals.{elementals}
use Rattle.it_syntax.specs.NamesViews.{NamesView}
use Rattle.it_question.specs.ProblemLines.{problem_names}
use Rattle.it_print.specs.declared.posed.PosedQuestion.{PosedQuestion}
use Rattle.it_print.specs.Lines.{IsRowOver, certificate_text, origins_of}

module _ (p : PosedQuestion) where
  -- the names under which the question asks
  abbrev pub names_of : NamesView
  names_of = problem_names p.question.now.body

  -- the number of its generators
  abbrev pub generator_count : ℕ
  generator_count = length (elementals (length names_of.variables)) + length p.constraints.now

  -- the certificate has weights of its generators alone
  abbrev pub IsCertificateOf : Certificate → Type 0
  IsCertificateOf certificate = All (λ w. w.0 < generator_count) certificate.weights.items

  -- the lines that its constraints come from
  abbrev pub posed_origins : List Origin
  posed_origins = origins_of p.constraints.now

  -- the text of a certificate, its scale and its sum
  abbrev pub proof_text_of : Certificate → List ℕ
  proof_text_of certificate = certificate_text names_of.variables posed_origins (certificate_view certificate)

  -- the rows of its constraints are of its names
  abbrev pub HasRowsOver : Type 0
  HasRowsOver = All (λ c. IsRowOver names_of c.row) p.constraints.now
