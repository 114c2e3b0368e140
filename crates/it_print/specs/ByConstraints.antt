-- What the writers of certificates append, by a problem's constraints. No public clause cites this module.
use Rattle.std.specs.Prelude.{ℕ, ℤ, List, length, map}
use Rattle.it_space.specs.Answers.{certificate_view}
use Rattle.it_space.specs.Rows.{Terms}
use Rattle.it_space.specs.declared.answers.Certificate.{Certificate}
use Rattle.it_problems.specs.declared.problems.Constraint.{Constraint}
use Rattle.it_polymatroid.specs.Elementals.{elemental_at}
use Rattle.it_elemental.specs.Generators.{of_elemental}
use Rattle.it_syntax.specs.NamesViews.{NamesView}
use Rattle.it_print.specs.Lines.{certificate_text, origins_of, proofs_text}
use Rattle.it_print.specs.declared.posed.PosedQuestion.{PosedQuestion}
use Rattle.it_print.specs.PosedQuestions.{names_of, posed_origins}
use Rattle.it_print.specs.ProofLines.{certificate_lines, generator_row_text, generator_rows, proof_lines, weight_line}

-- the text of a certificate
abbrev pub certificate_text_by : NamesView → List Constraint → Certificate → List ℕ
certificate_text_by v cs w = certificate_text v.variables (origins_of cs) (certificate_view w)

-- the text of certificates with ` and ` between them
abbrev pub proofs_text_by : NamesView → List Constraint → List Certificate → List ℕ
proofs_text_by v cs ws = proofs_text v.variables (origins_of cs) (map certificate_view ws)

-- the row of elemental inequality number i
abbrev pub elemental_row_text : NamesView → ℕ → List ℕ
elemental_row_text v i = generator_row_text v (of_elemental (length v.variables) (elemental_at (length v.variables) i))

module _ (p : PosedQuestion) where
  -- the line of a weight with its generator, and the generator's row
  abbrev pub weight_line_by : ℕ × ℤ → List ℕ
  weight_line_by = weight_line p.number (names_of p) (posed_origins p) (generator_rows (names_of p) p.constraints.now)

  -- the lines of a certificate and its target
  abbrev pub certificate_lines_by : Certificate → Terms → List ℕ
  certificate_lines_by w target =
      certificate_lines p.number (names_of p) (posed_origins p) (generator_rows (names_of p) p.constraints.now) (certificate_view w) target

  -- the lines of each certificate and its target
  abbrev pub proof_lines_by : List Certificate → List Terms → List ℕ
  proof_lines_by ws targets =
      proof_lines p.number (names_of p) (posed_origins p) (generator_rows (names_of p) p.constraints.now) (map certificate_view ws) targets
