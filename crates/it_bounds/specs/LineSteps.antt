-- Lines about a posed question; no public clause cites it.
use Rattle.std.specs.Prelude.{ℕ, ℤ, List, ◌++◌, length, codes, decimal, flat_map, map, zip}
use Rattle.it_space.specs.Answers.{certificate_view}
use Rattle.it_space.specs.declared.answers.Certificate.{Certificate}
use Rattle.it_space.specs.declared.answers.Mark.{Mark}
use Rattle.it_space.specs.Rows.{Terms}
use Rattle.it_print.specs.declared.posed.PosedQuestion.{PosedQuestion}
use Rattle.it_print.specs.PosedQuestions.{names_of, posed_origins}
use Rattle.it_bounds.specs.Lines.{proven_row_line, ray_line, told_rates}

-- the line with the numbers of rows and of rays, for question k
abbrev pub count_line : ℕ → ℕ → ℕ → List ℕ
count_line k rows rays = decimal k ++ codes " outer " ++ decimal rows ++ codes " " ++ decimal rays ++ codes "\n"

module _ (p : PosedQuestion) where
  -- the line of a row with its certificate
  abbrev pub row_line : Mark × Terms → Certificate → List ℕ
  row_line row proof = proven_row_line p.number (names_of p) (posed_origins p) (row, certificate_view proof)

  -- the lines of rows with their certificates
  abbrev pub row_lines : List (Mark × Terms) → List Certificate → List ℕ
  row_lines rows proofs = flat_map (proven_row_line p.number (names_of p) (posed_origins p)) (zip rows (map certificate_view proofs))

  -- the lines of rays
  abbrev pub ray_lines : List (List ℤ) → List ℕ
  ray_lines rays = flat_map (ray_line p.number (names_of p) (told_rates p.question.now.body)) rays

  -- the lines of a bound
  abbrev pub bound_lines : List (Mark × Terms) → List Certificate → List (List ℤ) → List ℕ
  bound_lines rows proofs rays = count_line p.number (length rows) (length rays) ++ row_lines rows proofs ++ ray_lines rays
