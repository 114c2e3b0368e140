-- Lines about a posed question; no public clause cites it.
use Rattle.std.specs.Prelude.{ℕ, ℤ, List}
use Rattle.it_space.specs.Answers.{certificate_view}
use Rattle.it_space.specs.declared.answers.Certificate.{Certificate}
use Rattle.it_print.specs.declared.posed.PosedQuestion.{PosedQuestion}
use Rattle.it_print.specs.PosedQuestions.{names_of, posed_origins}
use Rattle.it_ratio.specs.BestViews.{Least, Unbounded}
use Rattle.it_factor.specs.Lines.{best_line, factor_text}

module _ (p : PosedQuestion) where
  -- the text of a factor and its certificate
  abbrev pub proven_factor_text : ℤ → ℤ → Certificate → List ℕ
  proven_factor_text num den proof = factor_text (names_of p).variables (posed_origins p) num den (certificate_view proof)

  -- the line of a least factor
  abbrev pub least_line : ℤ → ℤ → Certificate → List ℤ → List ℕ
  least_line num den proof values = best_line p.number (names_of p) (posed_origins p) (Least num den (certificate_view proof) values)

  -- the line where there is no least factor
  abbrev pub unbounded_line : ℤ → ℤ → Certificate → Certificate → List ℕ
  unbounded_line num den proof below =
      best_line p.number (names_of p) (posed_origins p) (Unbounded num den (certificate_view proof) (certificate_view below))
