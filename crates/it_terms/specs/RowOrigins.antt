-- Where a row comes from: the lines of the question whose sum it is, up to a positive factor, as the comment behind it names them.
use Rattle.std.specs.Prelude.{◌≡◌, ◌≢◌, ℕ, ℤ, pos, int_lt, unsigned_abs, ◌*ℤ◌, ◌≤ℤ◌, Bool, true, false, List, [], ◌∷◌, ◌++◌, ◌⊎◌, All, codes, filter, not}
use Rattle.it_problems.specs.declared.problems.Origin.{Origin}
use Rattle.it_space.specs.Rows.{Terms, value}
use Rattle.it_polymatroid.specs.Certificates.{Form, Generators, IsAllowed, combination}
use Rattle.it_question.specs.Questions.{BodyView}
use Rattle.it_canon.specs.QuestionDemands.{question_demands}
use Rattle.it_rates.specs.Asked.{under_all_lines}
use Rattle.it_terms.specs.FunctionProofs.{by_comment, line_name, listed_names, times_text, weight_sign}
use Rattle.it_terms.specs.Proofs.{AreSame, constraints_of}

-- A positive multiple of the form is the sum of constraints with these weights, at each map that is 0 at the empty set; no
-- weight is 0, and only those of equations are below 0.
pub record IsSumOf (g : Generators) (form : Form) (weights : List (ℕ × ℤ)) : Type 0 where
  pub scale : ℤ
  pub scale_from_one : pos 1 ≤ℤ scale
  pub allowed : All (IsAllowed g) weights
  pub nonzero : All (λ w. w.1 ≢ pos 0) weights
  pub adds_up : AreSame (λ p. scale *ℤ form p) (λ p. combination weights (λ i. g.form i p))

-- a positive multiple of the row is the sum of lines of the question, `row` lines among them, with these weights; without
-- weights nothing is said of where the row comes from
abbrev pub ComesFrom : BodyView → Terms → List (ℕ × ℤ) → Type 0
ComesFrom q row weights = (weights ≡ []) ⊎ IsSumOf (constraints_of (question_demands (under_all_lines q))) (value row) weights

-- a weight of a constraint before the name of its line: ` + 2 row 1`, as the first of a sum or not
unfoldable pub line_weight : List Origin → Bool → ℕ × ℤ → List ℕ
line_weight origins is_first w = weight_sign is_first (int_lt w.1 (pos 0)) ++ times_text (unsigned_abs w.1) ++ line_name origins w.0

-- the texts `line_weight` of weights, one after the other
abbrev pub line_weights : List Origin → Bool → List (ℕ × ℤ) → List ℕ
line_weights origins is_first [] = []
line_weights origins is_first (w ∷ ws) = line_weight origins is_first w ++ line_weights origins false ws

-- the weights that aren't below 0, and then those below 0
abbrev pub plus_first : List (ℕ × ℤ) → List (ℕ × ℤ)
plus_first weights = filter (λ w. not (int_lt w.1 (pos 0))) weights ++ filter (λ w. int_lt w.1 (pos 0)) weights

-- the lines that a row comes from, and those that say the functions by which it is told, as a comment: `  # row 4 + 2 row 6, by given 1`
abbrev pub row_comment : List Origin → List (ℕ × ℤ) → List ℕ → List ℕ
row_comment origins [] lines = by_comment origins lines
row_comment origins (w ∷ ws) lines = codes "  # " ++ line_weights origins true (plus_first (w ∷ ws)) ++ listed_names (codes ", by ") origins true lines
