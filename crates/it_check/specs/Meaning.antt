-- The meaning of the verdict `Valid`.
use Rattle.std.specs.Prelude.{◌≡◌, ◌↔◌, ℕ, ◌+◌, ◌≤◌, ℤ, pos, neg_ℤ, ◌*ℤ◌, ◌≤ℤ◌, List, length, All}
use Rattle.it_number.specs.Limit.{IsWithin}
use Rattle.it_problems.specs.Problems.{ProblemView, IsProblem, AreMet}
use Rattle.it_space.specs.Answers.{CertificateView}
use Rattle.it_space.specs.Rows.{Terms, IsOver, ValueFits, coefficient, value, point_of}
use Rattle.it_space.specs.Spaces.{size_of}
use Rattle.it_polymatroid.specs.Certificates.{IsCertificate}
use Rattle.it_polymatroid.specs.Elementals.{elementals}
use Rattle.it_polymatroid.specs.Polymatroid.{IsPolymatroid}
use Rattle.it_elemental.specs.Generators.{generators, forms_of}
use Rattle.it_check.specs.Verdicts.{column, yes_verdict, met_verdict, no_verdict}
use Rattle.it_check.specs.declared.verdicts.Verdict.TheVariants.{Valid}

-- w is a certificate of the target under the problem, at the coordinates of its space
abbrev pub CertifiesRow : ProblemView → Terms → CertificateView → Type 0
CertifiesRow q target w = IsCertificate (size_of q.space + 1) (forms_of (generators q)) (value target) w

-- at each coordinate the left side, and each product and partial sum of the right one, are within the limit
abbrev pub CertificateFits : ProblemView → Terms → CertificateView → Type 0
CertificateFits q target w = (c : ℕ) → 1 ≤ c → c ≤ size_of q.space
    → IsWithin (w.scale *ℤ coefficient target c) × ValueFits w.weights (column (generators q) c)

-- a polymatroid and rates of the problem's space that meet it
pub record MeetsAt (q : ProblemView) (values : List ℤ) : Type 0 where
  pub complete : length values ≡ size_of q.space
  pub polymatroid : IsPolymatroid q.space.variables (point_of values)
  pub met : AreMet (point_of values) q.constraints

-- at the point a polymatroid and rates meet the constraints, and the target is -1 or less
pub record RefutesRow (q : ProblemView) (target : Terms) (values : List ℤ) : Type 0 where
  pub complete : length values ≡ size_of q.space
  pub polymatroid : IsPolymatroid q.space.variables (point_of values)
  pub met : AreMet (point_of values) q.constraints
  pub violated : value target (point_of values) ≤ℤ neg_ℤ (pos 1)

-- the value at the point of each generator and of the target is formed within the limit
pub record PointFits (q : ProblemView) (target : Terms) (values : List ℤ) : Type 0 where
  pub each : All (λ g. ValueFits g.row (point_of values)) (generators q)
  pub own : ValueFits target (point_of values)

-- the verdict is `Valid` exactly if w certifies the target and its numbers are within the limit
abbrev pub ValidYes : Type 0
ValidYes = (q : ProblemView) (target : Terms) (w : CertificateView) → IsProblem q → IsOver (size_of q.space) target
    → (yes_verdict (generators q) (size_of q.space) target w ≡ Valid) ↔ (CertifiesRow q target w × CertificateFits q target w)

-- the verdict is `Valid` exactly if the point meets the problem and the value of each generator is formed within the limit
abbrev pub ValidMet : Type 0
ValidMet = (q : ProblemView) (values : List ℤ) → IsProblem q → length values ≡ size_of q.space
    → (met_verdict (length (elementals q.space.variables)) (generators q) (point_of values) ≡ Valid) ↔ (MeetsAt q values × All (λ g. ValueFits g.row (point_of values)) (generators q))

-- the verdict is `Valid` exactly if the point refutes the target and its numbers are within the limit
abbrev pub ValidNo : Type 0
ValidNo = (q : ProblemView) (target : Terms) (values : List ℤ) → IsProblem q → IsOver (size_of q.space) target → length values ≡ size_of q.space
    → (no_verdict (length (elementals q.space.variables)) (generators q) target (point_of values) ≡ Valid) ↔ (RefutesRow q target values × PointFits q target values)

-- a certified target is at least 0 wherever a polymatroid and rates meet the problem
abbrev pub YesIsTrue : Type 0
YesIsTrue = (q : ProblemView) (target : Terms) (w : CertificateView) → IsProblem q → IsOver (size_of q.space) target → CertifiesRow q target w
    → (p : ℕ → ℤ) → IsPolymatroid q.space.variables p → AreMet p q.constraints → pos 0 ≤ℤ value target p
