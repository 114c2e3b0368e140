-- The outcome about one target: by weights of the run over closed sets, which are lifted to a certificate, by a point of it, which is
-- spread out, or by neither; and if a quick run comes first or alone, by its proposal, if the check finds it valid.
use Rattle.std.specs.Prelude.{◌≡◌, ◌≢◌, ◌⊎◌, ℕ, ◌+◌, ◌*◌, ℤ, List, [], length, All, Option, None}
use Rattle.std.specs.List.{AllZip}
use Rattle.it_number.specs.Limit.{IsWithin}
use Rattle.it_rational.specs.Rational.{Rational}
use Rattle.it_space.specs.declared.answers.Cause.{Cause}
use Rattle.it_space.specs.declared.answers.Cause.TheVariants as causes
use Rattle.it_space.specs.declared.answers.Cause.TheVariants.{Scale}
use Rattle.it_problems.specs.Problems.{ProblemView, IsProblem}
use Rattle.it_space.specs.Answers.{CertificateView, certificate_view}
use Rattle.it_space.specs.Bounds.{IsSmall}
use Rattle.it_space.specs.Rows.{Terms, IsCanonical, IsOver, coefficient, value}
use Rattle.it_space.specs.Spaces.{size_of}
use Rattle.it_run.specs.Runs.{RunEndView}
use Rattle.it_run.specs.Runs.RunEndView.{Weights, Point, Pivots, Width}
use Rattle.it_simplex.specs.Answers.{Solves}
use Rattle.it_elemental.specs.Generators.{generators, generators_of}
use Rattle.it_closure.specs.Reading.{dependences_of}
use Rattle.it_closure.specs.Sizes.{table_size}
use Rattle.it_lift.specs.Fits.{LiftFits}
use Rattle.it_lift.specs.Lifts.{lifted_weights}
use Rattle.it_check.specs.Meaning.{CertifiesRow, CertificateFits, RefutesRow, PointFits}
use Rattle.it_columns.specs.Columns.{columns}
use Rattle.it_prove.specs.Closed.{closed_places, closed_generators, closed_target, CollapsesFit, spread_point}
use Rattle.it_columns.specs.Scaling.{NumbersFit}
use Rattle.it_prove.specs.Weights.{numbers_of, certificate_of}
use Rattle.it_prove.specs.declared.types.Effort.{Effort}
use Rattle.it_prove.specs.declared.types.Proof.{Proof}
use Rattle.it_prove.specs.declared.types.Proof.TheVariants as proofs
use Rattle.it_prove.specs.declared.types.Runs.{Runs}
use Rattle.it_prove.specs.declared.types.Runs.TheVariants.{Defined, QuickFirst, QuickAlone}

-- a certificate, a point that refutes the target, or neither with its cause
pub data ProofView : Type 0 where
  Yes : (w : CertificateView) → ProofView
  No : (values : List ℤ) → ProofView
  Undecided : (cause : Cause) → ProofView

-- a proof as contracts see it
abbrev pub proof_view : Proof → ProofView
proof_view (proofs.Yes c) = Yes (certificate_view c)
proof_view (proofs.No p) = No p
proof_view (proofs.Undecided cause) = Undecided cause

-- w is the lift of the certificate over closed sets by the weights of columns: it has the same scale, and each generator has its weight
-- with all amounts that the lift adds; the weights ascend, and none is 0
pub record IsLifted (q : ProblemView) (target : Terms) (ws : List (ℕ × Rational)) (w : CertificateView) : Type 0 where
  pub scale : w.scale ≡ (certificate_of (generators q) ws).scale
  pub canonical : IsCanonical w.weights
  pub weights : (i : ℕ) → coefficient w.weights i
      ≡ coefficient (lifted_weights q.space.variables (dependences_of q) (value target) (generators_of q) (certificate_of (generators q) ws)) i

-- the numbers of the scaled weights are within the limit, and so are those of the lift, which forms none if there are no dependences
pub record LiftedFit (q : ProblemView) (target : Terms) (ws : List (ℕ × Rational)) : Type 0 where
  pub numbers : NumbersFit (numbers_of ws)
  pub lift : dependences_of q ≢ [] → LiftFits q.space.variables (dependences_of q) (value target) (generators_of q) (certificate_of (generators q) ws)

-- o is the outcome by an end of the run. Weights give a proof, and a point a refutation, if their numbers and those of their check are
-- within the limit; else they leave the target open with cause `Scale`.
abbrev pub Follows : ProblemView → Terms → RunEndView (List (ℕ × Rational)) (List Rational) → ProofView → Type 0
Follows q target (Weights ws) o =
    ((w : CertificateView) × IsLifted q target ws w × (LiftedFit q target ws × CertificateFits q target w) × (o ≡ Yes w))
    ⊎ (((w : CertificateView) → IsLifted q target ws w → ¬ (LiftedFit q target ws × CertificateFits q target w)) × (o ≡ Undecided Scale))
Follows q target (Point qs) o =
    ((NumbersFit qs × PointFits q target (spread_point q qs)) × (o ≡ No (spread_point q qs)))
    ⊎ (¬ (NumbersFit qs × PointFits q target (spread_point q qs)) × (o ≡ Undecided Scale))
Follows q target (Pivots k) o = o ≡ Undecided (causes.Pivots k)
Follows q target (Width k) o = o ≡ Undecided (causes.Width k)

-- the run over closed sets, with a budget of steps or without one, ends with e; if the collapse doesn't fit, it ends with `Width` 0
abbrev pub RunEnds : ProblemView → Terms → Option ℕ → RunEndView (List (ℕ × Rational)) (List Rational) → Type 0
RunEnds q target budget e =
    (¬ (CollapsesFit q target) × (e ≡ Width 0))
    ⊎ (CollapsesFit q target × Solves (closed_places q) (columns (closed_generators q)) (closed_target q target) budget e)

-- the outcome is that of the defined run
pub record EndsByRun (q : ProblemView) (target : Terms) (budget : Option ℕ) (o : ProofView) : Type 0 where
  pub end : RunEndView (List (ℕ × Rational)) (List Rational)
  pub run : RunEnds q target budget end
  pub follows : Follows q target end o

-- an outcome is right: a certificate certifies the target, and a point refutes it
abbrev pub IsRightProof : ProblemView → Terms → ProofView → Type 0
IsRightProof q target (Yes w) = CertifiesRow q target w × CertificateFits q target w
IsRightProof q target (No values) = RefutesRow q target values × PointFits q target values
IsRightProof q target (Undecided cause) = Unit {0}

-- a certificate of the target that ascends, or a point that refutes it, with numbers within the limit, by any run
abbrev pub IsSettled : ProblemView → Terms → ProofView → Type 0
IsSettled q target (Yes w) = IsRightProof q target (Yes w) × IsCanonical w.weights × IsWithin w.scale
IsSettled q target (No values) = IsRightProof q target (No values) × All IsWithin values
IsSettled q target (Undecided cause) = ⊥

-- What may come beside the outcome of the defined run: nothing, where that is made alone; one that is settled, where a quick run comes
-- first; and where a quick run is made alone, also that the target is left open without a step of the defined run.
abbrev pub QuickEnds : Runs → ProblemView → Terms → ProofView → Type 0
QuickEnds Defined q target o = ⊥
QuickEnds QuickFirst q target o = IsSettled q target o
QuickEnds QuickAlone q target o = IsSettled q target o ⊎ (o ≡ Undecided (causes.Pivots 0))

-- The outcome is that of the defined run, or one that the quick runs of this effort end with. So if the target is left open and the
-- defined run is made, that leaves it open.
abbrev pub EndsWith : ProblemView → Terms → Effort → ProofView → Type 0
EndsWith q target effort o = EndsByRun q target effort.pivots o ⊎ QuickEnds effort.runs q target o

-- the outcomes about the targets are the certificates, in order
abbrev pub AreProofsOf : ProblemView → Effort → List Terms → List CertificateView → Type 0
AreProofsOf q effort targets ws = AllZip (λ t w. EndsWith q t effort (Yes w)) targets ws

-- the outcome about a target is right
abbrev pub EndsAreRight : Type 0
EndsAreRight = (q : ProblemView) (target : Terms) (effort : Effort) (o : ProofView) → IsProblem q → IsOver (size_of q.space) target → EndsWith q target effort o → IsRightProof q target o

-- no two outcomes about a target contradict each other, for any efforts
abbrev pub EndsAgree : Type 0
EndsAgree = (q : ProblemView) (target : Terms) (effort other : Effort) (w : CertificateView) (values : List ℤ) → IsProblem q → IsOver (size_of q.space) target
    → EndsWith q target effort (Yes w) → EndsWith q target other (No values) → ⊥

-- where the defined run alone is made a target has one outcome
abbrev pub OneProofView : Type 0
OneProofView = (q : ProblemView) (target : Terms) (effort : Effort) (o p : ProofView) → effort.runs ≡ Defined → EndsWith q target effort o
    → EndsWith q target effort p → o ≡ p

-- the outcome of the defined run alone is one of the possible outcomes whichever runs are made
abbrev pub DefinedEndsMayCome : Type 0
DefinedEndsMayCome = (q : ProblemView) (target : Terms) (runs : Runs) (budget : Option ℕ) (o : ProofView)
    → EndsWith q target (record { runs = Defined; pivots = budget }) o → EndsWith q target (record { runs = runs; pivots = budget }) o

-- the weights of a proof ascend by generator, and none is 0
abbrev pub ProvenAscends : Type 0
ProvenAscends = (q : ProblemView) (target : Terms) (effort : Effort) (w : CertificateView) → EndsWith q target effort (Yes w) → IsCanonical w.weights

-- the rows of the constraints and of the target are small
pub record AreSmall (q : ProblemView) (target : Terms) : Type 0 where
  pub constraints : All (λ c. IsSmall c.row) q.constraints
  pub own : IsSmall target

-- If the rows are small, no run ends with `Width` at its start.
abbrev pub NeverAtStart : Type 0
NeverAtStart = (q : ProblemView) (target : Terms) (effort : Effort) → IsProblem q → AreSmall q target → EndsWith q target effort (Undecided (causes.Width 0)) → ⊥

-- the defined run is made, if a quick run doesn't settle the target, and goes on to its end
abbrev pub IsUnbound : Effort → Type 0
IsUnbound effort = (effort.pivots ≡ None) × (effort.runs ≢ QuickAlone)

-- with such an effort no target is left open because steps ran out
abbrev pub NeverOutOfSteps : Type 0
NeverOutOfSteps = (q : ProblemView) (target : Terms) (effort : Effort) (k : ℕ) → IsUnbound effort → EndsWith q target effort (Undecided (causes.Pivots k)) → ⊥

-- the size of a problem's table is that of the run's start: its coordinates times its columns, with an artificial one for each coordinate
abbrev pub SizeIsOfStart : Type 0
SizeIsOfStart = (q : ProblemView) → table_size q ≡ length (closed_places q) * (length (columns (closed_generators q)) + length (closed_places q))
