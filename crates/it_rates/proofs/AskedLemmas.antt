-- The problem that all lines of a question pose, and where it is met.
use Rattle.std.proofs.Common.{◌≡◌, ◌≤◌, ℕ, ℤ, List, length, Some, refl, sym, subst, arith}
use Rattle.it_space.specs.declared.spaces.Space.{Space}
use Rattle.it_problems.specs.Problems.{ProblemView}
use Rattle.it_polymatroid.specs.Polymatroid.{IsPolymatroid}
use Rattle.it_question.specs.Limits.{AreRatesOf, IsQuestion, IsVerbOver}
use Rattle.it_question.specs.Questions.{BodyView, VerbView, Prove, Eliminate, Contain}
use Rattle.it_question.specs.LineDemands.{line_demands}
use Rattle.it_question.specs.LineOrigins.{line_origins}
use Rattle.it_demand.specs.Origins.{AreStated}
use Rattle.it_demand.specs.QuestionSpaces.{space_of}
use Rattle.it_canon.specs.QuestionDemands.{IsProblemOf, question_demands, question_origins}
use Rattle.it_canon.specs.TrueLines.{AreTrueAt, AreTrueTogether}
use Rattle.it_canon.proofs.ProblemLemmas.{question_met, question_problem}
use Rattle.it_hull.specs.Theorems.{MeetsProblem}
use Rattle.it_rates.specs.Asked.{eliminated_by, gone_rates, under_all_lines}

-- the question with all its lines given is within the limits too
pub all_lines_question : (q : BodyView) → IsQuestion q → IsQuestion (under_all_lines q)
all_lines_question q k = record {
  some = k.some;
  few = k.few;
  few_rates = k.few_rates;
  lines = k.lines;
  verb = record {
    few = omega arith;
    left = λ i d h. absurd (omega (arith, h));
    right = λ i d h. absurd
        (omega (arith, h));
    some_multiple = omega arith;
    small_multiple = omega arith;
  };
}

-- the rates that a question eliminates are among its own, and at least one
pub eliminated_rates : (q : BodyView) (gone : List ℕ) → IsQuestion q → q.verb ≡ Eliminate gone → AreRatesOf (length q.names.rates) gone
eliminated_rates q gone k e = subst (λ (v : VerbView). IsVerbOver q.names v) e k.verb

-- the rates of the list that a question eliminates are among its own, and at least one
pub asked_rates : (q : BodyView) (gone : List ℕ) → IsQuestion q → eliminated_by q.verb ≡ Some gone → AreRatesOf (length q.names.rates) (gone_rates q.verb)
asked_rates q gone k asked = by_verb q.verb refl asked
  where
    by_verb : (verb : VerbView) → q.verb ≡ verb → eliminated_by verb ≡ Some gone → AreRatesOf (length q.names.rates) (gone_rates verb)
    by_verb (Prove r) e f = absurd (cc)
    by_verb (Eliminate rates) e f = eliminated_rates q rates k e
    by_verb (Contain first second tries) e f = absurd (cc)

-- so they are where the list isn't empty
pub some_rates : (q : BodyView) → IsQuestion q → 1 ≤ length (gone_rates q.verb) → AreRatesOf (length q.names.rates) (gone_rates q.verb)
some_rates q k some = by_verb q.verb refl some
  where
    by_verb : (verb : VerbView) → q.verb ≡ verb → 1 ≤ length (gone_rates verb) → AreRatesOf (length q.names.rates) (gone_rates verb)
    by_verb (Prove r) e l = absurd (omega (arith, l))
    by_verb (Eliminate rates) e l = eliminated_rates q rates k e
    by_verb (Contain first second tries) e l = absurd (omega (arith, l))

-- constraints that state what all lines demand are the problem that these pose
pub posed_by_lines : (q : BodyView) (p : ProblemView) → IsQuestion q → p.space ≡ space_of q.names
    → AreStated p.space (line_origins p.space.variables q.lines) (line_demands p.space.variables q.lines) p.constraints
    → IsProblemOf (under_all_lines q) p
posed_by_lines q p k same stated =
    let own : AreStated p.space (question_origins (under_all_lines q)) (question_demands (under_all_lines q)) p.constraints =
    subst (λ (s : Space). AreStated p.space (line_origins s.variables q.lines) (line_demands s.variables q.lines) p.constraints) same stated in
    record { space = same; limits = question_problem (under_all_lines q) p (all_lines_question q k) same own; constraints = own }

module _ (q : BodyView) (p : ProblemView) (posed : IsProblemOf (under_all_lines q) p) where
  pub at_question : (P : Space → Type 0) → P p.space → P (space_of q.names)
  at_question P x = subst P posed.space x

  -- ---- where the lines are true

  pub meets_true : (x : ℕ → ℤ) → MeetsProblem p x → AreTrueTogether (under_all_lines q) x
  meets_true x m = (
    at_question (λ s. IsPolymatroid s.variables x) m.0,
    at_question (λ s. AreTrueAt s.variables x q.lines)
        ((question_met (under_all_lines q) p.space p.constraints posed.space posed.constraints x m.0.empty).0 m.1),
  )

  pub true_meets : (x : ℕ → ℤ) → AreTrueTogether (under_all_lines q) x → MeetsProblem p x
  true_meets x t = (
    subst (λ (s : Space). IsPolymatroid s.variables x) (sym posed.space) t.0,
    (question_met (under_all_lines q) p.space p.constraints posed.space posed.constraints x t.0.empty).1
        (subst (λ (s : Space). AreTrueAt s.variables x q.lines) (sym posed.space) t.1),
  )
