-- The problem that a question poses is the one that states its demands; and rows are as many as their forms.
use Rattle.std.proofs.Common.{◌≡◌, suc, List, [], ◌∷◌, map, zip, length, refl, ap, ap₂, subst}
use Rattle.it_problems.specs.declared.problems.Constraint.{Constraint}
use Rattle.it_space.specs.declared.spaces.Space.{Space}
use Rattle.it_problems.specs.Problems.{ProblemView}
use Rattle.it_space.specs.Rows.{Terms}
use Rattle.it_polymatroid.specs.Certificates.{Form}
use Rattle.it_demand.specs.Origins.{AreStated}
use Rattle.it_demand.specs.SystemForms.{AreRowsOf}
use Rattle.it_demand.specs.QuestionSpaces.{space_of}
use Rattle.it_question.specs.ProblemLines.{problem_names}
use Rattle.it_question.specs.TableSizes.{constraint_of}
use Rattle.it_question.proofs.TableLemmas.{stated_are}
use Rattle.it_canon.specs.QuestionDemands.{question_demands, question_origins}
use Rattle.it_canon.specs.Theorems.{OneProblem}

pub one_problem : OneProblem
one_problem q p k =
    let s = space_of (problem_names q) in
    let ds = question_demands q in
    let places = question_origins q in
    let same : p.constraints ≡ map (constraint_of s) (zip places ds) = stated_are s places ds p.constraints
    (subst (λ (t : Space). AreStated t places ds p.constraints) k.space k.constraints) in
    ap₂ (λ (t : Space) (cs : List Constraint). let r : ProblemView = record { space = t; constraints = cs } in r) k.space same

-- there is one for each form
pub as_many_rows : (s : Space) (fs : List Form) (ts : List Terms) → AreRowsOf s fs ts → length ts ≡ length fs
as_many_rows s [] [] h = refl
as_many_rows s [] (t ∷ ts) h = absurd h
as_many_rows s (f ∷ fs) [] h = absurd h
as_many_rows s (f ∷ fs) (t ∷ ts) h = ap suc (as_many_rows s fs ts h.1)
