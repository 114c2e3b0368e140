-- Texts that tell a proof: an equation between a multiple of the target and a sum of terms that are never negative and of
-- multiples of constraints (Yeung 1997, "A Framework for Linear Information Inequalities").
use Rattle.std.specs.Prelude.{◌≡◌, ◌<◌, ◌^◌, ℕ, ℤ, pos, ◌*ℤ◌, ◌≤ℤ◌, false, List, ◌++◌, length, get_or, All}
use Rattle.it_polymatroid.specs.Certificates.{Form, Generators, IsAllowed, combination}
use Rattle.it_elemental.specs.Generators.{is_equation}
use Rattle.it_syntax.specs.declared.types.Atom.{Atom}
use Rattle.it_syntax.specs.declared.types.Atom.TheVariants.{Nothing, Entropy, Mutual, Rate}
use Rattle.it_syntax.specs.declared.types.Sign.TheVariants.{Equal}
use Rattle.it_syntax.specs.declared.types.Term.{Term}
use Rattle.it_syntax.specs.Meaning.{RelationView, common_denominator, side_at}
use Rattle.it_syntax.specs.NamesViews.{NamesView}
use Rattle.it_demand.specs.Demands.{Demand, equation}
use Rattle.it_question.specs.Questions.{BodyView}
use Rattle.it_question.specs.ProblemLines.{problem_names}
use Rattle.it_canon.specs.TrueLines.{AreTrueTogether}
use Rattle.it_canon.specs.QuestionDemands.{question_demands}
use Rattle.it_terms.specs.Tells.{IsRelationText}

-- H(A|C) or I(A;B|C) of sets of n variables, or nothing
abbrev pub IsShannon : ℕ → Atom → Type 0
IsShannon n Nothing = Unit {0}
IsShannon n (Entropy of given) = (of < 2 ^ n) × (given < 2 ^ n)
IsShannon n (Mutual left right given) = (left < 2 ^ n) × (right < 2 ^ n) × (given < 2 ^ n)
IsShannon n (Rate r) = ⊥

-- the term has a plus, and its atom is such an entropy or mutual information, or nothing
abbrev pub IsPlusShannon : ℕ → Term → Type 0
IsPlusShannon n t = (t.negative ≡ false) × IsShannon n t.atom

-- a side of the relation `r` of n variables as a form: times the least common multiple of the denominators of `r`
abbrev pub side_form : ℕ → RelationView → List Term → Form
side_form n r side p = side_at n p (common_denominator r) side

-- two forms have one value at each map that is 0 at the empty set
abbrev pub AreSame : Form → Form → Type 0
AreSame f g = (p : ℕ → ℤ) → p 0 ≡ pos 0 → f p ≡ g p

-- both sides of the relation are the same form
abbrev pub IsIdentity : ℕ → RelationView → Type 0
IsIdentity n r = AreSame (side_form n r r.left) (side_form n r r.right)

-- under these names the text is this equation, which is true of every map that is 0 at the empty set
pub record IsEquationText (v : NamesView) (text : List ℕ) (r : RelationView) : Type 0 where
  pub is : IsRelationText v text r
  pub equality : r.sign ≡ Equal
  pub identity : IsIdentity (length v.variables) r

-- On the left of an equation of n variables is a multiple of the target; on its right are terms with a plus over sets, and then
-- multiples of constraints, negative only for equations.
pub record IsProofOf (n : ℕ) (r : RelationView) (target : Form) (g : Generators) : Type 0 where
  pub shannon : List Term
  pub rest : List Term
  pub right : r.right ≡ shannon ++ rest
  pub plus : All (IsPlusShannon n) shannon
  pub scale : ℤ
  pub scale_from_one : pos 1 ≤ℤ scale
  pub target_is : AreSame (side_form n r r.left) (λ p. scale *ℤ target p)
  pub weights : List (ℕ × ℤ)
  pub allowed : All (IsAllowed g) weights
  pub constraints_are : AreSame (side_form n r rest) (λ p. combination weights (λ i. g.form i p))

-- under these names the text is an equation that is true of every map, and a proof of the target from constraints
pub record TellsProof (v : NamesView) (target : Form) (g : Generators) (text : List ℕ) : Type 0 where
  pub relation : RelationView
  pub is : IsEquationText v text relation
  pub proves : IsProofOf (length v.variables) relation target g

-- demand `i`, counted from 0
abbrev pub demand_at : List Demand → ℕ → Demand
demand_at ds i = get_or ds i (equation (λ p. pos 0))

-- what lines demand, as what a proof may use
abbrev pub constraints_of : List Demand → Generators
constraints_of ds = record {
  count = length ds;
  form = λ i. (demand_at ds i).form;
  is_equation = λ i. is_equation (demand_at ds i).kind;
}

-- the text tells a proof of this form from the lines of a question, under the names of its problem
abbrev pub TellsForm : BodyView → Form → List ℕ → Type 0
TellsForm q target text = TellsProof (problem_names q) target (constraints_of (question_demands q)) text

-- What a text tells a proof of is at least 0 wherever a polymatroid and rates make the question's lines true.
abbrev pub ToldProves : Type 0
ToldProves = (q : BodyView) (target : Form) (text : List ℕ) → TellsForm q target text → (p : ℕ → ℤ) → AreTrueTogether q p → pos 0 ≤ℤ target p
