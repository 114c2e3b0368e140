-- A proof of a form from constraints is one of each form that is the same, from constraints that are the same.
use Rattle.std.proofs.Common.{◌≡◌, ℕ, zero, suc, ◌<◌, Option, None, Some, IfSome, ℤ, ◌+ℤ◌, ◌*ℤ◌, List, [], ◌∷◌, length, map, All, refl, sym, ap, ap₂, ◌∙◌, subst, arith}
use Rattle.std.proofs.lemmas.List.{length-map}
use Rattle.std.proofs.lemmas.List.Elements.{All-head, All-tail, All-weaker}
use Rattle.it_space.specs.declared.spaces.Space.{Space}
use Rattle.it_problems.specs.declared.problems.Constraint.{Constraint}
use Rattle.it_space.specs.Rows.{value}
use Rattle.it_polymatroid.specs.Certificates.{Form, Generators, IsAllowed, combination}
use Rattle.it_elemental.specs.Generators.{forms_of, of_constraint, generator_at, is_equation}
use Rattle.it_syntax.specs.Meaning.{RelationView}
use Rattle.it_demand.specs.Demands.{Demand}
use Rattle.it_problems.specs.declared.problems.Origin.{Origin}
use Rattle.it_closure.specs.declared.dependences.Dependence.{Dependence}
use Rattle.it_closure.specs.Collapse.{spread_out}
use Rattle.it_closure.proofs.Places.{place-zero}
use Rattle.it_demand.specs.Origins.{AreStated, ComesFrom, States}
use Rattle.std.specs.List.{AllZip}
use Rattle.it_demand.proofs.ZipLemmas.{zip-length}
use Rattle.it_syntax.specs.NamesViews.{NamesView}
use Rattle.it_question.specs.Questions.{BodyView}
use Rattle.it_question.specs.ProblemLines.{problem_names}
use Rattle.it_canon.specs.QuestionDemands.{question_demands, question_origins}
use Rattle.it_print.specs.Lines.{origins_of}
use Rattle.it_canon.specs.TrueLines.{variable_count}
use Rattle.it_terms.specs.Proofs.{AreSame, IsProofOf, TellsForm, TellsProof, constraints_of, demand_at, side_form}
use Rattle.it_terms.specs.FunctionProofs.{ArePrinted, IsNamedText, IsProofUnder, IsSaid, TellsFormUnder, TellsProofUnder, by_comment}
use Rattle.it_terms.specs.Proposals.{ArePrintedFrom}
use Rattle.it_terms.specs.RowOrigins.{IsSumOf}

-- as many constraints, each with the same form and of the same kind
pub record AreSameConstraints (g k : Generators) : Type 0 where
  pub count : g.count ≡ k.count
  pub kinds : (i : ℕ) → i < g.count → g.is_equation i ≡ k.is_equation i
  pub forms : (i : ℕ) → i < g.count → AreSame (g.form i) (k.form i)

pub same_combination : (g k : Generators) → AreSameConstraints g k → (ws : List (ℕ × ℤ)) → All (IsAllowed g) ws
    → AreSame (λ p. combination ws (λ i. g.form i p)) (λ p. combination ws (λ i. k.form i p))
same_combination g k s [] a p z = refl
same_combination g k s (w ∷ ws) a p z = ap₂ (λ (x y : ℤ). w.1 *ℤ x +ℤ y) (s.forms w.0 (All-head (IsAllowed g) w ws a).0 p z)
    (same_combination g k s ws (All-tail (IsAllowed g) w ws a) p z)

-- weights that may stand with some constraints may with the same ones
pub allowed_in_same : (g k : Generators) (ws : List (ℕ × ℤ)) → AreSameConstraints g k → All (IsAllowed g) ws → All (IsAllowed k) ws
allowed_in_same g k ws s a = All-weaker (IsAllowed g) (IsAllowed k) (λ w h. (subst (λ (m : ℕ). w.0 < m) s.count h.0, λ b. h.1 (s.kinds w.0 h.0 ∙ b))) ws a

pub proof_of_same : (n : ℕ) (r : RelationView) (f h : Form) (g k : Generators) → AreSame f h → AreSameConstraints g k → IsProofOf n r f g → IsProofOf n r h k
proof_of_same n r f h g k e s t = record {
  shannon = t.shannon;
  rest = t.rest;
  right = t.right;
  plus = t.plus;
  scale = t.scale;
  scale_from_one = t.scale_from_one;
  target_is = λ p z. t.target_is p z ∙ ap (λ (x : ℤ). t.scale *ℤ x) (e p z);
  weights = t.weights;
  allowed = allowed_in_same g k t.weights s t.allowed;
  constraints_are = λ p z. t.constraints_are p z ∙ same_combination g k s t.weights t.allowed p z;
}

-- what is a sum of constraints is one of the same ones
pub sum_of_same : (g k : Generators) (f : Form) (ws : List (ℕ × ℤ)) → AreSameConstraints g k → IsSumOf g f ws → IsSumOf k f ws
sum_of_same g k f ws s t = record {
  scale = t.scale;
  scale_from_one = t.scale_from_one;
  allowed = allowed_in_same g k ws s t.allowed;
  nonzero = t.nonzero;
  adds_up = λ p z. t.adds_up p z ∙ same_combination g k s ws t.allowed p z;
}

-- a constraint by its number is what states the demand of this number
agreeing_at : (s : Space) (ds : List Demand) (cs : List Constraint) (i : ℕ) → i < length cs → AllZip (States s) ds cs
    → ((is_equation (generator_at (map of_constraint cs) i).kind) ≡ is_equation (demand_at ds i).kind)
    × AreSame (value (generator_at (map of_constraint cs) i).row) (demand_at ds i).form
agreeing_at s [] [] i h a = absurd (omega arith)
agreeing_at s [] (c ∷ cs) i h a = absurd a
agreeing_at s (d ∷ ds) [] i h a = absurd a
agreeing_at s (d ∷ ds) (c ∷ cs) zero h a = (ap is_equation a.0.kind, a.0.row.same)
agreeing_at s (d ∷ ds) (c ∷ cs) (suc i) h a = agreeing_at s ds cs i (omega arith) a.1

-- the constraints of a problem are what its lines demand
pub stated_are_same : (s : Space) (ds : List Demand) (cs : List Constraint) → AllZip (States s) ds cs
    → AreSameConstraints (forms_of (map of_constraint cs)) (constraints_of ds)
stated_are_same s ds cs a =
    let counted : length (map of_constraint cs) ≡ length cs = length-map cs of_constraint in record {
      count = counted ∙ zip-length (States s) ds cs a;
      kinds = λ i h. (agreeing_at s ds cs i (subst (λ (m : ℕ). i < m) counted h) a).0;
      forms = λ i h. (agreeing_at s ds cs i (subst (λ (m : ℕ). i < m) counted h) a).1;
    }

-- a text that tells a proof from a problem's constraints tells it from the question's lines
pub told_by_lines : {X : Type 0} (items : X → List ℕ) (q : BodyView) (v : NamesView) (target : Form) (s : Space) (cs : List Constraint)
    (o : Option X) → v ≡ problem_names q
    → AllZip (States s) (question_demands q) cs → IfSome o (λ x. TellsProof v target (forms_of (map of_constraint cs)) (items x))
    → IfSome o (λ x. TellsForm q target (items x))
told_by_lines items q v target s cs None e are h = tt
told_by_lines items q v target s cs (Some x) e are h =
    let t = subst (λ (w : NamesView). TellsProof w target (forms_of (map of_constraint cs)) (items x)) e h in record {
      relation = t.relation;
      is = t.is;
      proves = proof_of_same (variable_count q) t.relation target target (forms_of (map of_constraint cs))
          (constraints_of (question_demands q)) (λ p z. refl) (stated_are_same s (question_demands q) cs are) t.proves;
    }

-- what says a function among constraints says it among ones that are the same
pub said_by_same : (n : ℕ) (g k : Generators) (lines : List ℕ) (d : Dependence) → AreSameConstraints g k → IsSaid n g lines d → IsSaid n k lines d
said_by_same n g k lines d s t = record {
  line = t.line;
  among = t.among;
  there = subst (λ (m : ℕ). t.line < m) s.count t.there;
  equation = sym (s.kinds t.line t.there) ∙ t.equation;
  says = λ p z e. t.says p z (s.forms t.line t.there p z ∙ e);
  inside = t.inside;
  below = t.below;
}

proof_under_of_same : (n : ℕ) (lines : List ℕ) (r : RelationView) (named : List (ℕ × ℤ)) (target : Form) (g k : Generators)
    → AreSameConstraints g k → IsProofUnder n lines r named target g
    → IsProofUnder n lines r named target k
proof_under_of_same n lines r named target g k s u = record {
  equality = u.equality;
  whole = u.whole;
  proves = proof_of_same n r target target g k (λ p z. refl) s u.proves;
  allowed = allowed_in_same g k named s u.allowed;
  there = subst (λ (m : ℕ). All (λ l. l < m) lines) s.count u.there;
  functions = u.functions;
  said = All-weaker (IsSaid n g lines) (IsSaid n k lines) (λ d t. said_by_same n g k lines d s t) u.functions u.said;
  adds_up = λ p z.
      let q = spread_out n u.functions p in
      u.adds_up p z ∙ ap (λ (x : ℤ). side_form n r r.right q +ℤ x) (same_combination g k s named u.allowed q (ap p (place-zero n u.functions) ∙ z));
}

-- constraints with these origins have them in order
pub placed_origins : (places : List Origin) (cs : List Constraint) → AllZip ComesFrom places cs → origins_of cs ≡ places
placed_origins [] [] a = refl
placed_origins [] (c ∷ cs) a = absurd a
placed_origins (x ∷ places) [] a = absurd a
placed_origins (x ∷ places) (c ∷ cs) a = ap₂ (λ (o : Origin) (os : List Origin). o ∷ os) a.0 (placed_origins places cs a.1)

under_by_lines : (q : BodyView) (lines : List ℕ) (named : List (ℕ × ℤ)) (target : Form) (s : Space) (cs : List Constraint) (text : List ℕ)
    → AreStated s (question_origins q) (question_demands q) cs
    → TellsProofUnder (problem_names q) (origins_of cs) lines named target (forms_of (map of_constraint cs)) text → TellsFormUnder q lines named target text
under_by_lines q lines named target s cs text are t = record {
  relation = t.relation;
  is = subst (λ (os : List Origin). IsNamedText (problem_names q) os named text t.relation) (placed_origins (question_origins q) cs are.placed) t.is;
  proves = proof_under_of_same (variable_count q) lines t.relation named target (forms_of (map of_constraint cs)) (constraints_of (question_demands q))
      (stated_are_same s (question_demands q) cs are.stated) t.proves;
}

printed_from_lines : (q : BodyView) (target : Form) (lines : List ℕ) (named : List (ℕ × ℤ)) (s : Space) (cs : List Constraint)
    (text whole by : List ℕ) → AreStated s (question_origins q) (question_demands q) cs
    → ArePrintedFrom (problem_names q) target cs lines named text whole by → ArePrinted q target lines named text whole by
printed_from_lines q target lines named s cs text whole by are t = record {
  text_tells = under_by_lines q lines named target s cs text are t.text_tells;
  whole_tells = under_by_lines q lines [] target s cs whole are t.whole_tells;
  by_is = t.by_is ∙ ap (λ (os : List Origin). by_comment os lines) (placed_origins (question_origins q) cs are.placed);
}

-- texts that tell a proof from a problem's constraints where functions hold tell it from the question's lines
pub printed_by_lines : {X : Type 0} (lines : X → List ℕ) (named : X → List (ℕ × ℤ)) (text whole by : X → List ℕ) (q : BodyView)
    (target : Form) (s : Space) (cs : List Constraint) (o : Option X) → AreStated s (question_origins q) (question_demands q) cs
    → IfSome o (λ x. ArePrintedFrom (problem_names q) target cs (lines x) (named x) (text x) (whole x) (by x))
    → IfSome o (λ x. ArePrinted q target (lines x) (named x) (text x) (whole x) (by x))
printed_by_lines lines named text whole by q target s cs None are h = tt
printed_by_lines lines named text whole by q target s cs (Some x) are h = printed_from_lines q target (lines x) (named x) s cs (text x) (whole x) (by x) are h

-- constraints are the same as themselves
pub same_constraints : (g : Generators) → AreSameConstraints g g
same_constraints g = record { count = refl; kinds = λ i h. refl; forms = λ i h p z. refl }

-- a text that tells a proof of a form where functions hold tells one of each form that is the same
pub under_of_same_target : (q : BodyView) (lines : List ℕ) (named : List (ℕ × ℤ)) (f h : Form) (text : List ℕ) → AreSame f h
    → TellsFormUnder q lines named f text → TellsFormUnder q lines named h text
under_of_same_target q lines named f h text e t =
    let u = t.proves in
    let g = constraints_of (question_demands q) in record {
      relation = t.relation;
      is = t.is;
      proves = record {
        equality = u.equality;
        whole = u.whole;
        proves = proof_of_same (variable_count q) t.relation f h g g e (same_constraints g) u.proves;
        allowed = u.allowed;
        there = u.there;
        functions = u.functions;
        said = u.said;
        adds_up = u.adds_up;
      };
    }
