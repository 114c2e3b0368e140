-- Equations that are true of every map, and the proofs that they are.
use Rattle.std.proofs.Common.{◌≡◌, ℕ, ℤ, pos, ◌*ℤ◌, ◌≤ℤ◌, Bool, false, List, [], length, map, take, drop, All, Result, Ok, Err, IfOk, sym, ap, subst, ◌∙◌, arith}
use Rattle.std.specs.Bool.{OnTrue}
use Rattle.std.proofs.lemmas.Bool.{OnTrue_at, OnTrue_from}
use Rattle.std.proofs.lemmas.Int.{ints}
use Rattle.std.proofs.lemmas.List.{take-append-drop}
use Rattle.it_space.specs.declared.spaces.Space.{Space}
use Rattle.it_problems.specs.declared.problems.Constraint.{Constraint}
use Rattle.it_space.specs.Rows.{Terms, value}
use Rattle.it_polymatroid.specs.Certificates.{Form, Generators, IsAllowed, combination}
use Rattle.it_elemental.specs.Generators.{forms_of, of_constraint}
use Rattle.it_syntax.specs.declared.types.Sign.TheVariants.{Equal}
use Rattle.it_syntax.specs.Meaning.{RelationView, difference_at, common_denominator, side_at}
use Rattle.it_syntax.specs.NamesViews.{NamesView}
use Rattle.it_demand.specs.Canonical.{IsRowOf}
use Rattle.it_demand.specs.Coefficients.{signed_by}
use Rattle.it_terms.specs.Tells.{IsRelationText}
use Rattle.it_terms.specs.Proofs.{AreSame, IsEquationText, IsIdentity, IsPlusShannon, IsProofOf, TellsProof}
use Rattle.it_terms.specs.Sums.{constraint_value}

pub identity_without_terms : (s : Space) (r : RelationView) (row : Terms)
    → IsRowOf s (λ p. signed_by false (difference_at s.variables p r)) row → row ≡ [] → IsIdentity s.variables r
identity_without_terms s r row is none p z =
    let e : pos 0 ≡ difference_at s.variables p r = sym (ap (λ (t : Terms). value t p) none) ∙ is.same p z in omega (arith, ints, e)

pub equation_told : (v : NamesView) (text : List ℕ) (s : Space) (r : RelationView)
    → s ≡ record { variables = length v.variables; rates = length v.rates } → IsRelationText v text r → r.sign ≡ Equal
    → IsIdentity s.variables r → IsEquationText v text r
equation_told v text s r e is equality identity = record { is = is; equality = equality; identity = subst (λ (z : Space). IsIdentity z.variables r) e identity }

-- a right side that is split after some of its terms
pub split_proves : (s : Space) (r : RelationView) (target : Terms) (cs : List Constraint) (count : ℕ) (left rest : Terms) (scale : ℤ) (ws : List (ℕ × ℤ))
    → All (IsPlusShannon s.variables) (take count r.right) → All (IsAllowed (forms_of (map of_constraint cs))) ws → pos 1 ≤ℤ scale
    → IsRowOf s (λ p. side_at s.variables p (common_denominator r) r.left) left
    → IsRowOf s (λ p. side_at s.variables p (common_denominator r) (drop count r.right)) rest
    → AreSame (value left) (λ p. scale *ℤ value target p) → AreSame (value rest) (λ p. combination ws (constraint_value cs p))
    → IsProofOf s.variables r (value target) (forms_of (map of_constraint cs))
split_proves s r target cs count left rest scale ws plus allowed one is_left is_rest multiple sum = record {
  shannon = take count r.right;
  rest = drop count r.right;
  right = sym (take-append-drop count r.right);
  plus = plus;
  scale = scale;
  scale_from_one = one;
  target_is = λ p z. sym (is_left.same p z) ∙ multiple p z;
  weights = ws;
  allowed = allowed;
  constraints_are = λ p z. sym (is_rest.same p z) ∙ sum p z;
}

pub told_by_equation : {E : Type 0} (v : NamesView) (text : List ℕ) (target : Form) (g : Generators) (s : Space) (r : RelationView) (result : Result Bool E)
    → s ≡ record { variables = length v.variables; rates = length v.rates } → IsEquationText v text r
    → IfOk result (λ b. OnTrue b (IsProofOf s.variables r target g)) → IfOk result (λ b. OnTrue b (TellsProof v target g text))
told_by_equation v text target g s r (Ok b) e is h =
    OnTrue_from b (TellsProof v target g text) (λ t. record {
      relation = r;
      is = is;
      proves = subst
          (λ (z : Space). IsProofOf z.variables r target g) e (OnTrue_at t h);
    })
told_by_equation v text target g s r (Err x) e is h = tt
