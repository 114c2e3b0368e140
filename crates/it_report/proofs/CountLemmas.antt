-- A relation has as many targets as its sign makes, and a containment as many obligations as the lines of its second region make.
use Rattle.std.proofs.Common.{◌≡◌, ℕ, ◌+◌, List, [], ◌∷◌, length, length-append, refl, ◌∙◌, arith}
use Rattle.std.specs.List.{fold}
use Rattle.it_problems.specs.declared.problems.Kind.{Kind}
use Rattle.it_problems.specs.declared.problems.Kind.TheVariants.{Inequality, Equation}
use Rattle.it_polymatroid.specs.Certificates.{Form}
use Rattle.it_syntax.specs.Meaning.{RelationView}
use Rattle.it_question.specs.OwnLines.{RegionView}
use Rattle.it_question.specs.Questions.{BodyView}
use Rattle.it_demand.specs.Demands.{Demand, kind_of}
use Rattle.it_question.specs.LineDemands.{line_demands}
use Rattle.it_demand.specs.Canonical.{form_of}
use Rattle.it_demand.specs.Targets.{inequalities_of, targets}
use Rattle.it_region.specs.Obligations.{pulled_form, demand_obligations, obligations}
use Rattle.it_region.specs.Pulling.{substituted_sets, pulled_coordinate}
use Rattle.it_certificate.specs.Obligations.{obligation_count}

as_many_forms : (k : Kind) (f g : Form) → length (inequalities_of k f) ≡ length (inequalities_of k g)
as_many_forms Inequality f g = refl
as_many_forms Equation f g = refl

-- the number of targets doesn't depend on the number of variables
pub targets_counted : (m n : ℕ) (r : RelationView) → length (targets m r) ≡ length (targets n r)
targets_counted m n r = as_many_forms (kind_of r.sign) (form_of m r) (form_of n r)

-- one obligation for each form
forms_counted : (f : ℕ → ℕ) (a : ℕ) (ds : List Demand) → a + length (demand_obligations f ds) ≡ fold (λ s d. s + length (inequalities_of d.kind d.form)) a ds
forms_counted f a [] = omega arith
forms_counted f a (d ∷ ds) =
    let here : List Form = inequalities_of d.kind (pulled_form f d.form) in
    let rest = forms_counted f (a + length (inequalities_of d.kind d.form)) ds in
    omega (arith, length-append here (demand_obligations f ds), as_many_forms d.kind (pulled_form f d.form) d.form, rest)

pub obligations_counted : (q : BodyView) (a b : RegionView) (parts : List ℕ) → length (obligations q a b parts) ≡ obligation_count b
unfolding obligation_count
obligations_counted q a b parts =
    let n = length b.names.variables in
    let f : ℕ → ℕ = pulled_coordinate (length a.names.variables) n (substituted_sets (length q.names.variables) parts) in
    let e : length (demand_obligations f (line_demands n b.lines)) ≡ 0 + length (demand_obligations f (line_demands n b.lines)) = omega arith in
    e ∙ forms_counted f 0 (line_demands n b.lines)
