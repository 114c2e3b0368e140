-- Obligations are forms of small coefficients, as the demands and the constraints are that give them.
use Rattle.std.proofs.Common.{◌≡◌, ℕ, ◌+◌, ◌≤◌, ℤ, ◌+ℤ◌, ◌*ℤ◌, unsigned_abs, List, [], ◌∷◌, refl, ap, ◌∙◌, arith}
use Rattle.std.specs.List.{AllByRecursion as Every}
use Rattle.it_demand.specs.Targets.{inequalities_of}
use Rattle.it_problems.specs.declared.problems.Constraint.{Constraint}
use Rattle.it_problems.specs.declared.problems.Kind.{Kind}
use Rattle.it_problems.specs.declared.problems.Kind.TheVariants.{Inequality, Equation}
use Rattle.it_space.specs.Rows.{Terms, IsOver, value, row_mass}
use Rattle.it_space.proofs.EveryLemmas.{every_of, every-append}
use Rattle.it_polymatroid.specs.Certificates.{Form}
use Rattle.it_demand.specs.Demands.{Demand}
use Rattle.it_canon.proofs.SmallForms.{IsFormUpTo, form-negation}
use Rattle.it_region.specs.Obligations.{pulled_form, demand_obligations, constraint_obligations}

-- the terms with their coordinates moved
abbrev moved_terms : (ℕ → ℕ) → Terms → Terms
moved_terms f [] = []
moved_terms f (t ∷ ts) = (f t.0, t.1) ∷ moved_terms f ts

-- a row as a form
form_of_row : (n a : ℕ) (row : Terms) → IsOver n row → row_mass row ≤ a → IsFormUpTo n a (value row)
form_of_row n a row up small = record {
  terms = row;
  same = λ p. refl;
  coordinates = each_below row
      (every_of (λ (t : ℕ × ℤ). (1 ≤ t.0) × (t.0 ≤ n)) row up);
  small = small;
}
  where
    each_below : (ts : Terms) → Every (λ (t : ℕ × ℤ). (1 ≤ t.0) × (t.0 ≤ n)) ts → Every (λ (t : ℕ × ℤ). t.0 ≤ n) ts
    each_below [] e = tt
    each_below (t ∷ ts) e = (e.0.1, each_below ts e.1)

module _ (n m a : ℕ) (f : ℕ → ℕ) (within : (c : ℕ) → c ≤ n → f c ≤ m) where
  -- the form at a map pulled back, which has at each coordinate c the value at f c
  form_moved : (g : Form) → IsFormUpTo n a g → IsFormUpTo m a (pulled_form f g)
  form_moved g x = record {
    terms = moved_terms f x.terms;
    same = λ p. moved-value x.terms p ∙ x.same (λ c. p (f c));
    coordinates = moved_within x.terms x.coordinates;
    small = let e = moved-mass x.terms in let l = x.small in omega (arith, e, l);
  }
    where
      moved-value : (ts : Terms) (p : ℕ → ℤ) → value (moved_terms f ts) p ≡ value ts (λ c. p (f c))
      moved-value [] p = refl
      moved-value (t ∷ ts) p = ap (λ (z : ℤ). t.1 *ℤ p (f t.0) +ℤ z) (moved-value ts p)

      moved_within : (ts : Terms) → Every (λ (t : ℕ × ℤ). t.0 ≤ n) ts → Every (λ (t : ℕ × ℤ). t.0 ≤ m) (moved_terms f ts)
      moved_within [] e = tt
      moved_within (t ∷ ts) e = (within t.0 e.0, moved_within ts e.1)

      moved-mass : (ts : Terms) → row_mass (moved_terms f ts) ≡ row_mass ts
      moved-mass [] = refl
      moved-mass (t ∷ ts) = ap (λ (k : ℕ). unsigned_abs t.1 + k) (moved-mass ts)

  demanded_up_to : (kind : Kind) (g : Form) → IsFormUpTo m a g → Every (IsFormUpTo m a) (inequalities_of kind g)
  demanded_up_to Inequality g x = (x, tt)
  demanded_up_to Equation g x = (x, (form-negation m a g x, tt))

  -- the obligations that demands give
  pub obligations_up_to : (ds : List Demand) → Every (λ (d : Demand). IsFormUpTo n a d.form) ds → Every (IsFormUpTo m a) (demand_obligations f ds)
  obligations_up_to [] h = tt
  obligations_up_to (d ∷ ds) h = every-append (IsFormUpTo m a) (inequalities_of d.kind (pulled_form f d.form)) (demand_obligations f ds)
      (demanded_up_to d.kind (pulled_form f d.form) (form_moved d.form h.0)) (obligations_up_to ds h.1)

  -- and those that constraints give
  pub constraints_up_to : (cs : List Constraint) → Every (λ (c : Constraint). IsOver n c.row) cs
      → Every (λ (c : Constraint). row_mass c.row ≤ a) cs → Every (IsFormUpTo m a) (constraint_obligations f cs)
  constraints_up_to [] up small = tt
  constraints_up_to (c ∷ cs) up small = every-append (IsFormUpTo m a) (inequalities_of c.kind (pulled_form f (value c.row))) (constraint_obligations f cs)
      (demanded_up_to c.kind (pulled_form f (value c.row)) (form_moved (value c.row) (form_of_row n a c.row up.0 small.0))) (constraints_up_to cs up.1 small.1)
