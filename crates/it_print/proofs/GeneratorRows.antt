-- The rows of a question's generators are the terms of what they say.
use Rattle.std.proofs.Common.{◌≡◌, ℕ, ◌<◌, refl, ap, ap₂, ◌∙◌, sym, arith, List, [], ◌∷◌, ◌++◌, length, map, get_or, subst}
use Rattle.std.specs.List.{AllZip, AllByRecursion as Every}
use Rattle.std.proofs.lemmas.List.{get_or_default, length-map}
use Rattle.it_space.specs.declared.spaces.Space.{Space}
use Rattle.it_problems.specs.declared.problems.Kind.{Kind}
use Rattle.it_problems.specs.declared.problems.Kind.TheVariants.{Inequality}
use Rattle.it_problems.specs.declared.problems.Constraint.{Constraint}
use Rattle.it_space.specs.Rows.{Terms, IsOver, one_at}
use Rattle.it_space.specs.Spaces.{size_of}
use Rattle.it_space.proofs.EveryLemmas.{every_of}
use Rattle.it_space.proofs.SumLemmas.{terms_up_to}
use Rattle.it_polymatroid.specs.Certificates.{Form}
use Rattle.it_polymatroid.specs.Elementals.{Elemental, Conditional, elementals, span, elemental_value}
use Rattle.it_elemental.specs.Generators.{Generator, generator_list, of_constraint, of_elemental}
use Rattle.it_elemental.specs.Views.{IsElemental}
use Rattle.it_elemental.proofs.PlaceLemmas.{is_elemental}
use Rattle.it_elemental.proofs.RowLemmas.{canonical-row, value-row, within-row}
use Rattle.it_polymatroid.proofs.Spans.{length-span}
use Rattle.it_elemental.proofs.Spans.{map-map}
use Rattle.it_demand.specs.Demands.{Demand}
use Rattle.it_demand.specs.Origins.{States}
use Rattle.it_demand.specs.RowsOfForms.{terms_of_form}
use Rattle.it_demand.proofs.FormRows.{stated_rows, told_by_form}

-- a form's terms as a generator
abbrev pub generator_of : ℕ → Kind → Form → Generator
generator_of size kind form = record { kind = kind; row = terms_of_form size form }

-- an elemental inequality's
elemental_is : (s : Space) (e : Elemental) → IsElemental s.variables e
    → of_elemental s.variables e ≡ generator_of (size_of s) Inequality (λ p. elemental_value s.variables p e)
elemental_is s e h = ap (λ (row : Terms). let x : Generator = record { kind = Inequality; row = row } in x)
    (told_by_form (size_of s) (λ p. elemental_value s.variables p e) _ (canonical-row s.variables e h)
    (λ i d l. let k = within-row s.variables e h i d l in (k.0, omega (arith, k.1))) (value-row s.variables e))

elementals_are : (s : Space) (es : List Elemental) → Every (IsElemental s.variables) es
    → map (of_elemental s.variables) es ≡ map (λ (e : Elemental). generator_of (size_of s) Inequality (λ p. elemental_value s.variables p e)) es
elementals_are s [] h = refl
elementals_are s (e ∷ es) h = ap₂ (λ (x : Generator) (xs : List Generator). x ∷ xs) (elemental_is s e h.0) (elementals_are s es h.1)

-- a constraint's
constraints_are : (s : Space) (ds : List Demand) (cs : List Constraint) → AllZip (States s) ds cs
    → map of_constraint cs ≡ map (λ (d : Demand). generator_of (size_of s) d.kind d.form) ds
constraints_are s ds cs a = sym (map-map of_pair (λ (c : Constraint). let x : Kind × Terms = (c.kind, c.row) in x) cs)
    ∙ ap (map of_pair) (stated_rows s ds cs a)
    ∙ map-map of_pair (λ (d : Demand). let x : Kind × Terms = (d.kind, terms_of_form (size_of s) d.form) in x) ds
  where
    of_pair : Kind × Terms → Generator
    of_pair x = record { kind = x.0; row = x.1 }

-- all of them
pub generators_are : (s : Space) (ds : List Demand) (cs : List Constraint) → AllZip (States s) ds cs
    → generator_list s.variables cs
    ≡ map (λ (e : Elemental). generator_of (size_of s) Inequality (λ p. elemental_value s.variables p e)) (elementals s.variables)
    ++ map (λ (d : Demand). generator_of (size_of s) d.kind d.form) ds
unfolding generator_list
generators_are s ds cs a = ap₂ (λ (xs ys : List Generator). xs ++ ys) (elementals_are s (elementals s.variables)
    (every_of (IsElemental s.variables) (elementals s.variables) each_is_elemental)) (constraints_are s ds cs a)
  where
    each_is_elemental : (i : ℕ) (d : Elemental) → i < length (elementals s.variables) → IsElemental s.variables (get_or (elementals s.variables) i d)
    each_is_elemental i d l = subst (IsElemental s.variables) (get_or_default (elementals s.variables) i (Conditional 0) d l) (is_elemental s.variables i l)

-- the terms of a form are over the coordinates
pub form_up_to : (size : ℕ) (form : Form) → IsOver size (terms_of_form size form)
unfolding terms_of_form
form_up_to size form = terms_up_to size 1 (map (λ c. form (one_at c)) (span 1 size)) (omega arith)
    (omega (arith, length-map (span 1 size) (λ c. form (one_at c)), length-span 1 size))
