-- How many forms lines say to be at least 0, line by line.
use Rattle.std.proofs.Math.Path.{fun_ext}
use Rattle.std.proofs.Common.{◌≡◌, ℕ, ◌+◌, ◌*◌, ◌-◌, ◌<◌, List, [], ◌∷◌, ◌++◌, length, map, drop, get_or, refl, ap, sym, ◌∙◌, arith}
use Rattle.it_problems.specs.declared.problems.Kind.{Kind}
use Rattle.it_problems.specs.declared.problems.Kind.TheVariants.{Inequality, Equation}
use Rattle.it_polymatroid.specs.Certificates.{Form}
use Rattle.it_syntax.specs.declared.types.Given.{Given}
use Rattle.std.specs.List.{fold, sum_by, flat_map}
use Rattle.it_space.proofs.ListLemmas.{drop_item}
use Rattle.it_syntax.specs.declared.types.Atom.{Atom}
use Rattle.it_syntax.specs.Meaning.{RelationView}
use Rattle.it_syntax.specs.Givens.{GivenView, Relation, Markov, Independent, Function, given_view, links}
use Rattle.it_question.specs.OwnLines.{RegionView}
use Rattle.it_demand.specs.Demands.{Demand, demand_of, demands, equations, kind_of}
use Rattle.it_demand.specs.Canonical.{form_of}
use Rattle.it_demand.specs.Targets.{inequalities_of, targets}
use Rattle.it_question.specs.LineDemands.{line_demands}
use Rattle.it_demand.proofs.ChainLemmas.{links-length}
use Rattle.it_certificate.specs.Obligations.{obligation_count}
use Rattle.it_certificate.specs.ReportSteps.{form_count, target_count, given_form_count, relation_form_count}

abbrev total : {A : Type 0} → (A → ℕ) → ℕ → List A → ℕ
total f a xs = fold (λ s x. s + f x) a xs

forms_counted : (k : Kind) (f : Form) → length (inequalities_of k f) ≡ form_count k
forms_counted Inequality f = refl
forms_counted Equation f = refl

pub targets_counted : (n : ℕ) (r : RelationView) → length (targets n r) ≡ target_count r.sign
targets_counted n r = forms_counted (kind_of r.sign) (form_of n r)

abbrev demand_forms : Demand → ℕ
demand_forms d = form_count d.kind

total_append : {A : Type 0} (f : A → ℕ) (a : ℕ) (xs ys : List A) → total f a (xs ++ ys) ≡ total f (total f a xs) ys
total_append f a [] ys = refl
total_append f a (x ∷ xs) ys = total_append f (a + f x) xs ys

of_equations : (n a : ℕ) (atoms : List Atom) → total demand_forms a (equations n atoms) ≡ a + 2 * length atoms
of_equations n a [] = omega arith
of_equations n a (x ∷ xs) = of_equations n (a + 2) xs ∙ omega arith

chain_length : (sets : List ℕ) → length (links sets) ≡ length sets - 2
chain_length [] = refl
chain_length (first ∷ sets) = let e = links-length first sets in omega (arith, e)

of_given : (n a : ℕ) (g : GivenView) → total demand_forms a (demands n g) ≡ a + given_form_count g
of_given n a (Relation r) = refl
of_given n a (Markov sets) = of_equations n a (links sets) ∙ ap (λ k. a + 2 * k) (chain_length sets)
of_given n a (Independent members given) = refl
of_given n a (Function value argument) = refl

of_givens : (n a : ℕ) (gs : List GivenView) → total demand_forms a (flat_map (demands n) gs) ≡ total given_form_count a gs
of_givens n a [] = refl
of_givens n a (g ∷ gs) =
    total_append demand_forms a (demands n g) (flat_map (demands n) gs)
    ∙ ap (λ b. total demand_forms b (flat_map (demands n) gs)) (of_given n a g)
    ∙ of_givens n (a + given_form_count g) gs

of_rows : (n a : ℕ) (rs : List RelationView) → total demand_forms a (map (demand_of n) rs) ≡ total relation_form_count a rs
of_rows n a [] = refl
of_rows n a (r ∷ rs) = of_rows n (a + relation_form_count r) rs

from_total : {A : Type 0} (f : A → ℕ) (a : ℕ) (xs : List A) → total f a xs ≡ a + total f 0 xs
from_total f a [] = omega arith
from_total f a (x ∷ xs) =
    let e : total f a (x ∷ xs) ≡ (a + f x) + total f 0 xs = from_total f (a + f x) xs in
    let g : total f 0 (x ∷ xs) ≡ (0 + f x) + total f 0 xs = from_total f (0 + f x) xs in
    omega (arith, e, g)

region_forms : (r : RegionView) → sum_by given_form_count r.lines.givens + sum_by relation_form_count r.lines.rows ≡ obligation_count r
unfolding obligation_count
region_forms r =
    let n = length r.names.variables in
    let of_own : List Demand = flat_map (demands n) r.lines.givens in
    sym (total_append demand_forms 0 of_own (map (demand_of n) r.lines.rows)
    ∙ of_rows n (total demand_forms 0 of_own) r.lines.rows
    ∙ from_total relation_form_count (total demand_forms 0 of_own) r.lines.rows
    ∙ ap (λ k. k + total relation_form_count 0 r.lines.rows) (of_givens n 0 r.lines.givens))
    ∙ ap (λ f. sum_by f (line_demands n r.lines)) (fun_ext (λ d. sym (forms_counted d.kind d.form)))

pub count_is : (r : RegionView) (a b : ℕ) → a ≡ sum_by given_form_count r.lines.givens → b ≡ sum_by relation_form_count r.lines.rows
    → a + b ≡ obligation_count r
count_is r a b p q = ap (λ x. x + b) p ∙ ap (λ y. sum_by given_form_count r.lines.givens + y) q ∙ region_forms r

-- one more given
pub given_more : (gs : List Given) (i a k whole : ℕ) (g : Given) → i < length gs → g ≡ get_or gs i g → k ≡ given_form_count (given_view g)
    → fold (λ s x. s + given_form_count x) a (map given_view (drop i gs)) ≡ whole
    → fold (λ s x. s + given_form_count x) (a + k) (map given_view (drop (i + 1) gs)) ≡ whole
given_more gs i a k whole g lt at forms rest =
    ap (λ n. fold (λ s x. s + given_form_count x) (a + n) (map given_view (drop (i + 1) gs))) forms
    ∙ sym (ap (λ zs. fold (λ s x. s + given_form_count x) a (map given_view zs)) (drop_item gs i g lt at))
    ∙ rest
