-- The rows of a question's generators, by its text, are those of its problem; and the rows of a proof are over its coordinates.
use Rattle.std.proofs.Common.{◌≡◌, ℕ, zero, suc, List, [], ◌∷◌, ◌++◌, map, slice_index_or, All, refl, sym, ap, ap₂, subst, ◌∙◌}
use Rattle.std.proofs.Math.Path.{fun_ext}
use Rattle.std.proofs.lemmas.List.{map-append}
use Rattle.std.proofs.lemmas.List.Elements.{All-nil, All-cons}
use Rattle.std.proofs.lemmas.Simd.{map-map}
use Rattle.it_space.specs.declared.spaces.Space.{Space}
use Rattle.it_problems.specs.declared.problems.Constraint.{Constraint}
use Rattle.it_problems.specs.declared.problems.Kind.TheVariants.{Inequality}
use Rattle.it_space.specs.Rows.{Terms}
use Rattle.it_space.specs.Spaces.{size_of}
use Rattle.it_polymatroid.specs.Certificates.{Form}
use Rattle.it_polymatroid.specs.Elementals.{elementals}
use Rattle.it_elemental.specs.Generators.{Generator, generator_at, generator_list}
use Rattle.it_question.specs.Questions.{BodyView}
use Rattle.it_demand.specs.Origins.{States}
use Rattle.std.specs.List.{AllZip}
use Rattle.it_demand.proofs.ZipLemmas.{zip-right}
use Rattle.it_demand.specs.QuestionSpaces.{space_of}
use Rattle.it_question.specs.ProblemLines.{problem_names}
use Rattle.it_canon.specs.QuestionDemands.{question_demands, terms_in}
use Rattle.it_canon.specs.TrueLines.{variable_count}
use Rattle.it_demand.proofs.FormRows.{no_terms}
use Rattle.it_print.specs.Lines.{IsRowOver}
use Rattle.it_print.specs.ProofLines.{generator_rows}
use Rattle.it_print.proofs.GeneratorRows.{generators_are, form_up_to}
use Rattle.it_answer.specs.Forms.{all_demands, demand_of_elemental}
use Rattle.it_cli.specs.Right.{row_of_demand, question_generators}
use Rattle.it_print.proofs.RowLemmas.{row_over}

-- a place of a list, through a function
item_of_map : {Y Z : Type 0} (g : Y → Z) (ys : List Y) (z : Z) (y : Y) → z ≡ g y → (i : ℕ) → slice_index_or (map g ys) i z ≡ g (slice_index_or ys i y)
item_of_map g [] z y e i = e
item_of_map g (b ∷ ys) z y e zero = refl
item_of_map g (b ∷ ys) z y e (suc i) = item_of_map g ys z y e i

generators_are_demands : (q : BodyView) (cs : List Constraint) → AllZip (States (space_of (problem_names q))) (question_demands q) cs
    → generator_list (variable_count q) cs ≡ map (row_of_demand q) (all_demands (variable_count q) (question_demands q))
unfolding all_demands
generators_are_demands q cs stated = generators_are (space_of (problem_names q)) (question_demands q) cs stated
    ∙ ap₂ (λ (xs ys : List Generator). xs ++ ys) (sym (map-map (row_of_demand q) (demand_of_elemental (variable_count q)) (elementals (variable_count q)))) refl
    ∙ sym (map-append (row_of_demand q) (map (demand_of_elemental (variable_count q)) (elementals (variable_count q))) (question_demands q))

pub generator_rows_are : (q : BodyView) (cs : List Constraint) → AllZip (States (space_of (problem_names q))) (question_demands q) cs
    → generator_rows (problem_names q) cs ≡ question_generators q
generator_rows_are q cs stated = fun_ext (λ g. ap (λ (gs : List Generator). generator_at gs g) (generators_are_demands q cs stated)
    ∙ item_of_map (row_of_demand q) (all_demands (variable_count q) (question_demands q)) _ _
    (ap (λ (t : Terms). let x : Generator = record { kind = Inequality; row = t } in x)
    (sym (no_terms (size_of (space_of (problem_names q)))))) g)

-- the rows of the constraints, and those of which an answer has certificates, are over the question's coordinates
pub constraints_over : (q : BodyView) (s : Space) (cs : List Constraint) → s ≡ space_of (problem_names q)
    → AllZip (States s) (question_demands q) cs → All (λ (c : Constraint). IsRowOver (problem_names q) c.row) cs
constraints_over q s cs e a = zip-right (States (space_of (problem_names q))) (λ (c : Constraint). IsRowOver (problem_names q) c.row)
    (λ d c t. row_over (problem_names q) c.row t.row.coordinates) (question_demands q) cs
    (subst (λ (t : Space). AllZip (States t) (question_demands q) cs) e a)

terms_over : (q : BodyView) (forms : List Form) → All (IsRowOver (problem_names q)) (map (terms_in q) forms)
terms_over q [] = All-nil (IsRowOver (problem_names q))
terms_over q (f ∷ fs) = All-cons (IsRowOver (problem_names q)) (terms_in q f) (map (terms_in q) fs)
    (row_over (problem_names q) (terms_in q f) (form_up_to (size_of (space_of (problem_names q))) f)) (terms_over q fs)

pub targets_over : (q : BodyView) (forms : List Form) (rows : List Terms) → rows ≡ map (terms_in q) forms → All (IsRowOver (problem_names q)) rows
targets_over q forms rows e = subst (All (IsRowOver (problem_names q))) (sym e) (terms_over q forms)
