-- The obligations of a pair are those of the text that it is of.
use Rattle.std.proofs.Common.{◌≡◌, ℕ, zero, suc, ◌+◌, ◌<◌, ◌≤◌, ◌^◌, ℤ, pos, neg_ℤ, List, [], ◌∷◌, ◌++◌, map, length, take, get_or, refl, sym, ap, ap₂, subst, ◌∙◌, arith, All}
use Rattle.std.specs.List.{AllZip}
use Rattle.std.proofs.Math.Seq.{take-append_seam}
use Rattle.std.proofs.lemmas.List.{length-take-le, take-take}
use Rattle.it_demand.specs.Targets.{inequalities_of}
use Rattle.it_space.specs.declared.spaces.Space.{Space}
use Rattle.it_problems.specs.declared.problems.Kind.{Kind}
use Rattle.it_problems.specs.declared.problems.Kind.TheVariants.{Inequality, Equation}
use Rattle.it_problems.specs.declared.problems.Constraint.{Constraint}
use Rattle.it_space.specs.Rows.{Terms, one_at, value}
use Rattle.it_space.specs.Spaces.{size_of}
use Rattle.it_space.specs.Sums.{terms_from}
use Rattle.it_polymatroid.specs.Certificates.{Form}
use Rattle.it_polymatroid.specs.Elementals.{span}
use Rattle.it_polymatroid.proofs.Forms.{one_at-zero}
use Rattle.it_question.specs.OwnLines.{RegionView}
use Rattle.it_question.specs.Questions.{BodyView}
use Rattle.it_demand.specs.Demands.{Demand}
use Rattle.it_demand.specs.Origins.{States}
use Rattle.it_question.specs.LineDemands.{line_demands}
use Rattle.it_demand.specs.SystemForms.{AreRowsOf}
use Rattle.it_demand.specs.RowsOfForms.{terms_of_form}
use Rattle.it_demand.proofs.FormRows.{told_by_form}
use Rattle.it_demand.proofs.UniqueRows.{told_by_values, zip-told}
use Rattle.it_demand.proofs.ZipLemmas.{zip-append}
use Rattle.it_region.specs.declared.types.Candidate.{Candidate}
use Rattle.it_region.specs.declared.types.Pair.{Pair}
use Rattle.it_region.specs.Obligations.{pulled_form, demand_obligations, constraint_obligations, obligations, IsSubstitution, IsPulledRow, ArePulledRows}
use Rattle.it_region.specs.Pairs.{IsPair, IsPairOf, FitsPair, candidate_coordinate, pair_obligations}
use Rattle.it_region.specs.Pulling.{substituted_sets, pulled_coordinate}
use Rattle.it_region.proofs.PullingLemmas.{coordinate_of_empty_set}

-- ---- canonical rows of forms

pub pulled_row_told : (s : Space) (form : Form) (t u : Terms) → IsPulledRow s form t → IsPulledRow s form u → t ≡ u
pulled_row_told s form t u a b = told_by_values (size_of s) t u a.coordinates b.coordinates a.canonical b.canonical (λ p z. a.same p z ∙ sym (b.same p z))

pub pulled_rows_told : (s : Space) (fs : List Form) (ts us : List Terms) → ArePulledRows s fs ts → ArePulledRows s fs us → ts ≡ us
pulled_rows_told s fs ts us a b = zip-told (IsPulledRow s) (pulled_row_told s) fs ts us a b

-- they are the terms of the forms
pub pulled_rows_are : (s : Space) (forms : List Form) (rows : List Terms) → ArePulledRows s forms rows → rows ≡ map (terms_of_form (size_of s)) forms
pulled_rows_are s [] [] a = refl
pulled_rows_are s [] (row ∷ rows) a = absurd a
pulled_rows_are s (form ∷ forms) [] a = absurd a
pulled_rows_are s (form ∷ forms) (row ∷ rows) a =
    ap₂ (λ (t : Terms) (ts : List Terms). t ∷ ts) (told_by_form (size_of s) form row a.0.canonical a.0.coordinates a.0.same) (pulled_rows_are s forms rows a.1)

-- a row from a question file is one
pub rows_as_pulled : (s : Space) (fs : List Form) (ts : List Terms) → AreRowsOf s fs ts → ArePulledRows s fs ts
rows_as_pulled s [] [] a = tt
rows_as_pulled s [] (t ∷ ts) a = absurd a
rows_as_pulled s (f ∷ fs) [] a = absurd a
rows_as_pulled s (f ∷ fs) (t ∷ ts) a = (record { same = a.0.same; coordinates = a.0.coordinates; canonical = a.0.canonical }, rows_as_pulled s fs ts a.1)

-- two forms that are one at each map which is 0 at the empty set
abbrev pub AreOne : Form → Form → Type 0
AreOne f g = (p : ℕ → ℤ) → p 0 ≡ pos 0 → f p ≡ g p

demanded_forms_same : (k : Kind) (f g : Form) → AreOne f g → AllZip AreOne (inequalities_of k f) (inequalities_of k g)
demanded_forms_same Inequality f g h = (h, tt)
demanded_forms_same Equation f g h = (h, (λ p z. ap neg_ℤ (h p z), tt))

forms_same : (s : Space) (f : ℕ → ℕ) (ds : List Demand) (cs : List Constraint) → f 0 ≡ 0 → AllZip (States s) ds cs
    → AllZip AreOne (constraint_obligations f cs) (demand_obligations f ds)
forms_same s f [] [] e a = tt
forms_same s f [] (c ∷ cs) e a = absurd a
forms_same s f (d ∷ ds) [] e a = absurd a
forms_same s f (d ∷ ds) (c ∷ cs) e a =
    let one : AllZip AreOne (inequalities_of d.kind (pulled_form f (value c.row))) (inequalities_of d.kind (pulled_form f d.form)) =
    demanded_forms_same d.kind (pulled_form f (value c.row)) (pulled_form f d.form) (λ p z. a.0.row.same (λ x. p (f x)) (ap p e ∙ z)) in
    zip-append AreOne (inequalities_of c.kind (pulled_form f (value c.row))) (constraint_obligations f cs)
    (inequalities_of d.kind (pulled_form f d.form)) (demand_obligations f ds)
    (subst (λ (k : Kind). AllZip AreOne (inequalities_of k (pulled_form f (value c.row))) (inequalities_of d.kind (pulled_form f d.form)))
    (sym a.0.kind) one) (forms_same s f ds cs e a.1)

rows_of_text : (s : Space) (fs gs : List Form) (rows : List Terms) → AllZip AreOne fs gs → ArePulledRows s fs rows → ArePulledRows s gs rows
rows_of_text s [] [] [] h a = tt
rows_of_text s [] [] (t ∷ ts) h a = absurd a
rows_of_text s [] (g ∷ gs) rows h a = absurd h
rows_of_text s (f ∷ fs) [] rows h a = absurd h
rows_of_text s (f ∷ fs) (g ∷ gs) [] h a = absurd a
rows_of_text s (f ∷ fs) (g ∷ gs) (t ∷ ts) h a = (
  record {
    same = λ p z. a.0.same p z
        ∙ h.0 p z;
    coordinates = a.0.coordinates;
    canonical = a.0.canonical;
  },
  rows_of_text s fs gs ts h.1 a.1,
)

terms_same : (size : ℕ) (fs gs : List Form) → AllZip AreOne fs gs → map (terms_of_form size) fs ≡ map (terms_of_form size) gs
unfolding terms_of_form
terms_same size [] [] h = refl
terms_same size [] (g ∷ gs) h = absurd h
terms_same size (f ∷ fs) [] h = absurd h
terms_same size (f ∷ fs) (g ∷ gs) h = ap₂ (λ (t : Terms) (ts : List Terms). t ∷ ts)
    (ap (terms_from 1) (coefficients_same 1 size (omega arith))) (terms_same size fs gs h.1)
  where
    coefficients_same : (from count : ℕ) → 1 ≤ from → map (λ c. f (one_at c)) (span from count) ≡ map (λ c. g (one_at c)) (span from count)
    coefficients_same from zero l = refl
    coefficients_same from (suc count) l = ap₂ (λ (x : ℤ) (xs : List ℤ). x ∷ xs) (h.0 (one_at from) (one_at-zero from l))
        (coefficients_same (from + 1) count (omega (arith, l)))

-- ---- a pair of a question

-- the parts that a candidate has
abbrev pub candidate_parts : Candidate → List ℕ
candidate_parts c = take c.count c.parts

module _ (q : BodyView) (a b : RegionView) (p : Pair) (o : IsPairOf q a b p) where
  -- what the second region's own lines demand
  abbrev own : List Demand
  own = line_demands (length b.names.variables) b.lines

  first_variables : p.first.space.variables ≡ length a.names.variables
  first_variables = ap (λ (s : Space). s.variables) o.first_space

  second_variables : p.space.variables ≡ length b.names.variables
  second_variables = ap (λ (s : Space). s.variables) o.second_space

  coordinate_is : (c : Candidate) → candidate_coordinate p c ≡ pulled_coordinate (length a.names.variables) (length b.names.variables)
      (substituted_sets (length q.names.variables) (candidate_parts c))
  coordinate_is c = ap {B = ℕ → ℕ} (λ n. pulled_coordinate n p.space.variables (substituted_sets p.common (candidate_parts c))) first_variables
      ∙ ap {B = ℕ → ℕ} (λ m. pulled_coordinate (length a.names.variables) m (substituted_sets p.common (candidate_parts c))) second_variables
      ∙ ap {B = ℕ → ℕ} (λ w. pulled_coordinate (length a.names.variables) (length b.names.variables) (substituted_sets w (candidate_parts c))) o.common

  -- the rows of a candidate's obligations are those that the text has for its parts
  pub text_rows : (c : Candidate) (rows : List Terms) → ArePulledRows p.first.space (pair_obligations p c) rows
      → ArePulledRows p.first.space (obligations q a b (candidate_parts c)) rows
  text_rows c rows r = subst (λ (f : ℕ → ℕ). ArePulledRows p.first.space (demand_obligations f own) rows) (coordinate_is c)
      (rows_of_text p.first.space (pair_obligations p c) (demand_obligations (candidate_coordinate p c) own) rows
      (forms_same p.space (candidate_coordinate p c) own p.own.items (coordinate_of_empty_set p.first.space.variables p.space.variables
      p.common (candidate_parts c)) o.own.stated) r)

  -- and so are their terms
  pub text_terms : (size : ℕ) (c : Candidate) → map (terms_of_form size) (pair_obligations p c)
      ≡ map (terms_of_form size) (obligations q a b (candidate_parts c))
  text_terms size c = terms_same size (pair_obligations p c) (demand_obligations (candidate_coordinate p c) own)
      (forms_same p.space (candidate_coordinate p c) own p.own.items (coordinate_of_empty_set p.first.space.variables p.space.variables
      p.common (candidate_parts c)) o.own.stated)
      ∙ ap (λ (f : ℕ → ℕ). map (terms_of_form size) (demand_obligations f own)) (coordinate_is c)

  -- the parts of a candidate that fits
  pub parts_are : (c : Candidate) → IsPair p → FitsPair p c → IsSubstitution a b (candidate_parts c)
  parts_are c l f = record {
    count = length-take-le c.count c.parts (omega (arith, f.complete, f.count, l.few_parts)) ∙ f.count ∙ o.parts;
    within = subst (λ (n : ℕ). All (λ s. s < 2 ^ n) (candidate_parts c)) first_variables f.within;
  }

  -- and a candidate of parts does
  pub parts_fit : (c : Candidate) (parts : List ℕ) → length c.parts ≡ 4 → c.count ≡ length parts → candidate_parts c ≡ parts
      → IsSubstitution a b parts → FitsPair p c
  parts_fit c parts four count same h = record {
    complete = four;
    count = count ∙ h.count ∙ sym o.parts;
    within = subst (All (λ s. s < 2 ^ p.first.space.variables)) (sym same) (subst (λ (n : ℕ). All (λ s. s < 2 ^ n) parts) (sym first_variables) h.within);
  }

-- ---- the parts of a candidate

-- at most four sets, and the empty set at the places after them
pub all_places : (parts : List ℕ) → length parts ≤ 4 → get_or parts 0 0 ∷ get_or parts 1 0 ∷ get_or parts 2 0 ∷ get_or parts 3 0 ∷ []
    ≡ take 4 (parts ++ (0 ∷ 0 ∷ 0 ∷ 0 ∷ []))
all_places [] h = refl
all_places (a ∷ []) h = refl
all_places (a ∷ b ∷ []) h = refl
all_places (a ∷ b ∷ c ∷ []) h = refl
all_places (a ∷ b ∷ c ∷ d ∷ []) h = refl
all_places (a ∷ b ∷ c ∷ d ∷ e ∷ more) h = absurd (omega arith)

pub at_places : (parts : List ℕ) → length parts ≤ 4
    → take (length parts) (get_or parts 0 0 ∷ get_or parts 1 0 ∷ get_or parts 2 0 ∷ get_or parts 3 0 ∷ []) ≡ parts
at_places parts h = ap (take (length parts)) (all_places parts h) ∙ take-take (length parts) 4 (parts ++ (0 ∷ 0 ∷ 0 ∷ 0 ∷ [])) h
    ∙ take-append_seam parts (0 ∷ 0 ∷ 0 ∷ 0 ∷ [])
