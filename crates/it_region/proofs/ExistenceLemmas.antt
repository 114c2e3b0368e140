-- The rows of obligations are there: each is the terms of its form.
use Rattle.std.proofs.Common.{◌≡◌, ℕ, ◌+◌, ◌-◌, ◌<◌, ◌≤◌, ◌^◌, ◌⊎◌, inl, inr, List, [], ◌∷◌, map, take, length, length-append, All, sym, ap, subst, arith, lit<}
use Rattle.std.specs.List.{AllByRecursion as Every}
use Rattle.std.proofs.lemmas.Bool.{cases_lt}
use Rattle.std.proofs.lemmas.List.Elements.{All-weaker}
use Rattle.std.proofs.lemmas.Nat.{pow_pos}
use Rattle.it_problems.specs.declared.problems.Constraint.{Constraint}
use Rattle.it_space.specs.declared.spaces.Space.{Space}
use Rattle.it_space.specs.Bounds.{most_mass}
use Rattle.it_space.specs.Rows.{IsOver, row_mass}
use Rattle.it_space.specs.Spaces.{size_of}
use Rattle.it_space.proofs.EveryLemmas.{every_of}
use Rattle.it_polymatroid.specs.Certificates.{Form}
use Rattle.it_syntax.specs.Givens.{IsRelationOf, IsGivenOf}
use Rattle.it_question.specs.Limits.{IsQuestion, IsVerbOver}
use Rattle.it_question.specs.OwnLines.{RegionView}
use Rattle.it_question.specs.Questions.{BodyView, Contain}
use Rattle.it_question.specs.LineDemands.{line_demands}
use Rattle.it_question.specs.ProblemLines.{problem_names, names_under}
use Rattle.it_question.proofs.NumberLemmas.{VerbHasSmallNumbers, QuestionHasSmallNumbers}
use Rattle.it_demand.specs.QuestionSpaces.{space_of}
use Rattle.it_demand.specs.RowsOfForms.{terms_of_form}
use Rattle.it_demand.proofs.FormRows.{told_by_form}
use Rattle.it_canon.specs.QuestionDemands.{terms_in}
use Rattle.it_canon.proofs.DemandForms.{lines_up_to}
use Rattle.it_canon.proofs.SmallForms.{IsFormUpTo, row, row_same, row_coordinates, row_is_canonical}
use Rattle.it_region.specs.declared.types.Candidate.{Candidate}
use Rattle.it_region.specs.declared.types.Pair.{Pair}
use Rattle.it_region.specs.Obligations.{obligations, IsSubstitution, IsPulledRow, ArePulledRows}
use Rattle.it_region.specs.Pairs.{IsPair, FitsPair, candidate_coordinate, candidate_sets, pair_obligations}
use Rattle.it_region.specs.Pulling.{substituted_sets, pulled_coordinate}
use Rattle.it_region.proofs.ObligationForms.{constraints_up_to, obligations_up_to}
use Rattle.it_region.proofs.PullingLemmas.{coordinate_of_set, coordinate_above_sets, sets_within, image_up_to}

module _ (s : Space) (bound : ℕ) (within : bound < 2 ^ 127) where
  row_of_form : (form : Form) → IsFormUpTo (size_of s) bound form → IsPulledRow s form (terms_of_form (size_of s) form)
  row_of_form form x =
      let is : IsPulledRow s form (row s bound within form x) = record {
        same = row_same s bound within form x;
        coordinates
            = row_coordinates s bound within form x;
        canonical = row_is_canonical s bound within form x;
      } in
      subst (IsPulledRow s form) (told_by_form (size_of s) form (row s bound within form x) is.canonical is.coordinates is.same) is

  rows_of_forms : (fs : List Form) → Every (IsFormUpTo (size_of s) bound) fs → ArePulledRows s fs (map (terms_of_form (size_of s)) fs)
  rows_of_forms [] h = tt
  rows_of_forms (f ∷ fs) h = (row_of_form f h.0, rows_of_forms fs h.1)

-- a pulled coordinate is one of the first region's
pulled_within : (n m rates : ℕ) (sets : List ℕ) → All (λ x. x < 2 ^ n) sets → (c : ℕ) → c ≤ 2 ^ m - 1 + rates → pulled_coordinate n m sets c ≤ 2 ^ n - 1 + rates
pulled_within n m rates sets a c below = by_cases (cases_lt c (2 ^ m))
  where
    by_cases : (c < 2 ^ m) ⊎ (2 ^ m ≤ c) → pulled_coordinate n m sets c ≤ 2 ^ n - 1 + rates
    by_cases (inl less) = omega (arith, coordinate_of_set n m sets c less, image_up_to (record { variables = n; rates = rates }) sets c a)
    by_cases (inr more) = omega (arith, coordinate_above_sets n m sets c more, below, pow_pos n, pow_pos m)

-- ---- of a candidate that fits a pair

pub pair_rows_there : (p : Pair) (c : Candidate) → IsPair p → FitsPair p c
    → ArePulledRows p.first.space (pair_obligations p c) (map (terms_of_form (size_of p.first.space)) (pair_obligations p c))
pair_rows_there p c k f =
    let sets = sets_within p.first.space.variables p.common (take c.count c.parts) k.common_first f.within in
    let within : (i : ℕ) → i ≤ size_of p.space → candidate_coordinate p c i ≤ size_of p.first.space =
    λ i l. let h = pulled_within p.first.space.variables p.space.variables p.space.rates (candidate_sets p c) sets i l in omega (arith, h, k.rates) in
    let small : All (λ (d : Constraint). row_mass d.row ≤ 2 ^ 127 - 1) p.own.items =
    All-weaker (λ (d : Constraint). row_mass d.row < 2 ^ 127) (λ (d : Constraint). row_mass d.row ≤ 2 ^ 127 - 1)
    (λ d l. omega (arith, l)) p.own.items k.small in
    rows_of_forms p.first.space (2 ^ 127 - 1) (lit< tt) (pair_obligations p c)
    (constraints_up_to (size_of p.space) (size_of p.first.space) (2 ^ 127 - 1) (candidate_coordinate p c) within p.own.items
    (every_of (λ (d : Constraint). IsOver (size_of p.space) d.row) p.own.items k.rows)
    (every_of (λ (d : Constraint). row_mass d.row ≤ 2 ^ 127 - 1) p.own.items small))

-- ---- of parts that fit a question

module _ (q : BodyView) (k : IsQuestion q) (small : QuestionHasSmallNumbers q) (first second : RegionView) (tries : List (List ℕ))
    (about : q.verb ≡ Contain first second tries) where
  pub obligation_rows_there : (parts : List ℕ) → IsSubstitution first second parts
      → ArePulledRows (space_of (problem_names q)) (obligations q first second parts) (map (terms_in q) (obligations q first second parts))
  obligation_rows_there parts h =
      let over : IsVerbOver q.names (Contain first second tries) = subst (IsVerbOver q.names) about k.verb in
      let counts : VerbHasSmallNumbers (Contain first second tries) = subst VerbHasSmallNumbers about small.1 in
      let l = over.0 in
      let r = over.1 in
      let n = length first.names.variables in
      let m = length second.names.variables in
      let rates = length second.names.rates in
      let forms = lines_up_to m rates second.lines (every_of (IsGivenOf m) second.lines.givens r.lines.givens)
      (every_of (IsRelationOf m rates) second.lines.rows r.lines.rows) counts.1 in
      let sets = sets_within n (length q.names.variables) parts (omega (arith, ap length l.variables, length-append q.names.variables l.own)) h.within in
      let f : ℕ → ℕ = pulled_coordinate n m (substituted_sets (length q.names.variables) parts) in
      let within : (c : ℕ) → c ≤ 2 ^ m - 1 + rates → f c ≤ size_of (space_of first.names) =
      λ c e. let p = pulled_within n m rates (substituted_sets (length q.names.variables) parts) sets c e
      in omega (arith, p, ap length l.rates, ap length r.rates) in
      let fs : List Form = obligations q first second parts in
      let same : space_of first.names ≡ space_of (problem_names q) = sym (ap (λ v. space_of (names_under q.names v)) about) in
      subst (λ (s : Space). ArePulledRows s fs (map (terms_of_form (size_of s)) fs)) same
      (rows_of_forms (space_of first.names) most_mass (lit< tt) fs (obligations_up_to (2 ^ m - 1 + rates) (size_of (space_of first.names))
      most_mass f within (line_demands m second.lines) forms))
