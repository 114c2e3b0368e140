-- What reduced elimination of the rows of the text ends with is the one right answer.
use Rattle.std.proofs.Common.{◌≡◌, inl, inr, ◌↔◌, ℕ, ◌+◌, ◌^◌, ℤ, pos, ◌*ℤ◌, refl, sym, ap, ap₂, subst, ◌∙◌, arith, List, [], ◌∷◌, ◌++◌, length, map, All, Contains}
use Rattle.std.proofs.lemmas.Int.{ints}
use Rattle.std.proofs.lemmas.Nat.{pow_pos}
use Rattle.it_space.specs.declared.answers.Cause.TheVariants.{Width}
use Rattle.it_space.specs.declared.answers.Mark.{Mark}
use Rattle.it_space.specs.declared.answers.Mark.TheVariants as marks
use Rattle.it_space.specs.declared.spaces.Space.{Space}
use Rattle.it_space.specs.Answers.{AnswerView}
use Rattle.it_space.specs.Answers.AnswerView.{Undecided, Region}
use Rattle.it_problems.specs.Problems.{ProblemView, AreMet}
use Rattle.it_space.specs.Rows.{Terms, IsOver, point_of}
use Rattle.it_space.specs.Spaces.{size_of}
use Rattle.it_polymatroid.specs.Polymatroid.{IsPolymatroid}
use Rattle.it_syntax.specs.Givens.{IsTrueAt}
use Rattle.it_syntax.specs.Meaning.{RelationView, Holds}
use Rattle.it_question.specs.Questions.{BodyView, Eliminate}
use Rattle.it_canon.specs.TrueLines.{variable_count}
use Rattle.it_canon.specs.QuestionDemands.{problem_of, terms_in}
use Rattle.it_demand.specs.QuestionSpaces.{space_of}
use Rattle.it_demand.specs.SystemForms.{system_forms, AreRowsOf, AreAtLeastZero}
use Rattle.it_question.specs.ProblemLines.{problem_names}
use Rattle.it_demand.specs.RowsOfForms.{terms_of_form}
use Rattle.it_demand.proofs.FormRows.{rows_are_terms_of_forms}
use Rattle.it_eliminate.proofs.MemberLemmas.{Member, member_of}
use Rattle.it_eliminate.specs.Projections.{IsPointOf, LacksCoordinate, Extends}
use Rattle.it_prove.specs.declared.types.Runs.TheVariants.{Defined}
use Rattle.it_redundant.specs.Reduction.{NeedView, Needed, Unsettled, kept_rows}
use Rattle.it_redundant.specs.ReducedElimination.{ProjectedView, ReducedEnds}
use Rattle.it_redundant.specs.ReducedElimination as projections
use Rattle.it_redundant.specs.Theorems as theorems
use Rattle.it_redundant.specs.Theorems.{IsReducedRegion, RegionIsReduced}
use Rattle.it_redundant.proofs.ProjectionLemmas.{one_reduced_end}
use Rattle.it_answer.specs.declared.types.Budgets.{Budgets}
use Rattle.it_answer.specs.Shows.{ShowsBy}
use Rattle.it_answer.specs.Truth.{DoesNotFollow, IsExactRegion, LinesExtend, MarkedRowsAreNeeded, region_rows}
use Rattle.it_answer.specs.DueEliminations.{marked_rows, answer_of_end, IsDueElimination}

-- ---- the rows of the text and its lines

abbrev coordinates_of : ℕ → List ℕ → List ℕ
coordinates_of n rates = map (λ r. 2 ^ n + r) rates

-- coordinate 0 is no rate's
not_zero : (n : ℕ) (rates : List ℕ) → ¬ (Member 0 (coordinates_of n rates))
not_zero n [] m = m
not_zero n (r ∷ rs) (inl e) = omega (arith, e, pow_pos n)
not_zero n (r ∷ rs) (inr m) = not_zero n rs m

module _ (n : ℕ) (rates : List ℕ) (lines : List RelationView) (rows : List Terms)
    (met : (p : ℕ → ℤ) → p 0 ≡ pos 0 → AreAtLeastZero p rows ↔ All (Holds n p) lines) where
  -- at 0 the extended point is 0 as well
  zero_kept : (k : ℕ) (p q : ℕ → ℤ) → p 0 ≡ pos 0 → ((c : ℕ) → ¬ (Contains (coordinates_of n rates) c) → q c ≡ pos k *ℤ p c) → q 0 ≡ pos 0
  zero_kept k p q z f = f 0 (λ m. not_zero n rates (member_of (coordinates_of n rates) 0 m)) ∙ ap (λ x. pos k *ℤ x) z ∙ omega (arith, ints)

  lines_extend : (p : ℕ → ℤ) → p 0 ≡ pos 0 → Extends (coordinates_of n rates) rows p ↔ LinesExtend n rates lines p
  lines_extend p z = (
    λ x. record { factor = x.factor; some = x.some; point = x.point; kept = x.kept; meets = (met x.point (zero_kept x.factor p x.point z x.kept)).0 x.meets },
    λ x. record { factor = x.factor; some = x.some; point = x.point; kept = x.kept; meets = (met x.point (zero_kept x.factor p x.point z x.kept)).1 x.meets },
  )

-- ---- the rows that stay and their marks

rows_again : (kept : List (Terms × NeedView)) → region_rows (marked_rows kept) ≡ kept_rows kept
rows_again [] = refl
rows_again (k ∷ kept) = ap (λ (rs : List Terms). k.0 ∷ rs) (rows_again kept)

-- where a row is marked as needed, it stands between those that stay before it and after it, with its point
record StandsBetween (kept : List (Terms × NeedView)) (before after : List (Mark × Terms)) (row : Terms) : Type 0 where
  kept_before : List (Terms × NeedView)
  kept_after : List (Terms × NeedView)
  values : List ℤ
  is : kept ≡ kept_before ++ (row, Needed values) ∷ kept_after
  before_is : before ≡ marked_rows kept_before
  after_is : after ≡ marked_rows kept_after

unsettled_not_needed : marks.Unsettled ≡ marks.Needed → ⊥
unsettled_not_needed e = cc

stands_first : (k : Terms × NeedView) (kept : List (Terms × NeedView)) (after : List (Mark × Terms)) (row : Terms)
    → marked_rows (k ∷ kept) ≡ (marks.Needed, row) ∷ after → StandsBetween (k ∷ kept) [] after row
stands_first (t, Needed values) kept after row e = record {
  kept_before = [];
  kept_after = kept;
  values = values;
  is = let same : (marks.Needed, t) ≡ (marks.Needed, row) = cc in ap (λ (x : Mark × Terms). (x.1, Needed values) ∷ kept) same;
  before_is = refl;
  after_is = cc;
}
stands_first (t, Unsettled cause) kept after row e =
    let same : (marks.Unsettled, t) ≡ (marks.Needed, row) = cc in absurd (unsettled_not_needed (ap (λ (x : Mark × Terms). x.0) same))

stands_later : (k : Terms × NeedView) (m : Mark × Terms) (kept : List (Terms × NeedView)) (before after : List (Mark × Terms)) (row : Terms)
    → marked_rows (k ∷ kept) ≡ m ∷ before ++ (marks.Needed, row) ∷ after
    → StandsBetween kept before after row → StandsBetween (k ∷ kept) (m ∷ before) after row
stands_later k m kept before after row e b = record {
  kept_before = k ∷ b.kept_before;
  kept_after = b.kept_after;
  values = b.values;
  is = ap (λ (ks : List (Terms × NeedView)). k ∷ ks) b.is;
  before_is = cc;
  after_is = b.after_is;
}

stands_between : (kept : List (Terms × NeedView)) (before after : List (Mark × Terms)) (row : Terms)
    → marked_rows kept ≡ before ++ (marks.Needed, row) ∷ after → StandsBetween kept before after row
stands_between [] [] after row e = absurd cc
stands_between [] (m ∷ before) after row e = absurd cc
stands_between (k ∷ kept) [] after row e = stands_first k kept after row e
stands_between (k ∷ kept) (m ∷ before) after row e = stands_later k m kept before after row e (stands_between kept before after row cc)

-- ---- what reduced elimination ends with is right

module _ (q : BodyView) (rates : List ℕ) (givens : ProblemView) (rows : List Terms) (same : givens.space ≡ space_of q.names)
    (true_at : (p : ℕ → ℤ) → p 0 ≡ pos 0 → AreMet p givens.constraints ↔ All (IsTrueAt givens.space.variables p) q.lines.givens)
    (met : (p : ℕ → ℤ) → p 0 ≡ pos 0 → AreAtLeastZero p rows ↔ All (Holds givens.space.variables p) q.lines.rows) where
  -- a polymatroid and rates at which the givens are true meet their constraints
  meets_givens : (p : ℕ → ℤ) → IsPolymatroid (length q.names.variables) p → All (IsTrueAt (length q.names.variables) p) q.lines.givens
      → theorems.MeetsGivens givens p
  meets_givens p h g = (
    subst (λ (s : Space). IsPolymatroid s.variables p) (sym same) h,
    (true_at p h.empty).1 (subst (λ (s : Space). All (IsTrueAt s.variables p) q.lines.givens) (sym same) g),
  )

  row_does_not_follow : (others other_rows : List Terms) (row : Terms) (values : List ℤ) → others ≡ other_rows
      → theorems.SeparatesRow givens others row values → DoesNotFollow q other_rows row
  row_does_not_follow others other_rows row values e x = record {
    point = point_of values;
    polymatroid = subst (λ (s : Space). IsPolymatroid s.variables (point_of values)) same x.meets.0;
    givens_true = subst (λ (s : Space). All (IsTrueAt s.variables (point_of values)) q.lines.givens) same ((true_at (point_of values) refl).0 x.meets.1);
    others_hold = subst (λ (rs : List Terms). IsPointOf rs (point_of values)) e x.others_hold;
    violated = x.violated;
  }

  are_needed : (kept : List (Terms × NeedView)) → theorems.AreNeeded givens kept → MarkedRowsAreNeeded q (marked_rows kept)
  are_needed kept need before after row e =
      let b = stands_between kept before after row e in
      let others : kept_rows b.kept_before ++ kept_rows b.kept_after ≡ region_rows before ++ region_rows after =
      ap₂ (λ (xs ys : List Terms). xs ++ ys) (sym (rows_again b.kept_before) ∙ ap region_rows (sym b.before_is))
      (sym (rows_again b.kept_after) ∙ ap region_rows (sym b.after_is)) in
      row_does_not_follow (kept_rows b.kept_before ++ kept_rows b.kept_after) (region_rows before ++ region_rows after) row b.values others
      (need b.kept_before b.kept_after (row, Needed b.values) b.is)

  region_shown : (kept : List (Terms × NeedView)) → IsReducedRegion givens rates rows kept → IsExactRegion q rates (marked_rows kept)
  region_shown kept x = record {
    coordinates = subst (λ (rs : List Terms). All (IsOver (size_of (space_of q.names))) rs) (sym (rows_again kept))
        (subst (λ (s : Space). All (IsOver (size_of s)) (kept_rows kept)) same x.coordinates);
    free = λ r m. subst (λ (rs : List Terms). LacksCoordinate (2 ^ length q.names.variables + r) rs) (sym (rows_again kept))
        (subst (λ (s : Space). LacksCoordinate (2 ^ s.variables + r) (kept_rows kept)) same (x.free r m));
    exact = λ p h g. subst (λ (rs : List Terms). IsPointOf rs p ↔ LinesExtend (length q.names.variables) rates q.lines.rows p) (sym (rows_again kept))
        (subst (λ (s : Space). IsPointOf (kept_rows kept) p ↔ LinesExtend s.variables rates q.lines.rows p) same (
          λ a. (lines_extend givens.space.variables rates q.lines.rows rows met p h.empty).0 ((x.exact p (meets_givens p h g)).0 a),
          λ e. (x.exact p (meets_givens p h g)).1 ((lines_extend givens.space.variables rates q.lines.rows rows met p h.empty).1 e),
        ));
    needed = are_needed kept x.needed;
  }

  shows_end : (end : ProjectedView) → RegionIsReduced givens rates rows end → ShowsBy q (Eliminate rates) (answer_of_end end)
  shows_end (projections.Region kept dropped) x = region_shown kept x
  shows_end (projections.Rows rate) x = tt
  shows_end (projections.Wide rate) x = tt

  pub region_shows : (end : ProjectedView) (answer : AnswerView) → RegionIsReduced givens rates rows end → answer ≡ answer_of_end end
      → ShowsBy q (Eliminate rates) answer
  region_shows end answer x is = subst (ShowsBy q (Eliminate rates)) (sym is) (shows_end end x)

pub region_is_due : (budgets : Budgets) (q : BodyView) (rates : List ℕ) (givens : ProblemView) (rows : List Terms) (end : ProjectedView)
    (answer : AnswerView) → givens ≡ problem_of q
    → rows ≡ map (terms_in q) (system_forms (variable_count q) q.lines.rows)
    → ReducedEnds givens budgets.effort budgets.rows rows [] [] rates end → answer ≡ answer_of_end end
    → IsDueElimination budgets q rates answer
region_is_due budgets q rates givens rows end answer posed rows_are ends is = record {
  end = end;
  ends = subst (λ (g : ProblemView). ReducedEnds g budgets.effort budgets.rows
      (map (terms_in q) (system_forms (variable_count q) q.lines.rows)) [] [] rates end) posed
      (subst (λ (rs : List Terms). ReducedEnds givens budgets.effort budgets.rows rs [] [] rates end) rows_are ends);
  is = is;
}

-- the rows of the `row` lines are the terms of their forms
pub system_rows_are : (q : BodyView) (s : Space) (rows : List Terms) → s ≡ space_of (problem_names q)
    → AreRowsOf s (system_forms s.variables q.lines.rows) rows → rows ≡ map (terms_in q) (system_forms (variable_count q) q.lines.rows)
system_rows_are q s rows same are = rows_are_terms_of_forms s (system_forms s.variables q.lines.rows) rows are
    ∙ ap (λ (t : Space). map (terms_of_form (size_of t)) (system_forms t.variables q.lines.rows)) same

-- ---- there is one right answer

pub one_elimination : (budgets : Budgets) (q : BodyView) (rates : List ℕ) (a b : AnswerView) → budgets.effort.runs ≡ Defined
    → IsDueElimination budgets q rates a → IsDueElimination budgets q rates b → a ≡ b
one_elimination budgets q rates a b defined x y = x.is
    ∙ ap answer_of_end (one_reduced_end (problem_of q) budgets.effort budgets.rows
    (map (terms_in q) (system_forms (variable_count q) q.lines.rows)) [] [] rates x.end y.end defined x.ends y.ends) ∙ sym y.is

-- ---- what follows

pub not_width : (step : ℕ) (end : ProjectedView) → Undecided (Width step) ≡ answer_of_end end → ⊥
not_width step (projections.Region kept dropped) e = cc
not_width step (projections.Rows rate) e = cc
not_width step (projections.Wide rate) e = cc
