-- The rows of a right region are canonical, so that the region fits its question.
use Rattle.std.proofs.Common.{◌≡◌, ◌≢◌, ◌⊎◌, inl, inr, ℕ, ◌+◌, ◌<◌, ◌≤◌, ◌^◌, ℤ, pos, neg_ℤ, ◌<ℤ◌, List, [], ◌∷◌, map, length, All, sym, ap, subst, ◌∙◌, arith}
use Rattle.std.proofs.lemmas.Int.{ints}
use Rattle.std.proofs.lemmas.Bool.{cases_eq}
use Rattle.std.proofs.lemmas.List.Elements.{All-nil, All-cons, All-head, All-tail}
use Rattle.std.proofs.Math.Pow.{pow_mono}
use Rattle.std.specs.List.{AllByRecursion as Every}
use Rattle.it_prove.specs.declared.types.Effort.{Effort}
use Rattle.it_number.specs.Limit.{IsWithin}
use Rattle.it_number.proofs.SignLemmas.{factor_above}
use Rattle.it_space.specs.declared.answers.Mark.{Mark}
use Rattle.it_space.specs.declared.spaces.Space.{Space}
use Rattle.it_space.specs.Answers.{CertificateView}
use Rattle.it_space.specs.Answers.AnswerView.{Region}
use Rattle.it_space.specs.Cancelling.{times_up, times_down, cancelled_row, CancelFits}
use Rattle.it_space.specs.Divisors.{lowest_terms}
use Rattle.it_problems.specs.Problems.{ProblemView}
use Rattle.it_space.specs.Rows.{Terms, Ascends, IsCanonical, IsOver, coefficient}
use Rattle.it_space.specs.Spaces.{size_of, most_variables}
use Rattle.it_space.proofs.CanonicalRows.{other_is, Rises, none_under, first_is}
use Rattle.it_space.proofs.Contents.{content_pos, divided_all}
use Rattle.it_space.proofs.MixLemmas.{factors, cancelled_gone}
use Rattle.it_space.proofs.TermLemmas.{rises-cancelled_row, coefficient-cancelled_row}
use Rattle.it_polymatroid.specs.Certificates.{Form}
use Rattle.it_question.specs.Questions.{BodyView}
use Rattle.it_question.specs.Limits.{IsQuestion}
use Rattle.it_demand.specs.SystemForms.{AreRowsOf, system_forms}
use Rattle.it_demand.specs.QuestionSpaces.{space_of}
use Rattle.it_question.specs.ProblemLines.{problem_names}
use Rattle.it_canon.specs.QuestionDemands.{problem_of, terms_in}
use Rattle.it_canon.specs.TrueLines.{variable_count}
use Rattle.it_eliminate.specs.Elimination.{EliminationEnds, PairsFit, with_row, with_lowest_rows, ordered_rows, results, next_list}
use Rattle.it_eliminate.specs.Elimination as elimination
use Rattle.it_eliminate.proofs.MemberLemmas.{contains_of, every_member, member_every}
use Rattle.it_space.proofs.EveryLemmas.{every_of, all_of}
use Rattle.it_eliminate.proofs.OrderLemmas.{every-with_row}
use Rattle.it_eliminate.proofs.StepLemmas.{results_all}
use Rattle.it_redundant.specs.Reduction.{NeedView, kept_rows}
use Rattle.it_redundant.specs.ReducedElimination.{ProjectedView, ReducedEnds}
use Rattle.it_redundant.specs.ReducedElimination as projections
use Rattle.it_redundant.proofs.ReductionLemmas.{all_kept}
use Rattle.it_eliminate.proofs.RegionLemmas.{same_list}
use Rattle.it_answer.specs.declared.types.Budgets.{Budgets}
use Rattle.it_answer.specs.Truth.{IsExactRegion, region_rows}
use Rattle.it_answer.specs.DueEliminations.{marked_rows, answer_of_end, IsDueElimination}
use Rattle.it_certificate.specs.AnswerShapes.{IsNumberedAmount, IsRowIn}

-- ---- cancelled rows

none_within : (z : ℤ) → z ≡ pos 0 → IsWithin z
none_within z e = omega (arith, ints, e)

-- terms that rise, whose coefficients are within the limit
ascends_within : (from : ℕ) (ts : Terms) → Rises from ts → ((c : ℕ) → IsWithin (coefficient ts c)) → Ascends from ts
ascends_within from [] a h = tt
ascends_within from (t ∷ ts) a h = (a.0, a.1, subst IsWithin (first_is from t ts a) (h t.0), ascends_within (t.0 + 1) ts a.2 rest)
  where
    by_cases : (c : ℕ) → (c ≡ t.0) ⊎ (c ≢ t.0) → IsWithin (coefficient ts c)
    by_cases c (inl e) = none_within (coefficient ts c) (none_under (t.0 + 1) ts c a.2 (omega (arith, e)))
    by_cases c (inr n) = subst IsWithin (other_is t ts c (λ e. n (sym e))) (h c)

    rest : (c : ℕ) → IsWithin (coefficient ts c)
    rest c = by_cases c (cases_eq c t.0)

cancelled_canonical : (at : ℕ) (up down : Terms) → pos 0 <ℤ coefficient up at → coefficient down at <ℤ pos 0 → IsCanonical up
    → IsCanonical down → CancelFits at up down → IsCanonical (cancelled_row at up down)
cancelled_canonical at up down h k a b fits =
    let f = factors at up down h k in
    ascends_within 0 (cancelled_row at up down)
    (rises-cancelled_row at up down (factor_above f.common (times_up at up down) (neg_ℤ (coefficient down at)) f.up_is
    (omega (arith, ints))) (factor_above f.common (times_down at up down) (coefficient up at) f.down_is h) a b)
    (λ c. by_cases c (cases_eq c at))
  where
    by_cases : (c : ℕ) → (c ≡ at) ⊎ (c ≢ at) → IsWithin (coefficient (cancelled_row at up down) c)
    by_cases c (inl e) = none_within (coefficient (cancelled_row at up down) c)
        (ap (coefficient (cancelled_row at up down)) e ∙ coefficient-cancelled_row at up down at ∙ cancelled_gone at up down h k)
    by_cases c (inr n) = subst IsWithin (sym (coefficient-cancelled_row at up down c)) (fits c n).sum

-- ---- rows in order

lowest_canonical : (ts : Terms) → IsCanonical ts → IsCanonical (lowest_terms ts)
unfolding lowest_terms
lowest_canonical [] h = tt
lowest_canonical (t ∷ ts) h = divided_all (t ∷ ts) h (content_pos 0 0 t ts h)

with_rows_canonical : (before rows : List Terms) → Every IsCanonical before → Every IsCanonical rows → Every IsCanonical (with_lowest_rows before rows)
with_rows_canonical before [] h k = h
with_rows_canonical before (row ∷ rows) h k = with_rows_canonical (with_row before (lowest_terms row)) rows
    (every-with_row IsCanonical before (lowest_terms row) (lowest_canonical row k.0) h) k.1

next_canonical : (at : ℕ) (rows : List Terms) → Every IsCanonical rows → PairsFit at rows → Every IsCanonical (next_list at rows)
next_canonical at rows h fit = with_rows_canonical [] (results at rows) tt (member_every IsCanonical (results at rows) (results_all IsCanonical at rows
    (λ row m e. every_member IsCanonical rows row h m)
    (λ up down m n p k. cancelled_canonical at up down p k (every_member IsCanonical rows up h m) (every_member IsCanonical rows down h n)
    (fit up down (contains_of rows up m) (contains_of rows down n) p k))))

-- the list that the step of a rate leaves
step_canonical : (base most : ℕ) (rows : List Terms) (r : ℕ) (next : List Terms) → Every IsCanonical rows
    → EliminationEnds base most rows (r ∷ []) (elimination.Region next) → Every IsCanonical next
step_canonical base most rows r next h (inl e) = let f = e.1 in absurd (cc)
step_canonical base most rows r next h (inr (inl e)) = let f = e.2 in absurd (cc)
step_canonical base most rows r next h (inr (inr e)) = subst (Every IsCanonical) (sym (same_list next (next_list (base + r) rows) e.2))
    (next_canonical (base + r) rows h e.0)

kept_same : (xs ys : List (Terms × NeedView)) (ds es : List (Terms × CertificateView)) → projections.Region xs ds ≡ projections.Region ys es → xs ≡ ys
kept_same xs ys ds es e = cc

-- the rows that stay
module _ (givens : ProblemView) (effort : Effort) (most : ℕ) where
  kept_canonical : (rows : List Terms) (last kept : List (Terms × NeedView)) (gone dropped : List (Terms × CertificateView))
      (rates : List ℕ) → Every IsCanonical rows → Every IsCanonical (kept_rows last)
      → ReducedEnds givens effort most rows last gone rates (projections.Region kept dropped)
      → Every IsCanonical (kept_rows kept)
  kept_canonical rows last kept gone dropped [] h l is = subst (λ (ks : List (Terms × NeedView)). Every IsCanonical (kept_rows ks))
      (sym (kept_same kept last dropped gone is)) l
  kept_canonical rows last kept gone dropped (r ∷ rates) h l (elimination.Region next, e, g) =
      let stay : Every IsCanonical (kept_rows g.0) =
      every_of IsCanonical (kept_rows g.0) (all_kept givens effort IsCanonical [] next g.0 g.1 g.2
      (all_of IsCanonical next (step_canonical (2 ^ givens.space.variables) most (ordered_rows rows) r next
      (with_rows_canonical [] rows tt h) e))) in
      kept_canonical (kept_rows g.0) g.0 kept g.1 dropped rates stay stay g.3
  kept_canonical rows last kept gone dropped (r ∷ rates) h l (elimination.Rows rate, e, is) = absurd (cc)
  kept_canonical rows last kept gone dropped (r ∷ rates) h l (elimination.Wide rate, e, is) = absurd (cc)

stated_canonical : (s : Space) (fs : List Form) (rows : List Terms) → AreRowsOf s fs rows → Every IsCanonical rows
stated_canonical s [] [] z = tt
stated_canonical s [] (t ∷ ts) z = absurd z
stated_canonical s (f ∷ fs) [] z = absurd z
stated_canonical s (f ∷ fs) (t ∷ ts) z = (z.0.canonical, stated_canonical s fs ts z.1)

-- ---- the region

marked_canonical : (kept : List (Terms × NeedView)) → Every IsCanonical (kept_rows kept) → Every IsCanonical (region_rows (marked_rows kept))
marked_canonical [] h = tt
marked_canonical (k ∷ kept) h = (h.0, marked_canonical kept h.1)

answer_same : (rows others : List (Mark × Terms)) → Region rows ≡ Region others → rows ≡ others
answer_same rows others e = cc

-- where the terms of the lines' forms are their rows
abbrev HasSystemRows : BodyView → Type 0
HasSystemRows q = AreRowsOf (space_of (problem_names q)) (system_forms (variable_count q) q.lines.rows)
    (map (terms_in q) (system_forms (variable_count q) q.lines.rows))

rows_canonical : (budgets : Budgets) (q : BodyView) (rates : List ℕ) (rows : List (Mark × Terms)) → HasSystemRows q
    → IsDueElimination budgets q rates (Region rows) → Every IsCanonical (region_rows rows)
rows_canonical budgets q rates rows are due = by_end due.end due.ends due.is
  where
    by_end : (end : ProjectedView) → ReducedEnds (problem_of q) budgets.effort budgets.rows
        (map (terms_in q) (system_forms (variable_count q) q.lines.rows)) [] [] rates end → Region rows ≡ answer_of_end end
        → Every IsCanonical (region_rows rows)
    by_end (projections.Region kept dropped) e is =
        subst (λ (rs : List (Mark × Terms)). Every IsCanonical (region_rows rs)) (sym (answer_same rows (marked_rows kept) is))
        (marked_canonical kept (kept_canonical (problem_of q) budgets.effort budgets.rows
        (map (terms_in q) (system_forms (variable_count q) q.lines.rows)) [] kept [] dropped rates (stated_canonical _ _ _ are) tt e))
    by_end (projections.Rows r) e is = absurd (cc)
    by_end (projections.Wide r) e is = absurd (cc)

pairs_of_row : (size from : ℕ) (ts : Terms) → size < 2 ^ 32 → Ascends from ts → IsOver size ts → All IsNumberedAmount ts
pairs_of_row size from [] few a up = All-nil IsNumberedAmount
pairs_of_row size from (t ∷ ts) few a up =
    let h = All-head (λ (u : ℕ × ℤ). (1 ≤ u.0) × (u.0 ≤ size)) t ts up in
    All-cons IsNumberedAmount t ts (omega (arith, h.1, few), a.2) (pairs_of_row size (t.0 + 1) ts few a.3
    (All-tail (λ (u : ℕ × ℤ). (1 ≤ u.0) × (u.0 ≤ size)) t ts up))

rows_fit : (size : ℕ) (rows : List (Mark × Terms)) → size < 2 ^ 32 → All (IsOver size) (region_rows rows)
    → Every IsCanonical (region_rows rows) → All (IsRowIn size) rows
rows_fit size [] few up canonical = All-nil (IsRowIn size)
rows_fit size (r ∷ rows) few up canonical =
    let h = All-head (IsOver size) r.1 (region_rows rows) up in
    All-cons (IsRowIn size) r rows (record { terms = pairs_of_row size 0 r.1 few canonical.0 h; canonical = canonical.0; coordinates = h })
    (rows_fit size rows few (All-tail (IsOver size) r.1 (region_rows rows) up) canonical.1)

few_coordinates : (q : BodyView) → IsQuestion q → size_of (space_of q.names) < 2 ^ 32
few_coordinates q k = omega (arith, pow_mono {i = length q.names.variables} {j = most_variables} k.few, k.few_rates)

pub right_region_fits : (budgets : Budgets) (q : BodyView) (rates : List ℕ) (rows : List (Mark × Terms)) → IsQuestion q → HasSystemRows q
    → IsExactRegion q rates rows → IsDueElimination budgets q rates (Region rows)
    → All (IsRowIn (size_of (space_of q.names))) rows
right_region_fits budgets q rates rows k are shown due = rows_fit (size_of (space_of q.names)) rows (few_coordinates q k) shown.coordinates
    (rows_canonical budgets q rates rows are due)
