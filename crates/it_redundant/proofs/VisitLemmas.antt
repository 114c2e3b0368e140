-- Rows visited one after the other.
use Rattle.std.proofs.Common.{◌≡◌, ◌⊎◌, inl, inr, ℕ, ◌+◌, ◌<◌, ◌≤◌, List, [], ◌∷◌, ◌++◌, map, length, drop, get_or, refl, sym, ap, subst, ◌∙◌, arith, append_assoc, append-nil, length-append}
use Rattle.std.proofs.lemmas.List.{length-map}
use Rattle.std.proofs.lemmas.List.Elements.{All-append, All-cons, All-nil}
use Rattle.it_space.specs.Answers.{CertificateView}
use Rattle.it_problems.specs.declared.problems.Constraint.{Constraint}
use Rattle.it_problems.specs.declared.problems.Kind.TheVariants.{Inequality}
use Rattle.it_problems.specs.declared.problems.Origin.TheVariants.{Rate}
use Rattle.it_problems.specs.Problems.{ProblemView, IsProblem}
use Rattle.it_space.specs.Rows.{Terms, IsOver}
use Rattle.it_space.specs.Spaces.{size_of}
use Rattle.it_prove.specs.ClosedProblems.{IsClosedProblem}
use Rattle.it_prove.specs.declared.closed.ClosedProblem.{ClosedProblem}
use Rattle.it_prove.specs.ProofViews.{ProofView, Yes, No, Undecided, EndsWith}
use Rattle.it_prove.specs.declared.types.Effort.{Effort}
use Rattle.it_redundant.specs.declared.types.Need.{Need}
use Rattle.it_eliminate.specs.RowLines.{row_constraints, with_rows}
use Rattle.it_redundant.specs.Reduction.{NeedView, Reduces, kept_by, dropped_by, kept_rows, need_view}
use Rattle.it_redundant.specs.ReductionSteps.{AreRowsUpTo}
use Rattle.it_eliminate.proofs.RowLemmas.{problem_limits, row_count, row_parts}
use Rattle.it_redundant.proofs.ReductionLemmas.{few_kept, rows_of_parts, some_keep}
use Rattle.it_redundant.proofs.ClosedLemmas.{closed_after}
use Rattle.it_redundant.proofs.NumberedLemmas.{row_at}

-- the rows of what stays, by its needs as they are kept
pub rows_kept : (ks : List (Terms × Need)) → kept_rows (map (λ k. (k.0, need_view k.1)) ks) ≡ map (λ k. k.0) ks
rows_kept [] = refl
rows_kept (k ∷ ks) = ap (λ xs. k.0 ∷ xs) (rows_kept ks)

-- The first i rows were visited: the results of the others are appended to what is there.
pub record IsUnderWay (givens : ProblemView) (effort : Effort) (size : ℕ) (rows : List Terms) (kept : List (Terms × NeedView))
    (dropped : List (Terms × CertificateView)) (i : ℕ) : Type 0 where
  pub more : (k : List (Terms × NeedView)) (d : List (Terms × CertificateView)) → Reduces givens effort (kept_rows kept) (drop i rows) k d
      → Reduces givens effort [] rows (kept ++ k) (dropped ++ d)
  pub few : length (kept_rows kept) ≤ i
  pub up : AreRowsUpTo size (kept_rows kept)

module _ (givens : ProblemView) (effort : Effort) (size : ℕ) (rows : List Terms) where
  pub under_way_more : (kept new_kept : List (Terms × NeedView)) (dropped new_dropped : List (Terms × CertificateView)) (i : ℕ)
      (row : Terms) (o : ProofView) → i < length rows
      → drop i rows ≡ row ∷ drop (i + 1) rows → IsOver size row → EndsWith (with_rows givens (kept_rows kept ++ drop (i + 1) rows)) row effort o
      → new_kept ≡ kept ++ kept_by row o → new_dropped ≡ dropped ++ dropped_by row o
      → IsUnderWay givens effort size rows kept dropped i → IsUnderWay givens effort size rows new_kept new_dropped (i + 1)
  under_way_more kept new_kept dropped new_dropped i row o below next own out e f u = record {
    more = λ k d r. subst (λ x. Reduces givens effort [] rows x (new_dropped ++ d)) (sym (append_assoc kept (kept_by row o) k) ∙ ap (λ x. x ++ k) (sym e))
        (subst (λ x. Reduces givens effort [] rows (kept ++ (kept_by row o ++ k)) x)
        (sym (append_assoc dropped (dropped_by row o) d) ∙ ap (λ x. x ++ d) (sym f))
        (u.more (kept_by row o ++ k) (dropped_by row o
        ++ d) (subst (λ x. Reduces givens effort (kept_rows kept) x (kept_by row o ++ k) (dropped_by row o ++ d)) (sym next)
        (o, k, d, out, refl, refl, subst (λ x. Reduces givens effort x (drop (i + 1) rows) k d) (ap kept_rows e ∙ rows_of_parts kept (kept_by row o)) r))));
    few = let total : length (kept_rows new_kept) ≡ length (kept_rows kept) + length (kept_rows (kept_by row o))
        = ap (λ x. length (kept_rows x)) e ∙ ap length (rows_of_parts kept (kept_by row o))
        ∙ length-append (kept_rows kept) (kept_rows (kept_by row o)) in omega (arith, total, few_kept givens effort row o, u.few);
    up = subst (AreRowsUpTo size) (sym (ap kept_rows e ∙ rows_of_parts kept (kept_by row o)))
        (All-append (IsOver size) (kept_rows kept) (kept_rows (kept_by row o)) u.up (some_keep (IsOver size) row o own));
  }

  pub under_way_end : (kept : List (Terms × NeedView)) (dropped : List (Terms × CertificateView)) (i : ℕ) → drop i rows ≡ []
      → IsUnderWay givens effort size rows kept dropped i
      → Reduces givens effort [] rows kept dropped
  under_way_end kept dropped i e u = subst (λ x. Reduces givens effort [] rows x dropped) (append-nil kept)
      (subst (λ x. Reduces givens effort [] rows (kept ++ []) x) (append-nil dropped)
      (u.more [] [] (subst (λ x. Reduces givens effort (kept_rows kept) x [] []) (sym e) (refl, refl))))

-- ---- one visit

-- the rows that stay after a visit: with the row itself where they are more
pub rows_after : (kept new : List (Terms × Need)) (row : Terms) (o : ProofView)
    → map (λ k. (k.0, need_view k.1)) new ≡ map (λ k. (k.0, need_view k.1)) kept ++ kept_by row o
    → map (λ k. k.0) new ≡ map (λ k. k.0) kept ++ kept_rows (kept_by row o)
rows_after kept new row o e = sym (rows_kept new) ∙ ap kept_rows e ∙ rows_of_parts (map (λ k. (k.0, need_view k.1)) kept) (kept_by row o)
    ∙ ap (λ (rows : List Terms). rows ++ kept_rows (kept_by row o)) (rows_kept kept)

module _ (kept new : List (Terms × Need)) (row : Terms) (o : ProofView)
    (e : map (λ k. (k.0, need_view k.1)) new ≡ map (λ k. (k.0, need_view k.1)) kept ++ kept_by row o) where
  abbrev stays : List Terms
  stays = kept_rows (kept_by row o)

  as_many : length new ≡ length kept + length stays
  as_many = sym (length-map new (λ (k : Terms × Need). k.0)) ∙ ap length (rows_after kept new row o e)
      ∙ length-append (map (λ (k : Terms × Need). k.0) kept) stays
      ∙ ap (λ n. n + length stays) (length-map kept (λ (k : Terms × Need). k.0))

  by_outcome : (stays ≡ []) ⊎ (stays ≡ row ∷ [])
  by_outcome = by_proof o
    where
      by_proof : (o : ProofView) → (kept_rows (kept_by row o) ≡ []) ⊎ (kept_rows (kept_by row o) ≡ row ∷ [])
      by_proof (Yes w) = inl refl
      by_proof (No values) = inr refl
      by_proof (Undecided cause) = inr refl

  pub row_stays : length new ≡ length kept + 1 → map (λ k. k.0) new ≡ map (λ k. k.0) kept ++ row ∷ []
  row_stays more = by_cases by_outcome
    where
      by_cases : (stays ≡ []) ⊎ (stays ≡ row ∷ []) → map (λ k. k.0) new ≡ map (λ k. k.0) kept ++ row ∷ []
      by_cases (inl none) = let n : length stays ≡ 0 = ap length none in absurd (omega (arith, as_many, more, n))
      by_cases (inr own) = rows_after kept new row o e ∙ ap (λ (rows : List Terms). map (λ k. k.0) kept ++ rows) own

  pub row_goes : (length new ≡ length kept + 1 → ⊥) → map (λ k. k.0) new ≡ map (λ k. k.0) kept
  row_goes not = by_cases by_outcome
    where
      by_cases : (stays ≡ []) ⊎ (stays ≡ row ∷ []) → map (λ k. k.0) new ≡ map (λ k. k.0) kept
      by_cases (inl none) = rows_after kept new row o e ∙ ap (λ (rows : List Terms). map (λ k. k.0) kept ++ rows) none ∙ append-nil (map (λ k. k.0) kept)
      by_cases (inr own) = let n : length stays ≡ 1 = ap length own in absurd (not (as_many ∙ ap (λ k. length kept + k) n))

module _ (givens : ProblemView) (kept : List (Terms × Need)) (line place : ℕ) (line_is : line ≡ length kept + 1)
    (place_is : place ≡ length givens.constraints + length kept) where
  abbrev xs : List Terms
  xs = map (λ k. k.0) kept

  -- the constraints before the row
  abbrev before : List Constraint
  before = givens.constraints ++ row_constraints 1 xs

  count : length xs ≡ length kept
  count = length-map kept (λ (k : Terms × Need). k.0)

  before_place : length before ≡ place
  before_place = let n = length-append givens.constraints (row_constraints 1 xs) in let r = row_count 1 xs in omega (arith, n, r, count, place_is)

  in_parts : (ys : List Terms) → (with_rows givens (xs ++ ys)).constraints ≡ before ++ row_constraints line ys
  in_parts ys = let l : 1 + length xs ≡ line = omega (arith, count, line_is) in
      ap (λ (cs : List Constraint). givens.constraints ++ cs) (row_parts 1 xs ys ∙ ap (λ n. row_constraints 1 xs ++ row_constraints n ys) l)
      ∙ sym (append_assoc givens.constraints (row_constraints 1 xs) (row_constraints line ys))

  as_problem : (cs : List Constraint) (ys : List Terms) → cs ≡ before ++ row_constraints line ys
      → record { space = givens.space; constraints = cs } ≡ with_rows givens (xs ++ ys)
  as_problem cs ys e = ap (λ (ds : List Constraint). record { space = givens.space; constraints = ds }) (e ∙ sym (in_parts ys))

  module _ (p : ProblemView) (row : Terms) (after : List Terms) where
    rows_count : p ≡ with_rows givens (xs ++ row ∷ after) → length p.constraints ≡ place + (length after + 1)
    rows_count is = let e : length p.constraints ≡ length (before ++ row_constraints line (row ∷ after)) = ap
        (λ (q : ProblemView). length q.constraints) is ∙ ap length (in_parts (row ∷ after)) in
        let n = length-append before (row_constraints line (row ∷ after)) in let r = row_count line (row ∷ after) in let b = before_place
        in omega (arith, e, n, r, b)

    pub row_within : p ≡ with_rows givens (xs ++ row ∷ after) → place < length p.constraints
    row_within is = let n = rows_count is in omega (arith, n)

    pub lines_within : p ≡ with_rows givens (xs ++ row ∷ after) → length kept + length after < 65535 → line + length p.constraints ≤ 65536 + place
    lines_within is few = let n = rows_count is in omega (arith, n, few, line_is)

    -- the row's constraint
    pub own_constraint : (c : Constraint) → p ≡ with_rows givens (xs ++ row ∷ after) → c ≡ get_or p.constraints place c
        → c ≡ record { row = row; kind = Inequality; origin = Rate line }
    own_constraint c is e = row_at before place before_place p.constraints line row after c
        (ap (λ (q : ProblemView). q.constraints) is ∙ in_parts (row ∷ after)) e

    -- without the row
    pub taken_out : (cs : List Constraint) → p ≡ with_rows givens (xs ++ row ∷ after)
        → ((before : List Constraint) (row : Terms) (rows : List Terms) → length before ≡ place
        → p.constraints ≡ before ++ row_constraints line (row ∷ rows) → cs ≡ before ++ row_constraints line rows)
        → record { space = p.space; constraints = cs } ≡ with_rows givens (xs ++ after)
    taken_out cs is out = ap (λ (q : ProblemView). record { space = q.space; constraints = cs }) is
        ∙ as_problem cs after (out before row after before_place (ap (λ (q : ProblemView). q.constraints) is ∙ in_parts (row ∷ after)))

    -- what is left is one less
    pub room_for_row : p ≡ with_rows givens (xs ++ after) → (place ≤ length p.constraints)
        × (length kept + length after < 65535 → line + length p.constraints ≤ 65535 + place)
    room_for_row is = let e : length p.constraints ≡ length (before ++ row_constraints line after) = ap
        (λ (q : ProblemView). length q.constraints) is ∙ ap length (in_parts after) in
        let n = length-append before (row_constraints line after) in let r = row_count line after in let b = before_place
        in (omega (arith, e, n, r, b), λ few. omega (arith, e, n, r, b, few, line_is))

    -- with the row again
    pub put_back : (c : Constraint) (cs : List Constraint) → c ≡ record { row = row; kind = Inequality; origin = Rate line }
        → p ≡ with_rows givens (xs ++ after)
        → ((before : List Constraint) (rows : List Terms) → length before ≡ place → p.constraints ≡ before ++ row_constraints line rows
        → cs ≡ before ++ row_constraints line (c.row ∷ rows))
        → record { space = p.space; constraints = cs } ≡ with_rows givens ((xs ++ row ∷ []) ++ after)
    put_back c cs own is in_place = ap (λ (q : ProblemView). record { space = q.space; constraints = cs }) is
        ∙ as_problem cs (row ∷ after) (in_place before after before_place (ap (λ (q : ProblemView). q.constraints) is ∙ in_parts after)
        ∙ ap (λ (d : Constraint). before ++ row_constraints line (d.row ∷ after)) own)
        ∙ ap (with_rows givens) (sym (append_assoc xs (row ∷ []) after))

-- with the row again the limits are kept
pub limits_again : (givens p : ProblemView) (rows : List Terms) (row : Terms) (after : List Terms)
    → p ≡ with_rows givens ((rows ++ row ∷ []) ++ after) → IsProblem givens → length givens.constraints ≤ 65535
    → length rows + length after < 65535 → AreRowsUpTo (size_of givens.space) rows → IsOver (size_of givens.space) row
    → AreRowsUpTo (size_of givens.space) after → IsProblem p
limits_again givens p rows row after is limits few count up own ups =
    let over = IsOver (size_of givens.space) in
    subst IsProblem (sym is) (problem_limits givens ((rows ++ row ∷ []) ++ after) limits few
    (omega (arith, count, length-append (rows ++ row ∷ []) after, length-append rows (row ∷ [])))
    (All-append over (rows ++ row ∷ []) after (All-append over rows (row ∷ []) up (All-cons over row [] own (All-nil over))) ups))

module _ (givens p : ProblemView) (kept : List (Terms × Need)) (after : List Terms) (is : p ≡ with_rows givens (map (λ k. k.0) kept ++ after)) where
  pub visit_limits : IsProblem givens → length givens.constraints ≤ 65535 → length kept + length after ≤ 65535
      → AreRowsUpTo (size_of givens.space) (map (λ k. k.0) kept)
      → AreRowsUpTo (size_of givens.space) after → IsProblem p
  visit_limits limits few count up ups = subst IsProblem (sym is) (problem_limits givens (map (λ k. k.0) kept ++ after) limits few
      (omega (arith, count, length-append (map (λ k. k.0) kept) after, length-map kept (λ (k : Terms × Need). k.0)))
      (All-append (IsOver (size_of givens.space)) (map (λ k. k.0) kept) after up ups))

  -- the closed problem of the givens serves the problem
  pub visit_closed : (c : ClosedProblem) → IsClosedProblem givens c → IsClosedProblem p c
  visit_closed c h = subst (λ q. IsClosedProblem q c) (sym is) (closed_after givens (map (λ k. k.0) kept ++ after) c h)

  pub visit_ends : (effort : Effort) (row : Terms) (o : ProofView) → EndsWith p row effort o
      → EndsWith (with_rows givens (kept_rows (map (λ k. (k.0, need_view k.1)) kept) ++ after)) row effort o
  visit_ends effort row o e = subst (λ (q : ProblemView). EndsWith q row effort o)
      (is ∙ ap (λ (rows : List Terms). with_rows givens (rows ++ after)) (sym (rows_kept kept))) e
