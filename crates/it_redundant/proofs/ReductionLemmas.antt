-- Reduction keeps the points of the rows, and has one end.
use Rattle.std.proofs.Common.{◌≡◌, ℕ, suc, ◌+◌, ◌≤◌, ℤ, pos, ◌≤ℤ◌, List, [], ◌∷◌, ◌++◌, length, take, drop, get_or, refl, sym, ap, subst, ◌∙◌, arith, append_assoc, append-nil, length-append, All}
use Rattle.std.proofs.lemmas.List.{map-append}
use Rattle.std.proofs.lemmas.List.Elements.{All-nil, All-cons, All-head, All-tail, All-append}
use Rattle.it_space.specs.Answers.{CertificateView}
use Rattle.it_problems.specs.Problems.{ProblemView, IsProblem, IsMet}
use Rattle.it_space.specs.Rows.{Terms, IsOver, point_of, value}
use Rattle.it_space.specs.Spaces.{size_of}
use Rattle.it_eliminate.specs.Projections.{IsPointOf}
use Rattle.it_eliminate.proofs.MemberLemmas.{all_front, all_back}
use Rattle.it_eliminate.proofs.OrderLemmas.{RowHolds}
use Rattle.it_check.proofs.Truth.{yes_is_true}
use Rattle.it_prove.specs.ProofViews.{ProofView, Yes, No, Undecided, EndsWith}
use Rattle.it_prove.proofs.ProofLemmas.{one_outcome}
use Rattle.it_prove.proofs.RightLemmas.{ends_are_right}
use Rattle.it_prove.specs.declared.types.Effort.{Effort}
use Rattle.it_eliminate.specs.RowLines.{with_rows, row_constraints}
use Rattle.it_redundant.specs.Reduction.{NeedView, Needed, Unsettled, Reduces, kept_by, dropped_by, kept_rows}
use Rattle.it_redundant.specs.Theorems.{MeetsGivens, HoldAlike, SeparatesRow, IsNeeded, AreNeeded, OneReduction}
use Rattle.it_eliminate.proofs.RowLemmas.{met_rows_hold, problem_is_met, problem_limits}

pub rows_of_parts : (ks ls : List (Terms × NeedView)) → kept_rows (ks ++ ls) ≡ kept_rows ks ++ kept_rows ls
rows_of_parts ks ls = map-append (λ k. k.0) ks ls

pub some_keep : (P : Terms → Type 0) (row : Terms) (o : ProofView) → P row → All P (kept_rows (kept_by row o))
some_keep P row (Yes w) h = All-nil P
some_keep P row (No values) h = All-cons P row [] h (All-nil P)
some_keep P row (Undecided cause) h = All-cons P row [] h (All-nil P)

module _ (givens : ProblemView) (effort : Effort) where
  -- ---- the rows that stay are some of the rows

  module _ (P : Terms → Type 0) where
    pub all_kept : (before rows : List Terms) (kept : List (Terms × NeedView)) (dropped : List (Terms × CertificateView))
        → Reduces givens effort before rows kept dropped → All P rows → All P (kept_rows kept)
    all_kept before [] kept dropped r h = subst (λ k. All P (kept_rows k)) (sym r.0) (All-nil P)
    all_kept before (row ∷ rows) kept dropped (o, k, d, ends, e, f, r) h = subst (λ rs. All P rs) (sym (ap kept_rows e ∙ rows_of_parts (kept_by row o) k))
        (All-append P (kept_rows (kept_by row o)) (kept_rows k) (some_keep P row o (All-head P row rows h))
        (all_kept (before ++ kept_rows (kept_by row o)) rows k d r (All-tail P row rows h)))

  module _ (p : ℕ → ℤ) where
    parts_of_rows : (ks ls : List (Terms × NeedView)) → IsPointOf (kept_rows (ks ++ ls)) p → IsPointOf (kept_rows ks) p × IsPointOf (kept_rows ls) p
    parts_of_rows ks ls h =
        let both = subst (λ rs. IsPointOf rs p) (rows_of_parts ks ls) h in (
          all_front (RowHolds p) (kept_rows ks) (kept_rows ls) both,
          all_back (RowHolds p) (kept_rows ks) (kept_rows ls) both,
        )

    pub kept_hold : (before rows : List Terms) (kept : List (Terms × NeedView)) (dropped : List (Terms × CertificateView))
        → Reduces givens effort before rows kept dropped → IsPointOf rows p → IsPointOf (kept_rows kept) p
    kept_hold before rows kept dropped r h = all_kept (RowHolds p) before rows kept dropped r h

  -- ---- they hold where all do

  pub few_kept : (row : Terms) (o : ProofView) → length (kept_rows (kept_by row o)) ≤ 1
  few_kept row (Yes w) = omega arith
  few_kept row (No values) = omega arith
  few_kept row (Undecided cause) = omega arith

  -- rows that stay and rows that are still to be visited, as the calls take them
  pub record AreTaken (before rows : List Terms) : Type 0 where
    pub count : length before + length rows ≤ 65535
    pub up : All (IsOver (size_of givens.space)) before
    pub ups : All (IsOver (size_of givens.space)) rows

  pub own_up : (before rows : List Terms) (row : Terms) → AreTaken before (row ∷ rows) → IsOver (size_of givens.space) row
  own_up before rows row t = All-head (IsOver (size_of givens.space)) row rows t.ups

  others_up : (before rows : List Terms) (row : Terms) → AreTaken before (row ∷ rows) → All (IsOver (size_of givens.space)) (before ++ rows)
  others_up before rows row t = All-append (IsOver (size_of givens.space)) before rows t.up (All-tail (IsOver (size_of givens.space)) row rows t.ups)

  -- and after a visit
  pub taken_next : (before rows : List Terms) (row : Terms) (o : ProofView) → AreTaken before (row ∷ rows) → AreTaken (before ++ kept_rows (kept_by row o)) rows
  taken_next before rows row o t = record {
    count = omega (arith, t.count, length-append before (kept_rows (kept_by row o)), few_kept row o);
    up = All-append (IsOver (size_of givens.space)) before (kept_rows (kept_by row o)) t.up
        (some_keep (IsOver (size_of givens.space)) row o (own_up before rows row t));
    ups = All-tail (IsOver (size_of givens.space)) row rows t.ups;
  }

  module _ (limits : IsProblem givens) (few : length givens.constraints ≤ 65535) where
    pub taken_problem : (before rows : List Terms) (row : Terms) → AreTaken before (row ∷ rows) → IsProblem (with_rows givens (before ++ rows))
    taken_problem before rows row t = problem_limits givens (before ++ rows) limits few (omega (arith, t.count, length-append before rows))
        (others_up before rows row t)

    module _ (p : ℕ → ℤ) (meets : MeetsGivens givens p) where
      -- a row with an outcome holds: it is proved from the others, or it is one that stays
      row_holds : (others : List Terms) (row : Terms) (o : ProofView) → IsProblem (with_rows givens others) → IsOver (size_of givens.space) row
          → EndsWith (with_rows givens others) row effort o → IsPointOf others p → IsPointOf (kept_rows (kept_by row o)) p → pos 0 ≤ℤ value row p
      row_holds others row (Yes w) problem own ends h k =
          yes_is_true (with_rows givens others) row w problem own (ends_are_right (with_rows givens others) row effort
          (Yes w) problem own ends).0 p meets.0 (problem_is_met p givens others meets.1 h)
      row_holds others row (No values) problem own ends h k = All-head (RowHolds p) row [] k
      row_holds others row (Undecided cause) problem own ends h k = All-head (RowHolds p) row [] k

      all_hold : (before rows : List Terms) (kept : List (Terms × NeedView)) (dropped : List (Terms × CertificateView))
          → AreTaken before rows → Reduces givens effort before rows kept dropped → IsPointOf before p → IsPointOf (kept_rows kept) p
          → IsPointOf rows p
      all_hold before [] kept dropped t r b h = All-nil (RowHolds p)
      all_hold before (row ∷ rows) kept dropped t (o, k, d, ends, e, f, r) b h =
          let parts = parts_of_rows p (kept_by row o) k (subst (λ k. IsPointOf (kept_rows k) p) e h) in
          let hold : IsPointOf rows p = all_hold (before ++ kept_rows (kept_by row o)) rows k d (taken_next before rows row o t) r
          (All-append (RowHolds p) before (kept_rows (kept_by row o)) b parts.0) parts.1 in
          All-cons (RowHolds p) row rows (row_holds (before ++ rows) row o (taken_problem before rows row t) (own_up before rows row t) ends
          (All-append (RowHolds p) before rows b hold) parts.0) hold

  pub taken_first : (rows : List Terms) → length rows ≤ 65535 → All (IsOver (size_of givens.space)) rows → AreTaken [] rows
  taken_first rows count ups = record { count = omega (arith, count); up = All-nil (IsOver (size_of givens.space)); ups = ups }

  pub hold_alike : IsProblem givens → length givens.constraints ≤ 65535
      → (rows : List Terms) (kept : List (Terms × NeedView)) (dropped : List (Terms × CertificateView)) → length rows ≤ 65535
      → All (IsOver (size_of givens.space)) rows → Reduces givens effort [] rows kept dropped → HoldAlike givens rows (kept_rows kept)
  hold_alike limits few rows kept dropped count ups r p meets =
      (λ h. kept_hold p [] rows kept dropped r h, λ h. all_hold limits few p meets [] rows kept dropped (taken_first rows count ups) r (All-nil (RowHolds p)) h)

  -- ---- the point of a needed row separates it from the others that stay

  -- the point with which the run about a row ends, under the givens and other rows
  point_separates : (others : List Terms) (row : Terms) (values : List ℤ) → IsProblem (with_rows givens others)
      → IsOver (size_of givens.space) row → EndsWith (with_rows givens others) row effort (No values)
      → SeparatesRow givens others row values
  point_separates others row values problem own ends =
      let refutes = (ends_are_right (with_rows givens others) row effort (No values) problem own ends).0 in let p = point_of values in record {
        meets = (refutes.polymatroid, all_front (IsMet p) givens.constraints (row_constraints 1 others) refutes.met);
        others_hold = met_rows_hold p 1 others (all_back (IsMet p) givens.constraints (row_constraints 1 others) refutes.met);
        violated = refutes.violated;
      }

  need_at : (before rows : List Terms) (row : Terms) (o : ProofView) (kept : List (Terms × NeedView))
      (dropped : List (Terms × CertificateView)) → IsProblem (with_rows givens (before ++ rows)) → IsOver (size_of givens.space) row
      → EndsWith (with_rows givens (before ++ rows)) row effort o → Reduces givens effort (before ++ kept_rows (kept_by row o)) rows kept dropped
      → (k : Terms × NeedView) → kept_by row o ≡ k ∷ [] → IsNeeded givens (before ++ kept_rows kept) k
  need_at before rows row (Yes w) kept dropped problem own ends r k e = absurd (let n : 0 ≡ 1 = ap length e in omega (arith, n))
  need_at before rows row (No values) kept dropped problem own ends r k e = subst (IsNeeded givens (before ++ kept_rows kept)) (ap (λ ks. get_or ks 0 k) e)
      (let apart = point_separates (before ++ rows) row values problem own ends in let p = point_of values in record {
        meets = apart.meets;
        others_hold = All-append (RowHolds p) before (kept_rows kept) (all_front (RowHolds p) before rows apart.others_hold)
            (kept_hold p (before ++ row ∷ []) rows kept dropped r (all_back (RowHolds p) before rows apart.others_hold));
        violated = apart.violated;
      })
  need_at before rows row (Undecided cause) kept dropped problem own ends r k e = subst (IsNeeded givens (before ++ kept_rows kept))
      (ap (λ ks. get_or ks 0 k) e) tt

  nothing_there : (pre post : List (Terms × NeedView)) (k : Terms × NeedView) → [] ≡ pre ++ k ∷ post → ⊥
  nothing_there [] post k e = absurd (let n : 0 ≡ suc (length post) = ap length e in omega (arith, n))
  nothing_there (x ∷ pre) post k e = absurd (let n : 0 ≡ suc (length (pre ++ k ∷ post)) = ap length e in omega (arith, n))

  module _ (limits : IsProblem givens) (few : length givens.constraints ≤ 65535) where
    needed_from : (before rows : List Terms) (kept : List (Terms × NeedView)) (dropped : List (Terms × CertificateView))
        → AreTaken before rows → Reduces givens effort before rows kept dropped
        → (pre post : List (Terms × NeedView)) (k : Terms × NeedView) → kept ≡ pre ++ k ∷ post → IsNeeded givens (before ++ (kept_rows pre ++ kept_rows post)) k
    needed_from before [] kept dropped t r pre post k e = absurd (nothing_there pre post k (sym r.0 ∙ e))
    needed_from before (row ∷ rows) kept dropped t (o, ks, d, ends, e, f, r) pre post k is = by_outcome o ends (sym e ∙ is) r
        (taken_next before rows row o t) (λ b u s pre. needed_from b rows ks d u s pre post k)
      where
        problem : IsProblem (with_rows givens (before ++ rows))
        problem = taken_problem limits few before rows row t

        row_up_to : IsOver (size_of givens.space) row
        row_up_to = own_up before rows row t

        staying_rows_needed : (x : Terms × NeedView) → x.0 ≡ row → ((n : Terms × NeedView) → x ∷ [] ≡ n ∷ [] → IsNeeded givens (before ++ kept_rows ks) n)
            → Reduces givens effort (before ++ row ∷ []) rows ks d → (pre : List (Terms × NeedView)) → x ∷ ks ≡ pre ++ k ∷ post
            → ((pre : List (Terms × NeedView)) → ks ≡ pre ++ k ∷ post → IsNeeded givens ((before ++ row ∷ []) ++ (kept_rows pre ++ kept_rows post)) k)
            → IsNeeded givens (before ++ (kept_rows pre ++ kept_rows post)) k
        staying_rows_needed x same here r [] e later = subst (λ l. IsNeeded givens (before ++ kept_rows l) k) (ap (λ l. drop 1 l) e)
            (here k (ap (λ l. take 1 l) e))
        staying_rows_needed x same here r (y ∷ pre) e later = subst (λ l. IsNeeded givens l k)
            (append_assoc before (row ∷ []) (kept_rows pre ++ kept_rows post)
            ∙ ap (λ z. before ++ z ∷ (kept_rows pre ++ kept_rows post)) (sym same ∙ ap (λ l. (get_or l 0 x).0) e))
            (later pre (ap (λ l. drop 1 l) e))

        by_outcome : (o : ProofView) → EndsWith (with_rows givens (before ++ rows)) row effort o → kept_by row o ++ ks ≡ pre ++ k ∷ post
            → Reduces givens effort (before ++ kept_rows (kept_by row o)) rows ks d → AreTaken (before ++ kept_rows (kept_by row o)) rows
            → ((b : List Terms) → AreTaken b rows → Reduces givens effort b rows ks d → (pre : List (Terms × NeedView))
            → ks ≡ pre ++ k ∷ post → IsNeeded givens (b ++ (kept_rows pre ++ kept_rows post)) k)
            → IsNeeded givens (before ++ (kept_rows pre ++ kept_rows post)) k
        by_outcome (Yes w) ends e r u later = subst (λ l. IsNeeded givens (l ++ (kept_rows pre ++ kept_rows post)) k) (append-nil before)
            (later (before ++ []) u r pre e)
        by_outcome (No values) ends e r u later = staying_rows_needed (row, Needed values) refl
            (need_at before rows row (No values) ks d problem row_up_to ends r) r pre e (later (before ++ row ∷ []) u r)
        by_outcome (Undecided cause) ends e r u later = staying_rows_needed (row, Unsettled cause) refl
            (need_at before rows row (Undecided cause) ks d problem row_up_to ends r) r pre e (later (before ++ row ∷ []) u r)

    pub kept_are_needed : (rows : List Terms) (kept : List (Terms × NeedView)) (dropped : List (Terms × CertificateView))
        → length rows ≤ 65535 → All (IsOver (size_of givens.space)) rows
        → Reduces givens effort [] rows kept dropped → AreNeeded givens kept
    kept_are_needed rows kept dropped count ups r pre post k is = needed_from [] rows kept dropped (taken_first rows count ups) r pre post k is

-- ---- a list has one reduction

pub one_reduction : OneReduction
one_reduction givens effort before [] kept other dropped other_dropped defined r s = (r.0 ∙ sym s.0, r.1 ∙ sym s.1)
one_reduction givens effort before (row ∷ rows) kept other dropped other_dropped defined (o, k, d, ends, e, f, r) (p, l, g, others_end, h, i, s) =
    let same : o ≡ p = one_outcome (with_rows givens (before ++ rows)) row effort o p defined ends others_end in
    let rest = one_reduction givens effort (before ++ kept_rows (kept_by row o)) rows k l d g defined r
    (subst (λ x. Reduces givens effort (before ++ kept_rows (kept_by row x)) rows l g) (sym same) s) in (
      e ∙ ap (λ x. kept_by row x ++ k) same ∙ ap (λ x. kept_by row p ++ x) rest.0 ∙ sym h,
      f ∙ ap (λ x. dropped_by row x ++ d) same
          ∙ ap (λ x. dropped_by row p ++ x) rest.1 ∙ sym i,
    )
