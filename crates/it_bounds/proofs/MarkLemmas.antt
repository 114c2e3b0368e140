-- Marks of rows, by a reduction where all variables are constant.
use Rattle.std.proofs.Common.{◌≡◌, ℤ, List, [], ◌∷◌, ◌++◌, map, length, refl, sym, ap, ap₂, subst, ◌∙◌, arith, All}
use Rattle.std.proofs.lemmas.List.{length-map}
use Rattle.std.proofs.lemmas.List.Elements.{All-nil, All-cons, All-head, All-tail}
use Rattle.it_space.specs.declared.answers.Mark.{Mark}
use Rattle.it_space.specs.declared.answers.Mark.TheVariants as marks
use Rattle.it_space.specs.declared.spaces.Space.{Space}
use Rattle.it_space.specs.Answers.{CertificateView}
use Rattle.it_problems.specs.declared.problems.System.{System}
use Rattle.it_problems.specs.Problems.{IsProblem, ProblemView}
use Rattle.it_space.specs.Rows.{IsOver, Terms, point_of}
use Rattle.it_space.specs.Spaces.{IsSpace, size_of}
use Rattle.it_eliminate.proofs.MemberLemmas.{all_back}
use Rattle.it_prove.specs.declared.types.Effort.{Effort}
use Rattle.it_prove.specs.ProofViews as proofs
use Rattle.it_prove.specs.ProofViews.{ProofView}
use Rattle.it_redundant.specs.declared.types.Reduced.{Reduced}
use Rattle.it_redundant.specs.Reduction.{IsSystemUnder, NeedView, Needed, Unsettled, Reduces, dropped_by, dropped_view, kept_by, kept_rows, kept_view}
use Rattle.it_redundant.specs.Theorems.{AreNeeded, IsNeeded}
use Rattle.it_hull.specs.Constants.{constants}
use Rattle.it_hull.proofs.ConstantLemmas.{constants_are_problem, few_constants}
use Rattle.it_answer.specs.DueEliminations.{mark_of_need, marked_rows}
use Rattle.it_answer.specs.Truth.{region_rows}
use Rattle.it_bounds.specs.RowReplies.{AreMarked}
use Rattle.it_bounds.specs.Truth.{IsNeededBeside, MarkedRowsAreNeeded}

-- ---- where no row is dropped

-- all rows stay
all_stay : (givens : ProblemView) (effort : Effort) (before rows : List Terms) (kept : List (Terms × NeedView))
    (dropped : List (Terms × CertificateView)) → dropped ≡ [] → Reduces givens effort before rows kept dropped → kept_rows kept ≡ rows
all_stay givens effort before [] kept dropped none (is, gone) = ap kept_rows is
all_stay givens effort before (row ∷ rows) kept dropped none (o, k, d, ends, is, gone, rest) = ap kept_rows is
    ∙ by_outcome o (sym gone ∙ none) (λ e. all_stay givens effort (before ++ kept_rows (kept_by row o)) rows k d e rest)
  where
    by_outcome : (o : ProofView) → dropped_by row o ++ d ≡ [] → (d ≡ [] → kept_rows k ≡ rows) → kept_rows (kept_by row o ++ k) ≡ row ∷ rows
    by_outcome (proofs.Yes w) e ih = absurd (cc)
    by_outcome (proofs.No values) e ih = ap (λ (rs : List Terms). row ∷ rs) (ih e)
    by_outcome (proofs.Undecided cause) e ih = ap (λ (rs : List Terms). row ∷ rs) (ih e)

pub rows_of_marked : (kept : List (Terms × NeedView)) → region_rows (marked_rows kept) ≡ kept_rows kept
rows_of_marked [] = refl
rows_of_marked (k ∷ kept) = ap (λ (rs : List Terms). k.0 ∷ rs) (rows_of_marked kept)

-- a split of the marked rows is one of the rows with their needs
record IsSplit (kept : List (Terms × NeedView)) (before after : List (Mark × Terms)) (mark : Mark) (row : Terms) : Type 0 where
  first : List (Terms × NeedView)
  last : List (Terms × NeedView)
  need : NeedView
  kept_is : kept ≡ first ++ (row, need) ∷ last
  first_is : before ≡ marked_rows first
  last_is : after ≡ marked_rows last
  mark_is : mark ≡ mark_of_need need

first_of : (x y : Mark × Terms) (xs ys : List (Mark × Terms)) → x ∷ xs ≡ y ∷ ys → x ≡ y
first_of x y xs ys e = cc

rest_of : (x y : Mark × Terms) (xs ys : List (Mark × Terms)) → x ∷ xs ≡ y ∷ ys → xs ≡ ys
rest_of x y xs ys e = cc

split_marked : (kept : List (Terms × NeedView)) (before after : List (Mark × Terms)) (mark : Mark) (row : Terms)
    → marked_rows kept ≡ before ++ (mark, row) ∷ after → IsSplit kept before after mark row
split_marked [] [] after mark row e = absurd (cc)
split_marked [] (b ∷ before) after mark row e = absurd (cc)
split_marked ((r, need) ∷ kept) [] after mark row e =
    let one : (mark_of_need need, r) ≡ (mark, row) = first_of (mark_of_need need, r) (mark, row) (marked_rows kept) after e in record {
      first = [];
      last = kept;
      need = need;
      kept_is = ap (λ (x : Mark × Terms). (x.1, need) ∷ kept) one;
      first_is = refl;
      last_is = sym (rest_of (mark_of_need need, r) (mark, row) (marked_rows kept) after e);
      mark_is = sym (ap (λ (x : Mark × Terms). x.0) one);
    }
split_marked ((r, need) ∷ kept) (b ∷ before) after mark row e =
    let s = split_marked kept before after mark row (rest_of (mark_of_need need, r) b (marked_rows kept) (before ++ (mark, row) ∷ after) e) in
    let one : b ≡ (mark_of_need need, r) = sym (first_of (mark_of_need need, r) b (marked_rows kept) (before ++ (mark, row) ∷ after) e) in record {
      first = (r, need) ∷ s.first;
      last = s.last;
      need = s.need;
      kept_is = ap (λ (ks : List (Terms × NeedView)). (r, need) ∷ ks) s.kept_is;
      first_is = ap₂ (λ (x : Mark × Terms) (xs : List (Mark × Terms)). x ∷ xs) one s.first_is;
      last_is = s.last_is;
      mark_is = s.mark_is;
    }

needed_mark : (need : NeedView) → marks.Needed ≡ mark_of_need need → (values : List ℤ) × (need ≡ Needed values)
needed_mark (Needed values) e = (values, refl)
needed_mark (Unsettled cause) e = absurd (cc)

-- rows that are needed of a reduction don't follow from the others, whatever the givens
marked_are_needed : (givens : ProblemView) (kept : List (Terms × NeedView)) → AreNeeded givens kept → MarkedRowsAreNeeded (marked_rows kept)
marked_are_needed givens kept n before after row e =
    let s = split_marked kept before after marks.Needed row e in
    let needs = needed_mark s.need s.mark_is in
    let separates = subst (λ (x : NeedView). IsNeeded givens (kept_rows s.first ++ kept_rows s.last) (row, x)) needs.1
    (n s.first s.last (row, s.need) s.kept_is) in
    subst (λ (rs : List Terms). IsNeededBeside rs row)
    (ap₂ (λ (xs ys : List Terms). xs ++ ys) (sym (ap region_rows s.first_is ∙ rows_of_marked s.first)) (sym (ap region_rows s.last_is ∙ rows_of_marked s.last)))
    (record { rates = point_of needs.0; others_hold = separates.others_hold; violated = separates.violated })

pub marked_by_needs : (s : Space) (effort : Effort) (rows : List Terms) (kept : List (Terms × NeedView))
    (dropped : List (Terms × CertificateView)) → dropped ≡ [] → Reduces (constants s) effort [] rows kept dropped
    → AreNeeded (constants s) kept → AreMarked s effort rows (marked_rows kept)
marked_by_needs s effort rows kept dropped none red needed =
    let same : region_rows (marked_rows kept) ≡ rows = rows_of_marked kept ∙ all_stay (constants s) effort [] rows kept dropped none red in
    record {
      same = same;
      ends = (
        kept,
        [],
        subst (λ (rs : List Terms). Reduces (constants s) effort [] rs kept []) (sym same)
            (subst (λ (ds : List (Terms × CertificateView)). Reduces (constants s) effort [] rows kept ds) none red),
        refl,
      );
      needed = marked_are_needed (constants s) kept needed;
    }

-- ---- where one is

-- the rows, each unsettled
abbrev pub all_unsettled : List Terms → List (Mark × Terms)
all_unsettled rows = map (λ row. (marks.Unsettled, row)) rows

rows_unsettled : (rows : List Terms) → region_rows (all_unsettled rows) ≡ rows
rows_unsettled [] = refl
rows_unsettled (row ∷ rows) = ap (λ (rs : List Terms). row ∷ rs) (rows_unsettled rows)

are_unsettled : (rows : List Terms) → All (λ row. row.0 ≡ marks.Unsettled) (all_unsettled rows)
are_unsettled [] = All-nil (λ (row : Mark × Terms). row.0 ≡ marks.Unsettled)
are_unsettled (row ∷ rows) = All-cons (λ (r : Mark × Terms). r.0 ≡ marks.Unsettled) (marks.Unsettled, row) (all_unsettled rows) refl (are_unsettled rows)

none_needed : (rows : List (Mark × Terms)) → All (λ row. row.0 ≡ marks.Unsettled) rows → MarkedRowsAreNeeded rows
none_needed rows u before after row e =
    let own : marks.Needed ≡ marks.Unsettled = All-head (λ (r : Mark × Terms). r.0 ≡ marks.Unsettled) (marks.Needed, row) after
    (all_back (λ (r : Mark × Terms). r.0 ≡ marks.Unsettled) before ((marks.Needed, row) ∷ after)
    (subst (λ (rs : List (Mark × Terms)). All (λ r. r.0 ≡ marks.Unsettled) rs) e u)) in
    absurd (cc)

pub marked_unsettled : (s : Space) (effort : Effort) (rows : List Terms) (kept : List (Terms × NeedView))
    (dropped : List (Terms × CertificateView)) → (dropped ≡ [] → ⊥) → Reduces (constants s) effort [] rows kept dropped
    → AreMarked s effort rows (all_unsettled rows)
marked_unsettled s effort rows kept [] some red = absurd (some refl)
marked_unsettled s effort rows kept (d ∷ dropped) some red = record {
  same = rows_unsettled rows;
  ends = (
    kept,
    d ∷ dropped,
    subst (λ (rs : List Terms). Reduces (constants s) effort [] rs kept (d ∷ dropped))
        (sym (rows_unsettled rows)) red,
    are_unsettled rows,
  );
  needed = none_needed (all_unsettled rows) (are_unsettled rows);
}

-- ---- marks are determined by the rows

pub same_unsettled : (xs ys : List (Mark × Terms)) → region_rows xs ≡ region_rows ys → All (λ row. row.0 ≡ marks.Unsettled) xs
    → All (λ row. row.0 ≡ marks.Unsettled) ys → xs ≡ ys
same_unsettled [] [] e a b = refl
same_unsettled [] (y ∷ ys) e a b = absurd (cc)
same_unsettled (x ∷ xs) [] e a b = absurd (cc)
same_unsettled ((m, r) ∷ xs) ((n, t) ∷ ys) e a b =
    let m_is : m ≡ marks.Unsettled = All-head (λ (row : Mark × Terms). row.0 ≡ marks.Unsettled) (m, r) xs a in
    let n_is : n ≡ marks.Unsettled = All-head (λ (row : Mark × Terms). row.0 ≡ marks.Unsettled) (n, t) ys b in
    let row_is : r ≡ t = cc in
    ap₂ (λ (z : Mark × Terms) (zs : List (Mark × Terms)). z ∷ zs) (ap₂ (λ (k : Mark) (w : Terms). (k, w)) (m_is ∙ sym n_is) row_is)
    (same_unsettled xs ys (let k : region_rows xs ≡ region_rows ys = cc in k)
    (All-tail (λ (row : Mark × Terms). row.0 ≡ marks.Unsettled) (m, r) xs a)
    (All-tail (λ (row : Mark × Terms). row.0 ≡ marks.Unsettled) (n, t) ys b))

-- ---- what a reduction gives

-- rows of a space as a system under its problem in which all variables are constant
pub system_under : (s : Space) (q : ProblemView) (rows : List Terms) (t : System) → IsSpace s → q ≡ constants s → t.space ≡ s
    → t.rows.items ≡ rows → All (IsOver (size_of s)) rows → IsSystemUnder q t
system_under s q rows t h is same own over = record {
  system = record {
    space = subst (λ (x : Space). IsSpace x) (sym same) h;
    rows = subst (λ (x : Space). All (IsOver (size_of x)) t.rows.items) (sym same) (subst (λ (rs : List Terms). All (IsOver (size_of s)) rs) (sym own) over);
  };
  givens = subst (λ (p : ProblemView). IsProblem p) (sym is) (constants_are_problem s h);
  space = same ∙ ap (λ (p : ProblemView). p.space) (sym is);
  few_givens = let k = few_constants s h in let e : length q.constraints
      ≡ length (constants s).constraints = ap (λ (p : ProblemView). length p.constraints) is in omega (arith, k, e);
}

module _ (s : Space) (effort : Effort) (q : ProblemView) (rows own : List Terms) (r : Reduced) (is : q ≡ constants s) (same : own ≡ rows)
    (red : Reduces q effort [] own (kept_view r) (dropped_view r)) where
  reduces_constants : Reduces (constants s) effort [] rows (kept_view r) (dropped_view r)
  reduces_constants = subst (λ (p : ProblemView). Reduces p effort [] rows (kept_view r) (dropped_view r)) is
      (subst (λ (rs : List Terms). Reduces q effort [] rs (kept_view r) (dropped_view r)) same red)

  pub marked_where_none : AreNeeded q (kept_view r) → length r.dropped.items ≡ 0 → (marked : List (Mark × Terms))
      → marked ≡ marked_rows (kept_view r) → AreMarked s effort rows marked
  marked_where_none needed none marked are = subst (λ (ms : List (Mark × Terms)). AreMarked s effort rows ms) (sym are)
      (marked_by_needs s effort rows (kept_view r) (dropped_view r) (no_items (dropped_view r) (length-map r.dropped.items _ ∙ none))
      reduces_constants (subst (λ (p : ProblemView). AreNeeded p (kept_view r)) is needed))
    where
      no_items : {A : Type 0} (xs : List A) → length xs ≡ 0 → xs ≡ []
      no_items [] e = refl
      no_items (x ∷ xs) e = absurd (omega (arith, e))

  pub marked_where_some : (length r.dropped.items ≡ 0 → ⊥) → (marked : List (Mark × Terms)) → marked ≡ all_unsettled rows → AreMarked s effort rows marked
  marked_where_some some marked are = subst (λ (ms : List (Mark × Terms)). AreMarked s effort rows ms) (sym are)
      (marked_unsettled s effort rows (kept_view r) (dropped_view r) (λ e. some (sym (length-map r.dropped.items _) ∙ ap length e)) reduces_constants)
