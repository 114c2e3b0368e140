-- Reduced elimination that settles each row ends with the same rows, for any effort.
use Rattle.std.proofs.Common.{◌≡◌, ℕ, ◌^◌, ◌≤◌, List, [], ◌∷◌, ◌++◌, length, All, refl, sym, ap, ap₂, subst, subst₂, ◌∙◌, arith}
use Rattle.std.proofs.lemmas.List.Elements.{All-head}
use Rattle.it_space.specs.Answers.{CertificateView}
use Rattle.it_problems.specs.Problems.{ProblemView, IsProblem}
use Rattle.it_space.specs.Rows.{Terms, IsOver}
use Rattle.it_space.specs.Spaces.{size_of}
use Rattle.it_eliminate.specs.Elimination.{EliminatedView, EliminationEnds, ordered_rows}
use Rattle.it_eliminate.specs.Elimination as elimination
use Rattle.it_eliminate.proofs.LawLemmas.{one_end}
use Rattle.it_eliminate.proofs.MemberLemmas.{all_front, all_back}
use Rattle.it_eliminate.proofs.RegionLemmas.{step_list, step_up}
use Rattle.it_prove.specs.ProofViews.{ProofView, Yes, No, Undecided, EndsWith}
use Rattle.it_prove.specs.declared.types.Effort.{Effort}
use Rattle.it_prove.proofs.RightLemmas.{ends_agree}
use Rattle.it_redundant.specs.Reduction as reduction
use Rattle.it_eliminate.specs.RowLines.{with_rows}
use Rattle.it_redundant.specs.Reduction.{NeedView, Reduces, kept_by, kept_rows}
use Rattle.it_redundant.specs.ReducedElimination.{ProjectedView, GoesOn}
use Rattle.it_redundant.specs.Theorems.{IsSettledRow, SettledEnds, HaveSameRows, SettledRegionsAgree}
use Rattle.it_redundant.proofs.ReductionLemmas.{AreTaken, own_up, taken_first, taken_next, taken_problem, rows_of_parts, all_kept}

module _ (givens : ProblemView) (effort other : Effort) (limits : IsProblem givens) (few : length givens.constraints ≤ 65535) where
  -- two outcomes that leave no row unsettled keep the same of a row
  same_kept : (others : List Terms) (row : Terms) (o p : ProofView) → IsProblem (with_rows givens others) → IsOver (size_of givens.space) row
      → EndsWith (with_rows givens others) row effort o → EndsWith (with_rows givens others) row other p → All IsSettledRow (kept_by row o)
      → All IsSettledRow (kept_by row p)
      → kept_rows (kept_by row o) ≡ kept_rows (kept_by row p)
  same_kept others row (Yes w) (Yes v) problem own a b s t = refl
  same_kept others row (Yes w) (No values) problem own a b s t = absurd (ends_agree (with_rows givens others) row effort other w values problem own a b)
  same_kept others row (Yes w) (Undecided cause) problem own a b s t = absurd (All-head IsSettledRow (row, reduction.Unsettled cause) [] t)
  same_kept others row (No values) (Yes w) problem own a b s t = absurd (ends_agree (with_rows givens others) row other effort w values problem own b a)
  same_kept others row (No values) (No point) problem own a b s t = refl
  same_kept others row (No values) (Undecided cause) problem own a b s t = absurd (All-head IsSettledRow (row, reduction.Unsettled cause) [] t)
  same_kept others row (Undecided cause) p problem own a b s t = absurd (All-head IsSettledRow (row, reduction.Unsettled cause) [] s)

  reductions_agree : (before rows : List Terms) (kept same : List (Terms × NeedView)) (dropped gone : List (Terms × CertificateView))
      → AreTaken givens effort before rows
      → Reduces givens effort before rows kept dropped → Reduces givens other before rows same gone → All IsSettledRow kept
      → All IsSettledRow same → kept_rows kept ≡ kept_rows same
  reductions_agree before [] kept same dropped gone taken r s a b = ap kept_rows (r.0 ∙ sym s.0)
  reductions_agree before (row ∷ rows) kept same dropped gone taken (o, k, d, ends, e, f, r) (p, l, g, others_end, h, i, s) a b =
      let settled : All IsSettledRow (kept_by row o ++ k) = subst (All IsSettledRow) e a in
      let also : All IsSettledRow (kept_by row p ++ l) = subst (All IsSettledRow) h b in
      let first : kept_rows (kept_by row o) ≡ kept_rows (kept_by row p) = same_kept (before ++ rows) row o p
      (taken_problem givens effort limits few before rows row taken) (own_up givens effort before rows row taken) ends others_end
      (all_front IsSettledRow (kept_by row o) k settled) (all_front IsSettledRow (kept_by row p) l also) in
      let rest : kept_rows k ≡ kept_rows l = reductions_agree (before ++ kept_rows (kept_by row o)) rows k l d g
      (taken_next givens effort before rows row o taken) r
      (subst (λ (xs : List Terms). Reduces givens other (before ++ xs) rows l g) (sym first) s)
      (all_back IsSettledRow (kept_by row o) k settled) (all_back IsSettledRow (kept_by row p) l also) in
      ap kept_rows e ∙ rows_of_parts (kept_by row o) k ∙ ap₂ (λ (xs ys : List Terms). xs ++ ys) first rest
      ∙ sym (ap kept_rows h ∙ rows_of_parts (kept_by row p) l)

  module _ (most : ℕ) (few_rows : most ≤ 65535) where
    ends_agree_from : (rates : List ℕ) (rows : List Terms) (last also : List (Terms × NeedView))
        (gone lost : List (Terms × CertificateView)) (end other_end : ProjectedView)
        → kept_rows last ≡ kept_rows also → All (IsOver (size_of givens.space)) rows
        → SettledEnds givens effort most rows last gone rates end → SettledEnds givens other most rows also lost rates other_end
        → HaveSameRows end other_end
    ends_agree_from [] rows last also gone lost end other_end same up e f = subst₂ HaveSameRows (sym e) (sym f) same
    ends_agree_from (r ∷ rs) rows last also gone lost end other_end same up (s, e, g) (t, f, h) =
        let step : s ≡ t = one_end (2 ^ givens.space.variables) most (ordered_rows rows) (r ∷ []) s t e f in
        by_step s e g (subst (λ (x : EliminatedView). GoesOn givens other (λ kept dropped. All IsSettledRow kept
        × SettledEnds givens other most (kept_rows kept) kept dropped rs other_end) x other_end) (sym step) h)
        (λ kept others dropped lost agree ups. ends_agree_from rs (kept_rows kept) kept others dropped lost end other_end agree ups)
      where
        by_step : (x : EliminatedView) → EliminationEnds (2 ^ givens.space.variables) most (ordered_rows rows) (r ∷ []) x
            → GoesOn givens effort (λ kept dropped. All IsSettledRow kept × SettledEnds givens effort most (kept_rows kept) kept dropped rs end) x end
            → GoesOn givens other (λ kept dropped. All IsSettledRow kept × SettledEnds givens other most (kept_rows kept) kept dropped rs other_end) x other_end
            → ((kept others : List (Terms × NeedView)) (dropped lost : List (Terms × CertificateView)) → kept_rows kept ≡ kept_rows others
            → All (IsOver (size_of givens.space)) (kept_rows kept)
            → SettledEnds givens effort most (kept_rows kept) kept dropped rs end
            → SettledEnds givens other most (kept_rows kept) others lost rs other_end → HaveSameRows end other_end)
            → HaveSameRows end other_end
        by_step (elimination.Region next) e (kept, dropped, reduces, so) (others, lost, reduces_so, also) later =
            let ups : All (IsOver (size_of givens.space)) next = step_up (size_of givens.space) (2 ^ givens.space.variables) most rows r next up e in
            let count : length next ≤ 65535 = let fits : length next ≤ most = (step_list (2 ^ givens.space.variables) most
            (ordered_rows rows) r next e).1 in omega (arith, fits, few_rows) in
            let agree : kept_rows kept ≡ kept_rows others = reductions_agree [] next kept others dropped lost
            (taken_first givens effort next count ups) reduces reduces_so so.0 also.0 in
            later kept others dropped lost agree (all_kept givens effort (IsOver (size_of givens.space)) [] next kept dropped reduces ups) so.1
            (subst (λ (xs : List Terms). SettledEnds givens other most xs others lost rs other_end) (sym agree) also.1)
        by_step (elimination.Rows rate) e g h later = subst₂ HaveSameRows (sym g) (sym h) refl
        by_step (elimination.Wide rate) e g h later = subst₂ HaveSameRows (sym g) (sym h) refl

pub settled_regions_agree : SettledRegionsAgree
settled_regions_agree givens effort other most rows rates end other_end limits few few_rows up e f = ends_agree_from givens effort other
    limits few most few_rows rates rows [] [] [] [] end other_end refl up e f
