-- A cause of reduced elimination is one of plain elimination: rate after rate its list is a part of the plain one.
use Rattle.std.proofs.Common.{◌≡◌, inl, inr, ℕ, ◌+◌, ◌^◌, List, [], ◌∷◌, refl, sym, ap, subst, arith}
use Rattle.it_space.specs.Answers.{CertificateView}
use Rattle.it_problems.specs.Problems.{ProblemView}
use Rattle.it_space.specs.Rows.{Terms}
use Rattle.it_eliminate.specs.Elimination.{EliminatedView, EliminationEnds, ordered_rows, next_list, results}
use Rattle.it_eliminate.proofs.MemberLemmas.{Member, all_member, member_all}
use Rattle.it_prove.specs.declared.types.Effort.{Effort}
use Rattle.it_redundant.specs.Reduction.{NeedView, Reduces, kept_rows}
use Rattle.it_redundant.specs.ReducedElimination.{ProjectedView, Region, Rows, Wide, GoesOn, ReducedEnds}
use Rattle.it_redundant.specs.PlainCauses.{ComesTo, IsPlainCause, CausesArePlain}
use Rattle.it_redundant.proofs.PartLemmas.{IsPart, next_list_no_longer, pairs_fit_part, part-next_list, part-ordered}
use Rattle.it_redundant.proofs.ReductionLemmas.{all_kept}

-- ---- plain elimination from the next list

module _ (base most : ℕ) (start : List Terms) (r : ℕ) (rs : List ℕ) where
  comes_first : ComesTo base start (r ∷ rs) r start
  comes_first = record { before = []; after = rs; rates_are = refl; rows_are = refl }

  comes_later : (rate : ℕ) (rows : List Terms) → ComesTo base (next_list (base + r) start) rs rate rows → ComesTo base start (r ∷ rs) rate rows
  comes_later rate rows c = record { before = r ∷ c.before; after = c.after; rates_are = ap (λ xs. r ∷ xs) c.rates_are; rows_are = c.rows_are }

  cause_later : (end : ProjectedView) → IsPlainCause base most (next_list (base + r) start) rs end → IsPlainCause base most start (r ∷ rs) end
  cause_later (Region kept dropped) c = tt
  cause_later (Rows rate) (rows, c, many) = (rows, comes_later rate rows c, many)
  cause_later (Wide rate) (rows, c, wide) = (rows, comes_later rate rows c, wide)

-- ---- rate after rate

module _ (givens : ProblemView) (effort : Effort) (most : ℕ) where
  -- the rows that stay are some of the rows
  kept_part : (rows : List Terms) (kept : List (Terms × NeedView)) (dropped : List (Terms × CertificateView))
      → Reduces givens effort [] rows kept dropped → IsPart (kept_rows kept) rows
  kept_part rows kept dropped red x m = all_member (λ y. Member y rows) (kept_rows kept) x
      (all_kept givens effort (λ y. Member y rows) [] rows kept dropped red (member_all (λ y. Member y rows) rows (λ y k. k))) m

  module _ (base : ℕ) (r : ℕ) (rs : List ℕ) (part start : List Terms) (p : IsPart part start)
      (later : List (Terms × NeedView) → List (Terms × CertificateView) → Type 0) where
    -- the reduced list after a rate, in order, is a part of the plain one
    next_part : (kept : List (Terms × NeedView)) (dropped : List (Terms × CertificateView))
        → Reduces givens effort [] (next_list (base + r) part) kept dropped
        → IsPart (ordered_rows (kept_rows kept)) (next_list (base + r) start)
    next_part kept dropped red x m =
        part-next_list (base + r) part start p x (part-ordered (kept_rows kept) (results (base + r) part)
        (kept_part (next_list (base + r) part) kept dropped red) x m)

    -- so a cause at this rate is one of plain elimination, and each later one where it is one from the next list
    step_is_plain : (step : EliminatedView) (end : ProjectedView)
        → ((kept : List (Terms × NeedView)) (dropped : List (Terms × CertificateView))
        → IsPart (ordered_rows (kept_rows kept)) (next_list (base + r) start) → later kept dropped
        → IsPlainCause base most (next_list (base + r) start) rs end)
        → EliminationEnds base most part (r ∷ []) step → GoesOn givens effort later step end → IsPlainCause base most start (r ∷ rs) end
    step_is_plain step end ih (inl e) g =
        let is : end ≡ Wide r = subst (λ x. GoesOn givens effort later x end) e.1 g in
        subst (IsPlainCause base most start (r ∷ rs)) (sym is) (start, comes_first base most start r rs, λ f. e.0 (pairs_fit_part (base + r) part start p f))
    step_is_plain step end ih (inr (inl e)) g =
        let is : end ≡ Rows r = subst (λ x. GoesOn givens effort later x end) e.2 g in
        subst (IsPlainCause base most start (r ∷ rs)) (sym is) (
          start,
          comes_first base most start r rs,
          omega (arith, e.1, next_list_no_longer (base + r) part start p),
        )
    step_is_plain step end ih (inr (inr e)) g =
        let (kept, dropped, red, rest) = subst (λ x. GoesOn givens effort later x end) e.2 g in
        cause_later base most start r rs end (ih kept dropped (next_part kept dropped red) rest)

  -- from rows that are, in order, a part of the start
  end_is_plain : (rows start : List Terms) (last : List (Terms × NeedView)) (gone : List (Terms × CertificateView)) (rates : List ℕ)
      (end : ProjectedView) → IsPart (ordered_rows rows) start → ReducedEnds givens effort most rows last gone rates end
      → IsPlainCause (2 ^ givens.space.variables) most start rates end
  end_is_plain rows start last gone [] end p e = subst (IsPlainCause (2 ^ givens.space.variables) most start []) (sym e) tt
  end_is_plain rows start last gone (r ∷ rs) end p (step, ends, g) =
      step_is_plain (2 ^ givens.space.variables) r rs (ordered_rows rows) start p
      (λ kept dropped. ReducedEnds givens effort most (kept_rows kept) kept dropped rs end) step end
      (λ kept dropped q rest. end_is_plain (kept_rows kept) (next_list (2 ^ givens.space.variables + r) start) kept dropped rs end q rest) ends g

pub causes_are_plain : CausesArePlain
causes_are_plain givens effort most rows last gone rates end e = end_is_plain givens effort most rows (ordered_rows rows) last gone rates end (λ x m. m) e
